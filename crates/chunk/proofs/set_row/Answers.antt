-- `chunk::set_row` meets its contract, by its ways out: nothing is written where there is no such row; else the loop has copied the first c numbers.
use Prim.Native.Nat.{◌+◌}
use mathlib.Core.List.{List}
use mathlib.Core.Path.{◌≡◌, ap, sym, ◌∙◌}
use native.Mathlib.Nat.{le_antisymm, pos_of_ne-zero}
use native.Mathlib.Numerals.{add-one}
use native.Mathlib.Omega.{arith}
use borrow.Author.Rules.{rules}
use lib.Ieee.{Float, nan}
use lib.ListN.{get_or, set, length-set}
use lib.Seq.{paste, paste-suc}
use Rattle.chunk.proofs.Rows.{start_small, kept_without_rows, kept_past, written_row}
use Rattle.chunk.proofs.set_row.Goals as goal

pub returns-then-horizon-eq0 : goal.returns-then-horizon-eq0
returns-then-horizon-eq0 c = let a = c.args in kept_without_rows a.«data».now a.horizon a.dim a.i a.row.now c.if-horizon-eq0.true

pub row_start-start-requires : goal.row_start-start-requires
row_start-start-requires c = pos_of_ne-zero c.if-horizon-eq0.false

pub overflow_add-start : goal.overflow_add-start
overflow_add-start c = let a = c.args in omega (arith, c.row_start-start.ensures, start_small a.horizon a.dim a.i (search rules) (search rules))

pub returns-then-data-start : goal.returns-then-data-start
returns-then-data-start c =
    let a = c.args in
    kept_past a.«data».now a.horizon a.dim a.i a.row.now _ c.if-horizon-eq0.false c.row_start-start.ensures c.if-data-start.true

pub loop-c-preserved : goal.loop-c-preserved
loop-c-preserved c =
    let a = c.args in
    let l = c.loop-c in (
      length-set l.«data» _ _ ∙ l.invariant.0,
      ap (λ (x : List Float). set x (c.row_start-start.result + l.c) (get_or a.row.now l.c nan)) l.invariant.1
          ∙ paste-suc a.«data».now c.row_start-start.result a.row.now l.c nan (omega arith) (omega arith)
          ∙ ap (paste a.«data».now c.row_start-start.result a.row.now) (sym (add-one l.c)),
    )

pub returns : goal.returns
returns c =
    let a = c.args in
    let all : c.loop-c.c ≡ c.fewer-n.result = le_antisymm c.loop-c.auto.c-end c.loop-c-test.false in
    rw all at c.loop-c.invariant.1
    ∙ written_row a.«data».now a.horizon a.dim a.i a.row.now _ _ c.if-horizon-eq0.false c.row_start-start.ensures c.if-data-start.false c.fewer-n.ensures
