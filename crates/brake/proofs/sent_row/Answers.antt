-- `brake::sent_row` meets its contract: the row itself, or the last command's numbers one after another past pos_dim.
use Prim.Native.Nat.{◌≤◌}
use mathlib.Core.Path.{◌≡◌, refl, sym, ap, ◌∙◌}
use mathlib.Core.Bool.{Bool, true, false, ◌&&◌}
use mathlib.Core.List.{List}
use native.Mathlib.Omega.{arith}
use lib.Ieee.{Float}
use Rattle.checked.specs.declared.Row.{Row}
use Rattle.checked.proofs.Each.{◌&&≡◌, over_more}
use Rattle.envelope.specs.declared.ActionKind.{ActionKind}
use Rattle.envelope.specs.declared.ActionKind.TheVariants.{EePosition}
use Rattle.envelope.specs.declared.Gripper.{Gripper}
use Rattle.envelope.specs.declared.Gripper.TheVariants.{LastCommand}
use Rattle.brake.specs.Rule.{is_position, takes_last, sent_coordinate, sent_row}
use Rattle.brake.proofs.Gripped.{writes_last, last_past, row_elsewhere, row_within_lem, row_alike}
use Rattle.brake.proofs.sent_row.Goals as goal

-- in the mode, and of a position kind
writes : (g : Gripper) (k : ActionKind) {a b : Bool} → a ≡ takes_last g → b ≡ is_position k → (a && b ≡ true) → writes_last g k ≡ true
writes g k p q e = sym (p &&≡ q) ∙ e

pub returns-then-not-keeps : goal.returns-then-not-keeps
returns-then-not-keeps c =
    let s = c.args in
    let elsewhere : writes_last s.gripper s.kind ≡ false = sym (c.takes_last.ensures &&≡ c.is_position.ensures) ∙ c.if-not-keeps.true in
    ap (λ (l : List Float). let r : Row = record { at = l; sound = s.row.sound } in r) (sym (row_elsewhere s.gripper s.kind s.pos_dim s.last.now s.row.at elsewhere s.n))

pub loop-j-init : goal.loop-j-init
loop-j-init c =
    let s = c.args in
    let few : c.fewer-j.result ≤ s.pos_dim = omega (arith, c.fewer-j.ensures) in
    (omega (arith, c.fewer-j.ensures), omega (arith, c.fewer-j.ensures), sym (row_within_lem LastCommand EePosition s.pos_dim s.last.now s.row.at c.fewer-j.result few))

pub loop-j-preserved : goal.loop-j-preserved
unfolding sent_row
loop-j-preserved c =
    let l = c.loop-j in
    let s = c.args in
    let past : s.pos_dim ≤ l.j = omega (arith, c.loop-j-test, l.invariant.0) in
    (omega arith, omega arith, over_more (sent_coordinate LastCommand EePosition s.pos_dim s.last.now s.row.at) s.row.at l.at l.j _ l.invariant.2 (sym (last_past LastCommand EePosition s.pos_dim s.last.now s.row.at refl l.j past)))

pub returns : goal.returns
returns c =
    let l = c.loop-j in
    let b = c in
    let s = b.args in
    let end : l.j ≡ s.n = omega arith in
    let written = writes s.gripper s.kind b.takes_last.ensures b.is_position.ensures b.if-not-keeps.false in
    let same = l.invariant.2 ∙ ap (sent_row LastCommand EePosition s.pos_dim s.last.now s.row.at) end ∙ row_alike s.gripper s.kind s.pos_dim s.last.now s.row.at written s.n in
    ap (λ (a : List Float). let r : Row = record { at = a; sound = s.row.sound } in r) same
