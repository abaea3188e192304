-- `ChunkBuf::fill` meets its contract: by the lent chunk's number, and an accepted chunk fits the buffer.
use Prim.Native.Nat.{ℕ}
use mathlib.Core.Path.{◌≡◌, sym, ap, ◌∙◌}
use mathlib.Core.Bool.{true}
use mathlib.Core.List.{List}
use borrow.Author.Rules.{rules}
use borrow.Author.Tests.{eq-eqb, ne_eqb}
use lib.Dec.{eqb}
use lib.Ieee.{Float}
use lib.ListN.{length}
use lib.Seq.{paste}
use Rattle.refusal.specs.Order.{refusal}
use Rattle.std.specs.Prelude.{if◌then◌else◌}
use Rattle.checked.proofs.Copy.{all_pasted}
use Rattle.chunk.specs.declared.ChunkBuf.{ChunkBuf}
use Rattle.chunk.specs.declared.Filled.{Filled}
use Rattle.chunk.specs.declared.Header.{Header}
use Rattle.refusal.specs.Chain.{number_is}
use Rattle.chunk.specs.Of.{fill_of, held_of}
use Rattle.chunk.specs.Refusals.{lent_reasons}
use Rattle.chunk.proofs.Judged.{lent_accepted, accepted_fits}
use Rattle.chunk.proofs.ChunkBuf.fill.Goals as goal

module _ (b : ChunkBuf) (k : Header) (n : ℕ) (l : List Float) (is : n ≡ refusal (lent_reasons l k)) where
  by_number : fill_of b k l ≡ (if eqb n 0 then record { number = 0; buf = held_of b k l } else record { number = n; buf = b })
  unfolding fill_of
  by_number = ap (λ (m : ℕ). if◌then◌else◌ {A = Filled} (eqb m 0) (record { number = 0; buf = held_of b k l }) (record { number = m; buf = b })) (sym is)

  refused : (n ≡ 0 → ⊥) → ◌≡◌ {A = Filled} (record { number = n; buf = b }) (fill_of b k l)
  refused some = sym (by_number ∙ rw (ne_eqb n 0 some))

  filled : (rows : List Float) → n ≡ 0 → rows ≡ paste b.«data» 0 l (length l)
      → ◌≡◌ {A = Filled} (record { number = 0; buf = record { «data» = rows; header = k; filled = true } }) (fill_of b k l)
  filled rows z over = rw over (sym (by_number ∙ rw (eq-eqb n 0 z)))

pub returns-then-number-ne0 : goal.returns-then-number-ne0
returns-then-number-ne0 c =
    let a = c.args in
    refused a.self a.header _ a.src.now (c.number_of-number.ensures ∙ number_is c.lent_refusal.ensures) c.if-number-ne0.true

pub returns : goal.returns
returns c =
    let a = c.args in
    let is = (c.number_of-number.ensures ∙ number_is c.lent_refusal.ensures) in
    let zero = c.if-number-ne0.false in
    let long : length a.self.«data» ≡ 512 = search rules in
    let fits = accepted_fits (lent_accepted a.src.now a.header (sym is ∙ zero)).0 in
    filled a.self a.header _ a.src.now is _ zero (all_pasted a.self.«data» a.src.now (rw long fits) c.put.ensures)
