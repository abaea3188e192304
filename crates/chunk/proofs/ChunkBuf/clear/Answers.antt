-- `ChunkBuf::clear` meets its contract, by the held chunk's number.
use Prim.Native.Nat.{ℕ}
use mathlib.Core.Path.{◌≡◌, sym, ap, ◌∙◌}
use borrow.Author.Tests.{eq-eqb, ne_eqb}
use lib.Dec.{eqb}
use Rattle.std.specs.Prelude.{if◌then◌else◌}
use Rattle.chunk.specs.declared.ChunkBuf.{ChunkBuf}
use Rattle.chunk.specs.declared.Filled.{Filled}
use Rattle.refusal.specs.Chain.{number_is}
use Rattle.chunk.specs.Of.{cleared_of, held_refusal_of, clear_of}
use Rattle.chunk.proofs.ChunkBuf.clear.Goals as goal

module _ (b : ChunkBuf) (n : ℕ) (is : n ≡ held_refusal_of b) where
  by_number : clear_of b ≡ (if eqb n 0 then record { number = 0; buf = cleared_of b } else record { number = n; buf = b })
  unfolding clear_of
  by_number = ap (λ (k : ℕ). if◌then◌else◌ {A = Filled} (eqb k 0) (record { number = 0; buf = cleared_of b }) (record { number = k; buf = b })) (sym is)

  refused : (n ≡ 0 → ⊥) → ◌≡◌ {A = Filled} (record { number = n; buf = b }) (clear_of b)
  refused some = sym (by_number ∙ rw (ne_eqb n 0 some))

  cleared : n ≡ 0 → (c : ChunkBuf) → c ≡ cleared_of b → ◌≡◌ {A = Filled} (record { number = 0; buf = c }) (clear_of b)
  cleared z c e = rw e (sym (by_number ∙ rw (eq-eqb n 0 z)))

pub returns-then-number-ne0 : goal.returns-then-number-ne0
returns-then-number-ne0 c = refused c.args.self _ (c.number_of-number.ensures ∙ number_is c.held_refusal.ensures) c.if-number-ne0.true

pub returns : goal.returns
returns c = cleared c.args.self _ (c.number_of-number.ensures ∙ number_is c.held_refusal.ensures) c.if-number-ne0.false _ c.emptied-buf.ensures
