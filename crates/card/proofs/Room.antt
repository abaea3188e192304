-- What it means that the lines of a block fit, and what is answered where they do and where they do not.
use mathlib.Core.Path.{◌≡◌, refl}
use mathlib.Core.Bool.{Bool, true, false}
use mathlib.Core.List.{List}
use Prim.Native.Nat.{ℕ, ◌+◌, ◌-◌, ◌*◌, ◌/◌, ◌^◌, ◌≤◌, ◌<◌}
use native.Mathlib.Omega.{arith}
use borrow.Author.Tests.{ltb-true, leb-true}
use lib.Dec.{ltb, leb}
use lib.ListN.{length}
use Rattle.checked.proofs.Each.{and_left, and_right}
use Rattle.card.specs.declared.block.Answered.{Answered}
use Rattle.card.specs.Text.{Put}
use Rattle.card.specs.Block.{text, fits, answered_for, out_for}
use Rattle.card.proofs.Digits.{put_length}
use Rattle.card.proofs.Lines.{text_most}

pub roomy : (room bytes n : ℕ) → n ≤ 18446744073709551615 → fits room bytes n ≡ true → (97 * (bytes / 96) + 97 ≤ room) × (n + bytes / 96 < 2 ^ 64)
unfolding fits
roomy room bytes n small h =
    let a = ltb-true (bytes / 96) (room / 97) (and_left (ltb (bytes / 96) (room / 97)) (leb (bytes / 96) (18446744073709551615 - n)) h) in
    let b = leb-true (bytes / 96) (18446744073709551615 - n) (and_right (ltb (bytes / 96) (room / 97)) (leb (bytes / 96) (18446744073709551615 - n)) h) in
    (omega (arith, a), omega (arith, b, small))

-- the lines fit
pub fit : (n : ℕ) (l : List ℕ) {out new : List ℕ} {bytes : ℕ}
    → n ≤ 18446744073709551615
    → fits (length out) (length l) n ≡ true
    → Put out new 0 bytes (text n l)
    → (◌≡◌ {A = Answered} (record { bytes = bytes; next = n + length l / 96 }) (answered_for n l (length out)))
    × (new ≡ out_for n l out)
    × (bytes ≤ length new)
unfolding answered_for out_for
fit n l {out} {new} {bytes} small h p =
    let e : bytes ≡ length (text n l) = omega (arith, p.after) in
    (rw (h, e), rw h p.bytes, omega (arith, p.after, put_length p, text_most n l, roomy (length out) (length l) n small h))

-- they do not
pub unfit : (n : ℕ) (l out : List ℕ)
    → fits (length out) (length l) n ≡ false
    → (◌≡◌ {A = Answered} (record { bytes = 0; next = 0 }) (answered_for n l (length out))) × (out ≡ out_for n l out) × (0 ≤ length out)
unfolding answered_for out_for
unfit n l out h = (rw h, rw h, omega arith)

-- the next record has a number: it is the first one's, so many records on, and has 64 bits
pub numbered : (n : ℕ) (l : List ℕ) (room : ℕ)
    → ((answered_for n l room).next ≡ 0 → ⊥)
    → ((answered_for n l room).next ≡ n + length l / 96) × (length l / 96 ≤ 18446744073709551615 - n)
unfolding answered_for fits
numbered n l room = either (fits room (length l) n) refl
  where
    either : (b : Bool) → fits room (length l) n ≡ b → ((answered_for n l room).next ≡ 0 → ⊥)
        → ((answered_for n l room).next ≡ n + length l / 96) × (length l / 96 ≤ 18446744073709551615 - n)
    either true e h = (rw e, leb-true _ _ (and_right (ltb (length l / 96) (room / 97)) _ e))
    either false e h = absurd (h (rw e))
