-- Each block that is followed by another is full, so its records take numbers, and a run ends before these do not fit 64 bits.
use mathlib.Core.Path.{◌≡◌, refl, ap, ◌∙◌}
use mathlib.Core.Bool.{Bool, true, false, not, cond, ◌&&◌}
use mathlib.Core.List.{List}
use Prim.Native.Nat.{ℕ, suc, ◌-◌, ◌%◌, ◌<◌}
use native.Mathlib.Omega.{arith}
use borrow.Author.Tests.{eqb-true, eqb-false, not-true}
use lib.Dec.{eqb}
use lib.ListN.{length, take}
use lib.Seq.{length-take-le}
use Rattle.card.specs.declared.block.Answered.{Answered}
use Rattle.card.proofs.Room.{numbered}
use Rattle.input.specs.declared.Filled.{Filled}
use Rattle.input.specs.Reads.{answered}
use Rattle.forecast.specs.declared.Block.{Block}
use Rattle.forecast.specs.Run.{Turned, goes_on}

all : (b : Bool) (n : ℕ) → n ≡ 65472 → cond b (n - n % 96) n ≡ 65472
all true n h = omega arith
all false n h = h

-- a full block has whole records
pub full : (f : Filled) → f.n ≡ 65472 → answered f 96 ≡ 65472
unfolding answered
full f h = all (f.failed && true) f.n h

three : (a b c : Bool) → (a && b && c) ≡ true → (b ≡ true) × (c ≡ true)
three true true c h = (refl, h)
three true false c h = let z : ◌≡◌ {A = ℕ} 0 1 = cc in absurd (omega arith)
three false b c h = let z : ◌≡◌ {A = ℕ} 0 1 = cc in absurd (omega arith)

pub goes : (t : Block) (room : ℕ) → goes_on t room ≡ true → (t.filled.n ≡ room) × (t.answer.next ≡ 0 → ⊥)
unfolding goes_on
goes t room h =
    let p = three t.wrote (eqb t.filled.n room) (not (eqb t.answer.next 0)) h in
    (eqb-true t.filled.n room p.0, eqb-false t.answer.next 0 (not-true _ p.1))

pub goes_wrote : (t : Block) (room : ℕ) → goes_on t room ≡ true → t.wrote ≡ true
unfolding goes_on
goes_wrote t room h = first t.wrote (eqb t.filled.n room) (not (eqb t.answer.next 0)) h
  where
    first : (a b c : Bool) → (a && b && c) ≡ true → a ≡ true
    first true b c e = refl
    first false b c e = let z : ◌≡◌ {A = ℕ} 0 1 = cc in absurd (omega arith)

-- a bound on the blocks to come
abbrev pub left : Block → ℕ
left t = cond (goes_on t 65472) (suc (18446744073709551615 - t.answer.next)) 0

module _ (t u : Block) (block old new : List ℕ) (e : length block ≡ 65472) (w : Turned t.answer.next block old new u) where
  later : goes_on u 65472 ≡ true → 18446744073709551615 - u.answer.next < 18446744073709551615 - t.answer.next
  later g =
      let p = goes u 65472 g in
      let n : answered u.filled 96 ≡ 65472 = full u.filled p.0 in
      let a : length (take (answered u.filled 96) block) ≡ 65472 = length-take-le (answered u.filled 96) block (omega arith) ∙ n in
      let x : u.answer.next ≡ _ = ap (λ (r : Answered). r.next) w.answer in
      let q = numbered t.answer.next (take (answered u.filled 96) block) (length old) (λ z. p.1 (x ∙ z)) in
      omega (arith, q.0, q.1, x, a)

  next : (b : Bool) → goes_on u 65472 ≡ b → cond b (suc (18446744073709551615 - u.answer.next)) 0 < suc (18446744073709551615 - t.answer.next)
  next true g = omega (arith, later g)
  next false g = omega arith

  pub fewer : goes_on t 65472 ≡ true → left u < left t
  fewer h = rw h (next (goes_on u 65472) refl)
