-- A read's answer: what it gives, as the code tells it by the sign, and how much further a block may be filled after it.
use mathlib.Core.Path.{◌≡◌, refl}
use mathlib.Core.Bool.{Bool, true, false, cond, ◌&&◌}
use mathlib.Core.List.{List, [], ◌∷◌}
use Prim.Native.Nat.{ℕ, ◌+◌, ◌-◌, ◌%◌, ◌≤◌, ◌<◌}
use native.Mathlib.Nat.{le_refl}
use native.Mathlib.Omega.{arith}
use borrow.Author.Tests.{lt-ltb, le-ltb, ltb-true, ltb-false}
use borrow.Rule.Slice.PartMut.{mid_of, mid_len}
use lib.Dec.{T, ltb}
use lib.IntN.{ℤ, pos, negsuc, nat_abs}
use lib.ListN.{length}
use lib.Signed.{lt_z, non_neg}
use mir.Syntax.{w64}
use mir.Val.{Fits, SFits}
use Rattle.std.specs.Prelude.{Result, Ok, Err, IfOk}
use Rattle.input.specs.declared.Filled.{Filled}
use Rattle.input.specs.Reads.{answer, failed, given, after, reads_on, after_all, Told, answered}

-- ---- by the sign

pub positive_fits : (z : ℤ) → SFits w64 z → lt_z (pos 0) z ≡ true → T (non_neg z) × Fits w64 (nat_abs z)
positive_fits (pos k) s h = (tt, record { fits = omega (arith, s.sfits) })
positive_fits (negsuc k) s h = let z : ◌≡◌ {A = ℕ} 0 1 = cc in absurd (omega arith)

pub positive_given : (z : ℤ) → lt_z (pos 0) z ≡ true → nat_abs z ≡ given z
unfolding given
positive_given (pos k) h = refl
positive_given (negsuc k) h = let z : ◌≡◌ {A = ℕ} 0 1 = cc in absurd (omega arith)

pub none_given : (z : ℤ) → lt_z (pos 0) z ≡ false → 0 ≡ given z
unfolding given
none_given (pos k) h = omega (arith, ltb-false 0 k h)
none_given (negsuc k) h = refl

pub negative_failed : (z : ℤ) → lt_z z (pos 0) ≡ failed z
unfolding failed
negative_failed (pos k) = le-ltb k 0 (omega arith)
negative_failed (negsuc k) = refl

pub read_is : (n : ℕ) (got : ℤ) {more : ℕ} {b : Bool} → more ≡ given got → b ≡ failed got → ◌≡◌ {A = Filled} (record { n = n + more; more = more; failed = b }) (after n got)
unfolding after
read_is n got e f = rw (e, f)

-- ---- by how much is given

pub answer_given : {E : Type 0} (r : Result ℕ E) (n : ℕ) → IfOk r (λ k. k ≤ n) → given (answer r) ≤ n
unfolding answer given
answer_given (Ok k) n h = h
answer_given (Err e) n h = omega arith

pub answer_fits : {E : Type 0} (r : Result ℕ E) → IfOk r (λ k. k < 9223372036854775808) → SFits w64 (answer r)
unfolding answer
answer_fits (Ok k) h = record { sfits = h }
answer_fits (Err e) h = record { sfits = omega arith }

-- what lies behind n bytes has room for the rest
pub room : (n : ℕ) (l ys : List ℕ) → n ≤ length l → length ys ≡ length (mid_of n (length l - n) l) → n + length ys ≡ length l
room n l ys h e = omega (arith, h, e, mid_len n (length l) l (le_refl (length l)))

pub fills : (n room : ℕ) (got : ℤ) {f : Filled} → f ≡ after n got → n + given got ≤ room → f.n ≤ room
unfolding after
fills n room got e h = rw e h

pub grows : (n : ℕ) (got : ℤ) {f : Filled} → f ≡ after n got → n ≤ f.n
unfolding after
grows n got e = rw e (omega arith)

-- how many reads there are at most: one for each byte that is missing, and one that gives nothing
abbrev pub left : Filled → ℕ → ℕ
left f room = room - f.n + cond (ltb 0 f.more) 1 0

pub both : (a b : Bool) → (a && b) ≡ true → (a ≡ true) × (b ≡ true)
both true b h = (refl, h)
both false b h = let z : ◌≡◌ {A = ℕ} 0 1 = cc in absurd (omega arith)

pub has_room : (f : Filled) (room : ℕ) → reads_on f room ≡ true → (f.n < room) × (ltb 0 f.more ≡ true)
unfolding reads_on
has_room f room h = let p = both (ltb f.n room) (ltb 0 f.more) h in (ltb-true f.n room p.0, p.1)

pub spent : (f : Filled) (room : ℕ) → reads_on f room ≡ false → f.n < room → f.more ≡ 0
unfolding reads_on
spent f room h k = omega (arith, ltb-false 0 f.more (rw (lt-ltb f.n room k) at h))

-- the same read, with what it gave above 0 or not
nearer : (b : Bool) (n more room : ℕ) → ltb 0 more ≡ b → n < room → n + more ≤ room → room - (n + more) + cond b 1 0 < room - n + 1
nearer true n more room e h k = omega (arith, ltb-true 0 more e)
nearer false n more room e h k = omega (arith, ltb-false 0 more e)

pub falls : (f g : Filled) (room : ℕ) (got : ℤ) → g ≡ after f.n got → g.n ≤ room → reads_on f room ≡ true → left g room < left f room
unfolding after
falls f g room got e k h =
    let p = has_room f room h in
    let k' : f.n + given got ≤ room = rw e at k in
    rw (e, p.1) (nearer (ltb 0 (given got)) f.n (given got) room refl p.0 k')

-- ---- by the answers so far

pub none_yet : Told (record { n = 0; more = 1; failed = false })
unfolding after_all
none_yet = record { answers = []; is = refl }

pub one_more : (got : ℤ) {f g : Filled} → Told f → g ≡ after f.n got → Told g
unfolding after_all
one_more got t e = record { answers = got ∷ t.answers; is = rw t.is at e }

-- ---- by what is answered

most : (b : Bool) (n r : ℕ) → cond b (n - r) n ≤ n
most true n r = omega arith
most false n r = omega arith

pub answered_most : (f : Filled) (size : ℕ) → answered f size ≤ f.n
unfolding answered
answered_most f size = most (f.failed && ltb 0 size) f.n (f.n % size)
