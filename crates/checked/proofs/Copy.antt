-- A copy of what both lists have; a row of eight.
use Prim.Native.Nat.{ℕ, zero, suc, ◌<◌, ◌≤◌, min}
use mathlib.Core.Path.{◌≡◌, sym, ap, ◌∙◌}
use mathlib.Core.List.{List, ◌++◌}
use native.Mathlib.Nat.{zero-add, le_refl}
use native.Mathlib.Omega.{arith}
use lib.Ieee.{Float, nan}
use lib.ListN.{length, take, drop, set, replicate, get_or-replicate}
use lib.Seq.{paste, paste-zero, paste-suc}
use Rattle.checked.specs.Each.{at, over}
use Rattle.checked.specs.Finite.{+0}
use Rattle.checked.specs.Row.{padded, eight}
use Rattle.checked.proofs.Each.{over_at, over_keeps, length_over}

-- what `put` writes where both have n numbers
pub all_put : (l₀ r : List Float) {l : List Float} {n a b : ℕ} → n ≤ a → n ≤ b → l ≡ over (at r) l₀ (min n (min a b)) → l ≡ over (at r) l₀ n
all_put l₀ r {l} {n} {a} {b} ha hb e = e ∙ ap (over (at r) l₀) fewest
  where
    fewest : min n (min a b) ≡ n
    fewest = omega arith

-- where the second list is put whole, it is a copy over the front of the first
put_pasted : (l r : List Float) (n : ℕ) → n ≤ length l → n ≤ length r → over (at r) l n ≡ paste l 0 r n
unfolding over
put_pasted l r zero hl hr = sym (paste-zero l 0 r)
put_pasted l r (suc n) hl hr =
    ap (λ (x : List Float). set x n (at r n)) (put_pasted l r n (omega arith) (omega arith))
    ∙ ap (λ (k : ℕ). set (paste l 0 r n) k (at r n)) (sym (zero-add n))
    ∙ paste-suc l 0 r n nan (rw zero-add hl) hr

-- the first n numbers of r, and then what l has past them
pub put_front : (l r : List Float) (n : ℕ) → n ≤ length l → n ≤ length r → over (at r) l n ≡ take n r ++ drop n l
put_front l r n hl hr = put_pasted l r n hl hr ∙ rw zero-add

pub all_pasted : (l₀ r : List Float) {l : List Float} → length r ≤ length l₀ → l ≡ over (at r) l₀ (min (length r) (min (length r) (length l₀))) → l ≡ paste l₀ 0 r (length r)
all_pasted l₀ r h e = all_put l₀ r (le_refl (length r)) h e ∙ put_pasted l₀ r (length r) h (le_refl (length r))

-- what `padded` gives where there are n numbers and a row holds them
pub all_padded : (a : List Float) {r : List Float} {n : ℕ} → n ≤ 8 → n ≤ length a → r ≡ padded a (min n (min (length a) 8)) → r ≡ padded a n
unfolding padded
all_padded a hn ha = all_put (replicate 8 +0) a ha hn

pub padded_at : (a : List Float) (n j : ℕ) → n ≤ 8 → j < n → at (padded a n) j ≡ at a j
unfolding padded
padded_at a n j hn hj = over_at (at a) (replicate 8 +0) n j hj (omega arith)

-- past them it has zeros
pub padded_rest : (a : List Float) (n j : ℕ) → n ≤ j → j < 8 → at (padded a n) j ≡ +0
unfolding padded
padded_rest a n j h b = over_keeps (at a) (replicate 8 +0) n j h ∙ get_or-replicate 8 j +0 nan b

pub length_padded : (a : List Float) (n : ℕ) → length (padded a n) ≡ 8
unfolding padded
length_padded a n = length_over (at a) (replicate 8 +0) n

-- what it gives where the list may be short
pub eight_is : (a : List Float) (n : ℕ) {r : List Float} → n ≤ 8 → r ≡ padded a (min n (min (length a) 8)) → r ≡ eight a n
unfolding eight
eight_is a n h e = e ∙ ap (padded a) as_many
  where
    as_many : min n (min (length a) 8) ≡ min n (length a)
    as_many = omega arith

pub length_eight : (a : List Float) (n : ℕ) → length (eight a n) ≡ 8
unfolding eight
length_eight a n = length_padded a (min n (length a))
