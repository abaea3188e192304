-- What window and trail (R3) promise beyond their rules. Pushes are listed newest first.
use Rattle.std.specs.Prelude.{ℕ, ◌+◌, ◌*◌, ◌/◌, ◌%◌, ◌^◌, ◌≤◌, ◌<◌, min, ◌≡◌, Bool, false, List, [], ◌∷◌, Float, length, take, get_or}
use Rattle.checked.specs.Each.{at}
use Rattle.window.specs.declared.Trail.{Trail}
use Rattle.window.specs.Rule.{flag, pushed, mask_for, hits_in, push_count, sample_back}
use Rattle.window.specs.Of.{new_trail, recorded_of}

-- ---- the hit window

-- the bits after some pushes from new, with one window length n throughout
abbrev pub bits_after : ℕ → List Bool → ℕ
bits_after n [] = 0
bits_after n (h ∷ t) = pushed (bits_after n t) h (mask_for n)

-- the number whose digit i is the i-th push, from the newest
abbrev pub digits_of : List Bool → ℕ
digits_of [] = 0
digits_of (h ∷ t) = digits_of t * 2 + flag h

-- how many pushes are true
abbrev pub trues : List Bool → ℕ
trues [] = 0
trues (h ∷ t) = flag h + trues t

-- with one window length n, the bits are the last n pushes, read as binary digits
abbrev pub BitsAreLastPushes : Type 0
BitsAreLastPushes = (n : ℕ) → n ≤ 63 → (l : List Bool) → bits_after n l ≡ digits_of (take n l)

-- bit i is the push i before the newest
abbrev pub BitIsPush : Type 0
BitIsPush = (n : ℕ) → n ≤ 63 → (l : List Bool) (i : ℕ) → i < n → bits_after n l / 2 ^ i % 2 ≡ flag (get_or l i false)

-- hits is the number of true among the last n pushes
abbrev pub HitsCountLastPushes : Type 0
HitsCountLastPushes = (n : ℕ) → n ≤ 63 → (l : List Bool) → hits_in (bits_after n l) ≡ trues (take n l)

-- ---- the trail

-- a push: a lent position, and the number of coordinates that is asked for
pub record Push : Type 0 where
  pub position : List Float
  pub asked : ℕ

-- how many of its coordinates are pushed
abbrev pub coordinates : Push → ℕ
coordinates q = push_count q.position q.asked

-- the trail after some accepted pushes from new
abbrev pub trail_after : List Push → Trail
trail_after [] = new_trail
trail_after (q ∷ l) = recorded_of (trail_after l) q.position q.asked

-- the count is the number of pushes, at most 32
abbrev pub CountIsPushes : Type 0
CountIsPushes = (l : List Push) → (trail_after l).len ≡ min (length l) 32

-- the sample k steps back is the k-th last push, on the coordinates that it pushed
abbrev pub SampleIsPush : Type 0
SampleIsPush =
    (l : List Push) (k : ℕ) (z : Push) → k < min (length l) 32 → (c : ℕ) → c < coordinates (get_or l k z)
    → at (sample_back (trail_after l).buf (trail_after l).head k) c ≡ at (get_or l k z).position c
