-- The rules of the window and the trail (R3).
use Rattle.std.specs.Prelude.{ℕ, ◌+◌, ◌-◌, ◌*◌, ◌%◌, ◌^◌, min, Bool, true, false, ◌||◌, List, [], ◌∷◌, ltb, eqb, Float, length, take, drop, if◌then◌else◌}
use Rattle.std.specs.Int.Bits.{bit_and}
use Rattle.std.specs.Int.Count.{ones}
use Rattle.std.specs.Float.{Format}
use Rattle.std.proofs.Math.Seq.{paste}
use Rattle.checked.specs.Finite.{+0}
use Rattle.checked.specs.Checked.{Checked, pure, sum_from}
use Rattle.fmath.specs.Norm.{dist}
use Rattle.refusal.specs.Order.{◌when◌, size, refusal}

-- ---- the hit window

-- a push, or a flag, as a binary digit
abbrev pub flag : Bool → ℕ
flag true = 1
flag false = 0

-- the bits of 64 shifted left by 1, with hit in bit 0, masked
abbrev pub pushed : ℕ → Bool → ℕ → ℕ
pushed bits hit mask = bit_and ((bits * 2 + flag hit) % 2 ^ 64) mask

-- how many ones
abbrev pub hits_in : ℕ → ℕ
hits_in bits = ones bits

-- the mask for a window length
abbrev pub mask_for : ℕ → ℕ
mask_for n = 2 ^ n - 1

-- what a window length is refused for
abbrev pub mask_refusal : ℕ → ℕ
mask_refusal n = refusal (size when (ltb n 1 || ltb 63 n) ∷ [])

-- ---- the trail: a ring of 32 slots of 8 numbers, in one list; head is the slot that is written next

-- how many coordinates of a lent position are pushed
abbrev pub push_count : List Float → ℕ → ℕ
push_count p d = min (min d 8) (length p)

-- the numbers after a push: the slot at head gets the coordinates and keeps its others
abbrev pub recorded_in : List Float → ℕ → List Float → ℕ → List Float
recorded_in l head p d = paste l (head * 8) p (push_count p d)

-- the slot of the sample k steps back from the newest
abbrev pub slot_back : ℕ → ℕ → ℕ
slot_back head k = (head + 31 - k) % 32

-- that sample
abbrev pub sample_back : List Float → ℕ → ℕ → List Float
sample_back l head k = take 8 (drop (slot_back head k * 8) l)

-- the distance across the last w samples; 0.0 for too few samples or w out of range
unfoldable pub net : Format → List Float → ℕ → ℕ → ℕ → ℕ → Checked Float
net f l head len d w =
    if eqb w 0 || ltb 32 w || ltb len w then pure +0 else dist f (sample_back l head 0) (sample_back l head (w - 1)) (min d 8)

-- step j of the way through the last n + 1 samples, from the oldest
unfoldable pub step : Format → List Float → ℕ → ℕ → ℕ → ℕ → Checked Float
step f l head d n j = dist f (sample_back l head (n - j)) (sample_back l head (n - j - 1)) (min d 8)

-- the steps summed oldest to newest; 0.0 for too few samples or w out of range
unfoldable pub path : Format → List Float → ℕ → ℕ → ℕ → ℕ → Checked Float
path f l head len d w = if ltb w 2 || ltb 32 w || ltb len w then pure +0 else sum_from f +0 (step f l head d (w - 1)) (w - 1)
