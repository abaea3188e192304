-- What the contracts of the private functions cite: a number taken apart, and the bits of one.
use Rattle.std.specs.Prelude.{◌≡◌, ℕ, suc, ◌+◌, ◌-◌, ◌*◌, ◌/◌, ◌%◌, ◌^◌, ◌<◌, ◌≤◌, cond, ℤ, ◌==◌, from_bits, Float}
use Rattle.std.proofs.Math.IntN.{sub_ℕ}
use Rattle.std.specs.Float.{Format}
use Rattle.std.specs.Float.Ieee.{low, hid, ones}
use Rattle.root.specs.declared.rounds.Parts.{Parts}
use Rattle.root.specs.Root.{root_exponent, scaled}

-- what the root to p digits takes: 1 to p digits, and an exponent k - l with room for the digits of the scaled number below it
pub record Ranged (x : Parts) (p : ℕ) : Type 0 where
  pub some : 0 < x.digits
  pub few : x.digits < 2 ^ p
  pub precise : 0 < p
  pub short : p ≤ 60
  pub k : ℕ
  pub l : ℕ
  pub exponent : x.exponent ≡ sub_ℕ k l
  pub above : k ≤ 4096
  pub below : l ≤ 4096
  pub room : 2 * p ≤ l + 2

-- r is x scaled for a root to p digits: the 2p - 1 or 2p digits of X stand at the top of 64, and the exponent is the root's
pub record Scaled (p : ℕ) (x r : Parts) : Type 0 where
  pub whole : r.digits * 4 ^ p ≡ scaled p x.digits x.exponent * 2 ^ 64
  pub exponent : r.exponent ≡ root_exponent p x.digits x.exponent

-- the digits and the exponent that a pattern below the infinity's stands for; a field of 0 has no leading digit
abbrev pub unpacked : Format → ℕ → Parts
unpacked f b =
    cond (b / hid f == 0) (record { digits = b; exponent = sub_ℕ 0 (low f) })
    (record { digits = b % hid f + hid f; exponent = sub_ℕ (b / hid f - 1) (low f) })

-- digits with their leading one, and an exponent that a normal number of the format has, weight - low
pub record Packable (f : Format) (digits : ℕ) (exponent : ℤ) : Type 0 where
  pub leading : hid f ≤ digits
  pub few : digits < hid f + hid f
  pub weight : ℕ
  pub is : exponent ≡ sub_ℕ weight (low f)
  pub middle : suc weight < ones f

-- r is the pattern of x, a finite number not below zero
abbrev pub Written : Format → ℕ → Float → Type 0
Written f r x = (from_bits f r ≡ x) × (r < ones f * hid f)
