-- The rules of the gate (R8), over the format: standardise, aggregate, trip and the time bin.
use Rattle.std.specs.Prelude.{ℕ, zero, suc, ◌+◌, ◌-◌, ◌*◌, ◌/◌, min, Bool, not, ◌&&◌, ◌||◌, true, false, List, ltb, eqb, get_or, Float, if◌then◌else◌}
use Rattle.std.specs.Float.{Format, inf}
use Rattle.std.specs.Float.Ieee.{lt}
use Rattle.checked.specs.Each.{at, all, some, table}
use Rattle.checked.specs.Finite.{+0}
use Rattle.checked.specs.Least.{lesser, greater}
use Rattle.checked.specs.Checked.{Checked, pure, minus, divided, ◌>>=◌}
use Rattle.bits.specs.Bits.{bit, bits_where}
use Rattle.conformal.specs.declared.GateSpec.{GateSpec}

-- a feature is live where the calibration masks it in and the scores hold it
abbrev pub live : ℕ → ℕ → ℕ → Bool
live mask valid j = bit mask j && bit valid j

-- ---- standardise

-- center and scale of each feature in each time bin
pub record Tables : Type 0 where
  pub center : List Float
  pub scale : List Float

-- z of a feature: (f - center) / scale where it is live, 0.0 elsewhere
unfoldable pub standard : Format → Bool → Float → Float → Float → Checked Float
standard fm live x center scale = if live then (do d ← minus fm x center; divided fm d scale) else pure +0

-- where feature j of a time bin stands in the table; a bin above 15 is 15
abbrev pub entry : ℕ → ℕ → ℕ
entry bin j = min bin 15 * 12 + j

-- z of feature j in a time bin
abbrev pub standard_at : Format → Tables → ℕ → (ℕ → Bool) → List Float → ℕ → Checked Float
standard_at fm t bin live x j = standard fm (live j) (at x j) (at t.center (entry bin j)) (at t.scale (entry bin j))

-- the z of all twelve features
unfoldable pub standards : Format → Tables → ℕ → (ℕ → Bool) → List Float → Checked (List Float)
standards fm t bin live x = record {
  value = table (λ (j : ℕ). (standard_at fm t bin live x j).value) 12;
  sound = all (λ (j : ℕ). (standard_at fm t bin live x j).sound) 12;
}

-- ---- aggregate

-- a term is live where it names a feature and each that it names is live
unfoldable pub live_term : (ℕ → Bool) → ℕ → Bool
live_term live term = some (bit term) 12 && all (λ (j : ℕ). not (bit term j) || live j) 12

-- op over the values of g at those below n of which p holds, from z
unfoldable pub join_where : (Float → Float → Float) → Float → (ℕ → Bool) → (ℕ → Float) → ℕ → Float
join_where op z p g zero = z
join_where op z p g (suc n) = if p n then op (join_where op z p g n) (g n) else join_where op z p g n

-- the least of them, infinity where there are none
abbrev pub least_where : (ℕ → Bool) → (ℕ → Float) → ℕ → Float
least_where = join_where lesser (inf false)

-- the greatest of them, negative infinity where there are none
abbrev pub greatest_where : (ℕ → Bool) → (ℕ → Float) → ℕ → Float
greatest_where = join_where greater (inf true)

-- the least z of the features that a term names
unfoldable pub least_of : List Float → ℕ → Float
least_of z term = least_where (bit term) (at z) 12

abbrev pub term_at : GateSpec → ℕ → ℕ
term_at gate i = get_or gate.terms i 0

-- term i counts where it is among the first n_terms and is live
abbrev pub counts : GateSpec → (ℕ → Bool) → ℕ → Bool
counts gate live i = ltb i gate.n_terms && live_term live (term_at gate i)

-- s: the greatest, over the terms that count, of the least z of each
unfoldable pub aggregate : GateSpec → (ℕ → Bool) → List Float → Float
aggregate gate live z = greatest_where (counts gate live) (λ (i : ℕ). least_of z (term_at gate i)) 8

-- a live feature fires where its z is above tau
abbrev pub fires : (ℕ → Bool) → Float → List Float → ℕ → Bool
fires live tau z j = live j && lt tau (at z j)

-- fired has a bit for each feature that fires
unfoldable pub fired_bits : (ℕ → Bool) → Float → List Float → ℕ
fired_bits live tau z = bits_where (fires live tau z) 12

-- ---- trip and the time bin

-- s strictly above tau
abbrev pub trips : Float → Float → Bool
trips tau s = lt tau s

-- ticks are numbered from 1: (t - 1) x 16 / horizon_ticks rounded down, at most 15; t 0, which has no chunk, falls in bin 0
unfoldable pub bin_at : ℕ → ℕ → ℕ
bin_at t horizon = if eqb t 0 then 0 else min ((t - 1) * 16 / horizon) 15
