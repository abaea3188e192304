-- When a calibration or scores are refused: one condition for each number of the table (R0).
use Rattle.std.specs.Prelude.{ℕ, Bool, not, ◌||◌, [], ◌∷◌, leb, ltb}
use Rattle.std.specs.Float.Ieee.{is_nan}
use Rattle.bits.specs.Bits.{bit}
use Rattle.checked.specs.Each.{all, every}
use Rattle.checked.specs.Finite.{finite, all_finite, all_above_zero}
use Rattle.conformal.specs.Feat.{STALL}
use Rattle.conformal.specs.Rule.{Tables, term_at}
use Rattle.conformal.specs.declared.GateSpec.{GateSpec}
use Rattle.conformal.specs.declared.Calibration.{Calibration}
use Rattle.conformal.specs.declared.Scores.{Scores}

-- p holds of each term that counts; a term past the count is not looked at
abbrev pub each_counted : (ℕ → Bool) → GateSpec → Bool
each_counted p gate = all (λ (i : ℕ). leb gate.n_terms i || p (term_at gate i)) 8

-- no bit above 11
abbrev pub named : ℕ → Bool
named w = ltb w 4096

-- 1: at most 8 terms, and no bit above 11 in a counted term or in the mask
unfoldable pub sizes_ok : Calibration → Bool
sizes_ok cal = every (leb cal.gate.n_terms 8 ∷ named cal.mask ∷ each_counted named cal.gate ∷ [])

-- 2: tau and each center finite, each scale finite and above 0
unfoldable pub numbers_ok : Calibration → Tables → Bool
numbers_ok cal t = every (finite cal.tau ∷ all_finite t.center 192 ∷ all_above_zero t.scale 192 ∷ [])

-- no bit of Stall
abbrev pub without_stall_of : ℕ → Bool
without_stall_of w = not (bit w STALL)

-- 17: Stall neither in the mask nor in a counted term, since a term that names it can never be live
unfoldable pub features_ok : Calibration → Bool
features_ok cal = every (without_stall_of cal.mask ∷ each_counted without_stall_of cal.gate ∷ [])

-- 12: f and z finite, s no NaN
unfoldable pub scores_ok : Scores → Bool
scores_ok s = every (all_finite s.f 12 ∷ all_finite s.z 12 ∷ not (is_nan s.s) ∷ [])
