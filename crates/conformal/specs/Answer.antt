-- The answers of the gate's entries (R8): the number of the first refusal that applies, or what the rule gives.
use Rattle.refusal.specs.declared.Refusal.{Refusal}
use Rattle.std.specs.Prelude.{ℕ, Bool, true, not, [], ◌∷◌, List, eqb, Float, if◌then◌else◌, Err, Ok, Result}
use Rattle.std.specs.Float.{Format}
use Rattle.refusal.specs.Order.{Judged, size, number, steps, withdrawn, not_finite, computed, ◌when◌, refusal, refused_for, answer_by}
use Rattle.checked.specs.Checked.{Checked}
use Rattle.conformal.specs.Rule.{Tables, live, standards, aggregate, fired_bits, trips, bin_at}
use Rattle.conformal.specs.Refusals.{sizes_ok, numbers_ok, features_ok, scores_ok}
use Rattle.conformal.specs.declared.Calibration.{Calibration}
use Rattle.conformal.specs.declared.Scores.{Scores}
use Rattle.conformal.specs.declared.Scored.{Scored}

-- what is judged of a calibration and scores, by whether each number that was computed is finite
abbrev pub scores_judged : Calibration → Tables → Scores → Bool → List Judged
scores_judged cal t sc sound =
    (size when not (sizes_ok cal))
    ∷ (number when not (numbers_ok cal t))
    ∷ (withdrawn when not (features_ok cal))
    ∷ (not_finite when not (scores_ok sc))
    ∷ (computed when not sound) ∷ []

-- the number that they are refused with
unfoldable pub judged : Calibration → Tables → Scores → Bool → ℕ
judged cal t sc sound = refusal (scores_judged cal t sc sound)

-- the new scores; where they are refused, the ones that came in
abbrev pub scored : ℕ → Scores → Scores → Scored
scored n old new = record { refusal = refused_for n; scores = if eqb n 0 then new else old }

abbrev pub live_of : Calibration → Scores → ℕ → Bool
live_of cal sc = live cal.mask sc.valid

abbrev pub standards_of : Format → Calibration → Tables → ℕ → Scores → Checked (List Float)
standards_of fm cal t bin sc = standards fm t bin (live_of cal sc) sc.f

-- z is replaced, all else stays
unfoldable pub standardised : Format → Calibration → Tables → ℕ → Scores → Scored
standardised fm cal t bin sc =
    scored (judged cal t sc (standards_of fm cal t bin sc).sound) sc
    (record { f = sc.f; z = (standards_of fm cal t bin sc).value; s = sc.s; valid = sc.valid; fired = sc.fired })

-- s and fired are replaced, all else stays; nothing is computed but least and greatest
unfoldable pub aggregated : Calibration → Tables → Scores → Scored
aggregated cal t sc =
    scored (judged cal t sc true) sc
    (record { f = sc.f; z = sc.z; s = aggregate cal.gate (live_of cal sc) sc.z; valid = sc.valid; fired = fired_bits (live_of cal sc) cal.tau sc.z })

abbrev pub verdict : ℕ → Bool → Result Bool Refusal
verdict n b = answer_by Err (Ok b) n

unfoldable pub tripped : Calibration → Tables → Scores → Result Bool Refusal
tripped cal t sc = verdict (judged cal t sc true) (trips cal.tau sc.s)

abbrev pub binned : ℕ → ℕ → Result ℕ Refusal
binned n bin = if eqb n 0 then Ok bin else Err (refused_for n)

-- a bin on a horizon, which has to have ticks
abbrev pub on_horizon : ℕ → ℕ → Result ℕ Refusal
on_horizon horizon bin = binned (refusal ((steps when eqb horizon 0) ∷ [])) bin

unfoldable pub time_bin_of : ℕ → ℕ → Result ℕ Refusal
time_bin_of t horizon = on_horizon horizon (bin_at t horizon)
