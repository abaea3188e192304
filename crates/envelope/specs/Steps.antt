-- Control steps and substeps, which meet in one multiplication.
use Rattle.std.specs.Prelude.{ℕ, ◌+◌, ◌*◌}
use Rattle.envelope.specs.declared.ControlSteps.{ControlSteps}
use Rattle.envelope.specs.declared.Substeps.{Substeps}

-- the substeps of some control steps, with so many in each
abbrev pub substeps_of : ControlSteps → Substeps → ℕ
substeps_of steps per = steps.0 * per.0

-- control steps after others
abbrev pub together : ControlSteps → ControlSteps → ControlSteps
together a b = record { 0 = a.0 + b.0 }

-- (rows + braking steps) x substeps
abbrev pub substeps_in : ControlSteps → ControlSteps → Substeps → ℕ
substeps_in rows brake per = substeps_of (together rows brake) per
