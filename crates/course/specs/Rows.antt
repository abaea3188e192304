-- The rows that are left of a course.
use Rattle.std.specs.Prelude.{ℕ, ◌-◌}
use Rattle.envelope.specs.declared.ControlSteps.{ControlSteps}

-- the control steps still committed from a row on: none past them
abbrev pub rows_left : ControlSteps → ℕ → ControlSteps
rows_left commit from = record { 0 = commit.0 - from }
