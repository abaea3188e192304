-- `pull::moved_toward` meets its contract: one coordinate a turn, with one test of it.
use mathlib.Core.Path.{◌≡◌}
use lib.Ieee.{binary64}
use Rattle.checked.specs.Checked.{each}
use Rattle.pull.specs.Rule.{towards}
use Rattle.pull.proofs.moved_toward.Given as goal

abbrev pub invariant-loop-i : goal.invariant-loop-i
invariant-loop-i l = (l.r ≡ (each (towards binary64 l.s l.q l.a) l.a l.i).value) × (l.sound ≡ (each (towards binary64 l.s l.q l.a) l.a l.i).sound)
