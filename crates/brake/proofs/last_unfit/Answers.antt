-- `brake::last_unfit` meets its contract: by the mode.
use mathlib.Core.Path.{◌≡◌, refl}
use mathlib.Core.Bool.{false}
use mathlib.Core.List.{List}
use lib.Ieee.{Float}
use Rattle.envelope.specs.declared.Gripper.{Gripper}
use Rattle.envelope.specs.declared.Gripper.TheVariants.{ToZero, LastCommand}
use Rattle.brake.specs.Answer.{last_unfit}
use Rattle.brake.proofs.last_unfit.Goals as goal

pub returns-in-LastCommand : goal.returns-in-LastCommand
unfolding last_unfit
returns-in-LastCommand c = rw (c.in-LastCommand.is, c.all_finite.ensures)

to_zero : (g : Gripper) (l : List Float) → (g ≡ LastCommand → ⊥) → false ≡ last_unfit g l
unfolding last_unfit
to_zero ToZero l h = refl
to_zero LastCommand l h = absurd (h refl)

pub returns-in_default : goal.returns-in_default
returns-in_default c = to_zero c.args.gripper c.args.last.now c.in_default.not-LastCommand
