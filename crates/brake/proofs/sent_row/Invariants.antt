-- `brake::sent_row` meets its contract: the row itself, or the last command's numbers one after another past pos_dim.
use Prim.Native.Nat.{◌≤◌, min}
use mathlib.Core.Path.{◌≡◌}
use Rattle.envelope.specs.declared.ActionKind.TheVariants.{EePosition}
use Rattle.envelope.specs.declared.Gripper.TheVariants.{LastCommand}
use Rattle.brake.specs.Rule.{sent_row}
use Rattle.brake.proofs.sent_row.Given as goal

abbrev pub invariant-loop-j : goal.invariant-loop-j
invariant-loop-j l = (min l.pos_dim l.n ≤ l.j) × (l.j ≤ l.n) × (l.at ≡ sent_row LastCommand EePosition l.pos_dim l.last l.row.at l.j)
