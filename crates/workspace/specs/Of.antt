-- The rules at the declared structs.
use Rattle.workspace.specs.declared.Bounds.{Bounds}
use Rattle.workspace.specs.declared.Shape.{Shape}
use Rattle.workspace.specs.declared.Workspace.{Workspace}
use Rattle.workspace.specs.Rule.{Walls}

abbrev pub walls_of : Workspace → Walls
walls_of w = record { shape = w.shape; lo = w.lo; hi = w.hi }

abbrev pub walls_in : Shape → Bounds → Walls
walls_in s b = record { shape = s; lo = b.lo; hi = b.hi }
