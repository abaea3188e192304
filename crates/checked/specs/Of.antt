-- The declared structs of checked numbers, from the rules.
use Rattle.std.specs.Prelude.{Bool, List, Float}
use Rattle.checked.specs.declared.Reckoned.{Reckoned}
use Rattle.checked.specs.declared.Row.{Row}
use Rattle.checked.specs.declared.Test.{Test}
use Rattle.checked.specs.Checked.{Checked}

abbrev pub reckoned_from : Checked Float → Reckoned
reckoned_from x = record { value = x.value; sound = x.sound }

abbrev pub row_from : Checked (List Float) → Row
row_from x = record { at = x.value; sound = x.sound }

abbrev pub test_from : Checked Bool → Test
test_from x = record { holds = x.value; sound = x.sound }
