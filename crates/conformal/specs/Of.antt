-- The tables that are lent, and the structs that the code hands on, from the rules' values.
use Rattle.std.specs.Prelude.{ℕ, Bool, List, Float}
use Rattle.checked.specs.Checked.{Checked}
use Rattle.conformal.specs.Rule.{Tables, live_term, least_of}
use Rattle.conformal.specs.declared.AllZ.{AllZ}
use Rattle.conformal.specs.Refusals.{each_counted, named, without_stall_of}
use Rattle.conformal.specs.declared.GateSpec.{GateSpec}
use Rattle.conformal.specs.declared.Joined.{Joined}
use Rattle.conformal.specs.declared.Counted.{Counted}

-- a calibration's tables, from the two arrays that are lent
abbrev pub tables : List Float → List Float → Tables
tables center scale = record { center = center; scale = scale }

-- what is judged of a gate's terms
abbrev pub counted_from : GateSpec → Counted
counted_from gate = record { named = each_counted named gate; without_stall = each_counted without_stall_of gate }

abbrev pub standards_from : Checked (List Float) → AllZ
standards_from x = record { z = x.value; sound = x.sound }

-- a term: whether it is live, and its least z
abbrev pub term_from : (ℕ → Bool) → List Float → ℕ → Joined
term_from live z term = record { live = live_term live term; least = least_of z term }
