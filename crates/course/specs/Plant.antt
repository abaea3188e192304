-- The plant: where the arm is, and how fast it moves, axis by axis.
use Rattle.std.specs.Prelude.{List, Float}

pub record State : Type 0 where
  pub p : List Float
  pub v : List Float
