-- What the root promises of every number above zero that the format holds, over the width. The proof is `proofs/Promises.promised`.
use Rattle.std.specs.Prelude.{T, Float}
use Rattle.std.specs.Float.{Format}
use Rattle.std.specs.Float.Ieee.{fits}
use Rattle.std.specs.Float.Ieee.Positive.{positive}
use Rattle.root.specs.Root.{root_of}
use Rattle.root.specs.Rule.{RoundedRoot, NearestRoot}

pub record Promised : Type 0 where
  -- the inequality, with its only R and the signed exponent
  pub root_rule : (f : Format) (x : Float) → T (fits f x) → T (positive x) → RoundedRoot f x (root_of f x)
  -- it is a number of the format, and no other is as near to the exact root
  pub root_nearest : (f : Format) (x : Float) → T (fits f x) → T (positive x) → NearestRoot f x (root_of f x)
