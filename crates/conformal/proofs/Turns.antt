-- One turn of a loop that keeps a least or a greatest among those of which a test holds.
use Prim.Native.Nat.{ℕ, ◌+◌}
use mathlib.Core.Path.{◌≡◌}
use mathlib.Core.Bool.{Bool}
use native.Mathlib.Numerals.{add-one}
use lib.Ieee.{Float}
use Rattle.std.specs.Prelude.{if◌then◌else◌}
use Rattle.conformal.specs.Rule.{join_where}

pub join_more : (op : Float → Float → Float) (o : Float) (p : ℕ → Bool) (g : ℕ → Float) (j : ℕ) (t : Bool) (m x v : Float) → m ≡ join_where op o p g j → t ≡ p j → x ≡ g j → v ≡ (if t then op m x else m) → v ≡ join_where op o p g (j + 1)
unfolding join_where
join_more op o p g j t m x v h e k w = rw (add-one, ← e, ← h, ← k) w
