-- What the shared steps of the two slacks promise: of a distance to the edge and of the gaps, each as a closure gives it.
use Rattle.std.specs.Prelude.{ℕ, suc, ◌-◌, ◌<◌, ◌≡◌, true, false, ◌&&◌, List, Float}
use Rattle.std.specs.Float.{binary64, nan, inf}
use Rattle.std.specs.Float.Ieee.{sub}
use Rattle.checked.specs.Finite.{finite}
use Rattle.checked.specs.Least.{lesser}
use Rattle.checked.specs.Checked.{Checked, least_of}
use Rattle.checked.specs.Of.{reckoned_from}
use Rattle.checked.specs.declared.Reckoned.{Reckoned}
use Rattle.workspace.specs.declared.Shape.{Shape}
use Rattle.workspace.specs.declared.Shape.TheVariants.{Box, Disc}
use Rattle.workspace.specs.Rule.{from_centre, edge_first}

-- the lesser of two distances, with whether both are finite
abbrev pub nearer : Float → Float → Reckoned
nearer low high = record { value = lesser low high; sound = finite low && finite high }

-- a point with too few coordinates
abbrev pub no_slack : Reckoned
no_slack = record { value = nan; sound = false }

-- the slack over no axis, where `left` relates the distance to a disc's edge to what is left of it
unfoldable pub FromEdge : (Float → Float → Type 0) → Shape → List Float → Reckoned → Type 0
FromEdge left Box p r = r ≡ record { value = inf false; sound = true }
FromEdge left (Disc x y radius) p r = (rest : Float) × left (sub binary64 radius (from_centre binary64 x y p).value) rest × (r ≡ record { value = lesser (inf false) rest; sound = finite rest })

-- the least over the first n axes, the disc's edge first
abbrev pub least_over : Shape → Checked Float → (ℕ → Checked Float) → ℕ → Checked Float
least_over Box edge g n = least_of g n
least_over (Disc x y radius) edge g n = least_of (edge_first edge g) (suc (n - 2))

-- the answer is that least, where the edge is so judged and each gap that is given is g's
abbrev pub LeastOver : Shape → Reckoned → (ℕ → Reckoned → Type 0) → ℕ → Reckoned → Type 0
LeastOver s at_edge given n r =
    (edge : Checked Float) (g : ℕ → Checked Float) → at_edge ≡ reckoned_from (least_over s edge g 0) → ((j : ℕ) (d : Reckoned) → j < n → given j d → d ≡ reckoned_from (g j)) → r ≡ reckoned_from (least_over s edge g n)
