-- Round tables by computation. A pull onto the disc can round past its edge: with the centre at (2^53, 0) and radius 1.5, the point 2^53 + 4 goes to 2^53 + 2, which is 2 away.
-- And the slack speaks of the computed distance: two points whose exact distance exceeds the radius have a slack that is not negative.
use Rattle.std.specs.Prelude.{◌+◌, ◌*◌, ◌≡◌, refl, true, false, List, [], ◌∷◌, ltb, pos, negsuc, replicate, Float}
use Rattle.std.specs.Float.{binary64, fin}
use Rattle.std.specs.Float.Ieee.{round, add, sub, mul, div, lt, le, eq}
use Rattle.root.specs.Root.{floor_root, near_root, half, root_exponent, scaled, number, root_of}
use Rattle.checked.specs.Constants.{1! }
use Rattle.checked.specs.Each.{some, over}
use Rattle.checked.specs.Finite.{+0, finite}
use Rattle.checked.specs.Least.{lesser, least}
use Rattle.checked.specs.Checked.{sum_from, each, least_of}
use Rattle.fmath.specs.Clamp.{clamped}
use Rattle.fmath.specs.Norm.{squared_gap, dist}
use Rattle.pull.specs.Rule.{toward, shortened, pulled}
use Rattle.workspace.specs.declared.Shape.TheVariants.{Disc}
use Rattle.workspace.specs.Rule.{Walls, from_centre, past_edge, outside, onto_disc, inward, to_edge, to_edge_r, slack_in, slack_in_r, slack, slack_r}

-- centre (2^53, 0), radius 1.5
abbrev table : Walls
table = record { shape = Disc (fin false 1 (pos 53)) +0 (fin false 3 (negsuc 0)); lo = replicate 8 +0; hi = replicate 8 +0 }

-- 2^53 + 4 is four away, so it is outside; the pull gives 2^53 + 2
abbrev point : List Float
point = fin false 0x8000_0000_0000_1 (pos 2) ∷ +0 ∷ []

abbrev pulled_point : List Float
pulled_point = fin false 0x1000_0000_0000_01 (pos 1) ∷ +0 ∷ []

pulled_past_the_edge : ((outside binary64 table point 2).value ≡ true) × ((inward binary64 table point 2).value ≡ pulled_point) × ((from_centre binary64 (fin false 1 (pos 53)) +0 pulled_point).value ≡ fin false 1 (pos 1))
unfolding outside past_edge some inward onto_disc pulled shortened toward each over dist squared_gap sum_from root_of near_root floor_root scaled root_exponent half number round add sub mul div lt le eq finite clamped
pulled_past_the_edge = (refl, refl, refl)

-- ---- the exact distance can be beyond the radius where the slack is not negative

-- radius 2^-540: at (2^-538, 0) the square is too small for the format, so the computed distance is 0
abbrev small : Walls
small = record { shape = Disc +0 +0 (fin false 1 (negsuc 539)); lo = replicate 8 +0; hi = replicate 8 +0 }

too_small_to_square : ((from_centre binary64 +0 +0 (fin false 1 (negsuc 537) ∷ +0 ∷ [])).value ≡ +0) × ((slack binary64 small (fin false 1 (negsuc 537) ∷ +0 ∷ []) 2).value ≡ fin false 1 (negsuc 539))
unfolding slack_in least_of least lesser to_edge dist squared_gap sum_from root_of round add sub mul lt le eq finite
too_small_to_square = (refl, refl)

-- the point (0.13436424411240122, 0.8474337369372327) and the radius 0.8580196318239459: the computed distance is the radius, so the slack is 0, but x^2 + y^2 exceeds the radius
-- squared, here in units of 2^-53
abbrev rounded : Walls
rounded = record { shape = Disc +0 +0 (fin false 0xdba72cb20282d (negsuc 51)); lo = replicate 8 +0; hi = replicate 8 +0 }

abbrev beside : List Float
beside = fin false 0x44cb63e46dd61 (negsuc 52) ∷ fin false 0x363c5ab66b09f (negsuc 49) ∷ []

rounds_to_the_radius : ((from_centre binary64 +0 +0 beside).value ≡ fin false 0xdba72cb20282d (negsuc 51)) × ((slack binary64 rounded beside 2).value ≡ +0)
unfolding slack_in least_of least lesser to_edge dist squared_gap sum_from root_of near_root floor_root scaled root_exponent half number round add sub mul lt le eq finite
rounds_to_the_radius = (refl, refl)

yet_is_beyond : ltb (0xdba72cb20282d * 2 * (0xdba72cb20282d * 2)) (0x44cb63e46dd61 * 0x44cb63e46dd61 + 0x363c5ab66b09f * 8 * (0x363c5ab66b09f * 8)) ≡ true
yet_is_beyond = refl

-- ---- the closed kinds take their stopping radius off the difference

-- radius 2^54 + 4, distance 1, stopping radius 1: both differences round up to 2^54 + 4, where radius - (distance + 1) would be 2^54
abbrev wide : Walls
wide = record { shape = Disc +0 +0 (fin false 0x1000_0000_0000_01 (pos 2)); lo = replicate 8 +0; hi = replicate 8 +0 }

stopping_radius_last : (slack_r binary64 wide 1! (1! ∷ +0 ∷ []) 2).value ≡ fin false 0x1000_0000_0000_01 (pos 2)
unfolding slack_in_r least_of least lesser to_edge to_edge_r dist squared_gap sum_from root_of near_root floor_root scaled root_exponent half number round add sub mul lt le eq finite
stopping_radius_last = refl
