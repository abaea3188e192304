-- The rules of the checks for one row (R5), over the format. Whatever is computed is checked.
use Rattle.envelope.specs.declared.Zone.{Zone}
use Rattle.std.specs.Prelude.{ℕ, zero, suc, ◌+◌, ◌/◌, ◌%◌, min, Bool, true, false, ◌&&◌, ◌||◌, List, [], ◌∷◌, ltb, leb, eqb, length, Float, if◌then◌else◌, None, Option, Some}
use Rattle.std.specs.Float.{Format}
use Rattle.std.specs.Float.Ieee.{lt, le, ne}
use Rattle.checked.specs.Each.{at}
use Rattle.checked.specs.Finite.{+0}
use Rattle.checked.specs.Row.{padded}
use Rattle.checked.specs.Checked.{Checked, ◌>>=◌, pure, times}
use Rattle.checked.specs.Least.{lesser}
use Rattle.fmath.specs.Norm.{dist}
use Rattle.bits.specs.Bits.{bits_where}
use Rattle.pull.specs.Rule.{pulled}
use Rattle.workspace.specs.Of.{walls_in}
use Rattle.workspace.specs.declared.WallMasks.{WallMasks}
use Rattle.workspace.specs.Rule.{outside, inward, wall_masks, unmoved}
use Rattle.envelope.specs.declared.ClampMode.{ClampMode}
use Rattle.envelope.specs.declared.ClampMode.TheVariants.{Off, Project}
use Rattle.envelope.specs.declared.AbsentCamera.{AbsentCamera}
use Rattle.envelope.specs.declared.AbsentCamera.TheVariants as absent
use Rattle.envelope.specs.Slots.{counted, zone_at}
use Rattle.tier0.specs.declared.Checks.{Checks}

abbrev pub WORKSPACE : ℕ
WORKSPACE = 1

abbrev pub SPEED : ℕ
SPEED = 2

abbrev pub ACCEL : ℕ
ACCEL = 4

abbrev pub JERK : ℕ
JERK = 8

abbrev pub REACH : ℕ
REACH = 16

abbrev pub CONTACT : ℕ
CONTACT = 32

-- a check is armed
unfoldable pub arms : Checks → ℕ → Bool
arms s w = eqb (s.armed / w % 2) 1

-- how many coordinates the action and the position share
abbrev pub box_dims : Checks → ℕ
box_dims s = min s.dim s.pos_dim

-- ---- the slow zones

-- whether the position is inside a zone, or one of some, and the step that is then allowed, the least of theirs
pub record Slow : Type 0 where
  pub inside : Bool
  pub step : Float

-- no slow zone
abbrev pub clear : Slow
clear = record { inside = false; step = +0 }

-- a zone is seen where the position has two coordinates and the camera both channels
abbrev pub seen : List Float → List Float → ℕ → ℕ → Bool
seen p aux i j = leb 2 (length p) && (ltb i (length aux) && ltb j (length aux))

-- whether the arm counts as inside a zone that is not seen, by the configuration's choice
abbrev pub inside_unseen : AbsentCamera → Bool
inside_unseen absent.Slow = true
inside_unseen absent.NoZone = false

-- inside a zone that is seen the distance to its centre is at most the radius
unfoldable pub inside_seen : Format → Float → ℕ → ℕ → List Float → List Float → Checked Bool
inside_seen f radius i j p aux = do
  d ← dist f p (at aux i ∷ at aux j ∷ []) 2
  pure (le d radius)

-- whether the arm is inside a zone; of one that is not seen no distance is computed
unfoldable pub inside_zone : Format → AbsentCamera → Float → ℕ → ℕ → List Float → List Float → Checked Bool
inside_zone f choice radius i j p aux = if seen p aux i j then inside_seen f radius i j p aux else pure (inside_unseen choice)

-- inside a zone the step is its speed x dt
unfoldable pub zone_step : Format → Float → Float → Checked Slow
zone_step f dt speed = do
  step ← times f speed dt
  pure (record { inside = true; step = step })

-- one zone of a configuration; its place may hold none. Its step is computed only inside
unfoldable pub zone_in : Format → Float → AbsentCamera → Option Zone → List Float → List Float → Checked Slow
zone_in f dt choice None p aux = pure clear
zone_in f dt choice (Some z) p aux = do
  inside ← inside_zone f choice z.radius z.a0 z.a1 p aux
  if inside then zone_step f dt z.v_max else pure clear

-- two findings together: of the zones that the arm is inside, the lesser step
abbrev pub slower : Slow → Slow → Slow
slower a b = if a.inside then (if b.inside then record { inside = true; step = lesser a.step b.step } else a) else b

-- the zones at places 0, .., n - 1; each is asked, whatever those before it say
unfoldable pub slowest : Format → Float → AbsentCamera → (ℕ → Option Zone) → List Float → List Float → ℕ → Checked Slow
slowest f dt choice zone p aux zero = pure clear
slowest f dt choice zone p aux (suc n) = do
  a ← slowest f dt choice zone p aux n
  b ← zone_in f dt choice (zone n) p aux
  pure (slower a b)

-- the zones that count, where CONTACT is armed
unfoldable pub slow_zone : Format → Checks → List Float → List Float → Checked Slow
slow_zone f s p aux = if arms s CONTACT then slowest f s.dt s.absent_camera (zone_at s.zones) p aux (counted s.zones) else pure clear

-- ---- trips: strictly exceeded, on the row as it came

-- WORKSPACE: past the edge of a disc, or a shared coordinate beyond its walls
unfoldable pub out_of_workspace : Format → Checks → List Float → Checked Bool
out_of_workspace f s a = if arms s WORKSPACE then outside f (walls_in s.shape s.walls) a (box_dims s) else pure false

-- REACH: the distance to the position, on the shared coordinates
unfoldable pub out_of_reach : Format → Checks → List Float → List Float → Checked Bool
out_of_reach f s p a = if arms s REACH then (do n ← dist f a p (box_dims s); pure (lt s.reach_max n)) else pure false

abbrev pub weight : Bool → ℕ → ℕ
weight b w = if b then w else 0

-- one bit for each check that trips
unfoldable pub trip_bits : Bool → Bool → Bool → Bool → Bool → Bool → ℕ
trip_bits out speed accel jerk reach contact =
    weight out WORKSPACE + weight speed SPEED + weight accel ACCEL + weight jerk JERK + weight reach REACH + weight contact CONTACT

-- ---- projection

-- the least armed leash
abbrev pub leash : Bool → Float → Slow → Float
leash speed step_max_of z = if speed then (if z.inside then lesser step_max_of z.step else step_max_of) else z.step

-- first move: inside the workspace, onto its disc and inside its walls on the shared coordinates
unfoldable pub moved_inside : Format → Checks → List Float → Checked (List Float)
moved_inside f s a = if arms s WORKSPACE then inward f (walls_in s.shape s.walls) a (box_dims s) else pure a

-- second move: the leash towards the row before
unfoldable pub leashed : Format → Checks → Slow → List Float → List Float → Checked (List Float)
leashed f s z prev a = if arms s SPEED || z.inside then pulled f (leash (arms s SPEED) s.step_max z) prev s.dim a else pure a

-- third move: the reach pull towards the position
unfoldable pub reached : Format → Checks → List Float → List Float → Checked (List Float)
reached f s p a = if arms s REACH then pulled f s.reach_max p (box_dims s) a else pure a

-- the second and the third in order; the third is the first row's
abbrev pub pulls : Format → Checks → Slow → List Float → Bool → List Float → List Float → Checked (List Float)
pulls f s z p isFirst prev b = do
  l ← leashed f s z prev b
  if isFirst then reached f s p l else pure l

-- the three moves in order
unfoldable pub moves : Format → Checks → Slow → List Float → Bool → List Float → List Float → Checked (List Float)
moves f s z p isFirst prev a = do
  b ← moved_inside f s a
  pulls f s z p isFirst prev b

-- a bit for each coordinate that differs, as numbers
abbrev pub moved_dims : List Float → List Float → ℕ → ℕ
moved_dims a b n = bits_where (λ (j : ℕ). ne (at a j) (at b j)) n

-- rows after projection, and a bit for each coordinate that was moved in any of them
pub record Projected : Type 0 where
  pub rows : List Float
  pub mask : ℕ

unfoldable pub project : Format → Checks → Slow → List Float → List Float → List Float → Checked Projected
project f s z p prev a = do
  r ← moves f s z p true prev a
  pure (record { rows = r; mask = moved_dims a r s.dim })

-- under ClampMode Off the row stays as it came
unfoldable pub projection : Format → Checks → ClampMode → Slow → List Float → List Float → List Float → Checked Projected
projection f s Off z p prev a = pure (record { rows = a; mask = 0 })
projection f s Project z p prev a = project f s z p prev a

-- ---- which walls moved a row: the first move's alone, of the row as it came

-- the first move is made
unfoldable pub moves_inside : Checks → ClampMode → Bool
moves_inside s Off = false
moves_inside s Project = arms s WORKSPACE

unfoldable pub row_masks : Checks → List Float → WallMasks
row_masks s a = if moves_inside s s.clamp then wall_masks (walls_in s.shape s.walls) a (box_dims s) else unmoved

-- ---- the check of one action against its predecessor

pub record Judgement : Type 0 where
  pub trips : ℕ
  pub peak : Float
  pub after : Projected
  pub walls : WallMasks

unfoldable pub check_action : Format → Checks → List Float → List Float → List Float → List Float → Checked Judgement
check_action f s p aux prev a = do
  z ← slow_zone f s p aux
  n ← dist f a prev s.dim
  v ← times f n s.inv_dt
  out ← out_of_workspace f s a
  far ← out_of_reach f s p a
  after ← projection f s s.clamp z p prev (padded a s.dim)
  let fast = arms s SPEED && lt s.step_max n
  let close = z.inside && lt z.step n  -- the least step is exceeded where some zone's is
  pure (record { trips = trip_bits out fast false false far close; peak = v; after = after; walls = row_masks s a })
