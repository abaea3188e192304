-- What is promised of a configuration's refusal: it is accepted exactly where its six conditions hold, what each asks of the list of zones, and that what is not
-- looked at cannot change it. The proof is `proofs/Promises.promised`.
use Rattle.std.specs.Prelude.{ℕ, ◌≤◌, ◌<◌, ◌≡◌, true, false, List, Float}
use Rattle.std.specs.Float.{Format}
use Rattle.refusal.specs.Order.{refusal}
use Rattle.checked.specs.Each.{at}
use Rattle.conformal.specs.Rule.{Tables}
use Rattle.conformal.specs.Promises.{NamesNoStall, with_terms, AgreeCounted}
use Rattle.conformal.specs.declared.Calibration.{Calibration}
use Rattle.checked.specs.Finite.{+0, finite, above_zero}
use Rattle.workspace.specs.declared.Shape.{Shape}
use Rattle.workspace.specs.declared.Shape.TheVariants.{Box, Disc}
use Rattle.workspace.specs.Shape.{boxed, shape_ok, spans}
use Rattle.envelope.specs.Derive.{derived}
use Rattle.envelope.specs.Slots.{counted, zone_at, zone_with}
use Rattle.envelope.specs.Refusals.{sizes_ok, zone_ok, zones_ok, numbers_ok, counts_ok, steps_ok, channels_ok, same_pair, zones_fit, channels_fit, shape_fits, features_ok, config_judged}
use Rattle.envelope.specs.AtBox.{box_derived, box_judged}
use Rattle.envelope.specs.declared.AbsentCamera.{AbsentCamera}
use Rattle.envelope.specs.declared.Gripper.{Gripper}
use Rattle.envelope.specs.declared.Zones.{Zones}
use Rattle.envelope.specs.declared.FuseConfig.{FuseConfig}
use Rattle.envelope.specs.declared.BrakeModel.{BrakeModel}
use Rattle.envelope.specs.declared.Limits.{Limits}
use Rattle.envelope.specs.declared.Norm.{Norm}
use Rattle.envelope.specs.declared.Box as walls
use Rattle.envelope.specs.declared.Derived.{Derived}

-- the six conditions
pub record Fit (f : Format) (c : FuseConfig) (t : Tables) : Type 0 where
  pub sizes : sizes_ok c ≡ true
  pub numbers : numbers_ok f c t ≡ true
  pub counts : steps_ok c ≡ true
  pub apart : channels_fit c ≡ true
  pub spanned : shape_fits c ≡ true
  pub features : features_ok c ≡ true

-- c with other limits, another shape, other zones, another choice for an absent camera, other norms, walls and brake, another mode of the gripper, other armed bits, calibration and horizon: the one place where a changed configuration is spelled out
abbrev pub altered : FuseConfig → Limits → Shape → Zones → AbsentCamera → Norm → walls.Box → BrakeModel → Gripper → ℕ → Calibration → ℕ → FuseConfig
altered c l s z choice n w b g bits cal ticks = record {
  kind = c.kind;
  dim = c.dim;
  pos_dim = c.pos_dim;
  limits = l;
  norm = n;
  walls = w;
  shape = s;
  zones = z;
  absent_camera = choice;
  brake = b;
  gripper = g;
  clamp = c.clamp;
  armed = bits;
  aux_count = c.aux_count;
  calibrated = c.calibrated;
  calib = cal;
  horizon_ticks = ticks;
}

abbrev pub calibrated_by : FuseConfig → Calibration → ℕ → FuseConfig
calibrated_by c cal ticks = altered c c.limits c.shape c.zones c.absent_camera c.norm c.walls c.brake c.gripper c.armed cal ticks

abbrev pub armed_by : FuseConfig → ℕ → FuseConfig
armed_by c bits = altered c c.limits c.shape c.zones c.absent_camera c.norm c.walls c.brake c.gripper bits c.calib c.horizon_ticks

abbrev pub measured_by : FuseConfig → Norm → walls.Box → FuseConfig
measured_by c n w = altered c c.limits c.shape c.zones c.absent_camera n w c.brake c.gripper c.armed c.calib c.horizon_ticks

abbrev pub braked_by : FuseConfig → BrakeModel → FuseConfig
braked_by c b = altered c c.limits c.shape c.zones c.absent_camera c.norm c.walls b c.gripper c.armed c.calib c.horizon_ticks

abbrev pub absent_by : FuseConfig → AbsentCamera → FuseConfig
absent_by c choice = altered c c.limits c.shape c.zones choice c.norm c.walls c.brake c.gripper c.armed c.calib c.horizon_ticks

abbrev pub gripped_by : FuseConfig → Gripper → FuseConfig
gripped_by c g = altered c c.limits c.shape c.zones c.absent_camera c.norm c.walls c.brake g c.armed c.calib c.horizon_ticks

abbrev pub zoned_by : FuseConfig → Zones → FuseConfig
zoned_by c z = altered c c.limits c.shape z c.absent_camera c.norm c.walls c.brake c.gripper c.armed c.calib c.horizon_ticks

abbrev pub margined_by : FuseConfig → Float → FuseConfig
margined_by c m =
    altered c (record { dt = c.limits.dt; v_max = c.limits.v_max; a_max = c.limits.a_max; j_max = c.limits.j_max; reach_max = c.limits.reach_max; margin = m })
    c.shape c.zones c.absent_camera c.norm c.walls c.brake c.gripper c.armed c.calib c.horizon_ticks

-- two lists that agree on the first n entries
abbrev pub Agree : ℕ → List Float → List Float → Type 0
Agree n a b = (i : ℕ) → i < n → at a i ≡ at b i

-- two lists that agree on those of the first n entries whose axis has a box
abbrev pub AgreeBoxed : Shape → ℕ → List Float → List Float → Type 0
AgreeBoxed s n a b = (i : ℕ) → i < n → boxed s i ≡ true → at a i ≡ at b i

-- other norms and walls, which agree on the entries that are looked at
pub record AgreeWithin (c : FuseConfig) (n : Norm) (w : walls.Box) : Type 0 where
  pub scales : Agree c.dim n.scale c.norm.scale
  pub lows : AgreeBoxed c.shape c.pos_dim w.lo c.walls.lo
  pub highs : AgreeBoxed c.shape c.pos_dim w.hi c.walls.hi

-- a list of zones with the same count as another, which agrees with it on the places that count
pub record SameZones (z w : Zones) : Type 0 where
  pub same_count : w.count ≡ z.count
  pub same_places : (k : ℕ) → k < counted z → zone_at w k ≡ zone_at z k

-- what 2 and 4 ask of a list of zones: each number and each channel of each zone that counts, and that no two of them name the same pair
pub record ZonesJudged (z : Zones) (aux : ℕ) : Type 0 where
  pub each_number : zones_ok z ≡ true → (k : ℕ) → k < counted z → zone_ok (zone_at z k) ≡ true
  pub all_numbers : ((k : ℕ) → k < counted z → zone_ok (zone_at z k) ≡ true) → zones_ok z ≡ true
  pub each_channel : zones_fit z aux ≡ true → (k : ℕ) → k < counted z → channels_ok (zone_at z k) aux ≡ true
  pub no_pair_twice : zones_fit z aux ≡ true → (m k : ℕ) → m < k → k < counted z → same_pair (zone_at z m) (zone_at z k) ≡ false
  pub all_channels :
      ((k : ℕ) → k < counted z → channels_ok (zone_at z k) aux ≡ true)
      → ((m k : ℕ) → m < k → k < counted z → same_pair (zone_at z m) (zone_at z k) ≡ false)
      → zones_fit z aux ≡ true

-- two zones have the same pair exactly where the first channels are one and the second channels are one: a swapped pair is another
pub record PairsTold (radius speed wide fast : Float) (i j k l : ℕ) : Type 0 where
  pub repeated : i ≡ k → j ≡ l → same_pair (zone_with i j radius speed) (zone_with k l wide fast) ≡ true
  pub same_first : same_pair (zone_with i j radius speed) (zone_with k l wide fast) ≡ true → i ≡ k
  pub same_second : same_pair (zone_with i j radius speed) (zone_with k l wide fast) ≡ true → j ≡ l

-- one zone is judged as a single contact is
pub record OneZoneJudged (z : Zones) (aux : ℕ) : Type 0 where
  pub its_numbers : zones_ok z ≡ zone_ok (zone_at z 0)
  pub its_channels : zones_fit z aux ≡ channels_ok (zone_at z 0) aux

-- what 2 and 15 ask of a disc: a centre that is finite, a radius that is above 0, and two coordinates or more of action and position
pub record DiscJudged (x y radius : Float) (dim pos-dim : ℕ) : Type 0 where
  pub centre_finite : shape_ok (Disc x y radius) ≡ true → (finite x ≡ true) × (finite y ≡ true)
  pub radius_above : shape_ok (Disc x y radius) ≡ true → above_zero radius ≡ true
  pub its_numbers : finite x ≡ true → finite y ≡ true → above_zero radius ≡ true → shape_ok (Disc x y radius) ≡ true
  pub its_axes : spans (Disc x y radius) dim pos-dim ≡ true → (2 ≤ dim) × (2 ≤ pos-dim)
  pub axes_enough : 2 ≤ dim → 2 ≤ pos-dim → spans (Disc x y radius) dim pos-dim ≡ true

-- the walls that are derived for an axis without a box
pub record NoWalls (d : Derived) (j : ℕ) : Type 0 where
  pub low : at d.box_lo j ≡ +0
  pub high : at d.box_hi j ≡ +0

-- a configuration with a box is derived from and judged as by a guard that knows no other shape; so 15 is not given
pub record AsBefore (f : Format) (c : FuseConfig) (t : Tables) : Type 0 where
  pub derives : derived f c ≡ box_derived f c
  pub judges : refusal (config_judged f c t) ≡ refusal (box_judged f c t)

pub record Promised : Type 0 where
  pub fit_accepted : (f : Format) (c : FuseConfig) (t : Tables) → Fit f c t → refusal (config_judged f c t) ≡ 0
  pub accepted_fit : (f : Format) (c : FuseConfig) (t : Tables) → refusal (config_judged f c t) ≡ 0 → Fit f c t
  -- with the flag set, an accepted calibration names Stall nowhere
  pub names_no_stall : (f : Format) (c : FuseConfig) (t : Tables) → refusal (config_judged f c t) ≡ 0 → c.calibrated ≡ true → NamesNoStall c.calib
  -- with the flag clear nothing of the calibration or its tables is judged, nor horizon_ticks
  pub flag_clear : (f : Format) (c : FuseConfig) (t u : Tables) (cal : Calibration) (ticks : ℕ) → c.calibrated ≡ false
      → refusal (config_judged f (calibrated_by c cal ticks) u) ≡ refusal (config_judged f c t)
  -- nor is a term past the count, with the flag set
  pub past_the_count : (f : Format) (c : FuseConfig) (t : Tables) (terms : List ℕ) → AgreeCounted c.calib terms
      → refusal (config_judged f (calibrated_by c (with_terms c.calib terms) c.horizon_ticks) t) ≡ refusal (config_judged f c t)
  -- what is armed changes nothing: a contact that is configured is judged all the same
  pub armed_or_not : (f : Format) (c : FuseConfig) (t : Tables) (bits : ℕ) → refusal (config_judged f (armed_by c bits) t) ≡ refusal (config_judged f c t)
  -- nor does the choice for an absent camera
  pub either_choice : (f : Format) (c : FuseConfig) (t : Tables) (choice : AbsentCamera) → refusal (config_judged f (absent_by c choice) t) ≡ refusal (config_judged f c t)
  -- nor does the mode of the gripper, of which nothing is derived
  pub either_mode : (f : Format) (c : FuseConfig) (t : Tables) (g : Gripper) → config_judged f (gripped_by c g) t ≡ config_judged f c t
  pub same_derived : (f : Format) (c : FuseConfig) (g : Gripper) → derived f (gripped_by c g) ≡ derived f c
  -- over four zones are refused with 1
  pub over_four : (f : Format) (c : FuseConfig) (t : Tables) → 4 < c.zones.count → refusal (config_judged f c t) ≡ 1
  pub zones_judged : (z : Zones) (aux : ℕ) → ZonesJudged z aux
  pub pairs_told : (radius speed wide fast : Float) (i j k l : ℕ) → PairsTold radius speed wide fast i j k l
  pub one_zone_judged : (z : Zones) (aux : ℕ) → z.count ≡ 1 → OneZoneJudged z aux
  -- what stands past the count of zones is not judged
  pub unread_zones : (f : Format) (c : FuseConfig) (t : Tables) (z : Zones) → SameZones c.zones z → refusal (config_judged f (zoned_by c z) t) ≡ refusal (config_judged f c t)
  -- the shape: what is asked of a disc, and a box as before
  pub disc_judged : (x y radius : Float) (dim pos-dim : ℕ) → DiscJudged x y radius dim pos-dim
  pub box_as_before : (f : Format) (c : FuseConfig) (t : Tables) → c.shape ≡ Box → AsBefore f c t
  -- the margin moves walls and not the disc: where no further axis has walls, nothing that is derived knows it
  pub margin_leaves_the_disc : (f : Format) (c : FuseConfig) (x y radius m : Float) → c.shape ≡ Disc x y radius → c.pos_dim ≤ 2 → derived f (margined_by c m) ≡ derived f c
  -- an axis that a disc lies over has no walls of its own
  pub no_walls : (f : Format) (c : FuseConfig) (j : ℕ) → j < 8 → boxed c.shape j ≡ false → NoWalls (derived f c) j
  -- commit 64, brake_steps 0, substeps 64: accepted; brake_steps 1: refused
  pub exactly_4096 : (b : BrakeModel) → b.substeps.0 ≡ 64 → b.commit.0 ≡ 64 → b.brake_steps.0 ≡ 0 → counts_ok b ≡ true
  pub one_step_more : (b : BrakeModel) → b.substeps.0 ≡ 64 → b.commit.0 ≡ 64 → b.brake_steps.0 ≡ 1 → counts_ok b ≡ false
  -- entries past dim and pos_dim are unread, and unjudged, and with a disc so are the first two of the box
  pub unread_past : (f : Format) (c : FuseConfig) (n : Norm) (w : walls.Box) → AgreeWithin c n w → derived f (measured_by c n w) ≡ derived f c
  pub unjudged_past : (f : Format) (c : FuseConfig) (n : Norm) (w : walls.Box) → AgreeWithin c n w → (t : Tables) → Agree c.dim n.center c.norm.center
      → refusal (config_judged f (measured_by c n w) t) ≡ refusal (config_judged f c t)
