-- What is promised of a configuration's refusal: each condition reads only entries that are in use, so that two configurations that agree there are judged alike.
use Prim.Native.Nat.{ℕ, zero, suc, ◌≤◌, ◌<◌, min}
use mathlib.Core.Path.{◌≡◌, refl, sym, ap, ◌∙◌}
use mathlib.Core.Bool.{Bool, true, false, not, ◌&&◌, ◌||◌, and-true, and-false}
use mathlib.Core.List.{List}
use native.Mathlib.Omega.{arith}
use borrow.Author.Tests.{eqb-true, eq-eqb, ltb-true, leb-true, le-leb, lt-leb, not-true}
use lib.Dec.{eqb, leb, ltb}
use lib.Ieee.{Float, Format, add, sub, div}
use Rattle.refusal.specs.Order.{refusal}
use Rattle.checked.specs.Constants.{1! }
use Rattle.checked.specs.Each.{at, all, every, every_from, table}
use Rattle.checked.specs.Finite.{finite, above_zero, all_finite, all_above_zero}
use Rattle.checked.specs.Least.{least}
use Rattle.checked.proofs.Each.{◌&&≡◌, and_left, and_right, all_at, all_from, all_same, every_at, table_at, table_same}
use Rattle.conformal.specs.Rule.{Tables}
use Rattle.conformal.specs.Promises.{NamesNoStall}
use Rattle.conformal.proofs.Stall.{names_no_stall, same_sizes, same_numbers, same_features}
use Rattle.workspace.specs.declared.Shape.{Shape}
use Rattle.workspace.specs.declared.Shape.TheVariants.{Box, Disc}
use Rattle.workspace.specs.Shape.{boxed, shape_ok}
use Rattle.envelope.specs.Derive.{kept, low_walls, high_walls, inverses, isotropic, derived_from, derived}
use Rattle.envelope.specs.Slots.{counted, zone_at}
use Rattle.envelope.specs.Refusals.{sizes_ok, zone_ok, zones_ok, numbers_from, numbers_ok, counts_ok, steps_ok, norm_ok, walls_finite, box_ok, channels_ok, pair_is_own, zones_fit, shape_fits, features_ok, config_judged}
use Rattle.envelope.specs.declared.FuseConfig.{FuseConfig}
use Rattle.envelope.specs.declared.Zones.{Zones}
use Rattle.envelope.specs.declared.Norm.{Norm}
use Rattle.envelope.specs.declared.Box as walls
use Rattle.envelope.specs.AtBox.{box_derived, box_numbers_ok, box_judged}
use Rattle.envelope.specs.Promises.{measured_by, zoned_by, margined_by, Agree, AgreeBoxed, AgreeWithin, DiscJudged, NoWalls, SameZones, ZonesJudged, PairsTold, OneZoneJudged, Promised}
use Rattle.envelope.proofs.Accepted.{accepted}

least_same : (g k : ℕ → Float) (n : ℕ) → ((i : ℕ) → i < n → g i ≡ k i) → least g n ≡ least k n
unfolding least
least_same g k zero h = refl
least_same g k (suc n) h = rw (least_same g k n (λ i l. h i (omega arith)), h n (omega arith))

-- what is kept under a test is the same where the test holds of entries that agree
kept_same : (n i : ℕ) (x y : Float) → (i < n → x ≡ y) → kept (ltb i n) x ≡ kept (ltb i n) y
kept_same n i x y h = go (ltb i n) refl
  where
    go : (t : Bool) → ltb i n ≡ t → kept t x ≡ kept t y
    go true e = h (ltb-true i n e)
    go false e = refl

-- likewise of a wall, where its axis has a box
wall_kept_same : (s : Shape) (n i : ℕ) (x y : Float) → (i < n → boxed s i ≡ true → x ≡ y) → kept (boxed s i && ltb i n) x ≡ kept (boxed s i && ltb i n) y
wall_kept_same s n i x y h = go (boxed s i) (ltb i n) refl refl
  where
    go : (b t : Bool) → boxed s i ≡ b → ltb i n ≡ t → kept (b && t) x ≡ kept (b && t) y
    go true true p e = h (ltb-true i n e) p
    go true false p e = refl
    go false t p e = refl

module _ (s : Shape) (a b : List Float) (n : ℕ) (same : AgreeBoxed s n a b) where
  walls_each : (op : Float → Float) → table (λ (i : ℕ). kept (boxed s i && ltb i n) (op (at a i))) 8 ≡ table (λ (i : ℕ). kept (boxed s i && ltb i n) (op (at b i))) 8
  walls_each op = table_same _ _ 8 (λ i l. wall_kept_same s n i (op (at a i)) (op (at b i)) (λ h p. ap op (same i h p)))

  walls_tested : walls_finite s a n ≡ walls_finite s b n
  unfolding walls_finite
  walls_tested = all_same _ _ n (λ i l. go i l (boxed s i) refl)
    where
      go : (i : ℕ) → i < n → (p : Bool) → boxed s i ≡ p → not p || finite (at a i) ≡ not p || finite (at b i)
      go i l true e = ap finite (same i l e)
      go i l false e = refl

module _ (a b : List Float) (n : ℕ) (same : Agree n a b) where
  kept_each : (op : Float → Float) → table (λ (i : ℕ). kept (ltb i n) (op (at a i))) 8 ≡ table (λ (i : ℕ). kept (ltb i n) (op (at b i))) 8
  kept_each op = table_same _ _ 8 (λ i l. kept_same n i (op (at a i)) (op (at b i)) (λ h. ap op (same i h)))

  tested_each : (q : Float → Bool) → all (λ (i : ℕ). q (at a i)) n ≡ all (λ (i : ℕ). q (at b i)) n
  tested_each q = all_same _ _ n (λ i l. ap q (same i l))

  least_each : least (at a) (min n 8) ≡ least (at b) (min n 8)
  least_each = least_same (at a) (at b) (min n 8) (λ i l. same i (omega arith))

module _ (f : Format) (c : FuseConfig) (n : Norm) (w : walls.Box) (same : AgreeWithin c n w) where
  unread_past : derived f (measured_by c n w) ≡ derived f c
  unfolding derived_from low_walls high_walls inverses isotropic
  unread_past =
      let lo-same = walls_each c.shape w.lo c.walls.lo c.pos_dim same.lows (λ (x : Float). add f x c.limits.margin) in
      let hi-same = walls_each c.shape w.hi c.walls.hi c.pos_dim same.highs (λ (x : Float). sub f x c.limits.margin) in
      let inv-same = kept_each n.scale c.norm.scale c.dim same.scales (div f 1!) in
      rw (lo-same, hi-same, inv-same, least_each n.scale c.norm.scale c.dim same.scales)

  unjudged_past : (t : Tables) → Agree c.dim n.center c.norm.center → refusal (config_judged f (measured_by c n w) t) ≡ refusal (config_judged f c t)
  unfolding sizes_ok numbers_from steps_ok norm_ok box_ok all_finite all_above_zero
  unjudged_past t centers =
      let center-same = tested_each n.center c.norm.center c.dim centers finite in
      let Scale-same = tested_each n.scale c.norm.scale c.dim same.scales above_zero in
      let lo-same = walls_tested c.shape w.lo c.walls.lo c.pos_dim same.lows in
      let hi-same = walls_tested c.shape w.hi c.walls.hi c.pos_dim same.highs in
      rw (unread_past, center-same, Scale-same, lo-same, hi-same)

-- ---- the zones

pair_told : (radius speed wide fast : Float) (i j k l : ℕ) → PairsTold radius speed wide fast i j k l
pair_told radius speed wide fast i j k l = record {
  repeated = λ first second. eq-eqb i k first &&≡ eq-eqb j l second;
  same_first = λ e. eqb-true i k (and_left (eqb i k) (eqb j l) e);
  same_second = λ e. eqb-true j l (and_right (eqb i k) (eqb j l) e);
}

module _ (z : Zones) (aux : ℕ) where
  abbrev place_fits : ℕ → Bool
  place_fits k = channels_ok (zone_at z k) aux && pair_is_own z k

  zones_told : ZonesJudged z aux
  unfolding zones_ok zones_fit pair_is_own
  zones_told = record {
    each_number = all_at _ (counted z);
    all_numbers = all_from _ (counted z);
    each_channel = λ fit k l. and_left (channels_ok (zone_at z k) aux) (pair_is_own z k) (all_at place_fits (counted z) fit k l);
    no_pair_twice = λ fit m k before l. not-true _ (all_at _ k (and_right (channels_ok (zone_at z k) aux) (pair_is_own z k) (all_at place_fits (counted z) fit k l)) m before);
    all_channels = λ own apart. all_from place_fits (counted z) (λ k l. own k l &&≡ all_from _ k (λ m before. rw (apart m k before l)));
  }

  one_told : z.count ≡ 1 → OneZoneJudged z aux
  unfolding zones_ok zones_fit pair_is_own all
  one_told one = record { its_numbers = rw one; its_channels = rw one (and-true (channels_ok (zone_at z 0) aux)) }

  -- so many zones, of which each is the same, are judged alike
  pub same_judged : (w : Zones) → counted w ≡ counted z → ((k : ℕ) → k < counted z → zone_at w k ≡ zone_at z k) → (zones_ok w ≡ zones_ok z) × (zones_fit w aux ≡ zones_fit z aux)
  unfolding zones_ok zones_fit pair_is_own
  same_judged w many each =
      (rw many (all_same _ _ (counted z) (λ k l. ap zone_ok (each k l))), rw many (all_same _ _ (counted z) (λ k l. rw (each k l) (ap (λ (b : Bool). channels_ok (zone_at z k) aux && b) (all_same _ _ k (λ m before. rw (each m (omega arith))))))))

  pub same_told : (w : Zones) → SameZones z w → (zones_ok w ≡ zones_ok z) × (zones_fit w aux ≡ zones_fit z aux)
  same_told w same = same_judged w (rw same.same_count) same.same_places

unread_zones : (f : Format) (c : FuseConfig) (t : Tables) (z : Zones) → SameZones c.zones z → refusal (config_judged f (zoned_by c z) t) ≡ refusal (config_judged f c t)
unfolding sizes_ok numbers_from steps_ok
unread_zones f c t z same = let told = same_told c.zones c.aux_count z same in rw (told.0, told.1, same.same_count)

too_many : (c : FuseConfig) → 4 < c.zones.count → sizes_ok c ≡ false
unfolding sizes_ok every
too_many c many = rw (lt-leb c.zones.count 4 many, and-false (leb 1 c.dim && leb c.dim 8 && leb 1 c.pos_dim && leb c.pos_dim 8))

-- with the flag set, the tests of 1 and of 17 are tests of the calibration
pub no_stall : (c : FuseConfig) → c.calibrated ≡ true → sizes_ok c ≡ true → features_ok c ≡ true → NamesNoStall c.calib
unfolding sizes_ok
no_stall c set sizes features = names_no_stall c.calib (rw set at (every_at _ 5 sizes)) (rw set at features)

-- ---- the shape

disc_numbers : (x y radius : Float) → finite x ≡ true → finite y ≡ true → above_zero radius ≡ true → shape_ok (Disc x y radius) ≡ true
unfolding every every_from
disc_numbers x y radius p q r = rw (p, q, r)

disc_told : (x y radius : Float) (dim pos-dim : ℕ) → DiscJudged x y radius dim pos-dim
disc_told x y radius dim pos-dim = record {
  centre_finite = λ e. (every_at _ 0 e, every_at _ 1 e);
  radius_above = λ e. every_at _ 2 e;
  its_numbers = disc_numbers x y radius;
  its_axes = λ e. (leb-true 2 dim (and_left (leb 2 dim) (leb 2 pos-dim) e), leb-true 2 pos-dim (and_right (leb 2 dim) (leb 2 pos-dim) e));
  axes_enough = λ p q. le-leb 2 dim p &&≡ le-leb 2 pos-dim q;
}

module _ (f : Format) (c : FuseConfig) (t : Tables) (box : c.shape ≡ Box) where
  box_derives : derived f c ≡ box_derived f c
  unfolding derived_from low_walls high_walls
  box_derives = rw box

  box_numbers : numbers_ok f c t ≡ box_numbers_ok f c t
  unfolding numbers_from box_ok walls_finite all_finite every derived_from low_walls high_walls
  box_numbers = rw (box, and-true)

  box_spans : shape_fits c ≡ true
  box_spans = rw box

  box_judges : refusal (config_judged f c t) ≡ refusal (box_judged f c t)
  box_judges = rw (box_numbers, box_spans)

-- where no axis among the first n has a box, no wall is kept, whatever it is
module _ (s : Shape) (n : ℕ) (none : (i : ℕ) → i < n → boxed s i ≡ true → ⊥) where
  no_wall_kept : (g h : ℕ → Float) → table (λ (i : ℕ). kept (boxed s i && ltb i n) (g i)) 8 ≡ table (λ (i : ℕ). kept (boxed s i && ltb i n) (h i)) 8
  no_wall_kept g h = table_same _ _ 8 (λ i l. wall_kept_same s n i (g i) (h i) (λ b has. absurd (none i b has)))

margin_unread : (f : Format) (c : FuseConfig) (x y radius m : Float) → c.shape ≡ Disc x y radius → c.pos_dim ≤ 2 → derived f (margined_by c m) ≡ derived f c
unfolding derived_from low_walls high_walls
margin_unread f c x y radius m disc few =
    let none : (i : ℕ) → i < c.pos_dim → boxed c.shape i ≡ true → ⊥ = λ i b has. let k : 2 ≤ i = leb-true 2 i (ap (λ (s : Shape). boxed s i) (sym disc) ∙ has) in omega arith in
    rw (
      no_wall_kept c.shape c.pos_dim none (λ (i : ℕ). add f (at c.walls.lo i) m) (λ (i : ℕ). add f (at c.walls.lo i) c.limits.margin),
      no_wall_kept c.shape c.pos_dim none (λ (i : ℕ). sub f (at c.walls.hi i) m) (λ (i : ℕ). sub f (at c.walls.hi i) c.limits.margin),
    )

unboxed : (f : Format) (c : FuseConfig) (j : ℕ) → j < 8 → boxed c.shape j ≡ false → NoWalls (derived f c) j
unfolding derived_from low_walls high_walls
unboxed f c j h e = record { low = table_at _ 8 j h ∙ rw e; high = table_at _ 8 j h ∙ rw e }

pub promised : Promised
unfolding sizes_ok numbers_from steps_ok counts_ok every
promised = record {
  fit_accepted = λ f c t fit. rw (fit.sizes, fit.numbers, fit.counts, fit.apart, fit.spanned, fit.features);
  accepted_fit = accepted;
  names_no_stall = λ f c t e set. let fit = accepted f c t e in no_stall c set fit.sizes fit.features;
  flag_clear = λ f c t u cal ticks e. rw e;
  past_the_count = λ f c t terms same. rw (same_sizes c.calib terms same, same_numbers c.calib terms same t, same_features c.calib terms same);
  armed_or_not = λ f c t bits. refl;
  either_choice = λ f c t choice. refl;
  either_mode = λ f c t g. refl;
  same_derived = λ f c g. refl;
  over_four = λ f c t many. rw (too_many c many);
  zones_judged = zones_told;
  pairs_told = pair_told;
  one_zone_judged = one_told;
  unread_zones = unread_zones;
  disc_judged = disc_told;
  box_as_before = λ f c t box. record { derives = box_derives f c t box; judges = box_judges f c t box };
  margin_leaves_the_disc = margin_unread;
  no_walls = unboxed;
  exactly_4096 = λ b sub commit e. rw (sub, commit, e);
  one_step_more = λ b sub commit e. rw (sub, commit, e);
  unread_past = unread_past;
  unjudged_past = unjudged_past;
}
