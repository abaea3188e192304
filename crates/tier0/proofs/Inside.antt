-- Rows inside and outside the workspace: when WORKSPACE trips, that each distance from the centre is finite, and what the first move does.
use Rattle.tier0.specs.Refusals.{passed_with}
use Prim.Native.Nat.{ℕ, ◌+◌, ◌*◌, ◌≤◌, ◌<◌}
use mathlib.Core.Path.{◌≡◌, refl, sym, ap, ◌∙◌}
use mathlib.Core.Bool.{Bool, true, false, ◌&&◌, ◌||◌, and-true}
use mathlib.Core.List.{List, [], ◌∷◌}
use native.Mathlib.Nat.{lt_of_not-le}
use native.Mathlib.Decide.{dec_le}
use native.Mathlib.Omega.{arith}
use borrow.Author.Tests.{le-leb, lt-leb}
use lib.Dec.{eqb}
use lib.ListN.{length, replicate}
use lib.Ieee.{Float, Format, mul, lt}
use Rattle.bits.specs.Bits.{bits_where}
use Rattle.std.specs.Prelude.{if◌then◌else◌}
use Rattle.checked.specs.Each.{at, some, over}
use Rattle.checked.specs.Finite.{+0, finite}
use Rattle.checked.specs.Row.{padded}
use Rattle.checked.specs.Checked.{Checked, pure}
use Rattle.checked.proofs.Each.{and_left, and_right, all_at, some_none, some_same, over_keeps}
use Rattle.fmath.specs.Clamp.{clamped}
use Rattle.fmath.specs.Clamp as walls
use Rattle.fmath.specs.Norm.{dist}
use Rattle.fmath.proofs.Lengths.{dist_there}
use Rattle.pull.specs.Rule.{shortened, pulled}
use Rattle.workspace.specs.declared.Shape.TheVariants.{Box, Disc}
use Rattle.workspace.specs.declared.WallMasks.{WallMasks}
use Rattle.workspace.specs.Shape.{boxed, spans}
use Rattle.workspace.specs.Of.{walls_in}
use Rattle.workspace.specs.Rule.{Walls, from_centre, past_edge, outside, onto_disc, inside_at, inward, wall_masks}
use Rattle.workspace.proofs.Inside.{inward_at, inward_on, onto_keeps}
use Rattle.workspace.proofs.Promises as workspace
use Rattle.chunk.specs.declared.Header.{Header}
use Rattle.conformal.specs.Rule.{Tables}
use Rattle.envelope.specs.declared.ClampMode.TheVariants.{Project}
use Rattle.envelope.specs.declared.FuseConfig.{FuseConfig}
use Rattle.envelope.proofs.Promises as config
use Rattle.tier0.specs.declared.Checks.{Checks}
use Rattle.tier0.specs.Rule.{WORKSPACE, arms, box_dims, slow_zone, out_of_workspace, moved_inside, moves_inside, row_masks, check_action}
use Rattle.tier0.specs.Chunk.{raw_row, start_row, row_before, peak_step, some_of, some_out_of_workspace, check_chunk}
use Rattle.tier0.specs.Of.{checks_from, checks_of, action_ruling, action_refusal, action_answer, action_out, chunk_ruling, chunk_refusal, chunk_answer, chunk_out}
use Rattle.tier0.specs.Promises.{accepts, raised, row_outside, before_first, leashed_row, InsideStays, PulledFirst, WorkspaceUnarmed, BoxAsBefore, MarginUnread}
use Rattle.tier0.proofs.Stays.{kept, padded_alike}
use Rattle.tier0.proofs.Accepted.{chunk_passes, action_passes}
use Rattle.tier0.proofs.Promises.{chunk_raised, action_raised}
use Rattle.tier0.proofs.Walled.{from_rule, moved_inside_inward, chunk_moved, action_moved, action_narrow}

-- ---- trips

-- an armed check trips where its test holds, of one row and of some
pub if_armed : (b : Bool) (x : Checked Bool) → (if b then x else pure false).value ≡ (b && x.value)
if_armed true x = refl
if_armed false x = refl

pub some_armed : (b : Bool) (q : ℕ → Bool) (h : ℕ) → some (λ (i : ℕ). b && q i) h ≡ (b && some q h)
some_armed true q h = refl
some_armed false q h = some_none (λ (i : ℕ). false) h (λ i l. refl)

module _ (f : Format) (s : Checks) where
  row_out : (a : List Float) → (out_of_workspace f s a).value ≡ (arms s WORKSPACE && row_outside f s a)
  unfolding out_of_workspace outside
  row_out a = if_armed (arms s WORKSPACE) (outside f (walls_in s.shape s.walls) a (box_dims s))

  rows_out : (rows : List Float) (h : ℕ) → (some_out_of_workspace f s rows h).value ≡ (arms s WORKSPACE && some (λ (i : ℕ). row_outside f s (raw_row rows s.dim i)) h)
  unfolding some_out_of_workspace some_of out_of_workspace outside
  rows_out rows h =
      let beyond-at : ℕ → Checked Bool = λ i. outside f (walls_in s.shape s.walls) (raw_row rows s.dim i) (box_dims s) in
      some_same (λ (i : ℕ). (if arms s WORKSPACE then beyond-at i else pure false).value) (λ (i : ℕ). arms s WORKSPACE && (beyond-at i).value) h (λ i l. if_armed (arms s WORKSPACE) (beyond-at i))
      ∙ some_armed (arms s WORKSPACE) (λ (i : ℕ). (beyond-at i).value) h

  -- what is computed of a row, where it is armed, is the distance from the centre
  distance_computed : (a : List Float) (x y radius : Float) → arms s WORKSPACE ≡ true → s.shape ≡ Disc x y radius → (out_of_workspace f s a).sound ≡ (from_centre f x y a).sound
  unfolding out_of_workspace
  distance_computed a x y radius armed is = rw (armed, is) ((workspace.promised).on_a_disc f x y radius s.walls.lo s.walls.hi a (box_dims s)).distance_judged

-- the fourth of what is checked
fourth : (a b c d e : Bool) → (a && (b && (c && (d && e)))) ≡ true → d ≡ true
fourth a b c d e h = and_left d e (and_right c (d && e) (and_right b (c && (d && e)) (and_right a (b && (c && (d && e))) h)))

-- ---- the first move

pub stays_inside : InsideStays
stays_inside = kept

pub unarmed_nothing : (f : Format) (s : Checks) (a : List Float) → arms s WORKSPACE ≡ false → WorkspaceUnarmed f s a
unfolding moved_inside out_of_workspace
unarmed_nothing f s a e = record { nothing_moved = rw e; nothing_tripped = rw e }

-- past the edge it is pulled
module _ (f : Format) (s : Checks) (x y radius : Float) (a : List Float) (armed : arms s WORKSPACE ≡ true) (is : s.shape ≡ Disc x y radius) (far : lt radius (from_centre f x y a).value ≡ true) where
  abbrev w : Walls
  w = walls_in s.shape s.walls

  abbrev n : ℕ
  n = box_dims s

  abbrev short : Checked (List Float)
  short = shortened f radius (from_centre f x y a).value (x ∷ y ∷ []) 2 a

  onto_short : onto_disc f s.shape a ≡ record { value = short.value; sound = (from_centre f x y a).sound && short.sound }
  unfolding onto_disc pulled
  onto_short = rw (is, far)

  -- the disc lies over the first two coordinates, which have no box
  boxless : (j : ℕ) → j < 2 → boxed s.shape j ≡ false
  boxless j h = rw is (lt-leb 2 j h)

  further : (j : ℕ) → 2 ≤ j → boxed s.shape j ≡ true
  further j h = rw is (le-leb 2 j h)

  two_there : 2 ≤ length a
  two_there = (dist_there f radius a (x ∷ y ∷ []) 2 refl far).0

  -- past the coordinates that are shared the walls put nothing
  not_put : (j : ℕ) → n ≤ j → at (inward f w a n).value j ≡ at (onto_disc f s.shape a).value j
  unfolding inward
  not_put j h = over_keeps (inside_at w (onto_disc f s.shape a).value) (onto_disc f s.shape a).value n j h

  pair : (j : ℕ) → j < 2 → at (inward f w a n).value j ≡ at (onto_disc f s.shape a).value j
  pair j h = go (dec_le n j)
    where
      go : Dec (n ≤ j) → at (inward f w a n).value j ≡ at (onto_disc f s.shape a).value j
      go (yes past) = not_put j past
      go (no here) = inward_on f w a n j (lt_of_not-le here) (omega (arith, two_there)) (boxless j h)

  inward_sound : (inward f w a n).sound ≡ (onto_disc f s.shape a).sound
  unfolding inward
  inward_sound = and-true (onto_disc f s.shape a).sound

  pub pulls_first : PulledFirst f s x y radius a
  pulls_first =
      let made = moved_inside_inward f s a armed in
      let value-at : (j : ℕ) → at (moved_inside f s a).value j ≡ at (inward f w a n).value j = λ j. ap (λ (r : Checked (List Float)). at r.value j) made in
      record {
        shortened_pair = λ j h. value-at j ∙ pair j h ∙ ap (λ (r : Checked (List Float)). at r.value j) onto_short;
        further_clamped = λ j h here there. value-at j ∙ inward_at f w a n j here there (further j h);
        further_stays = λ j h past. value-at j ∙ not_put j past ∙ onto_keeps f s.shape a j (further j h);
        all_checked = ap (λ (r : Checked (List Float)). r.sound) made ∙ inward_sound ∙ ap (λ (r : Checked (List Float)). r.sound) onto_short;
      }

-- ---- at a box

module _ (f : Format) (s : Checks) (a : List Float) (is : s.shape ≡ Box) where
  box_trips : out_of_workspace f s a ≡ pure (arms s WORKSPACE && some (λ (j : ℕ). lt (at a j) (at s.walls.lo j) || lt (at s.walls.hi j) (at a j)) (box_dims s))
  unfolding out_of_workspace outside past_edge arms
  box_trips = rw is (go (arms s WORKSPACE))
    where
      go : (b : Bool) → (if b then pure (some (λ (j : ℕ). lt (at a j) (at s.walls.lo j) || lt (at s.walls.hi j) (at a j)) (box_dims s)) else pure false) ≡ pure (b && some (λ (j : ℕ). lt (at a j) (at s.walls.lo j) || lt (at s.walls.hi j) (at a j)) (box_dims s))
      go true = refl
      go false = refl

  box_moves : moved_inside f s a ≡ pure (if arms s WORKSPACE then over (λ (j : ℕ). clamped (at a j) (at s.walls.lo j) (at s.walls.hi j)) a (box_dims s) else a)
  unfolding moved_inside inward onto_disc arms
  box_moves = rw is (go (arms s WORKSPACE))
    where
      go : (b : Bool) → (if b then pure (over (λ (j : ℕ). clamped (at a j) (at s.walls.lo j) (at s.walls.hi j)) a (box_dims s)) else pure a) ≡ pure (if b then over (λ (j : ℕ). clamped (at a j) (at s.walls.lo j) (at s.walls.hi j)) a (box_dims s) else a)
      go true = refl
      go false = refl

  box_bits : moves_inside s s.clamp ≡ true → ((row_masks s a).low ≡ bits_where (λ (j : ℕ). walls.raised (at a j) (at s.walls.lo j) (at s.walls.hi j)) (box_dims s)) × ((row_masks s a).high ≡ bits_where (λ (j : ℕ). walls.lowered (at a j) (at s.walls.lo j) (at s.walls.hi j)) (box_dims s))
  unfolding row_masks wall_masks
  box_bits made = rw (made, is) (refl, refl)

  pub at_box : BoxAsBefore f s a
  at_box = record { tripped_by_walls = box_trips; moved_by_walls = box_moves; low_bits = λ made. (box_bits made).0; high_bits = λ made. (box_bits made).1 }

-- ---- the margin

pub margin_unread : MarginUnread
unfolding checks_of
margin_unread f c x y radius m is few = ap (checks_from c) ((config.promised).margin_leaves_the_disc f c x y radius m is few)

-- ---- the entries

module _ (f : Format) (c : FuseConfig) (t : Tables) (p aux rows : List Float) (k : Header) where
  pub chunk_workspace : (room trips dims : ℕ) (speed : Float) (walls : WallMasks)
      → chunk_answer f c t p aux rows k room ≡ passed_with trips dims speed walls
      → raised WORKSPACE trips ≡ (arms (checks_of f c) WORKSPACE && some (λ (i : ℕ). row_outside f (checks_of f c) (raw_row rows c.dim i)) k.horizon)
  unfolding chunk_answer chunk_ruling checks_of
  chunk_workspace room trips dims speed walls e =
      ap (raised WORKSPACE) (from_rule (chunk_refusal f c t p aux rows k room) (chunk_ruling f c p aux rows k.horizon).value trips dims speed walls e).same_trips
      ∙ (chunk_raised f (checks_of f c) p aux rows (replicate 512 +0) k.horizon).workspace
      ∙ rows_out f (checks_of f c) rows k.horizon

  each_checked : (room : ℕ) → accepts (chunk_answer f c t p aux rows k room) ≡ true → (some_out_of_workspace f (checks_of f c) rows k.horizon).sound ≡ true
  unfolding chunk_ruling check_chunk
  each_checked room e =
      let s = checks_of f c in
      let peak = peak_step f (start_row s p rows) rows s.dim k.horizon in
      fourth (slow_zone f s p aux).sound peak.sound (finite (mul f peak.value s.inv_dt)) (some_out_of_workspace f s rows k.horizon).sound _ (chunk_passes f c t p aux rows k room e).all_finite_lem

  pub chunk_distances : (room : ℕ) → accepts (chunk_answer f c t p aux rows k room) ≡ true → arms (checks_of f c) WORKSPACE ≡ true
      → (x y radius : Float) → c.shape ≡ Disc x y radius → (i : ℕ) → i < k.horizon → (from_centre f x y (raw_row rows c.dim i)).sound ≡ true
  unfolding some_out_of_workspace some_of checks_of
  chunk_distances room e armed x y radius is i l =
      let s = checks_of f c in
      sym (distance_computed f s (raw_row rows c.dim i) x y radius armed is) ∙ all_at (λ (m : ℕ). (out_of_workspace f s (raw_row rows c.dim m)).sound) k.horizon (each_checked room e) i l

  module _ (l : List Float) (trips dims : ℕ) (speed : Float) (walls : WallMasks) (e : chunk_answer f c t p aux rows k (length l) ≡ passed_with trips dims speed walls) where
    abbrev s : Checks
    s = checks_of f c

    pub chunk_inside_stays : c.clamp ≡ Project → (i j : ℕ) → i < k.horizon → j < s.dim → (out_of_workspace f s (raw_row rows s.dim i)).value ≡ false
        → at (chunk_out f c t p aux rows k l) (i * s.dim + j) ≡ at (leashed_row f s p aux (eqb i 0) (row_before (before_first f c p aux rows) (chunk_out f c t p aux rows k l) s.dim i) (raw_row rows s.dim i)).value j
    chunk_inside_stays m i j a b inside =
        chunk_moved f c t p aux rows k l trips dims speed walls e m i j a b
        ∙ ap (λ (r : List Float). at (leashed_row f s p aux (eqb i 0) (row_before (before_first f c p aux rows) (chunk_out f c t p aux rows k l) s.dim i) r).value j) (stays_inside f s (raw_row rows s.dim i) inside)

module _ (f : Format) (c : FuseConfig) (t : Tables) (p aux prev a : List Float) where
  pub action_workspace : (room trips dims : ℕ) (speed : Float) (walls : WallMasks)
      → action_answer f c t p aux prev a room ≡ passed_with trips dims speed walls
      → raised WORKSPACE trips ≡ (arms (checks_of f c) WORKSPACE && row_outside f (checks_of f c) a)
  unfolding action_answer action_ruling
  action_workspace room trips dims speed walls e =
      ap (raised WORKSPACE) (from_rule (action_refusal f c t p aux prev a room) (action_ruling f c p aux prev a).value trips dims speed walls e).same_trips
      ∙ (action_raised f (checks_of f c) p aux prev a).workspace
      ∙ row_out f (checks_of f c) a

  action_checked : (room : ℕ) → accepts (action_answer f c t p aux prev a room) ≡ true → (out_of_workspace f (checks_of f c) a).sound ≡ true
  unfolding action_ruling check_action
  action_checked room e =
      let s = checks_of f c in
      let step = dist f a prev s.dim in
      fourth (slow_zone f s p aux).sound step.sound (finite (mul f step.value s.inv_dt)) (out_of_workspace f s a).sound _ (action_passes f c t p aux prev a room e).all_finite_lem

  pub action_distances : (room : ℕ) → accepts (action_answer f c t p aux prev a room) ≡ true → arms (checks_of f c) WORKSPACE ≡ true
      → (x y radius : Float) → c.shape ≡ Disc x y radius → (from_centre f x y a).sound ≡ true
  unfolding checks_of
  action_distances room e armed x y radius is = sym (distance_computed f (checks_of f c) a x y radius armed is) ∙ action_checked room e

module _ (f : Format) (c : FuseConfig) (t : Tables) (p aux prev a l : List Float) (trips dims : ℕ) (speed : Float) (walls : WallMasks) (e : action_answer f c t p aux prev a (length l) ≡ passed_with trips dims speed walls) where
  abbrev s' : Checks
  s' = checks_of f c

  pub action_spans : spans s'.shape s'.dim s'.pos_dim ≡ true
  unfolding checks_of
  action_spans = (action_passes f c t p aux prev a (length l) (ap accepts e)).fit.spanned

  pub action_inside_stays : c.clamp ≡ Project → (j : ℕ) → j < s'.dim → (out_of_workspace f s' a).value ≡ false → at (action_out f c t p aux prev a l) j ≡ at (leashed_row f s' p aux true prev (padded a s'.dim)).value j
  action_inside_stays m j b inside =
      let row = padded a s'.dim in
      action_moved f c t p aux prev a l trips dims speed walls e m j b
      ∙ ap (λ (r : List Float). at (leashed_row f s' p aux true prev r).value j) (stays_inside f s' row (ap (λ (x : Checked Bool). x.value) (padded_alike f s' a (action_narrow f c t p aux prev a l trips dims speed walls e) action_spans) ∙ inside))
