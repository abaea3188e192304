-- What the masks of an accepted answer say, and how its rows go out: moved by the leash. The masks are those of the rule, a bit of clamped_dims is a row that goes out otherwise than it came, and a coordinate that a
-- wall moved is another number afterwards.
use Rattle.refusal.specs.declared.Refusal.{Refusal}
use Prim.Native.Nat.{ℕ, zero, suc, ◌+◌, ◌*◌, ◌≤◌, ◌<◌}
use mathlib.Core.Path.{◌≡◌, refl, sym, ap, ◌∙◌}
use mathlib.Core.Bool.{Bool, true, false, not, ◌&&◌, ◌||◌, false≢true}
use mathlib.Core.List.{List, [], ◌∷◌, ◌++◌}
use native.Mathlib.Nat.{lt_of_lt_of_le, lt_of_not-le}
use native.Mathlib.Decide.{dec_le}
use native.Mathlib.Omega.{arith}
use borrow.Author.Count.{below_more}
use lib.Dec.{eqb}
use lib.ListN.{drop, length, set, replicate}
use lib.Seq.{get_or-set_same, get_or-set_other}
use lib.Ieee.{Float, Format, nan, eq, ne}
use Rattle.bits.specs.Bits.{bit, bits_where}
use Rattle.std.specs.Prelude.{if◌then◌else◌, Err, Result, Ok}
use Rattle.bits.proofs.Bits.{bit_where, no_bits, bits_none, bits_or}
use Rattle.refusal.specs.Order.{computed, ◌when◌}
use Rattle.refusal.specs.Chain.{both_pass}
use Rattle.checked.specs.Each.{at, some, over}
use Rattle.checked.specs.Finite.{+0}
use Rattle.checked.specs.Row.{padded}
use Rattle.checked.specs.Checked.{Checked}
use Rattle.checked.proofs.Copy.{padded_at, length_padded}
use Rattle.checked.proofs.Each.{over_at, some_none, some_there}
use Rattle.pull.proofs.Steps.{pulled_same}
use Rattle.workspace.specs.declared.WallMasks.{WallMasks}
use Rattle.workspace.specs.Of.{walls_in}
use Rattle.workspace.specs.Rule.{Walls, inward, raised_at, lowered_at, wall_masks, any_masks, unmoved}
use Rattle.workspace.specs.Shape.{boxed}
use Rattle.workspace.specs.Promises.{NoBitPast}
use Rattle.workspace.proofs.Masks as masks
use Rattle.workspace.proofs.Promises as shapes
use Rattle.fmath.specs.Clamp.{raised, lowered}
use Rattle.conformal.specs.Rule.{Tables}
use Rattle.chunk.specs.Refusals.{chunk_reasons}
use Rattle.chunk.specs.declared.Header.{Header}
use Rattle.envelope.specs.declared.ClampMode.{ClampMode}
use Rattle.envelope.specs.declared.ClampMode.TheVariants.{Off, Project}
use Rattle.envelope.specs.Refusals.{config_judged}
use Rattle.envelope.specs.declared.FuseConfig.{FuseConfig}
use Rattle.tier0.specs.declared.Checks.{Checks}
use Rattle.tier0.specs.declared.Tier0Out.{Tier0Out}
use Rattle.tier0.specs.Rule.{WORKSPACE, SPEED, arms, box_dims, Slow, slow_zone, leash, moved_inside, leashed, moves, moved_dims, project, projection, moves_inside, row_masks, Judgement, check_action}
use Rattle.tier0.specs.Chunk.{raw_row, row_before, put_row, next_row, run_rows, projected_rows, rows_masks, check_chunk}
use Rattle.tier0.specs.Refusals.{answer_at, passed_with}
use Rattle.tier0.specs.Of.{checks_of, lent_to_action, action_ruling, action_refusal, action_answer, action_out, lent_to_chunk, chunk_ruling, chunk_refusal, chunk_answer, chunk_out}
use Rattle.tier0.specs.Promises.{trips_in, accepts, zone_now, before_first, zone_here, moved_row, ChunkWalls, ActionWalls}
use Rattle.tier0.proofs.Refused as action
use Rattle.tier0.proofs.ChunkRefused as chunk
use Rattle.tier0.proofs.Rows.{length_put, before_first_lem, before_later}
use Rattle.tier0.proofs.Promises.{row_at, below_rows}

-- ---- an accepted answer is the rule's

abbrev dims_in : Result Tier0Out Refusal → ℕ
dims_in (Ok o) = o.clamped_dims
dims_in (Err r) = 0

abbrev speed_in : Result Tier0Out Refusal → Float
speed_in (Ok o) = o.peak_speed
speed_in (Err r) = +0

abbrev masks_in : Result Tier0Out Refusal → WallMasks
masks_in (Ok o) = o.walls
masks_in (Err r) = unmoved

-- its number is 0, and its bits, speed and masks are those that were judged
pub record FromRule (n : ℕ) (j : Judgement) (trips dims : ℕ) (speed : Float) (walls : WallMasks) : Type 0 where
  pub accepted : n ≡ 0
  pub same_trips : trips ≡ j.trips
  pub same_dims : dims ≡ j.after.mask
  pub same_speed : speed ≡ j.peak
  pub same_walls : walls ≡ j.walls

pub from_rule : (n : ℕ) (j : Judgement) (trips dims : ℕ) (speed : Float) (walls : WallMasks) → answer_at n j ≡ passed_with trips dims speed walls → FromRule n j trips dims speed walls
from_rule zero j trips dims speed walls e = record { accepted = refl; same_trips = sym (ap trips_in e); same_dims = sym (ap dims_in e); same_speed = sym (ap speed_in e); same_walls = sym (ap masks_in e) }
from_rule (suc n) j trips dims speed walls e = absurd (false≢true (ap accepts e))

-- ---- where rows are moved inside the workspace

module _ (s : Checks) where
  off : (m : ClampMode) → m ≡ Off → moves_inside s m ≡ false
  unfolding moves_inside
  off m e = rw e

  unarmed : (m : ClampMode) → arms s WORKSPACE ≡ false → moves_inside s m ≡ false
  unfolding moves_inside
  unarmed Off e = refl
  unarmed Project e = e

  on : (m : ClampMode) → m ≡ Project → arms s WORKSPACE ≡ true → moves_inside s m ≡ true
  unfolding moves_inside
  on m e h = rw e h

-- nothing is past the shared axes, moved or not
none_past : (b : Bool) (x : WallMasks) (n : ℕ) → NoBitPast x n → NoBitPast (if b then x else unmoved) n
none_past true x n h = h
none_past false x n h = λ j l. (no_bits j, no_bits j)

-- nor is a bit at an axis without a box
abbrev NoBitAt : WallMasks → ℕ → Type 0
NoBitAt m j = (bit m.low j ≡ false) × (bit m.high j ≡ false)

none_at : (b : Bool) (x : WallMasks) (j : ℕ) → NoBitAt x j → NoBitAt (if b then x else unmoved) j
none_at true x j h = h
none_at false x j h = (no_bits j, no_bits j)

module _ (w : Walls) (n j : ℕ) (boxless : boxed w.shape j ≡ false) where
  no_bit_at : (a : List Float) → NoBitAt (wall_masks w a n) j
  no_bit_at a = go (dec_le n j)
    where
      go : Dec (n ≤ j) → NoBitAt (wall_masks w a n) j
      go (yes past) = (shapes.promised).no_bit_past w a n j past
      go (no here) = let told = (shapes.promised).axis_told w a n j (lt_of_not-le here) in (told.low_bit ∙ rw boxless, told.high_bit ∙ rw boxless)

  no_bit_of_any_at : (a : ℕ → List Float) (h : ℕ) → NoBitAt (any_masks w a h n) j
  no_bit_of_any_at a h = go (dec_le n j)
    where
      go : Dec (n ≤ j) → NoBitAt (any_masks w a h n) j
      go (yes past) = (shapes.promised).no_bit_of_any_past w a h n j past
      go (no here) =
          let told = (shapes.promised).axis_of_any_told w a h n j (lt_of_not-le here) in
          (told.low_bit ∙ some_none (λ (i : ℕ). raised_at w (a i) j) h (λ i l. rw boxless), told.high_bit ∙ some_none (λ (i : ℕ). lowered_at w (a i) j) h (λ i l. rw boxless))

-- where the first move is made, a row goes inside the walls
pub moved_inside_inward : (f : Format) (s : Checks) (a : List Float) → arms s WORKSPACE ≡ true → moved_inside f s a ≡ inward f (walls_in s.shape s.walls) a (box_dims s)
unfolding moved_inside
moved_inside_inward f s a e = rw e

-- a coordinate that a wall moved goes out as another number, where it equals what the first move made of it
differs : (f : Format) (s : Checks) (a : List Float) (j : ℕ) → arms s WORKSPACE ≡ true → j < box_dims s → length a ≡ 8 → s.dim ≤ 8 → (y : Float) → eq y (at (moved_inside f s a).value j) ≡ true
    → (raised_at (walls_in s.shape s.walls) a j || lowered_at (walls_in s.shape s.walls) a j) ≡ true → ne (at a j) y ≡ true
differs f s a j armed here long narrow y e moved =
    masks.moved_differs f (walls_in s.shape s.walls) a (box_dims s) j here (omega arith) y (rw (moved_inside_inward f s a armed) at e) moved

-- ---- what is written of a row

put_at : (r l : List Float) (k n j : ℕ) → j < n → k + n ≤ length l → at (put_row r l k n) (k + j) ≡ at r j
unfolding put_row
put_at r l k zero j h w = absurd (omega arith)
put_at r l k (suc n) j h w =
    below_more (λ (i : ℕ). at (set (put_row r l k n) (k + n) (at r n)) (k + i) ≡ at r i) n
    (λ i g. get_or-set_other (put_row r l k n) (k + n) (k + i) (at r n) nan (λ e. omega arith) ∙ put_at r l k n i g (omega arith))
    (get_or-set_same (put_row r l k n) (k + n) (at r n) nan (omega (arith, length_put r l k n)))
    j
    (omega arith)

put_before : (r l : List Float) (k n m : ℕ) → m < k → at (put_row r l k n) m ≡ at l m
unfolding put_row
put_before r l k zero m h = refl
put_before r l k (suc n) m h = get_or-set_other (put_row r l k n) (k + n) m (at r n) nan (λ e. omega arith) ∙ put_before r l k n m h

-- ---- clamped_dims: a bit for each coordinate on which some row goes out otherwise than it came

module _ (f : Format) (s : Checks) (z : Slow) (p rows q l : List Float) where
  abbrev out_row : ℕ → List Float
  out_row i = (run_rows f s z p rows q l (suc i)).value.last

  abbrev goes_otherwise : ℕ → ℕ → Bool
  goes_otherwise j i = ne (at (raw_row rows s.dim i) j) (at (out_row i) j)

  mask_is : (h : ℕ) → (run_rows f s z p rows q l h).value.mask ≡ bits_where (λ (j : ℕ). some (goes_otherwise j) h) s.dim
  unfolding run_rows next_row some
  mask_is zero = sym (bits_none (λ (j : ℕ). false) s.dim (λ j w. refl))
  mask_is (suc i) = rw (mask_is i) (bits_or (λ (j : ℕ). some (goes_otherwise j) i) (λ (j : ℕ). goes_otherwise j i) s.dim)

  run_long : (h : ℕ) → length (run_rows f s z p rows q l h).value.out ≡ length l
  unfolding run_rows next_row
  run_long zero = refl
  run_long (suc i) = length_put (out_row i) (run_rows f s z p rows q l i).value.out (i * s.dim) s.dim ∙ run_long i

  -- row i is written where it belongs, and no later one over it
  written_at : (h i j : ℕ) → i < h → j < s.dim → h * s.dim ≤ length l → at (run_rows f s z p rows q l h).value.out (i * s.dim + j) ≡ at (out_row i) j
  unfolding run_rows next_row
  written_at zero i j a b w = absurd (omega arith)
  written_at (suc h) i j a b w =
      let more : suc h * s.dim ≡ h * s.dim + s.dim = omega arith in
      below_more (λ (n : ℕ). at (run_rows f s z p rows q l (suc h)).value.out (n * s.dim + j) ≡ at (out_row n) j) h
      (λ n g. put_before (out_row h) (run_rows f s z p rows q l h).value.out (h * s.dim) s.dim (n * s.dim + j) (below_rows n h j s.dim g b) ∙ written_at h n j g b (omega arith))
      (put_at (out_row h) (run_rows f s z p rows q l h).value.out (h * s.dim) s.dim j b (omega (arith, run_long h)))
      i
      (omega arith)

  rows_of_rows : (m : ClampMode) → m ≡ Project → (h : ℕ) → (projected_rows f s m z p rows q l h).value.rows ≡ (run_rows f s z p rows q l h).value.out
  unfolding projected_rows
  rows_of_rows m e h = rw e

  dims_of_rows : (m : ClampMode) → m ≡ Project → (h : ℕ) → (projected_rows f s m z p rows q l h).value.mask ≡ bits_where (λ (j : ℕ). some (goes_otherwise j) h) s.dim
  unfolding projected_rows
  dims_of_rows m e h = rw e (mask_is h)

row_of_row : (f : Format) (s : Checks) (z : Slow) (p prev a : List Float) (m : ClampMode) → m ≡ Project → (projection f s m z p prev a).value.rows ≡ (moves f s z p true prev a).value
unfolding projection project
row_of_row f s z p prev a m e = rw e

dims_of_row : (f : Format) (s : Checks) (z : Slow) (p prev a : List Float) (m : ClampMode) → m ≡ Project → (projection f s m z p prev a).value.mask ≡ moved_dims a (moves f s z p true prev a).value s.dim
unfolding projection project
dims_of_row f s z p prev a m e = rw e

-- ---- a row that goes out is moved by the leash

-- the moves are those of the leash that the zones and SPEED make together
moves_by_leash : (f : Format) (s : Checks) (p aux : List Float) (isFirst : Bool) (prev a : List Float) → moves f s (slow_zone f s p aux).value p isFirst prev a ≡ moved_row f s p aux isFirst prev a
unfolding moves leashed
moves_by_leash f s p aux isFirst prev a = refl

-- of the row before it the first dim numbers are read
moves_same : (f : Format) (s : Checks) (z : Slow) (p : List Float) (isFirst : Bool) (q r a : List Float) → ((j : ℕ) → j < s.dim → at q j ≡ at r j) → moves f s z p isFirst q a ≡ moves f s z p isFirst r a
unfolding moves leashed
moves_same f s z p isFirst q r a same = rw (pulled_same f (leash (arms s SPEED) s.step_max z) q r s.dim (moved_inside f s a).value same)

-- ---- check_chunk

module _ (f : Format) (c : FuseConfig) (t : Tables) (p aux rows : List Float) (k : Header) (l : List Float) (trips dims : ℕ) (speed : Float) (walls : WallMasks) (e : chunk_answer f c t p aux rows k (length l) ≡ passed_with trips dims speed walls) where
  abbrev s : Checks
  s = checks_of f c

  abbrev w : ℕ
  w = box_dims s

  pub chunk_ruled : FromRule (chunk_refusal f c t p aux rows k (length l)) (chunk_ruling f c p aux rows k.horizon).value trips dims speed walls
  unfolding chunk_answer
  chunk_ruled = from_rule (chunk_refusal f c t p aux rows k (length l)) _ trips dims speed walls e

  pub chunk_masks : walls ≡ rows_masks s rows k.horizon
  unfolding chunk_ruling check_chunk
  chunk_masks = chunk_ruled.same_walls

  pub chunk_sized : chunk.Sized c p rows k.horizon (length l)
  unfolding chunk_refusal
  chunk_sized = chunk.accepted_sizes f c t p aux rows k (length l) (both_pass (config_judged f c t ++ (chunk_reasons k (length rows) ++ lent_to_chunk c p aux rows k (length l) [])) ((computed when not (chunk_ruling f c p aux rows k.horizon).sound) ∷ []) chunk_ruled.accepted).0

  pub chunk_narrow : s.dim ≤ 8
  unfolding checks_of
  chunk_narrow = chunk_sized.narrow

  chunk_rows : c.clamp ≡ Project → (chunk_ruling f c p aux rows k.horizon).value.after.rows ≡ (run_rows f s (zone_now f c p aux rows) p rows (before_first f c p aux rows) (replicate 512 +0) k.horizon).value.out
  unfolding chunk_ruling check_chunk checks_of
  chunk_rows m = rows_of_rows f s (zone_now f c p aux rows) p rows (before_first f c p aux rows) (replicate 512 +0) c.clamp m k.horizon

  pub chunk_out_lem : chunk_out f c t p aux rows k l ≡ over (at (chunk_ruling f c p aux rows k.horizon).value.after.rows) l (k.horizon * s.dim)
  unfolding chunk_out checks_of
  chunk_out_lem = rw chunk_ruled.accepted

  chunk_room : k.horizon * s.dim ≤ length l
  unfolding checks_of
  chunk_room = chunk_sized.out

  chunk_small : k.horizon * s.dim ≤ 512
  unfolding checks_of
  chunk_small = chunk_sized.small

  -- what the output holds of a row is what went out
  chunk_written : c.clamp ≡ Project → (i j : ℕ) → i < k.horizon → j < s.dim → at (chunk_out f c t p aux rows k l) (i * s.dim + j) ≡ at (out_row f s (zone_now f c p aux rows) p rows (before_first f c p aux rows) (replicate 512 +0) i) j
  chunk_written m i j a b =
      let within = below_rows i k.horizon j s.dim a b in
      ap (λ (x : List Float). at x (i * s.dim + j)) chunk_out_lem
      ∙ over_at (at (chunk_ruling f c p aux rows k.horizon).value.after.rows) l (k.horizon * s.dim) (i * s.dim + j) within (lt_of_lt_of_le within chunk_room)
      ∙ ap (λ (x : List Float). at x (i * s.dim + j)) (chunk_rows m)
      ∙ written_at f s (zone_now f c p aux rows) p rows (before_first f c p aux rows) (replicate 512 +0) k.horizon i j a b chunk_small

  -- the row before it is held by the output, too
  last_held : c.clamp ≡ Project → (i : ℕ) → i < k.horizon → (j : ℕ) → j < s.dim
      → at (run_rows f s (zone_now f c p aux rows) p rows (before_first f c p aux rows) (replicate 512 +0) i).value.last j ≡ at (row_before (before_first f c p aux rows) (chunk_out f c t p aux rows k l) s.dim i) j
  unfolding run_rows
  last_held m zero a j b = ap (λ (x : List Float). at x j) (before_first_lem (before_first f c p aux rows) (chunk_out f c t p aux rows k l) s.dim 0 refl)
  last_held m (suc i) a j b =
      let held = raw_row (chunk_out f c t p aux rows k l) s.dim in
      sym (row_at (chunk_out f c t p aux rows k l) s.dim i chunk_narrow j b ∙ chunk_written m i j (omega arith) b)
      ∙ ap (λ (x : List Float). at x j) (before_later (before_first f c p aux rows) (chunk_out f c t p aux rows k l) s.dim (suc i) (λ e. omega arith) {r = held i} (ap held (omega arith)))

  -- and from it the row is moved by the leash
  pub chunk_moved : c.clamp ≡ Project → (i j : ℕ) → i < k.horizon → j < s.dim
      → at (chunk_out f c t p aux rows k l) (i * s.dim + j) ≡ at (moved_row f s p aux (eqb i 0) (row_before (before_first f c p aux rows) (chunk_out f c t p aux rows k l) s.dim i) (raw_row rows s.dim i)).value j
  unfolding run_rows next_row
  chunk_moved m i j a b =
      let before = row_before (before_first f c p aux rows) (chunk_out f c t p aux rows k l) s.dim i in
      let here = raw_row rows s.dim i in
      let last = (run_rows f s (zone_now f c p aux rows) p rows (before_first f c p aux rows) (replicate 512 +0) i).value.last in
      chunk_written m i j a b
      ∙ ap (λ (x : Checked (List Float)). at x.value j) (moves_same f s (zone_now f c p aux rows) p (eqb i 0) last before here (last_held m i a) ∙ moves_by_leash f s p aux (eqb i 0) before here)

  chunk_masks_on : c.clamp ≡ Project → arms s WORKSPACE ≡ true → walls ≡ any_masks (walls_in s.shape s.walls) (raw_row rows s.dim) k.horizon w
  unfolding rows_masks checks_of
  chunk_masks_on m a = chunk_masks ∙ rw (on s c.clamp m a)

  chunk_dims : c.clamp ≡ Project → dims ≡ bits_where (λ (j : ℕ). some (goes_otherwise f s (zone_now f c p aux rows) p rows (before_first f c p aux rows) (replicate 512 +0) j) k.horizon) s.dim
  unfolding chunk_ruling check_chunk checks_of
  chunk_dims m = chunk_ruled.same_dims ∙ dims_of_rows f s (zone_now f c p aux rows) p rows (before_first f c p aux rows) (replicate 512 +0) c.clamp m k.horizon

  pub chunk_walls : ChunkWalls f c t p aux rows k l dims walls
  unfolding rows_masks checks_of
  chunk_walls = record {
    off_none = λ m. chunk_masks ∙ rw (off s c.clamp m);
    unarmed_none = λ a. chunk_masks ∙ rw (unarmed s c.clamp a);
    each_axis = λ m a j here. rw (chunk_masks_on m a) ((shapes.promised).axis_of_any_told (walls_in s.shape s.walls) (raw_row rows s.dim) k.horizon w j here);
    none_past = rw chunk_masks (none_past (moves_inside s s.clamp) (any_masks (walls_in s.shape s.walls) (raw_row rows s.dim) k.horizon w) w ((shapes.promised).no_bit_of_any_past (walls_in s.shape s.walls) (raw_row rows s.dim) k.horizon w));
    no_bit_without_a_box = λ j boxless. rw chunk_masks (none_at (moves_inside s s.clamp) (any_masks (walls_in s.shape s.walls) (raw_row rows s.dim) k.horizon w) j (no_bit_of_any_at (walls_in s.shape s.walls) w j boxless (raw_row rows s.dim) k.horizon));
    one_row_never_both = λ one j. rw (chunk_masks, one, (shapes.promised).any_of_one (walls_in s.shape s.walls) (raw_row rows s.dim) w) (masks.never_both (moves_inside s s.clamp) (walls_in s.shape s.walls) (raw_row rows s.dim 0) w j);
    in_clamped_dims = λ m a i j within here same moved.
        rw (chunk_dims m)
        (bit_where _ s.dim j (omega arith)
        ∙ some_there _ k.horizon i within (differs f s (raw_row rows s.dim i) j a here (length_padded (drop (i * s.dim) rows) s.dim) chunk_narrow _ (rw (chunk_written m i j within (omega arith)) at same) moved));
  }

-- ---- check_action

module _ (f : Format) (c : FuseConfig) (t : Tables) (p aux prev a l : List Float) (trips dims : ℕ) (speed : Float) (walls : WallMasks) (e : action_answer f c t p aux prev a (length l) ≡ passed_with trips dims speed walls) where
  abbrev s' : Checks
  s' = checks_of f c

  abbrev w' : ℕ
  w' = box_dims s'

  -- the row as projection is given it
  abbrev row : List Float
  row = padded a s'.dim

  pub action_ruled : FromRule (action_refusal f c t p aux prev a (length l)) (action_ruling f c p aux prev a).value trips dims speed walls
  unfolding action_answer
  action_ruled = from_rule (action_refusal f c t p aux prev a (length l)) _ trips dims speed walls e

  pub action_masks : walls ≡ row_masks s' a
  unfolding action_ruling check_action
  action_masks = action_ruled.same_walls

  pub action_sized : action.Sized c a (length l)
  unfolding action_refusal
  action_sized = action.accepted_sizes f c t p aux prev a (length l) (both_pass (config_judged f c t ++ lent_to_action c p aux prev a (length l) []) ((computed when not (action_ruling f c p aux prev a).sound) ∷ []) action_ruled.accepted).0

  pub action_narrow : s'.dim ≤ 8
  unfolding checks_of
  action_narrow = action_sized.narrow

  action_row : c.clamp ≡ Project → (action_ruling f c p aux prev a).value.after.rows ≡ (moves f s' (zone_here f c p aux prev a) p true prev row).value
  unfolding action_ruling check_action checks_of
  action_row m = row_of_row f s' (zone_here f c p aux prev a) p prev row c.clamp m

  pub action_out_lem : action_out f c t p aux prev a l ≡ over (at (action_ruling f c p aux prev a).value.after.rows) l s'.dim
  unfolding action_out checks_of
  action_out_lem = rw action_ruled.accepted

  action_room : s'.dim ≤ length l
  unfolding checks_of
  action_room = action_sized.out

  -- what the output holds is what went out
  action_written : c.clamp ≡ Project → (j : ℕ) → j < s'.dim → at (action_out f c t p aux prev a l) j ≡ at (moves f s' (zone_here f c p aux prev a) p true prev row).value j
  action_written m j b =
      ap (λ (x : List Float). at x j) action_out_lem
      ∙ over_at (at (action_ruling f c p aux prev a).value.after.rows) l s'.dim j b (lt_of_lt_of_le b action_room)
      ∙ ap (λ (x : List Float). at x j) (action_row m)

  pub action_moved : c.clamp ≡ Project → (j : ℕ) → j < s'.dim → at (action_out f c t p aux prev a l) j ≡ at (moved_row f s' p aux true prev row).value j
  action_moved m j b = action_written m j b ∙ ap (λ (x : Checked (List Float)). at x.value j) (moves_by_leash f s' p aux true prev row)

  action_masks_on : c.clamp ≡ Project → arms s' WORKSPACE ≡ true → walls ≡ wall_masks (walls_in s'.shape s'.walls) a w'
  unfolding row_masks checks_of
  action_masks_on m b = action_masks ∙ rw (on s' c.clamp m b)

  action_dims : c.clamp ≡ Project → dims ≡ moved_dims row (moves f s' (zone_here f c p aux prev a) p true prev row).value s'.dim
  unfolding action_ruling check_action checks_of
  action_dims m = action_ruled.same_dims ∙ dims_of_row f s' (zone_here f c p aux prev a) p prev row c.clamp m

  -- the row has on its first coordinates what the action has
  same_sides : (j : ℕ) → j < w' → (raised_at (walls_in s'.shape s'.walls) row j ≡ raised_at (walls_in s'.shape s'.walls) a j) × (lowered_at (walls_in s'.shape s'.walls) row j ≡ lowered_at (walls_in s'.shape s'.walls) a j)
  same_sides j here =
      let same = padded_at a s'.dim j action_narrow (omega arith) in
      let has = boxed s'.shape j in
      (ap (λ (x : Float). has && raised x (at s'.walls.lo j) (at s'.walls.hi j)) same, ap (λ (x : Float). has && lowered x (at s'.walls.lo j) (at s'.walls.hi j)) same)

  pub action_walls : ActionWalls f c t p aux prev a l dims walls
  unfolding row_masks checks_of
  action_walls = record {
    off_none = λ m. action_masks ∙ rw (off s' c.clamp m);
    unarmed_none = λ b. action_masks ∙ rw (unarmed s' c.clamp b);
    each_axis = λ m b j here. rw (action_masks_on m b) ((shapes.promised).axis_told (walls_in s'.shape s'.walls) a w' j here);
    none_past = rw action_masks (none_past (moves_inside s' s'.clamp) (wall_masks (walls_in s'.shape s'.walls) a w') w' ((shapes.promised).no_bit_past (walls_in s'.shape s'.walls) a w'));
    no_bit_without_a_box = λ j boxless. rw action_masks (none_at (moves_inside s' s'.clamp) (wall_masks (walls_in s'.shape s'.walls) a w') j (no_bit_at (walls_in s'.shape s'.walls) w' j boxless a));
    never_both = λ j. rw action_masks (masks.never_both (moves_inside s' s'.clamp) (walls_in s'.shape s'.walls) a w' j);
    in_clamped_dims = λ m b j here same set.
        let told = (shapes.promised).axis_told (walls_in s'.shape s'.walls) a w' j here in
        let moved = rw (action_masks_on m b, told.low_bit, told.high_bit) at set in
        rw (action_dims m)
        (bit_where _ s'.dim j (omega arith)
        ∙ differs f s' row j b here (length_padded a s'.dim) action_narrow _ (rw (action_written m j (omega arith)) at same) (rw ((same_sides j here).0, (same_sides j here).1) moved));
  }
