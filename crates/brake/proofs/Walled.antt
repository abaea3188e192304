-- What the masks of an accepted brake or hold say: they are those of the setpoint, on the first min(dim, pos_dim) axes, and there the row is the setpoint.
use Rattle.std.specs.Prelude.{Err, Ok, Result}
use Rattle.refusal.specs.declared.Refusal.{Refusal}
use Prim.Native.Nat.{ℕ, min, ◌≤◌, ◌<◌}
use mathlib.Core.Path.{◌≡◌, refl, sym, ap, ◌∙◌}
use mathlib.Core.Bool.{Bool, true, false, not, ◌||◌, false≢true}
use mathlib.Core.List.{List, [], ◌∷◌, ◌++◌}
use native.Mathlib.Omega.{arith}
use lib.ListN.{length}
use lib.Ieee.{Float, binary64}
use Rattle.bits.specs.Bits.{bit}
use Rattle.bits.proofs.Bits.{no_bits}
use Rattle.refusal.specs.Order.{computed, ◌when◌}
use Rattle.refusal.specs.Chain.{both_pass}
use Rattle.fmath.specs.Answer.{some_not_finite}
use Rattle.checked.specs.Each.{at, over}
use Rattle.checked.specs.Finite.{+0}
use Rattle.checked.specs.Row.{eight}
use Rattle.checked.proofs.Copy.{padded_at, padded_rest, length_eight}
use Rattle.checked.proofs.Each.{and_left}
use Rattle.conformal.specs.Rule.{Tables}
use Rattle.envelope.specs.Refusals.{config_judged}
use Rattle.envelope.specs.declared.ActionKind.{ActionKind}
use Rattle.envelope.specs.declared.ActionKind.TheVariants.{EePosition, EeDelta, JointPosition, JointVelocity, Other}
use Rattle.envelope.specs.declared.FuseConfig.{FuseConfig}
use Rattle.workspace.specs.declared.WallMasks.{WallMasks}
use Rattle.workspace.specs.Shape.{boxed}
use Rattle.workspace.specs.Rule.{Walls, onto_disc, setpoint, wall_masks, setpoint_masks, unmoved}
use Rattle.workspace.specs.Promises.{AxisTold, MovedAsTold, NoBitPast}
use Rattle.workspace.proofs.Promises as masks
use Rattle.workspace.proofs.Inside.{inward_on, setpoint_long}
use Rattle.brake.specs.Rule.{live, walls_at, is_position, takes_last, sent_row, sent_masks}
use Rattle.brake.specs.Answer.{last_unfit, row_lent, sent_at, masks_sent, brake_sent, brake_refusal, brake_answer, brake_output, hold_sent, hold_refusal, hold_answer, hold_output}
use Rattle.brake.specs.Promises.{bounded, SentWalls}
use Rattle.brake.proofs.Sending.{position_brakes, position_holds, sized}
use Rattle.brake.proofs.Gripped.{own_written}
use Rattle.brake.proofs.Boxed.{positions, sent_zero}

-- ---- the masks, by the kind

module _ (w : Walls) (p : List Float) (n : ℕ) where
  of_velocity : (k : ActionKind) → is_position k ≡ false → sent_masks k w p n ≡ unmoved
  unfolding sent_masks
  of_velocity EePosition h = absurd (false≢true (sym h))
  of_velocity EeDelta h = refl
  of_velocity JointPosition h = absurd (false≢true (sym h))
  of_velocity JointVelocity h = refl
  of_velocity Other h = absurd (false≢true (sym h))

  of_position : (k : ActionKind) → is_position k ≡ true → sent_masks k w p n ≡ wall_masks w (eight p 8) n
  unfolding sent_masks setpoint_masks
  of_position EePosition h = refl
  of_position EeDelta h = absurd (false≢true h)
  of_position JointPosition h = refl
  of_position JointVelocity h = absurd (false≢true h)
  of_position Other h = refl

  none_past : (k : ActionKind) → NoBitPast (sent_masks k w p n) n
  unfolding sent_masks setpoint_masks
  none_past EePosition = (masks.promised).no_bit_past w (eight p 8) n
  none_past EeDelta = λ j l. (no_bits j, no_bits j)
  none_past JointPosition = (masks.promised).no_bit_past w (eight p 8) n
  none_past JointVelocity = λ j l. (no_bits j, no_bits j)
  none_past Other = (masks.promised).no_bit_past w (eight p 8) n

abbrev masks_in : Result WallMasks Refusal → WallMasks
masks_in (Ok m) = m
masks_in (Err r) = unmoved

-- an accepted answer has the masks that are sent
pub masks_of : (k : ℕ) (x m : WallMasks) → sent_at k x ≡ Ok m → m ≡ x
masks_of k x m e = sym (ap masks_in (sym (ap (λ (n : ℕ). sent_at n x) (sent_zero k x m e)) ∙ e))

-- ---- the position, with zeros up to eight

has : (p : List Float) (j : ℕ) → j < length p → j < 8 → at (eight p 8) j ≡ at p j
unfolding eight
has p j h b = padded_at p (min 8 (length p)) j (omega arith) (omega arith)

lacks : (p : List Float) (j : ℕ) → length p ≤ j → j < 8 → at (eight p 8) j ≡ +0
unfolding eight
lacks p j h b = padded_rest p (min 8 (length p)) j (omega arith) b

-- ---- what is written

-- the first min(dim, pos_dim) coordinates lie in their boxes in either mode
live_bounded : (c : FuseConfig) {j : ℕ} → j < live c → j < bounded c
live_bounded c {j} here = go (takes_last c.gripper) refl
  where
    go : (b : Bool) → takes_last c.gripper ≡ b → j < bounded c
    go true e = rw e here
    go false e = rw e (omega arith)

module _ (c : FuseConfig) (p last l : List Float) (m : WallMasks) (narrow : c.dim ≤ 8) (room : c.dim ≤ length l) (em : m ≡ masks_sent binary64 c p) where
  abbrev w : Walls
  w = walls_at binary64 c

  -- the setpoint as it is sent, over the output
  abbrev sent_over : List Float
  sent_over = over (at (sent_row c.gripper c.kind c.pos_dim last (setpoint binary64 w p c.dim).value c.dim)) l c.dim

  sent_masks_lem : m ≡ sent_masks c.kind w p (live c)
  unfolding masks_sent
  sent_masks_lem = em

  module _ (is : is_position c.kind ≡ true) where
    masks_are : m ≡ wall_masks w (eight p 8) (live c)
    masks_are = sent_masks_lem ∙ of_position w p (live c) c.kind is

    told : (j : ℕ) → j < live c → AxisTold w (eight p 8) j m
    told j here = rw masks_are ((masks.promised).axis_told w (eight p 8) (live c) j here)

    -- the setpoint is moved on all of dim coordinates, by the same walls
    told_of_all : (j : ℕ) → j < live c → AxisTold w (eight p 8) j (wall_masks w (eight p 8) c.dim)
    told_of_all j here = (masks.promised).axis_told w (eight p 8) c.dim j (omega arith)

    moved : (j : ℕ) → j < live c → boxed c.shape j ≡ true → MovedAsTold binary64 w (eight p 8) c.dim j
    moved j here = (masks.promised).moved_as_told binary64 w (eight p 8) c.dim j (omega arith) (omega (arith, length_eight p 8))

    module _ (out : List Float) (eo : out ≡ sent_over) where
      written : (j : ℕ) → j < live c → at out j ≡ at (setpoint binary64 w p c.dim).value j
      written j here = ap (λ (x : List Float). at x j) eo ∙ own_written c last (setpoint binary64 w p c.dim).value l narrow room (setpoint_long binary64 w p c.dim) j (live_bounded c here)

      low-wall : (j : ℕ) → j < live c → bit m.low j ≡ true → at out j ≡ at w.lo j
      unfolding setpoint
      low-wall j here e = written j here ∙ (moved j here (and_left (boxed c.shape j) _ (sym (told j here).low_bit ∙ e))).low ((told_of_all j here).low_bit ∙ sym (told j here).low_bit ∙ e)

      high-wall : (j : ℕ) → j < live c → bit m.high j ≡ true → at out j ≡ at w.hi j
      unfolding setpoint
      high-wall j here e = written j here ∙ (moved j here (and_left (boxed c.shape j) _ (sym (told j here).high_bit ∙ e))).high ((told_of_all j here).high_bit ∙ sym (told j here).high_bit ∙ e)

      neither-wall : (j : ℕ) → j < live c → boxed c.shape j ≡ true → bit m.low j ≡ false → bit m.high j ≡ false → at out j ≡ at (eight p 8) j
      unfolding setpoint
      neither-wall j here has e h =
          written j here
          ∙ (moved j here has).neither ((told_of_all j here).low_bit ∙ sym (told j here).low_bit ∙ e) ((told_of_all j here).high_bit ∙ sym (told j here).high_bit ∙ h)

      on-disc : (j : ℕ) → j < live c → boxed c.shape j ≡ false → at out j ≡ at (onto_disc binary64 c.shape (eight p 8)).value j
      unfolding setpoint
      on-disc j here has = written j here ∙ inward_on binary64 w (eight p 8) c.dim j (omega arith) (omega (arith, length_eight p 8)) has

  -- without a box there is no bit, whichever the kind
  no_bit : (j : ℕ) → j < live c → boxed c.shape j ≡ false → (b : Bool) → is_position c.kind ≡ b → (bit m.low j ≡ false) × (bit m.high j ≡ false)
  no_bit j here has true is = let t = told is j here in (t.low_bit ∙ rw has, t.high_bit ∙ rw has)
  no_bit j here has false is = let e = sent_masks_lem ∙ of_velocity w p (live c) c.kind is in rw e (no_bits j, no_bits j)

  sent_walls : (out : List Float) → (is_position c.kind ≡ true → out ≡ sent_over) → SentWalls c p m out
  sent_walls out eo = record {
    velocity_none = λ h. sent_masks_lem ∙ of_velocity w p (live c) c.kind h;
    each_axis = told;
    none_past = rw sent_masks_lem (none_past w p (live c) c.kind);
    where_it_has = has p;
    where_it_lacks = lacks p;
    no_bit_without_a_box = λ j here has. no_bit j here has (is_position c.kind) refl;
    where_the_disc_puts_it = λ is. on-disc is out (eo is);
    at_low_wall = λ is. low-wall is out (eo is);
    at_high_wall = λ is. high-wall is out (eo is);
    at_neither = λ is. neither-wall is out (eo is);
  }

-- ---- brake and hold

module _ (c : FuseConfig) (tabs : Tables) (p last l : List Float) (m : WallMasks) where
  pub brake_walls : (v : List Float) → brake_answer binary64 c tabs p v last (length l) ≡ Ok m → SentWalls c p m (brake_output binary64 c tabs p v last l)
  unfolding brake_answer brake_output brake_refusal brake_sent
  brake_walls v done =
      let k = brake_refusal binary64 c tabs p v last (length l) in
      let z = sent_zero k (masks_sent binary64 c p) m done in
      let unfit = some_not_finite p || some_not_finite v || last_unfit c.gripper last in
      let passed = (both_pass (config_judged binary64 c tabs ++ row_lent c unfit (length l) (length last)) ((computed when not (brake_sent binary64 c p v last).sound) ∷ []) z).0 in
      let sizes = sized binary64 c tabs unfit (length l) (length last) passed in
      sent_walls c p last l m sizes.0 sizes.1 (masks_of k (masks_sent binary64 c p) m done) _
      (λ is. rw (z, position_brakes (walls_at binary64 c) p c.dim binary64 c.limits.a_max c.limits.dt v c.kind (positions c.kind is)))

  pub hold_walls : hold_answer binary64 c tabs p last (length l) ≡ Ok m → SentWalls c p m (hold_output binary64 c tabs p last l)
  unfolding hold_answer hold_output hold_refusal hold_sent
  hold_walls done =
      let k = hold_refusal binary64 c tabs p last (length l) in
      let z = sent_zero k (masks_sent binary64 c p) m done in
      let unfit = some_not_finite p || last_unfit c.gripper last in
      let passed = (both_pass (config_judged binary64 c tabs ++ row_lent c unfit (length l) (length last)) ((computed when not (hold_sent binary64 c p last).sound) ∷ []) z).0 in
      let sizes = sized binary64 c tabs unfit (length l) (length last) passed in
      sent_walls c p last l m sizes.0 sizes.1 (masks_of k (masks_sent binary64 c p) m done) _
      (λ is. rw (z, position_holds (walls_at binary64 c) p c.dim binary64 c.kind (positions c.kind is)))
