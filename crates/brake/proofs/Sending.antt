-- A kind that is none of the velocity kinds; the whole answer, by the row that is sent; and that hold, with a box, never gives 13.
use Rattle.std.specs.Prelude.{Err, Ok, Result}
use Prim.Native.Nat.{ℕ, zero, suc, min, ◌≤◌}
use mathlib.Core.Path.{◌≡◌, refl, sym, ap, ◌∙◌}
use mathlib.Core.Bool.{Bool, true, false, not, ◌&&◌, ◌||◌, false≢true}
use mathlib.Core.Logic.{◌⊎◌, inl, inr}
use mathlib.Core.List.{List, [], ◌∷◌, ◌++◌}
use native.Mathlib.Omega.{arith}
use types.Run.{OneOf}
use denote.Enum.Declared.{tag_of}
use borrow.Author.Tests.{ltb-false}
use lib.Dec.{ltb}
use lib.ListN.{length}
use lib.Ieee.{Float, Format}
use Rattle.refusal.specs.Order.{Reason, Judged, short, not_finite, computed, ◌when◌, among, refusal, refused_for}
use Rattle.refusal.specs.Exactly.{First, here, later, exactly_first}
use Rattle.refusal.specs.Chain.{both_pass, passes_at}
use Rattle.refusal.proofs.Entry.{Answered, by_lent, by-computed}
use Rattle.refusal.proofs.Entry as entry
use Rattle.refusal.specs.declared.Refusal.{Refusal}
use Rattle.fmath.specs.Answer.{some_not_finite}
use Rattle.checked.specs.Each.{at, over}
use Rattle.checked.specs.Checked.{Checked}
use Rattle.checked.proofs.Copy.{all_put}
use Rattle.checked.proofs.Each.{neither}
use Rattle.conformal.specs.Rule.{Tables}
use Rattle.envelope.specs.Refusals.{config_judged}
use Rattle.envelope.specs.declared.ActionKind.{ActionKind}
use Rattle.envelope.specs.declared.ActionKind.TheVariants.{EePosition, EeDelta, JointPosition, JointVelocity, Other}
use Rattle.envelope.specs.declared.FuseConfig.{FuseConfig}
use Rattle.envelope.specs.declared.Gripper.{Gripper}
use Rattle.envelope.specs.contracts.ActionKind as kind
use Rattle.envelope.proofs.Accepted.{accepted, dim_most}
use Rattle.workspace.specs.declared.Shape.TheVariants.{Box}
use Rattle.workspace.specs.declared.WallMasks.{WallMasks}
use Rattle.workspace.specs.Rule.{Walls, setpoint, setpoint_masks, unmoved}
use Rattle.workspace.specs.Of.{walls_of}
use Rattle.workspace.specs.declared.Workspace.{Workspace}
use Rattle.workspace.proofs.Inside.{setpoint_sound}
use Rattle.checked.specs.declared.Row.{Row}
use Rattle.brake.specs.Rule.{live, walls_at, brake_row, hold_row, takes_last, sent_masks}
use Rattle.brake.specs.Of.{workspace_for, row_sent_for}
use Rattle.checked.specs.Of.{row_from}
use Rattle.brake.specs.Answer.{last_short, last_unfit, row_lent, sent_at, masks_sent, brake_sent, brake_refusal, hold_sent, hold_refusal, hold_answer}

-- ---- position kinds

abbrev pub Position : ActionKind → Type 0
Position k = OneOf (0 ∷ 2 ∷ 4 ∷ []) (tag_of kind.the_type k)

-- neither of the two velocity kinds
pub position_of : (k : ActionKind) → (k ≡ JointVelocity → ⊥) → (k ≡ EeDelta → ⊥) → Position k
position_of EePosition a b = inl refl
position_of EeDelta a b = absurd (b refl)
position_of JointPosition a b = inr (inl refl)
position_of JointVelocity a b = absurd (a refl)
position_of Other a b = inr (inr refl)

-- what holds of each of the three holds of any
pub by_position : (P : ActionKind → Type 0) → P EePosition → P JointPosition → P Other → (k : ActionKind) → Position k → P k
by_position P a b c EePosition h = a
by_position P a b c JointPosition h = b
by_position P a b c Other h = c
by_position P a b c EeDelta (inl e) = absurd (let z : ⊥ = omega arith in z)
by_position P a b c EeDelta (inr (inl e)) = absurd (let z : ⊥ = omega arith in z)
by_position P a b c EeDelta (inr (inr e)) = absurd (let z : ⊥ = omega arith in z)
by_position P a b c JointVelocity (inl e) = absurd (let z : ⊥ = omega arith in z)
by_position P a b c JointVelocity (inr (inl e)) = absurd (let z : ⊥ = omega arith in z)
by_position P a b c JointVelocity (inr (inr e)) = absurd (let z : ⊥ = omega arith in z)

module _ (w : Walls) (p : List Float) (n : ℕ) where
  pub position_brakes : (f : Format) (a dt : Float) (v : List Float) (k : ActionKind) → Position k → brake_row f k a dt w p v n ≡ setpoint f w p n
  unfolding brake_row
  position_brakes f a dt v = by_position (λ (k : ActionKind). brake_row f k a dt w p v n ≡ setpoint f w p n) refl refl refl

  pub position_holds : (f : Format) (k : ActionKind) → Position k → hold_row f k w p n ≡ setpoint f w p n
  unfolding hold_row
  position_holds f = by_position (λ (k : ActionKind). hold_row f k w p n ≡ setpoint f w p n) refl refl refl

-- ---- the whole answer

-- a last command that is not too short, in the mode in which it is an argument
long_enough : (g : Gripper) (dim given : ℕ) → last_short g dim given ≡ false → takes_last g ≡ true → dim ≤ given
unfolding last_short
long_enough g dim given e takes = ltb-false given dim (sym (ap (λ (b : Bool). b && ltb given dim) takes) ∙ e)

module _ (f : Format) (c : FuseConfig) (tabs : Tables) (unfit : Bool) (room given : ℕ) where
  -- what is judged before the row is computed
  abbrev before : List Judged
  before = config_judged f c tabs ++ row_lent c unfit room given

  -- an accepted row is narrow, the output has room for it, and so has the last command where it is an argument
  pub sized : refusal before ≡ 0 → (c.dim ≤ 8) × (c.dim ≤ room) × (takes_last c.gripper ≡ true → c.dim ≤ given)
  sized z =
      let w = both_pass (config_judged f c tabs) (row_lent c unfit room given) z in
      let a = passes_at short (ltb room c.dim || last_short c.gripper c.dim given) ((not_finite when unfit) ∷ []) w.1 in
      let n = neither (ltb room c.dim) (last_short c.gripper c.dim given) a.0 in
      (dim_most f c tabs (accepted f c tabs w.0), ltb-false room c.dim n.0, long_enough c.gripper c.dim given n.1)

-- all of a row of eight is put over an output with room for dim numbers
all_sent : (f : Format) (c : FuseConfig) (tabs : Tables) (unfit : Bool) (given : ℕ) (row l : List Float) → refusal (before f c tabs unfit (length l) given) ≡ 0 → length row ≡ 8 → {m : List Float} → m ≡ over (at row) l (min c.dim (min (length row) (length l))) → m ≡ over (at row) l c.dim
all_sent f c tabs unfit given row l z long = let w = sized f c tabs unfit (length l) given z in all_put l row (omega (arith, w.0)) w.1

module _ (f : Format) (c : FuseConfig) (tabs : Tables) (given : ℕ) (l : List Float) {bad unfit : Bool} (ef : bad ≡ unfit) (x : Checked (List Float)) (done : Result WallMasks Refusal) {k : ℕ}
    (ek : k ≡ refusal (config_judged f c tabs ++ (row_lent c unfit (length l) given ++ ((computed when not x.sound) ∷ [])))) where
  abbrev judged : List Judged
  judged = before f c tabs unfit (length l) given

  abbrev written : List Float
  written = over (at x.value) l c.dim

  same_judged : refusal (before f c tabs bad (length l) given) ≡ refusal judged
  same_judged = ap (λ (b : Bool). refusal (before f c tabs b (length l) given)) ef

  pub row_refused : {j : ℕ} → j ≡ refusal (before f c tabs bad (length l) given) → (j ≡ 0 → ⊥) → {r : Refusal} → r ≡ refused_for j → Answered Err done l written k (Err r) l
  row_refused g = by_lent Err done l written judged x.sound ek (g ∙ same_judged)

  module _ (z : refusal (before f c tabs bad (length l) given) ≡ 0) {row : Row} (er : row ≡ row_from x) where
    passed : refusal judged ≡ 0
    passed = sym same_judged ∙ z

    sound_is : row.sound ≡ x.sound
    sound_is = ap (λ (y : Row). y.sound) er

    pub row_unsound : row.sound ≡ false → {r : Refusal} → r ≡ refused_for 13 → Answered Err done l written k (Err r) l
    row_unsound = by-computed Err done l written judged x.sound ek passed sound_is

    pub row_done : row.sound ≡ true → length row.at ≡ 8 → {m : List Float} → m ≡ over (at row.at) l (min c.dim (min (length row.at) (length l))) → {r : Result WallMasks Refusal} → r ≡ done → Answered Err done l written k r m
    row_done y long i e = entry.accepted Err done l written judged x.sound ek passed sound_is y e (all_sent f c tabs bad given row.at l z long i ∙ rw er)

-- a refused answer names the number that it was refused with
abbrev number_in : Result WallMasks Refusal → ℕ
number_in (Ok m) = 0
number_in (Err r) = r.number

sent_number_lem : (k : ℕ) (m : WallMasks) {r : Refusal} → sent_at k m ≡ Err r → k ≡ r.number
sent_number_lem zero m e = ap number_in e
sent_number_lem (suc k) m e = ap number_in e

-- where a number is given its reason applies
first_applies : (applies : Reason → Bool) {l : List Reason} {k : Reason} → First applies l k → applies k ≡ true
first_applies applies (here e) = e
first_applies applies (later e h) = first_applies applies h

-- ---- the walls that move the row, by its kind

module _ (w : Walls) (p : List Float) (n : ℕ) {m : WallMasks} where
  pub velocity_unmoved : (k : ActionKind) → (k ≡ JointVelocity) ⊎ (k ≡ EeDelta) → m ≡ unmoved → m ≡ sent_masks k w p n
  unfolding sent_masks
  velocity_unmoved k (inl e) h = rw e h
  velocity_unmoved k (inr e) h = rw e h

  pub position_masks : (k : ActionKind) → Position k → m ≡ setpoint_masks w p n → m ≡ sent_masks k w p n
  unfolding sent_masks
  position_masks = by_position (λ (k : ActionKind). m ≡ setpoint_masks w p n → m ≡ sent_masks k w p n) (λ e. e) (λ e. e) (λ e. e)

-- the masks that are sent are those at the derived walls
pub masks_are_sent : (f : Format) (c : FuseConfig) (p : List Float) {w : Workspace} {m : WallMasks} → w ≡ workspace_for f c → m ≡ sent_masks c.kind (walls_of w) p (live c) → ◌≡◌ {A = Result WallMasks Refusal} (Ok m) (Ok (masks_sent f c p))
unfolding masks_sent
masks_are_sent f c p ew em = rw (em, ew)

-- ---- brake and hold, each by its row

module _ (f : Format) (c : FuseConfig) (p v last : List Float) where
  pub brake_judged : (tabs : Tables) (room : ℕ)
      → brake_refusal f c tabs p v last room ≡ refusal (config_judged f c tabs ++ (row_lent c (some_not_finite p || some_not_finite v || last_unfit c.gripper last) room (length last) ++ ((computed when not (brake_sent f c p v last).sound) ∷ [])))
  unfolding brake_refusal
  brake_judged tabs room = refl

  pub brake_is_sent : {w : Workspace} {made row : Row} → w ≡ workspace_for f c
      → made ≡ row_from (brake_row f c.kind c.limits.a_max c.limits.dt (walls_of w) p v c.dim)
      → row ≡ row_sent_for c.gripper c.kind c.pos_dim last made c.dim
      → row ≡ row_from (brake_sent f c p v last)
  unfolding brake_sent
  brake_is_sent ew em er = rw (em, ew) at er

module _ (f : Format) (c : FuseConfig) (p last : List Float) where
  abbrev hold_judges : Tables → ℕ → List Judged
  hold_judges tabs room = config_judged f c tabs ++ (row_lent c (some_not_finite p || last_unfit c.gripper last) room (length last) ++ ((computed when not (hold_sent f c p last).sound) ∷ []))

  pub hold_judged : (tabs : Tables) (room : ℕ) → hold_refusal f c tabs p last room ≡ refusal (hold_judges tabs room)
  unfolding hold_refusal
  hold_judged tabs room = refl

  pub hold_is_sent : {w : Workspace} {made row : Row} → w ≡ workspace_for f c
      → made ≡ row_from (hold_row f c.kind (walls_of w) p c.dim)
      → row ≡ row_sent_for c.gripper c.kind c.pos_dim last made c.dim
      → row ≡ row_from (hold_sent f c p last)
  unfolding hold_sent
  hold_is_sent ew em er = rw (em, ew) at er

  -- with a box hold computes nothing
  held_sound : (w : Walls) → w.shape ≡ Box → (n : ℕ) (k : ActionKind) → (hold_row f k w p n).sound ≡ true
  unfolding hold_row
  held_sound w box n EePosition = setpoint_sound f w p n box
  held_sound w box n EeDelta = refl
  held_sound w box n JointPosition = setpoint_sound f w p n box
  held_sound w box n JointVelocity = refl
  held_sound w box n Other = setpoint_sound f w p n box

  -- so it is never refused with 13
  pub hold_never_13 : c.shape ≡ Box → (tabs : Tables) (room : ℕ) → hold_refusal f c tabs p last room ≡ 13 → ⊥
  unfolding hold_sent
  hold_never_13 box tabs room e =
      let judges = among (hold_judges tabs room) in
      false≢true (sym (ap not (held_sound (walls_at f c) box c.dim c.kind)) ∙ first_applies judges ((exactly_first judges computed).1 (sym (hold_judged tabs room) ∙ e)))

  -- nor does its answer name it
  pub hold_at_a_box : c.shape ≡ Box → (tabs : Tables) (room : ℕ) {r : Refusal} → hold_answer f c tabs p last room ≡ Err r → r.number ≡ 13 → ⊥
  unfolding hold_answer
  hold_at_a_box box tabs room e n = hold_never_13 box tabs room (sent_number_lem (hold_refusal f c tabs p last room) (masks_sent f c p) e ∙ n)
