-- Brake and hold in both modes of the gripper. What is judged differs by the last command alone, which only one mode has, and the row by what is sent past pos_dim; so each statement
-- is shown once, of any row x that a call makes and of whether some number of its position or velocity is not finite.
use Prim.Native.Nat.{ℕ, ◌≤◌, ◌<◌}
use mathlib.Core.Path.{◌≡◌, refl, sym, ap, subst, ◌∙◌}
use mathlib.Core.Bool.{Bool, true, false, not, ◌||◌, or-false}
use mathlib.Core.List.{List, [], ◌∷◌, ◌++◌}
use native.Mathlib.Omega.{arith}
use native.Mathlib.Nat.{lt_of_not-le}
use native.Mathlib.Decide.{dec_le}
use borrow.Author.Tests.{ltb-false, le-ltb, lt-ltb, not-false}
use lib.Dec.{ltb}
use lib.ListN.{length}
use lib.Ieee.{Float, binary64}
use Rattle.std.specs.Prelude.{if◌then◌else◌, Ok}
use Rattle.refusal.specs.Order.{Judged, short, not_finite, computed, ◌when◌, refusal}
use Rattle.refusal.specs.Chain.{chain, first_passes, both_pass, passes_at}
use Rattle.fmath.specs.Answer.{some_not_finite}
use Rattle.checked.specs.Each.{at, over}
use Rattle.checked.specs.Checked.{Checked}
use Rattle.checked.proofs.Each.{neither, over_at, over_keeps, length_over}
use Rattle.conformal.specs.Rule.{Tables}
use Rattle.envelope.specs.Refusals.{config_judged}
use Rattle.envelope.specs.Promises.{gripped_by}
use Rattle.envelope.specs.declared.FuseConfig.{FuseConfig}
use Rattle.envelope.specs.declared.Gripper.{Gripper}
use Rattle.envelope.specs.declared.Gripper.TheVariants.{ToZero, LastCommand}
use Rattle.envelope.proofs.Accepted.{accepted, dim_most}
use Rattle.envelope.proofs.Promises as config
use Rattle.workspace.specs.declared.WallMasks.{WallMasks}
use Rattle.workspace.proofs.Inside.{setpoint_long}
use Rattle.brake.specs.Rule.{walls_at, is_position, sent_row}
use Rattle.brake.specs.Answer.{last_short, last_unfit, row_lent, sent_at, row_at, masks_sent, brake_made, brake_sent, brake_refusal, brake_answer, brake_output, hold_made, hold_sent, hold_refusal, hold_answer, hold_output}
use Rattle.brake.specs.NoMode as noMode
use Rattle.brake.specs.Promises.{InBothModes, BrakesInBoth, HoldsInBoth, LastJudged, AsWithoutMode}
use Rattle.brake.proofs.Sending.{position_brakes, position_holds}
use Rattle.brake.proofs.Gripped.{last_written, own_written, row_elsewhere, row_within_lem}
use Rattle.brake.proofs.Boxed.{sent_zero, positions}
use Rattle.brake.proofs.Walled.{masks_of}

-- ---- three tests after those of the configuration

module _ (l : List Judged) (a b s : Bool) where
  -- where the configuration passes, the first of the three gives its number
  by_tests : chain l ≡ 0 → chain (l ++ ((short when a) ∷ (not_finite when b) ∷ (computed when not s) ∷ [])) ≡ (if a then 11 else if b then 12 else if not s then 13 else 0)
  by_tests = first_passes l ((short when a) ∷ (not_finite when b) ∷ (computed when not s) ∷ [])

  -- nothing is refused only where each passes
  each_passes : chain (l ++ ((short when a) ∷ (not_finite when b) ∷ (computed when not s) ∷ [])) ≡ 0 → (chain l ≡ 0) × (a ≡ false) × (b ≡ false) × (s ≡ true)
  each_passes z =
      let w = both_pass l ((short when a) ∷ (not_finite when b) ∷ (computed when not s) ∷ []) z in
      let x = passes_at short a ((not_finite when b) ∷ (computed when not s) ∷ []) w.1 in
      let y = passes_at not_finite b ((computed when not s) ∷ []) x.1 in
      (w.0, x.0, y.0, not-false s (passes_at computed (not s) [] y.1).0)

-- ---- one call

-- what is judged before anything that is lent
abbrev tests : FuseConfig → Tables → List Judged
tests c tabs = config_judged binary64 c tabs

module _ (c : FuseConfig) (tabs : Tables) (measured : Bool) (x : Checked (List Float)) where
  -- the number in either mode
  abbrev number_in : Gripper → List Float → ℕ → ℕ
  number_in g last room =
      refusal (tests c tabs ++ ((short when (ltb room c.dim || last_short g c.dim (length last))) ∷ (not_finite when (measured || last_unfit g last)) ∷ (computed when not x.sound) ∷ []))

  -- the configuration is judged alike in both
  judged_in : (g : Gripper) (last : List Float) (room : ℕ)
      → refusal (config_judged binary64 (gripped_by c g) tabs ++ (row_lent (gripped_by c g) (measured || last_unfit g last) room (length last) ++ ((computed when not x.sound) ∷ []))) ≡ number_in g last room
  judged_in g last room =
      ap (λ (l : List Judged). refusal (l ++ (row_lent (gripped_by c g) (measured || last_unfit g last) room (length last) ++ ((computed when not x.sound) ∷ [])))) ((config.promised).either_mode binary64 c tabs g)

  -- what is known of an accepted call in the mode that has the last command
  record Passed (last : List Float) (room : ℕ) : Type 0 where
    configured : refusal (tests c tabs) ≡ 0
    roomy : c.dim ≤ room
    long : c.dim ≤ length last
    finite : some_not_finite last ≡ false

  passed : (last : List Float) (room : ℕ) → number_in LastCommand last room ≡ 0 → Passed last room
  unfolding last_short last_unfit
  passed last room z =
      let w = each_passes (tests c tabs) (ltb room c.dim || ltb (length last) c.dim) (measured || some_not_finite last) x.sound z in
      let lengths = neither (ltb room c.dim) (ltb (length last) c.dim) w.1 in
      record {
        configured = w.0;
        roomy = ltb-false room c.dim lengths.0;
        long = ltb-false (length last) c.dim lengths.1;
        finite = (neither measured (some_not_finite last) w.2).1;
      }

  -- with a last command that is long enough and finite the number is the Rust's, whatever is lent there
  same_number : (last other : List Float) (room : ℕ) → c.dim ≤ length last → some_not_finite last ≡ false → number_in LastCommand last room ≡ number_in ToZero other room
  unfolding last_short last_unfit
  same_number last other room long finite = rw (le-ltb (length last) c.dim long, finite)

  -- in the Rust's mode no last command is judged or sent
  without_mode : (masks : WallMasks) (last l : List Float) → c.gripper ≡ ToZero → {k n : ℕ} → k ≡ number_in c.gripper last (length l)
      → n ≡ refusal (tests c tabs ++ ((short when ltb (length l) c.dim) ∷ (not_finite when measured) ∷ (computed when not x.sound) ∷ []))
      → AsWithoutMode (sent_at k masks) (sent_at n masks) (row_at k (sent_row c.gripper c.kind c.pos_dim last x.value c.dim) c.dim l) (row_at n x.value c.dim l)
  unfolding last_short last_unfit
  without_mode masks last l e {k} {n} ek en =
      let judged : number_in ToZero last (length l) ≡ n = rw (or-false (ltb (length l) c.dim), or-false measured) (sym en) in
      let same : k ≡ n = ek ∙ ap (λ (g : Gripper). number_in g last (length l)) e ∙ judged in
      let row = row_elsewhere ToZero c.kind c.pos_dim last x.value refl c.dim in
      record { same_answer = rw same; same_output = rw (same, e, row) }

-- ---- an accepted call beside the same in the Rust's mode

module _ (c : FuseConfig) (tabs : Tables) (measured : Bool) (x : Checked (List Float)) (last other l : List Float) {k n : ℕ}
    (ek : k ≡ number_in c tabs measured x LastCommand last (length l)) (en : n ≡ number_in c tabs measured x ToZero other (length l)) (z : k ≡ 0) (eight : is_position c.kind ≡ true → length x.value ≡ 8) where
  abbrev out : List Float
  out = row_at k (sent_row LastCommand c.kind c.pos_dim last x.value c.dim) c.dim l

  abbrev left : List Float
  left = row_at n (sent_row ToZero c.kind c.pos_dim other x.value c.dim) c.dim l

  known : Passed c tabs measured x last (length l)
  known = passed c tabs measured x last (length l) (sym ek ∙ z)

  there : n ≡ 0
  there = en ∙ sym (same_number c tabs measured x last other (length l) known.long known.finite) ∙ sym ek ∙ z

  narrow : c.dim ≤ 8
  narrow = dim_most binary64 c tabs (accepted binary64 c tabs known.configured)

  out_is : out ≡ over (at (sent_row LastCommand c.kind c.pos_dim last x.value c.dim)) l c.dim
  out_is = rw z

  left_is : left ≡ over (at x.value) l c.dim
  left_is = rw (there, row_elsewhere ToZero c.kind c.pos_dim other x.value refl c.dim)

  velocities : is_position c.kind ≡ false → out ≡ left
  velocities e = out_is ∙ rw (row_elsewhere LastCommand c.kind c.pos_dim last x.value e c.dim) (sym left_is)

  without : c.dim ≤ c.pos_dim → out ≡ left
  without few = out_is ∙ rw (row_within_lem LastCommand c.kind c.pos_dim last x.value c.dim few) (sym left_is)

  rest : (j : ℕ) → c.dim ≤ j → at out j ≡ at l j
  rest j past = ap (λ (a : List Float). at a j) out_is ∙ over_keeps _ l c.dim j past

  within : (j : ℕ) → j < c.pos_dim → (b : Bool) → is_position c.kind ≡ b → at out j ≡ at left j
  within j own false e = ap (λ (a : List Float). at a j) (velocities e)
  within j own true e = go (dec_le c.dim j)
    where
      go : Dec (c.dim ≤ j) → at out j ≡ at left j
      go (yes past) = rest j past ∙ sym (ap (λ (a : List Float). at a j) left_is ∙ over_keeps _ l c.dim j past)
      go (no before) =
          let here = lt_of_not-le before in
          ap (λ (a : List Float). at a j) out_is
          ∙ own_written (gripped_by c LastCommand) last x.value l narrow known.roomy (eight e) j (omega arith)
          ∙ sym (ap (λ (a : List Float). at a j) left_is ∙ over_at (at x.value) l c.dim j here (omega (arith, known.roomy)))

  in_both : (masks m : WallMasks) → m ≡ masks → InBothModes c last l m out (sent_at n masks) left
  in_both masks m em = record {
    accepted_there = rw (there, em);
    keeps_last = λ is j past here. ap (λ (a : List Float). at a j) out_is ∙ last_written (gripped_by c LastCommand) last x.value l narrow known.roomy (eight is) j is past here;
    same_within = λ j own. within j own (is_position c.kind) refl;
    same_velocities = velocities;
    same_without_axes_past = without;
    rest_kept = rest;
    as_long = ap length out_is ∙ length_over _ l c.dim;
  }

-- ---- what the mode that has the last command answers beside the Rust's: its last command decides

module _ (c : FuseConfig) (tabs : Tables) (measured : Bool) (x : Checked (List Float)) (masks : WallMasks) (last other : List Float) (room : ℕ) {k n : ℕ}
    (ek : k ≡ number_in c tabs measured x LastCommand last room) (en : n ≡ number_in c tabs measured x ToZero other room) where
  there_passed : (m : WallMasks) → sent_at n masks ≡ Ok m → (refusal (tests c tabs) ≡ 0) × (ltb room c.dim ≡ false) × (measured ≡ false) × (x.sound ≡ true)
  unfolding last_short last_unfit
  there_passed m done =
      let w = each_passes (tests c tabs) (ltb room c.dim || false) (measured || false) x.sound (sym en ∙ sent_zero n masks m done) in
      (w.0, sym (or-false (ltb room c.dim)) ∙ w.1, sym (or-false measured) ∙ w.2, w.3)

  by_last : (m : WallMasks) → sent_at n masks ≡ Ok m → (a b : Bool) → ltb (length last) c.dim ≡ a → some_not_finite last ≡ b → k ≡ (if a then 11 else if b then 12 else 0)
  unfolding last_short last_unfit
  by_last m done a b few unfit =
      let w = there_passed m done in
      ek ∙ by_tests (tests c tabs) (ltb room c.dim || ltb (length last) c.dim) (measured || some_not_finite last) x.sound w.0 ∙ rw (w.1, w.2, w.3, few, unfit)

  last_judged : LastJudged c last (sent_at n masks) (sent_at k masks)
  last_judged = record {
    where_fit = λ long finite. ap (λ (i : ℕ). sent_at i masks) (ek ∙ same_number c tabs measured x last other room long finite ∙ sym en);
    where_short = λ m done few. rw (by_last m done true (some_not_finite last) (lt-ltb (length last) c.dim few) refl);
    where_not_finite = λ m done long unfit. rw (by_last m done false true (le-ltb (length last) c.dim long) unfit);
    enough_long = λ m done. (passed c tabs measured x last room (sym ek ∙ sent_zero k masks m done)).long;
    each_finite = λ m done. (passed c tabs measured x last room (sym ek ∙ sent_zero k masks m done)).finite;
  }

-- ---- brake and hold

-- a configuration in the mode that has the last command is itself with that mode
in_its_mode : (c : FuseConfig) → c.gripper ≡ LastCommand → gripped_by c LastCommand ≡ c
in_its_mode c e = ap (gripped_by c) (sym e)

module _ (c : FuseConfig) (tabs : Tables) (p v last : List Float) where
  brake_long : is_position c.kind ≡ true → length (brake_made binary64 c p v).value ≡ 8
  brake_long is =
      ap (λ (x : Checked (List Float)). length x.value) (position_brakes (walls_at binary64 c) p c.dim binary64 c.limits.a_max c.limits.dt v c.kind (positions c.kind is))
      ∙ setpoint_long binary64 (walls_at binary64 c) p c.dim

  -- what is shown, of a configuration d that is c in some mode
  abbrev BrakesBy : FuseConfig → List Float → List Float → Type 0
  BrakesBy d other l =
      (m : WallMasks) → brake_answer binary64 d tabs p v last (length l) ≡ Ok m
      → InBothModes c last l m (brake_output binary64 d tabs p v last l) (brake_answer binary64 (gripped_by c ToZero) tabs p v other (length l)) (brake_output binary64 (gripped_by c ToZero) tabs p v other l)

  brakes_by : (other l : List Float) → BrakesBy (gripped_by c LastCommand) other l
  unfolding brake_answer brake_output brake_refusal brake_sent masks_sent
  brakes_by other l m done =
      let k = brake_refusal binary64 (gripped_by c LastCommand) tabs p v last (length l) in
      let sent = masks_sent binary64 c p in
      let judged = judged_in c tabs (some_not_finite p || some_not_finite v) (brake_made binary64 c p v) in
      in_both c tabs (some_not_finite p || some_not_finite v) (brake_made binary64 c p v) last other l (judged LastCommand last (length l)) (judged ToZero other (length l)) (sent_zero k sent m done) brake_long sent m (masks_of k sent m done)

  pub brakes_in_both : c.gripper ≡ LastCommand → (other l : List Float) → BrakesInBoth c tabs p v last other l
  brakes_in_both e other l = subst (λ (d : FuseConfig). BrakesBy d other l) (in_its_mode c e) (brakes_by other l)

  brake_by : (other : List Float) (room : ℕ) → LastJudged c last (brake_answer binary64 (gripped_by c ToZero) tabs p v other room) (brake_answer binary64 (gripped_by c LastCommand) tabs p v last room)
  unfolding brake_answer brake_refusal brake_sent masks_sent
  brake_by other room =
      let judged = judged_in c tabs (some_not_finite p || some_not_finite v) (brake_made binary64 c p v) in
      last_judged c tabs (some_not_finite p || some_not_finite v) (brake_made binary64 c p v) (masks_sent binary64 c p) last other room (judged LastCommand last room) (judged ToZero other room)

  pub brake_last : c.gripper ≡ LastCommand → (other : List Float) (room : ℕ) → LastJudged c last (brake_answer binary64 (gripped_by c ToZero) tabs p v other room) (brake_answer binary64 c tabs p v last room)
  brake_last e other room =
      subst (λ (d : FuseConfig). LastJudged c last (brake_answer binary64 (gripped_by c ToZero) tabs p v other room) (brake_answer binary64 d tabs p v last room)) (in_its_mode c e) (brake_by other room)

  pub brake_as_rust : c.gripper ≡ ToZero → (l : List Float) → AsWithoutMode (brake_answer binary64 c tabs p v last (length l)) (noMode.brake_answer binary64 c tabs p v (length l)) (brake_output binary64 c tabs p v last l) (noMode.brake_output binary64 c tabs p v l)
  unfolding brake_answer brake_output brake_refusal brake_sent
  brake_as_rust e l = without_mode c tabs (some_not_finite p || some_not_finite v) (brake_made binary64 c p v) (masks_sent binary64 c p) last l e refl refl

module _ (c : FuseConfig) (tabs : Tables) (p last : List Float) where
  hold_long : is_position c.kind ≡ true → length (hold_made binary64 c p).value ≡ 8
  hold_long is =
      ap (λ (x : Checked (List Float)). length x.value) (position_holds (walls_at binary64 c) p c.dim binary64 c.kind (positions c.kind is))
      ∙ setpoint_long binary64 (walls_at binary64 c) p c.dim

  -- what is shown, of a configuration d that is c in some mode
  abbrev HoldsBy : FuseConfig → List Float → List Float → Type 0
  HoldsBy d other l =
      (m : WallMasks) → hold_answer binary64 d tabs p last (length l) ≡ Ok m
      → InBothModes c last l m (hold_output binary64 d tabs p last l) (hold_answer binary64 (gripped_by c ToZero) tabs p other (length l)) (hold_output binary64 (gripped_by c ToZero) tabs p other l)

  holds_by : (other l : List Float) → HoldsBy (gripped_by c LastCommand) other l
  unfolding hold_answer hold_output hold_refusal hold_sent masks_sent
  holds_by other l m done =
      let k = hold_refusal binary64 (gripped_by c LastCommand) tabs p last (length l) in
      let sent = masks_sent binary64 c p in
      let judged = judged_in c tabs (some_not_finite p) (hold_made binary64 c p) in
      in_both c tabs (some_not_finite p) (hold_made binary64 c p) last other l (judged LastCommand last (length l)) (judged ToZero other (length l)) (sent_zero k sent m done) hold_long sent m (masks_of k sent m done)

  pub holds_in_both : c.gripper ≡ LastCommand → (other l : List Float) → HoldsInBoth c tabs p last other l
  holds_in_both e other l = subst (λ (d : FuseConfig). HoldsBy d other l) (in_its_mode c e) (holds_by other l)

  hold_by : (other : List Float) (room : ℕ) → LastJudged c last (hold_answer binary64 (gripped_by c ToZero) tabs p other room) (hold_answer binary64 (gripped_by c LastCommand) tabs p last room)
  unfolding hold_answer hold_refusal hold_sent masks_sent
  hold_by other room =
      let judged = judged_in c tabs (some_not_finite p) (hold_made binary64 c p) in
      last_judged c tabs (some_not_finite p) (hold_made binary64 c p) (masks_sent binary64 c p) last other room (judged LastCommand last room) (judged ToZero other room)

  pub hold_last : c.gripper ≡ LastCommand → (other : List Float) (room : ℕ) → LastJudged c last (hold_answer binary64 (gripped_by c ToZero) tabs p other room) (hold_answer binary64 c tabs p last room)
  hold_last e other room =
      subst (λ (d : FuseConfig). LastJudged c last (hold_answer binary64 (gripped_by c ToZero) tabs p other room) (hold_answer binary64 d tabs p last room)) (in_its_mode c e) (hold_by other room)

  pub hold_as_rust : c.gripper ≡ ToZero → (l : List Float) → AsWithoutMode (hold_answer binary64 c tabs p last (length l)) (noMode.hold_answer binary64 c tabs p (length l)) (hold_output binary64 c tabs p last l) (noMode.hold_output binary64 c tabs p l)
  unfolding hold_answer hold_output hold_refusal hold_sent
  hold_as_rust e l = without_mode c tabs (some_not_finite p) (hold_made binary64 c p) (masks_sent binary64 c p) last l e refl refl
