-- An action: what is known where nothing that is lent is refused, and the whole answer in each case.
use Rattle.std.specs.Prelude.{Err, Result}
use Prim.Native.Nat.{ℕ, ◌≤◌, min}
use mathlib.Core.Path.{◌≡◌, refl, ap, ◌∙◌}
use mathlib.Core.Bool.{Bool, true, false, not, ◌||◌}
use mathlib.Core.List.{List, [], ◌∷◌, ◌++◌}
use native.Mathlib.Nat.{le_trans}
use borrow.Author.Tests.{ltb-false}
use lib.Dec.{ltb}
use lib.ListN.{length}
use lib.Ieee.{Float, Format}
use Rattle.refusal.specs.Order.{Judged, short, not_finite, computed, ◌when◌, refusal, refused_for}
use Rattle.refusal.specs.Chain.{both_pass, passes_at}
use Rattle.refusal.proofs.Entry.{Answered, by_lent, by-computed}
use Rattle.refusal.proofs.Entry as entry
use Rattle.refusal.specs.declared.Refusal.{Refusal}
use Rattle.fmath.specs.Answer.{some_lent_not_finite}
use Rattle.checked.specs.Each.{at, over}
use Rattle.checked.proofs.Copy.{all_put}
use Rattle.checked.specs.Checked.{Checked}
use Rattle.checked.proofs.Each.{neither}
use Rattle.conformal.specs.Rule.{Tables}
use Rattle.workspace.specs.Shape.{spans}
use Rattle.envelope.specs.Derive.{derived}
use Rattle.envelope.specs.Promises.{Fit}
use Rattle.envelope.specs.Refusals.{config_judged}
use Rattle.envelope.specs.declared.Derived.{Derived}
use Rattle.envelope.specs.declared.FuseConfig.{FuseConfig}
use Rattle.envelope.proofs.Accepted.{accepted, dim_most}
use Rattle.tier0.specs.declared.Tier0Out.{Tier0Out}
use Rattle.tier0.specs.declared.Checks.{Checks}
use Rattle.tier0.specs.declared.JudgedAction.{JudgedAction}
use Rattle.tier0.specs.Rule.{Judgement, check_action}
use Rattle.tier0.specs.Refusals.{too_short, passed_for, passed_with}
use Rattle.tier0.specs.Of.{checks_from, checks_of, judged_action_from, lent_to_action, action_ruling, action_refusal, action_answer, action_out}

-- ---- what is known of an accepted call

pub record Sized (c : FuseConfig) (a : List Float) (room : ℕ) : Type 0 where
  pub narrow : c.dim ≤ 8
  pub act : c.dim ≤ length a
  pub out : c.dim ≤ room
  pub spanned : spans c.shape c.dim c.pos_dim ≡ true

-- the checks read what is derived
pub checks_are : (f : Format) (c : FuseConfig) {d : Derived} {s : Checks} → s ≡ checks_from c d → d ≡ derived f c → s ≡ checks_of f c
unfolding checks_of
checks_are f c es ed = es ∙ ap (checks_from c) ed

-- the same of what the checks read
pub sized_checks : (f : Format) (c : FuseConfig) (a : List Float) (room : ℕ) {s : Checks} → s ≡ checks_of f c → Sized c a room → (s.dim ≤ 8) × (s.dim ≤ length a) × (spans s.shape s.dim s.pos_dim ≡ true)
unfolding checks_of
sized_checks f c a room e w = rw e (w.narrow, w.act, w.spanned)

-- ---- the whole answer

module _ (f : Format) (c : FuseConfig) (t : Tables) (p aux prev a : List Float) where
  abbrev brief : ℕ → Bool
  brief room = too_short c.dim c.pos_dim (length p) (length prev) (length a) room

  abbrev unfit : Bool
  unfit = some_lent_not_finite (p ∷ aux ∷ prev ∷ a ∷ [])

  -- what is judged before anything is computed
  abbrev before : ℕ → List Judged
  before room = config_judged f c t ++ lent_to_action c p aux prev a room []

  sizes : (room : ℕ) → brief room ≡ false → Fit f c t → Sized c a room
  unfolding too_short
  sizes room e w =
      let x = ltb (length p) c.pos_dim in
      let y = ltb (length prev) c.dim in
      let z = ltb (length a) c.dim in
      let parts = neither (x || y || z) (ltb room c.dim) e in
      record {
        narrow = dim_most f c t w;
        act = ltb-false _ _ (neither (x || y) z parts.0).1;
        out = ltb-false _ _ parts.1;
        spanned = w.spanned;
      }

  pub accepted_sizes : (room : ℕ) → refusal (before room) ≡ 0 → Sized c a room
  accepted_sizes room h =
      let w = both_pass (config_judged f c t) (lent_to_action c p aux prev a room []) h in
      sizes room (passes_at short (brief room) ((not_finite when unfit) ∷ []) w.1).0 (accepted f c t w.0)

  abbrev ruling : Checked Judgement
  ruling = action_ruling f c p aux prev a

  module _ (l : List Float) where
    abbrev number : ℕ
    number = action_refusal f c t p aux prev a (length l)

    abbrev written : List Float
    written = over (at ruling.value.after.rows) l c.dim

    number_is : number ≡ refusal (before (length l) ++ ((computed when not ruling.sound) ∷ []))
    unfolding action_refusal
    number_is = refl

    whole : {r : Result Tier0Out Refusal} {m : List Float} → Answered Err (passed_for ruling.value) l written number r m
        → (r ≡ action_answer f c t p aux prev a (length l)) × (m ≡ action_out f c t p aux prev a l)
    unfolding action_answer action_out
    whole w = (w.gives, w.leaves)

    pub lent_refused : (k : ℕ) → k ≡ refusal (before (length l)) → (k ≡ 0 → ⊥) → {r : Refusal} → r ≡ refused_for k
        → (Err r ≡ action_answer f c t p aux prev a (length l)) × (l ≡ action_out f c t p aux prev a l)
    lent_refused k e h g = whole (by_lent Err (passed_for ruling.value) l written (before (length l)) ruling.sound number_is e h g)

    module _ (e : refusal (before (length l)) ≡ 0) {s : Checks} {v : JudgedAction} (es : s ≡ checks_of f c) (ev : v ≡ judged_action_from (check_action f s p aux prev a)) where
      ruled : v ≡ judged_action_from ruling
      unfolding action_ruling
      ruled = rw es at ev

      sound_is : v.sound ≡ ruling.sound
      sound_is = ap (λ (x : JudgedAction). x.sound) ruled

      pub not_sound : v.sound ≡ false → {r : Refusal} → r ≡ refused_for 13 → (Err r ≡ action_answer f c t p aux prev a (length l)) × (l ≡ action_out f c t p aux prev a l)
      not_sound h g = whole (by-computed Err (passed_for ruling.value) l written (before (length l)) ruling.sound number_is e sound_is h g)

      pub passes : v.sound ≡ true → {m : List Float} {k : ℕ} → m ≡ over (at v.at) l (min c.dim (min k (length l))) → 8 ≤ k
          → (passed_with v.trips v.mask v.peak v.walls ≡ action_answer f c t p aux prev a (length l)) × (m ≡ action_out f c t p aux prev a l)
      passes h g b =
          let w = accepted_sizes (length l) e in
          let whole_row = all_put l v.at (le_trans w.narrow b) w.out g in
          whole (entry.accepted Err (passed_for ruling.value) l written (before (length l)) ruling.sound number_is e sound_is h (rw ruled) (whole_row ∙ rw ruled))
