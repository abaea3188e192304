-- What an accepted call tells: its configuration is fit, and each number that its rule computed is finite.
use Prim.Native.Nat.{ℕ, zero, suc}
use mathlib.Core.Path.{◌≡◌, refl}
use mathlib.Core.Bool.{true, false, not, ◌||◌, false≢true}
use mathlib.Core.List.{List, [], ◌∷◌, ◌++◌}
use borrow.Author.Tests.{not-false}
use lib.ListN.{length}
use lib.Ieee.{Float, Format}
use Rattle.refusal.specs.Order.{not_finite, computed, ◌when◌, among}
use Rattle.refusal.specs.Exactly.{exactly_none}
use Rattle.refusal.specs.Chain.{both_pass}
use Rattle.checked.specs.Checked.{Checked}
use Rattle.checked.proofs.Each.{neither}
use Rattle.fmath.specs.Answer.{some_not_finite, some_from, some_lent_not_finite}
use Rattle.chunk.specs.Refusals.{chunk_reasons}
use Rattle.chunk.specs.declared.Header.{Header}
use Rattle.conformal.specs.Rule.{Tables}
use Rattle.envelope.specs.Refusals.{config_judged}
use Rattle.envelope.specs.Promises.{Fit}
use Rattle.envelope.specs.declared.FuseConfig.{FuseConfig}
use Rattle.envelope.proofs.Accepted.{accepted}
use Rattle.tier0.specs.Rule.{Judgement}
use Rattle.tier0.specs.Refusals.{answer_at}
use Rattle.tier0.specs.Of.{lent_to_action, action_ruling, action_refusal, action_answer, lent_to_chunk, chunk_ruling, chunk_refusal, chunk_answer}
use Rattle.tier0.specs.Promises.{accepts}

pub record Passes (f : Format) (c : FuseConfig) (t : Tables) (x : Checked Judgement) : Type 0 where
  pub fit : Fit f c t
  pub all_finite_lem : x.sound ≡ true

by_zero : (n : ℕ) (j : Judgement) → accepts (answer_at n j) ≡ true → n ≡ 0
by_zero zero j e = refl
by_zero (suc n) j e = absurd (false≢true e)

module _ (f : Format) (c : FuseConfig) (t : Tables) (p aux : List Float) where
  pub chunk_passes : (rows : List Float) (k : Header) (room : ℕ) → accepts (chunk_answer f c t p aux rows k room) ≡ true → Passes f c t (chunk_ruling f c p aux rows k.horizon)
  unfolding chunk_answer chunk_refusal
  chunk_passes rows k room e =
      let ruling = chunk_ruling f c p aux rows k.horizon in
      let none = by_zero (chunk_refusal f c t p aux rows k room) ruling.value e in
      let rest = chunk_reasons k (length rows) ++ lent_to_chunk c p aux rows k room ((computed when not ruling.sound) ∷ []) in
      record { fit = accepted f c t (both_pass (config_judged f c t) rest none).0; all_finite_lem = not-false ruling.sound ((exactly_none (among (config_judged f c t ++ rest))).1 none computed) }

  pub action_passes : (prev a : List Float) (room : ℕ) → accepts (action_answer f c t p aux prev a room) ≡ true → Passes f c t (action_ruling f c p aux prev a)
  unfolding action_answer action_refusal
  action_passes prev a room e =
      let ruling = action_ruling f c p aux prev a in
      let none = by_zero (action_refusal f c t p aux prev a room) ruling.value e in
      let rest = lent_to_action c p aux prev a room ((computed when not ruling.sound) ∷ []) in
      record { fit = accepted f c t (both_pass (config_judged f c t) rest none).0; all_finite_lem = not-false ruling.sound ((exactly_none (among (config_judged f c t ++ rest))).1 none computed) }

  -- each number of an action is finite, read or not
  pub action_finite : (prev a : List Float) (room : ℕ) → accepts (action_answer f c t p aux prev a room) ≡ true → some_not_finite a ≡ false
  unfolding action_answer action_refusal some_lent_not_finite some_from
  action_finite prev a room e =
      let ruling = action_ruling f c p aux prev a in
      let none = by_zero (action_refusal f c t p aux prev a room) ruling.value e in
      let rest = lent_to_action c p aux prev a room ((computed when not ruling.sound) ∷ []) in
      (neither (some_not_finite p || some_not_finite aux || some_not_finite prev) (some_not_finite a) ((exactly_none (among (config_judged f c t ++ rest))).1 none not_finite)).1
