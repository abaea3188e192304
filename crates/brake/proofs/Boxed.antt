-- Each of the first `bounded` coordinates that a position kind's brake or hold writes lies in its box, where it has one: there the row is the position, which is finite,
-- moved inside walls that an accepted configuration has finite and in order.
use Rattle.std.specs.Prelude.{Ok}
use Prim.Native.Nat.{ℕ, zero, suc, min, ◌<◌}
use mathlib.Core.Path.{◌≡◌, refl}
use mathlib.Core.Bool.{Bool, true, false, not, ◌||◌, false≢true}
use mathlib.Core.Logic.{inl, inr}
use mathlib.Core.List.{List, [], ◌∷◌, ◌++◌}
use native.Mathlib.Omega.{arith}
use lib.Dec.{ltb}
use lib.ListN.{length}
use lib.Ieee.{Float, binary64}
use Rattle.refusal.specs.Order.{short, not_finite, computed, ◌when◌, refusal}
use Rattle.refusal.specs.Chain.{both_pass, passes_at}
use Rattle.fmath.specs.Answer.{some_not_finite}
use Rattle.checked.specs.Each.{at, over}
use Rattle.checked.proofs.Each.{neither}
use Rattle.checked.proofs.Ordered.{finite_real}
use Rattle.conformal.specs.Rule.{Tables}
use Rattle.envelope.specs.Refusals.{config_judged}
use Rattle.envelope.specs.declared.ActionKind.{ActionKind}
use Rattle.envelope.specs.declared.ActionKind.TheVariants.{EePosition, EeDelta, JointPosition, JointVelocity, Other}
use Rattle.envelope.specs.declared.FuseConfig.{FuseConfig}
use Rattle.envelope.proofs.Accepted.{accepted, dim_most, low_wall_finite, high_wall_finite, walls_ordered}
use Rattle.workspace.specs.declared.WallMasks.{WallMasks}
use Rattle.workspace.specs.Shape.{boxed}
use Rattle.workspace.specs.Rule.{setpoint}
use Rattle.workspace.proofs.Inside.{setpoint_inside, setpoint_long}
use Rattle.brake.specs.Rule.{walls_at, is_position, takes_last, sent_row}
use Rattle.brake.specs.Answer.{last_short, last_unfit, row_lent, sent_at, masks_sent, brake_sent, brake_refusal, brake_answer, brake_output, hold_sent, hold_refusal, hold_answer, hold_output}
use Rattle.brake.specs.Promises.{InBox, bounded, BrakesInside, HoldsInside}
use Rattle.brake.proofs.Sending.{Position, position_brakes, position_holds, sized}
use Rattle.brake.proofs.Gripped.{own_written}

pub sent_zero : (k : ℕ) (x m : WallMasks) → sent_at k x ≡ Ok m → k ≡ 0
sent_zero zero x m e = refl
sent_zero (suc k) x m e = let z : ◌≡◌ {A = ℕ} 0 1 = cc in absurd (omega arith)

pub positions : (k : ActionKind) → is_position k ≡ true → Position k
positions EePosition h = inl refl
positions EeDelta h = absurd (false≢true h)
positions JointPosition h = inr (inl refl)
positions JointVelocity h = absurd (false≢true h)
positions Other h = inr (inr refl)

-- the coordinates that lie in their boxes are among the first dim
bounded_few : (c : FuseConfig) {j : ℕ} → j < bounded c → j < c.dim
bounded_few c {j} = go (takes_last c.gripper) refl
  where
    go : (b : Bool) → takes_last c.gripper ≡ b → j < bounded c → j < c.dim
    go true e h = let within : j < min c.dim c.pos_dim = rw e at h in omega arith
    go false e h = rw e at h

module _ (c : FuseConfig) (tabs : Tables) (p last l : List Float) (unfit : Bool) (passed : refusal (config_judged binary64 c tabs ++ row_lent c unfit (length l) (length last)) ≡ 0) where
  pub fit_lent : unfit ≡ false
  fit_lent =
      let w = (both_pass (config_judged binary64 c tabs) (row_lent c unfit (length l) (length last)) passed).1 in
      let a = passes_at short (ltb (length l) c.dim || last_short c.gripper c.dim (length last)) ((not_finite when unfit) ∷ []) w in
      (passes_at not_finite unfit [] a.1).0

  written_inside : some_not_finite p ≡ false → (j : ℕ) → j < bounded c → boxed c.shape j ≡ true
      → InBox c j (at (over (at (sent_row c.gripper c.kind c.pos_dim last (setpoint binary64 (walls_at binary64 c) p c.dim).value c.dim)) l c.dim) j)
  written_inside real j in-it has =
      let fit = accepted binary64 c tabs (both_pass (config_judged binary64 c tabs) (row_lent c unfit (length l) (length last)) passed).0 in
      let few = dim_most binary64 c tabs fit in
      let room = (sized binary64 c tabs unfit (length l) (length last) passed).1 in
      let here = bounded_few c in-it in
      let below : j < 8 = omega arith in
      let low = finite_real (at (walls_at binary64 c).lo j) (low_wall_finite binary64 c tabs fit j below) in
      let high = finite_real (at (walls_at binary64 c).hi j) (high_wall_finite binary64 c tabs fit j below) in
      rw (own_written c last (setpoint binary64 (walls_at binary64 c) p c.dim).value l few room (setpoint_long binary64 (walls_at binary64 c) p c.dim) j in-it)
      (setpoint_inside binary64 (walls_at binary64 c) p c.dim j here below has real low high (walls_ordered binary64 c tabs fit j below))

module _ (c : FuseConfig) (tabs : Tables) (is : is_position c.kind ≡ true) (p last l : List Float) where
  pub brake_inside : (v : List Float) → BrakesInside c tabs p v last l
  unfolding brake_answer brake_output brake_refusal brake_sent
  brake_inside v m done j in-it has =
      let z = sent_zero (brake_refusal binary64 c tabs p v last (length l)) (masks_sent binary64 c p) m done in
      let unfit = some_not_finite p || some_not_finite v || last_unfit c.gripper last in
      let passed = (both_pass (config_judged binary64 c tabs ++ row_lent c unfit (length l) (length last)) ((computed when not (brake_sent binary64 c p v last).sound) ∷ []) z).0 in
      let measured = (neither (some_not_finite p || some_not_finite v) (last_unfit c.gripper last) (fit_lent c tabs p last l unfit passed)).0 in
      let real = (neither (some_not_finite p) (some_not_finite v) measured).0 in
      rw (z, position_brakes (walls_at binary64 c) p c.dim binary64 c.limits.a_max c.limits.dt v c.kind (positions c.kind is))
      (written_inside c tabs p last l unfit passed real j in-it has)

  pub hold_inside : HoldsInside c tabs p last l
  unfolding hold_answer hold_output hold_refusal hold_sent
  hold_inside m done j in-it has =
      let z = sent_zero (hold_refusal binary64 c tabs p last (length l)) (masks_sent binary64 c p) m done in
      let unfit = some_not_finite p || last_unfit c.gripper last in
      let passed = (both_pass (config_judged binary64 c tabs ++ row_lent c unfit (length l) (length last)) ((computed when not (hold_sent binary64 c p last).sound) ∷ []) z).0 in
      let real = (neither (some_not_finite p) (last_unfit c.gripper last) (fit_lent c tabs p last l unfit passed)).0 in
      rw (z, position_holds (walls_at binary64 c) p c.dim binary64 c.kind (positions c.kind is))
      (written_inside c tabs p last l unfit passed real j in-it has)
