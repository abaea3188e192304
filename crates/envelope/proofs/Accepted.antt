-- What is known of a configuration that is not refused, and what the modules above take out of it by name.
use Prim.Native.Nat.{ℕ, ◌≤◌, ◌<◌}
use mathlib.Core.Path.{◌≡◌, ap}
use mathlib.Core.Bool.{true, false, not}
use borrow.Author.Tests.{leb-true, not-true, not-false}
use lib.Ieee.{Format, lt}
use Rattle.refusal.specs.Order.{size, number, steps, channels, shape, withdrawn, among, refusal}
use Rattle.refusal.specs.Exactly.{exactly_none}
use Rattle.checked.specs.Each.{at}
use Rattle.checked.specs.Finite.{finite, all_finite}
use Rattle.checked.proofs.Each.{all_at, every_at}
use Rattle.conformal.specs.Rule.{Tables}
use Rattle.envelope.specs.Derive.{derived}
use Rattle.envelope.specs.Steps.{substeps_in}
use Rattle.envelope.specs.Refusals.{sizes_ok, ordered, scalars_ok, derived_ok, numbers_from, numbers_ok, counts_ok, steps_ok, channels_fit, shape_fits, features_ok, config_judged}
use Rattle.envelope.specs.Promises.{Fit}
use Rattle.envelope.specs.declared.Compiled.{Compiled}
use Rattle.envelope.specs.declared.FuseConfig.{FuseConfig}

-- ---- what is compiled

pub compiled_judged : {k m : Compiled} → k ≡ m → k.judged ≡ m.judged
compiled_judged = ap (λ (x : Compiled). x.judged)

pub compiled_derived : {k m : Compiled} → k ≡ m → k.derived ≡ m.derived
compiled_derived = ap (λ (x : Compiled). x.derived)

-- ---- what is accepted

pub accepted : (f : Format) (c : FuseConfig) (t : Tables) → refusal (config_judged f c t) ≡ 0 → Fit f c t
accepted f c t h =
    let passed = (exactly_none (among (config_judged f c t))).1 h in
    record {
      sizes = not-false (sizes_ok c) (passed size);
      numbers = not-false (numbers_ok f c t) (passed number);
      counts = not-false (steps_ok c) (passed steps);
      apart = not-false (channels_fit c) (passed channels);
      spanned = not-false (shape_fits c) (passed shape);
      features = not-false (features_ok c) (passed withdrawn);
    }

module _ (f : Format) (c : FuseConfig) (t : Tables) (fit : Fit f c t) where
  -- ---- sizes

  pub dim_most : c.dim ≤ 8
  unfolding sizes_ok
  dim_most = leb-true _ _ (every_at _ 1 fit.sizes)

  pub dim_least : 1 ≤ c.dim
  unfolding sizes_ok
  dim_least = leb-true _ _ (every_at _ 0 fit.sizes)

  pub pos_dim_least : 1 ≤ c.pos_dim
  unfolding sizes_ok
  pos_dim_least = leb-true _ _ (every_at _ 2 fit.sizes)

  -- ---- the derived numbers

  derived_fit : derived_ok (derived f c) ≡ true
  unfolding numbers_from
  derived_fit = every_at _ 6 fit.numbers

  -- the longest step is a finite number
  pub step_max_finite : finite (derived f c).step_max ≡ true
  unfolding derived_ok scalars_ok
  step_max_finite = every_at _ 3 (every_at _ 0 derived_fit)

  -- no low wall exceeds its high wall
  pub walls_ordered : (i : ℕ) → i < 8 → lt (at (derived f c).box_hi i) (at (derived f c).box_lo i) ≡ false
  unfolding derived_ok ordered
  walls_ordered i h = not-true _ (all_at (λ (i : ℕ). not (lt (at (derived f c).box_hi i) (at (derived f c).box_lo i))) 8 (every_at _ 4 derived_fit) i h)

  -- each wall is a finite number
  pub low_wall_finite : (i : ℕ) → i < 8 → finite (at (derived f c).box_lo i) ≡ true
  unfolding derived_ok all_finite
  low_wall_finite = all_at _ 8 (every_at _ 1 derived_fit)

  pub high_wall_finite : (i : ℕ) → i < 8 → finite (at (derived f c).box_hi i) ≡ true
  unfolding derived_ok all_finite
  high_wall_finite = all_at _ 8 (every_at _ 2 derived_fit)

  -- ---- the counts

  counts_fit_lem : counts_ok c.brake ≡ true
  unfolding steps_ok
  counts_fit_lem = every_at _ 0 fit.counts

  pub substeps_least : 1 ≤ c.brake.substeps.0
  unfolding counts_ok
  substeps_least = leb-true _ _ (every_at _ 0 counts_fit_lem)

  pub commit_most : c.brake.commit.0 ≤ 64
  unfolding counts_ok
  commit_most = leb-true _ _ (every_at _ 2 counts_fit_lem)

  pub substeps_in_all : substeps_in c.brake.commit c.brake.brake_steps c.brake.substeps ≤ 4096
  unfolding counts_ok
  substeps_in_all = leb-true _ _ (every_at _ 3 counts_fit_lem)
