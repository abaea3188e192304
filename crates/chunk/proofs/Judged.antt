-- What is known of a chunk that is not refused.
use Prim.Native.Nat.{ℕ, ◌*◌, ◌≤◌, ◌<◌}
use mathlib.Core.Path.{◌≡◌}
use mathlib.Core.Bool.{true, false, not}
use mathlib.Core.List.{List, [], ◌∷◌}
use native.Mathlib.Nat.{mul-le-mul, pos_of_ne-zero}
use borrow.Author.Tests.{eqb-true, eqb-false, ltb-false, not-false}
use lib.Dec.{eqb}
use lib.Ieee.{Float}
use lib.ListN.{length}
use Rattle.checked.specs.Finite.{all_finite}
use Rattle.checked.proofs.Each.{neither}
use Rattle.refusal.specs.Order.{◌when◌, empty, too_long, too_wide, exec_exceeds_horizon, len_mismatch, not_finite, among, refusal}
use Rattle.refusal.specs.Exactly.{exactly_none}
use Rattle.refusal.specs.Chain.{both_pass, passes_at}
use Rattle.chunk.specs.declared.Header.{Header}
use Rattle.chunk.specs.Refusals.{chunk_reasons, lent_reasons}

-- what is known of a chunk whose sizes are accepted
pub record Accepted (k : Header) (n : ℕ) : Type 0 where
  pub some_rows : 0 < k.horizon
  pub some_width : 0 < k.dim
  pub not_long : k.horizon ≤ 64
  pub not_wide : k.dim ≤ 8
  pub exec_inside : k.exec_steps ≤ k.horizon
  pub all_there : n ≡ k.horizon * k.dim

above : (n : ℕ) → eqb n 0 ≡ false → 0 < n
above n f = let k : n ≡ 0 → ⊥ = eqb-false n 0 f in pos_of_ne-zero k

pub sizes_accepted : (k : Header) (n : ℕ) → refusal (chunk_reasons k n) ≡ 0 → Accepted k n
sizes_accepted k n z =
    let h = k.horizon in
    let d = k.dim in
    let passed = (exactly_none (among (chunk_reasons k n))).1 z in
    let zeros = neither (eqb h 0) (eqb d 0) (passed empty) in
    record {
      some_rows = above h zeros.0;
      some_width = above d zeros.1;
      not_long = ltb-false 64 h (passed too_long);
      not_wide = ltb-false 8 d (passed too_wide);
      exec_inside = ltb-false h k.exec_steps (passed exec_exceeds_horizon);
      all_there = eqb-true n (h * d) (not-false (eqb n (h * d)) (passed len_mismatch));
    }

-- an accepted lent chunk has accepted sizes and finite numbers
pub lent_accepted : (l : List Float) (k : Header) → refusal (lent_reasons l k) ≡ 0 → Accepted k (length l) × (all_finite l (length l) ≡ true)
lent_accepted l k z =
    let both = both_pass (chunk_reasons k (length l)) ((not_finite when not (all_finite l (length l))) ∷ []) z in
    (sizes_accepted k (length l) both.0, not-false (all_finite l (length l)) (passes_at not_finite (not (all_finite l (length l))) [] both.1).0)

-- accepted sizes fit a buffer
pub accepted_fits : {k : Header} {n : ℕ} → Accepted k n → n ≤ 512
accepted_fits a = rw a.all_there (mul-le-mul a.not_long a.not_wide)
