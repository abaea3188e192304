-- How many rows two chunks share, by the tests that lead to each answer.
use Prim.Native.Nat.{ℕ, ◌+◌, ◌-◌, ◌≤◌, ◌<◌, min}
use mathlib.Core.Path.{◌≡◌, refl, sym}
use mathlib.Core.Bool.{Bool, true, false, ◌&&◌}
use native.Mathlib.Omega.{arith}
use borrow.Author.Tests.{leb-true, eqb-true}
use lib.Dec.{eqb, leb}
use Rattle.std.specs.Prelude.{if◌then◌else◌}
use Rattle.checked.proofs.Each.{and_left, and_right}
use Rattle.tier1.specs.declared.Kept.{Kept}
use Rattle.tier1.specs.Rule.{overlap}

module _ (k : Kept) (t h d : ℕ) where
  -- there is a chunk before, as wide and not emitted later
  abbrev meets : Bool
  meets = k.there && eqb k.dim d && leb k.t_emit t

  pub apart : meets ≡ false → 0 ≡ overlap k t h d
  unfolding overlap
  apart e = rw e

  pub not_earlier : meets ≡ true → k.t_emit ≤ t
  not_earlier e = leb-true k.t_emit t (and_right (k.there && eqb k.dim d) (leb k.t_emit t) e)

  pub all_past : meets ≡ true → k.horizon < t - k.t_emit → 0 ≡ overlap k t h d
  unfolding overlap
  all_past e l = let z : 0 ≡ min (k.horizon - (t - k.t_emit)) h = omega arith in rw e z

  pub shares : meets ≡ true → {r : ℕ} → r ≡ min (k.horizon - (t - k.t_emit)) h → r ≡ overlap k t h d
  unfolding overlap
  shares e g = rw e g

  -- where two rows or more overlap, they lie in both chunks
  pub record Overlaps : Type 0 where
    pub there : k.there ≡ true
    pub wide : k.dim ≡ d
    pub emitted : k.t_emit ≤ t
    pub inside : t - k.t_emit + overlap k t h d ≤ k.horizon
    pub of_new : overlap k t h d ≤ h

  pub overlapping : 2 ≤ overlap k t h d → Overlaps
  unfolding overlap
  overlapping = go meets refl
    where
      go : (b : Bool) → meets ≡ b → 2 ≤ (if b then min (k.horizon - (t - k.t_emit)) h else 0) → Overlaps
      go true e l =
          let w = and_left (k.there && eqb k.dim d) (leb k.t_emit t) e in
          let z : overlap k t h d ≡ min (k.horizon - (t - k.t_emit)) h = sym (shares e refl) in
          record {
            there = and_left k.there (eqb k.dim d) w;
            wide = eqb-true k.dim d (and_right k.there (eqb k.dim d) w);
            emitted = not_earlier e;
            inside = omega arith;
            of_new = omega arith;
          }
      go false e l = absurd (omega arith)
