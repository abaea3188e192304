-- ACCEL and JERK move no row: with either armed or not an accepted chunk is judged alike but for the two, and an action, which has no differences, is answered alike.
use Rattle.tier0.specs.Refusals.{passed_with}
use Prim.Native.Nat.{ℕ}
use mathlib.Core.Path.{◌≡◌, refl, sym, ap, ◌∙◌}
use mathlib.Core.List.{List}
use lib.ListN.{length}
use lib.Ieee.{Float, Format}
use Rattle.workspace.specs.declared.WallMasks.{WallMasks}
use Rattle.chunk.specs.declared.Header.{Header}
use Rattle.conformal.specs.Rule.{Tables}
use Rattle.envelope.specs.Promises.{armed_by}
use Rattle.envelope.specs.declared.FuseConfig.{FuseConfig}
use Rattle.tier0.specs.Rule.{arms, slow_zone, Projected}
use Rattle.tier0.specs.Of.{checks_of, action_answer, action_out, chunk_ruling, chunk_answer, chunk_out}
use Rattle.tier0.specs.Calm.{ButDifferences, SameButDifferences}
use Rattle.tier0.proofs.Walled as walled
use Rattle.tier0.proofs.Alike.{MovesAlike, JudgedAlike, zones_as_they_are, zones_same, same_action_answer, same_action_row, chunk_judged}

module _ (f : Format) (c : FuseConfig) (t : Tables) (bits : ℕ) (but : ButDifferences c.armed bits) (p aux : List Float) where
  abbrev rearmed : FuseConfig
  rearmed = armed_by c bits

  moves_so : MovesAlike c.armed bits
  moves_so = record { workspace = but.same_workspace_bit; speed = but.same_speed_bit; reach = but.same_reach_bit }

  zones_so : slow_zone f (checks_of f rearmed) p aux ≡ slow_zone f (checks_of f c) p aux
  unfolding checks_of arms
  zones_so = zones_same f (checks_of f c) (checks_of f rearmed) p aux p aux but.same_contact_bit refl (λ armed k l. refl)

  pub row_alike : (prev a l : List Float) → (action_answer f rearmed t p aux prev a (length l) ≡ action_answer f c t p aux prev a (length l)) × (action_out f rearmed t p aux prev a l ≡ action_out f c t p aux prev a l)
  row_alike prev a l = (
    same_action_answer f t c bits c.zones c.absent_camera moves_so (zones_as_they_are c.zones) p aux p aux (λ j b. refl) refl refl zones_so prev a (length l),
    same_action_row f t c bits c.zones c.absent_camera moves_so (zones_as_they_are c.zones) p aux p aux (λ j b. refl) refl refl zones_so prev a l,
  )

  module _ (rows : List Float) (k : Header) (l : List Float) (trips dims : ℕ) (speed : Float) (walls : WallMasks) (other moved : ℕ) (peak : Float) (masks : WallMasks)
      (e : chunk_answer f c t p aux rows k (length l) ≡ passed_with trips dims speed walls) (g : chunk_answer f rearmed t p aux rows k (length l) ≡ passed_with other moved peak masks) where
    alike : JudgedAlike (chunk_ruling f rearmed p aux rows k.horizon).value (chunk_ruling f c p aux rows k.horizon).value
    alike = chunk_judged f t c bits c.zones c.absent_camera moves_so (zones_as_they_are c.zones) p aux p aux (λ j b. refl) refl refl zones_so rows k.horizon

    same_dim : (checks_of f rearmed).dim ≡ (checks_of f c).dim
    unfolding checks_of
    same_dim = refl

    same_output : chunk_out f rearmed t p aux rows k l ≡ chunk_out f c t p aux rows k l
    same_output =
        walled.chunk_out_lem f rearmed t p aux rows k l other moved peak masks g
        ∙ rw (same_dim, alike.judged_after) (sym (walled.chunk_out_lem f c t p aux rows k l trips dims speed walls e))

    pub rows_alike : (chunk_out f rearmed t p aux rows k l ≡ chunk_out f c t p aux rows k l) × SameButDifferences trips dims speed walls other moved peak masks
    rows_alike =
        let here = walled.chunk_ruled f c t p aux rows k l trips dims speed walls e in
        let there = walled.chunk_ruled f rearmed t p aux rows k l other moved peak masks g in (
          same_output,
          record {
            same_trips_but = rw (here.same_trips, there.same_trips) alike.judged_trips;
            same_clamped = there.same_dims ∙ ap (λ (x : Projected). x.mask) alike.judged_after ∙ sym here.same_dims;
            same_peak = there.same_speed ∙ alike.judged_peak ∙ sym here.same_speed;
            same_walls_moved = there.same_walls ∙ alike.judged_walls ∙ sym here.same_walls;
          },
        )
