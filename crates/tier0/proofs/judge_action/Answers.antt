-- `tier0::judge_action` meets its contract: each part is its rule's, and the speed's test tells of the step.
use mathlib.Core.Path.{ap, ◌∙◌}
use lib.Ieee.{binary64}
use Rattle.checked.proofs.Copy.{all_padded}
use Rattle.tier0.specs.Rule.{out_of_workspace}
use Rattle.tier0.proofs.Stays.{found_inside, padded_alike}
use Rattle.tier0.proofs.Steps.{judge_is}
use Rattle.tier0.proofs.judge_action.Goals as goal

pub projection-p-requires : goal.projection-p-requires
projection-p-requires c = let w = c.requires in (w.0, λ h. ap (out_of_workspace binary64 _) (all_padded _ w.0 w.1 c.padded-raw.ensures) ∙ padded_alike binary64 _ _ w.0 w.2 ∙ found_inside _ c.out_of_workspace-out.ensures h)

pub returns : goal.returns
returns c = judge_is binary64 _ _ _ _ _ c.slow_zone-z.ensures c.distance-step.ensures c.finite-fine.ensures c.out_of_workspace-out.ensures c.out_of_reach-far.ensures (all_padded _ c.requires.0 c.requires.1 c.padded-raw.ensures) c.armed-speed.ensures c.trip_bits-trips.ensures c.projection-p.ensures c.row_masks-walls.ensures
