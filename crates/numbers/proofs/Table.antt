-- The definitions give each of the proved numbers on the wall (R10.7), by evaluation.
use mathlib.Core.Path.{◌≡◌, refl}
use mathlib.Core.List.{map}
use Rattle.root.specs.Root as root
use Rattle.fmath.specs.Answer as numbers
use Rattle.checked.specs.Checked as checked
use Rattle.checked.specs.Row.{padded, eight}
use Rattle.checked.specs.Each as each
use Rattle.checked.specs.Finite as finite
use Rattle.checked.specs.Least as least
use Rattle.fmath.specs.Clamp as clamp
use Rattle.fmath.specs.Norm as norm
use Rattle.chunk.specs.Rule as chunk
use Rattle.conformal.specs.Answer as answer
use Rattle.bits.specs.Bits as bits
use Rattle.conformal.specs.Refusals as scores
use Rattle.conformal.specs.Rule as gate
use Rattle.envelope.specs.Derive as derive
use Rattle.envelope.specs.Refusals as config
use Rattle.pull.specs.Rule as pull
use Rattle.workspace.specs.Rule as workspace
use Rattle.tier0.specs.Chunk as rows
use Rattle.tier0.specs.Of as checks
use Rattle.tier0.specs.Refusals as lent
use Rattle.tier0.specs.Rule as row
use Rattle.course.specs.Forecast as forecast
use Rattle.rollout.specs.Plant as plant
use Rattle.rollout.specs.Rule as run
use Rattle.brake.specs.Answer as brake
use Rattle.brake.specs.Rule as plan
use Rattle.card.specs.Desk as desk
use lib.Ieee as ieee
use lib.Count as count
use Rattle.numbers.specs.Table.{Case, cases}

pub wall : map (λ (c : Case). c.given) cases ≡ map (λ (c : Case). c.written) cases
unfolding root.floor_root root.near_root root.half root.root_exponent root.scaled root.number root.root_of checked.sum_from checked.each checked.least_of each.all each.some each.every_from each.every each.table each.over finite.finite finite.above_zero finite.not_below_zero finite.all_finite finite.all_above_zero least.lesser least.greater clamp.clamped least.least least.greatest norm.squared_gap norm.dist chunk.row_of answer.judged answer.aggregated answer.tripped bits.bit bits.bits_where scores.sizes_ok scores.numbers_ok scores.features_ok scores.scores_ok gate.live_term gate.join_where gate.least_of gate.aggregate gate.fired_bits derive.inv_dt_of derive.inv_dt2_of derive.inv_dt3_of derive.step_max_of derive.low_walls derive.high_walls derive.inverses derive.isotropic derive.derived_from config.sizes_ok config.limits_ok config.gains_ok config.zones_ok config.zones_fit config.norm_ok config.walls_finite config.box_ok config.ordered config.scalars_ok config.derived_ok config.numbers_from config.counts_ok config.steps_ok workspace.onto_disc workspace.inward workspace.between workspace.slack_in rows.start_row rows.row_before rows.step_to rows.peak_step rows.some_longer rows.some_out_of_workspace rows.some_of rows.put_row rows.next_row rows.run_rows rows.projected_rows rows.check_chunk rows.too_large checks.checks_of checks.chunk_ruling checks.chunk_refusal checks.chunk_answer checks.chunk_out lent.chunk_too_short numbers.some_from numbers.some_lent_not_finite row.arms row.slow_zone row.out_of_workspace row.out_of_reach row.trip_bits pull.toward pull.shortened pull.pulled row.moved_inside row.leashed row.reached row.moves padded forecast.leading forecast.place_of forecast.margin_of forecast.written_of plant.axis plant.substep run.stop_distance run.followed run.setpoint run.aimed run.after run.entry run.stop brake.too_short brake.outcome brake.forecast_refusal brake.forecast_answer brake.forecast_slacks eight plan.forecast_by desk.calibration_of desk.limits_of desk.norm_of desk.walls_of desk.brake_of desk.config_of desk.outcome_of desk.slacks_of ieee.add ieee.sub ieee.mul ieee.div ieee.lt ieee.eq ieee.le ieee.ne ieee.round ieee.size ieee.odd ieee.is_nan ieee.of_bits ieee.to_bits count.ones
wall = refl
