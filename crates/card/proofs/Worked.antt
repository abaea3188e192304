-- The example of R9.5, by evaluation of the rules: what its bytes are answered is its four lines.
use mathlib.Core.Path.{◌≡◌, refl}
use Rattle.root.specs.Root as root
use Rattle.fmath.specs.Answer as numbers
use Rattle.checked.specs.Checked as checked
use Rattle.checked.specs.Row.{padded, eight}
use Rattle.checked.specs.Each as each
use Rattle.checked.specs.Finite as finite
use Rattle.checked.specs.Least as least
use Rattle.fmath.specs.Clamp as clamp
use Rattle.fmath.specs.Norm as norm
use Rattle.chunk.specs.Rule as chunk
use Rattle.bits.specs.Bits as bits
use Rattle.envelope.specs.Derive as derive
use Rattle.envelope.specs.Refusals as config
use Rattle.workspace.specs.Rule as workspace
use Rattle.course.specs.Forecast as forecast
use Rattle.rollout.specs.Plant as plant
use Rattle.rollout.specs.Rule as run
use Rattle.brake.specs.Answer as brake
use Rattle.brake.specs.Rule as plan
use Rattle.words.specs.Little.{little}
use Rattle.card.specs.Record.{card_at}
use Rattle.card.specs.Desk as desk
use Rattle.card.specs.Text.{glyph, digits, width_of, decimal, hex, word, numbers as margins, line}
use Rattle.card.specs.Block.{line_of, line_at, lines, rest, text}
use Rattle.card.specs.Worked.{input, output}
use lib.Ieee as ieee

pub worked : text 1 input ≡ output
unfolding root.floor_root root.near_root root.half root.root_exponent root.scaled root.number root.root_of norm.squared_gap norm.dist text lines rest line_at line_of line word decimal hex digits glyph width_of margins card_at little checked.sum_from checked.each checked.least_of each.all each.some each.every_from each.every each.table each.over finite.finite finite.above_zero finite.not_below_zero finite.all_finite finite.all_above_zero least.lesser least.greater clamp.clamped least.least least.greatest chunk.row_of bits.bit bits.bits_where derive.inv_dt_of derive.inv_dt2_of derive.inv_dt3_of derive.step_max_of derive.low_walls derive.high_walls derive.inverses derive.isotropic derive.derived_from config.sizes_ok config.limits_ok config.gains_ok config.zones_ok config.zones_fit config.norm_ok config.walls_finite config.box_ok config.ordered config.scalars_ok config.derived_ok config.numbers_from config.counts_ok config.steps_ok workspace.onto_disc workspace.inward workspace.between workspace.slack_in numbers.some_from numbers.some_lent_not_finite padded forecast.leading forecast.place_of forecast.margin_of forecast.written_of plant.axis plant.substep run.stop_distance run.followed run.setpoint run.aimed run.after run.entry run.stop brake.too_short brake.outcome brake.forecast_refusal brake.forecast_answer eight plan.forecast_by desk.calibration_of desk.limits_of desk.norm_of desk.walls_of desk.brake_of desk.config_of desk.outcome_of desk.count_of desk.answer_for ieee.add ieee.sub ieee.mul ieee.div ieee.lt ieee.eq ieee.le ieee.ne ieee.round ieee.size ieee.odd ieee.is_nan ieee.of_bits ieee.to_bits
worked = refl
