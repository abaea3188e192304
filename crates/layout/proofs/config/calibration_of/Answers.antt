-- `layout::config::calibration_of` meets its contract: part by part.
use Rattle.layout.specs.Config.{calibration_of}
use Rattle.layout.proofs.config.calibration_of.Goals as goal

pub returns : goal.returns
unfolding calibration_of
returns c = rw (c.to_u32-mask.ensures, c.gate_of-gate.ensures)
