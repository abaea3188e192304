-- `card::desk::configure` meets its contract: part by part.
use Rattle.card.specs.Desk.{config_of}
use Rattle.card.proofs.desk.configure.Goals as goal

pub returns : goal.returns
unfolding config_of
returns c = rw (c.calibration-calib.ensures, c.brake-brake.ensures, c.no_zones-zones.ensures, c.walls-walls.ensures, c.norm-norm.ensures, c.limits-limits.ensures)
