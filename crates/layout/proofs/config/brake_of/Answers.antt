-- `layout::config::brake_of` meets its contract: by the law of its parts.
use Rattle.layout.proofs.Whole.{whole_brake}
use Rattle.layout.proofs.config.brake_of.Goals as goal

pub returns : goal.returns
returns c = let s = c.args in whole_brake s.n.now s.c.now c.brake_kind_of-kind.ensures c.to_u16-substeps.ensures c.to_u16-commit.ensures c.to_u16-brake_steps.ensures c.to_u16-react_ticks.ensures
