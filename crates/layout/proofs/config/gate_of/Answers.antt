-- `layout::config::gate_of` meets its contract: by the law of its parts.
use Rattle.layout.proofs.Whole.{whole_gate}
use Rattle.layout.proofs.config.gate_of.Goals as goal

pub returns : goal.returns
returns c = whole_gate c.args.c.now c.to_u8-n_terms.ensures c.to_u32.ensures c.to_u32-2.ensures c.to_u32-3.ensures c.to_u32-4.ensures c.to_u32-5.ensures c.to_u32-6.ensures c.to_u32-7.ensures c.to_u32-8.ensures
