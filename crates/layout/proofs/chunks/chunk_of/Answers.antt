-- `layout::chunks::chunk_of` meets its contract: each part is what its own function gives.
use Rattle.layout.specs.Chunk.{chunk_of}
use Rattle.layout.proofs.chunks.chunk_of.Goals as goal

pub returns : goal.returns
unfolding chunk_of
returns c = rw (c.to_u32-seq.ensures, c.to_u32-t_emit.ensures, c.to_u16-horizon.ensures, c.to_u16-dim.ensures, c.to_u16-exec_steps.ensures)
