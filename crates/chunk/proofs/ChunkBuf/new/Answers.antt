-- `ChunkBuf::new` meets its contract: its numbers are the zero of the pattern 0.
use mathlib.Core.Path.{refl}
use lib.Ieee.{of_bits}
use Rattle.chunk.proofs.ChunkBuf.new.Goals as goal

pub returns : goal.returns
unfolding of_bits
returns c = refl
