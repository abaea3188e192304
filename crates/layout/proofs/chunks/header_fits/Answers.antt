-- `layout::chunks::header_fits` meets its contract: by evaluation.
use mathlib.Core.Path.{refl}
use Rattle.checked.specs.Each.{every, every_from}
use Rattle.layout.specs.Chunk.{header_fits}
use Rattle.layout.proofs.chunks.header_fits.Goals as goal

pub returns : goal.returns
unfolding header_fits every every_from
returns c = refl
