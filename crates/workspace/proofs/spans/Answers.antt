-- `workspace::spans` meets its contract: by the shape.
use Rattle.workspace.proofs.spans.Goals as goal

pub returns-in-Disc : goal.returns-in-Disc
returns-in-Disc c = rw c.in-Disc.is
