-- `envelope::same_pair` meets its contract: by the cases of both zones.
use Rattle.envelope.proofs.same_pair.Goals as goal

pub returns-in-None-other : goal.returns-in-None-other
returns-in-None-other c = rw (c.in-Some.is, c.in-None-other.is)

pub returns-in-Some-other : goal.returns-in-Some-other
returns-in-Some-other c = rw (c.in-Some.is, c.in-Some-other.is)
