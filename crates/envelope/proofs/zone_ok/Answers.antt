-- `envelope::zone_ok` meets its contract: by the case of the contact.
use Rattle.envelope.proofs.zone_ok.Goals as goal

pub returns-in-Some : goal.returns-in-Some
returns-in-Some c = rw (c.in-Some.is, c.not_below_zero-a.ensures, c.above_zero-b.ensures)
