-- `envelope::channels_ok` meets its contract: by the case of the contact.
use Rattle.envelope.proofs.channels_ok.Goals as goal

pub returns-in-Some : goal.returns-in-Some
returns-in-Some c = rw c.in-Some.is
