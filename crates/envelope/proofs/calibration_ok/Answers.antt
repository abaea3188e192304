-- `envelope::calibration_ok` meets its contract: by the test on the flag.
use Rattle.envelope.proofs.calibration_ok.Goals as goal

pub returns-then-c : goal.returns-then-c
returns-then-c c = rw c.if-c.true c.numbers_ok.ensures

pub returns-else-c : goal.returns-else-c
returns-else-c c = rw c.if-c.false
