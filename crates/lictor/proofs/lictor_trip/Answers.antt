-- `lictor::lictor_trip` meets its contract: it hands on the answer of its entry.
use Rattle.lictor.proofs.Alike.{verdict_alike, tripped_alike}
use Rattle.lictor.proofs.lictor_trip.Goals as goal

pub returns : goal.returns
returns c = verdict_alike c.marks_fit-fits.ensures (tripped_alike _ c.trip-verdict.ensures c.calibration-cal.ensures c.scores_of-sc.ensures) c.put_verdict.ensures
