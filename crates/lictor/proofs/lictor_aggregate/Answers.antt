-- `lictor::lictor_aggregate` meets its contract: it hands on the answer of its entry.
use Rattle.lictor.proofs.Alike.{scored_alike, aggregated_alike}
use Rattle.lictor.proofs.lictor_aggregate.Goals as goal

pub returns : goal.returns
returns c = scored_alike c.marks_fit-fits.ensures (aggregated_alike _ c.aggregate-aggregated.ensures c.calibration-cal.ensures c.scores_of-sc.ensures) c.put_scored.ensures
