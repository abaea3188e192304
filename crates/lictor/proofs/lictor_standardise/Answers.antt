-- `lictor::lictor_standardise` meets its contract: it hands on the answer of its entry.
use Rattle.lictor.proofs.Alike.{scored_alike, standardised_alike}
use Rattle.conformal.specs.Of.{tables}
use Rattle.lictor.proofs.lictor_standardise.Goals as goal

pub returns : goal.returns
returns c = scored_alike c.marks_fit-fits.ensures (standardised_alike (tables c.args.center.now c.args.scale.now) c.args.bin c.standardise-standardised.ensures c.calibration-cal.ensures c.scores_of-sc.ensures) c.put_scored.ensures
