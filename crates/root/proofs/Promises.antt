-- What the root promises, from the two files that show it.
use Rattle.root.specs.Promises.{Promised}
use Rattle.root.proofs.Rule.{root_rule}
use Rattle.root.proofs.Nearest.{root_nearest}

pub promised : Promised
promised = record { root_rule = root_rule; root_nearest = root_nearest }
