-- `lictor::lictor_trail_net` meets its contract: it hands on the answer of its entry.
use Rattle.lictor.proofs.Alike.{number_alike, net_alike}
use Rattle.lictor.proofs.lictor_trail_net.Goals as goal

pub returns : goal.returns
returns c = let s = c.args in number_alike (net_alike s.d s.w c.net-found.ensures c.trail_of-t.ensures) c.put_number.ensures
