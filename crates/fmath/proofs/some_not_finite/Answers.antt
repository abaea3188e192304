-- `fmath::some_not_finite` meets its contract: each slice by its own test.
use Rattle.fmath.specs.Answer.{some_from, some_lent_not_finite}
use Rattle.fmath.proofs.some_not_finite.Goals as goal

pub returns : goal.returns
unfolding some_lent_not_finite some_from
returns c = rw (c.all_finite-k.ensures, c.all_finite-l.ensures, c.all_finite-m.ensures)
