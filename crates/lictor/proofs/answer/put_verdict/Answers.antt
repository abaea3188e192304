-- `lictor::answer::put_verdict` meets its contract: where the configuration fits, what is put is given.
use mathlib.Core.Path.{refl, ap}
use mathlib.Core.Bool.{not}
use borrow.Author.Rules.{rules}
use borrow.Author.Tests.{not-false}
use Rattle.lictor.specs.Answer.{verdict_number, verdict_value}
use Rattle.lictor.proofs.Put.{given_tells}
use Rattle.lictor.proofs.answer.put_verdict.Goals as goal

pub returns : goal.returns
unfolding verdict_number verdict_value
returns c =
    let e = not-false c.args.fits (ap not c.if-not-fits.false) in
    let w = given_tells verdict_number verdict_value c.args.a c.put.ensures (λ x y old e. (refl, search rules)) (λ e old. (refl, refl)) in
    record { number = rw e w.0; trips = rw e w.1 }
