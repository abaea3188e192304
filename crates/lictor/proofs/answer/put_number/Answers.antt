-- `lictor::answer::put_number` meets its contract: what is put is given.
use mathlib.Core.Path.{refl}
use borrow.Author.Rules.{rules}
use Rattle.lictor.specs.Answer.{number_of, value_of}
use Rattle.lictor.proofs.Put.{given_tells}
use Rattle.lictor.proofs.answer.put_number.Goals as goal

pub returns : goal.returns
unfolding number_of value_of
returns c =
    let w = given_tells number_of value_of c.args.a c.put.ensures (λ x y old e. (refl, search rules)) (λ e old. (refl, refl)) in
    record { number = w.0; value = w.1 }
