-- `lictor::answer::put_emptiness` meets its contract: what is put is given.
use mathlib.Core.Path.{refl}
use borrow.Author.Rules.{rules}
use Rattle.lictor.specs.Answer.{emptiness_number, emptiness_value}
use Rattle.lictor.proofs.Put.{given_tells}
use Rattle.lictor.proofs.answer.put_emptiness.Goals as goal

pub returns : goal.returns
unfolding emptiness_number emptiness_value
returns c =
    let w = given_tells emptiness_number emptiness_value c.args.a c.put.ensures (λ x y old e. (refl, search rules)) (λ e old. (refl, refl)) in
    record { number = w.0; empty = w.1 }
