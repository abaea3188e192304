-- `lictor::answer::put_count` meets its contract: what is put is given.
use mathlib.Core.Path.{refl}
use borrow.Author.Rules.{rules}
use Rattle.lictor.specs.Answer.{count_number, count_value}
use Rattle.lictor.proofs.Put.{given_tells}
use Rattle.lictor.proofs.answer.put_count.Goals as goal

pub returns : goal.returns
unfolding count_number count_value
returns c =
    let w = given_tells count_number count_value c.args.a c.put.ensures (λ x y old e. (refl, search rules)) (λ e old. (refl, refl)) in
    record { number = w.0; len = w.1 }
