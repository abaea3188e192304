-- `lictor::answer::put_bin` meets its contract: what is put is given.
use mathlib.Core.Path.{refl}
use borrow.Author.Rules.{rules}
use Rattle.lictor.specs.Answer.{bin_number, bin_value}
use Rattle.lictor.proofs.Put.{given_tells}
use Rattle.lictor.proofs.answer.put_bin.Goals as goal

pub returns : goal.returns
unfolding bin_number bin_value
returns c =
    let w = given_tells bin_number bin_value c.args.a c.put.ensures (λ x y old e. (refl, search rules)) (λ e old. (refl, refl)) in
    record { number = w.0; bin = w.1 }
