-- `lictor::answer::put_mask` meets its contract: what is put is given.
use mathlib.Core.Path.{refl}
use borrow.Author.Rules.{rules}
use Rattle.lictor.specs.Answer.{mask_number, mask_value}
use Rattle.lictor.proofs.Put.{given_tells}
use Rattle.lictor.proofs.answer.put_mask.Goals as goal

pub returns : goal.returns
unfolding mask_number mask_value
returns c =
    let w = given_tells mask_number mask_value c.args.a c.put.ensures (λ x y old e. (refl, search rules)) (λ e old. (refl, refl)) in
    record { number = w.0; value = w.1 }
