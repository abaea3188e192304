-- `forecast::turn` meets its contract: what is answered fits what is read, and the lines fit the output.
use mathlib.Core.Path.{sym, ◌∙◌}
use native.Mathlib.Omega.{arith}
use lib.Seq.{length-take-le}
use Rattle.input.proofs.Answers.{answered_most}
use Rattle.forecast.proofs.Known.{on_ok, written}
use Rattle.forecast.proofs.turn.Goals as goal

pub slice_bounds-answer_block-end : goal.slice_bounds-answer_block-end
slice_bounds-answer_block-end g c = let f = c.fill-filled in omega (arith, c.answered-n.ensures, answered_most f.result 96, f.ensures.fills.fits)

pub slice_bounds-answer_block-end-2 : goal.slice_bounds-answer_block-end-2
slice_bounds-answer_block-end-2 g c =
    let f = c.fill-filled in
    sym (length-take-le _ _ (omega (arith, c.answered-n.ensures, answered_most f.result 96, f.ensures.fills.fits)))

pub returns-clause-turned : goal.returns-clause-turned
returns-clause-turned g c =
    let a = c.answer_block-answer.ensures in
    let n = c.answered-n.ensures in
    record { filled = c.fill-filled.ensures.fills.ends; answer = rw n at a.0; lines = rw n at a.1 }

pub returns-clause-wrote : goal.returns-clause-wrote
returns-clause-wrote g c = λ w h.
    let a = c.answer_block-answer.ensures in
    let e = on_ok c.write_all.result _ (sym c.is_ok-wrote.ensures.value ∙ w) c.write_all.ensures.bytes in
    let t = written _ _ c.args.first _ c.args.out.now c.answer_block-answer.new.out c.answer_block-answer.result (omega arith) a.0 a.1 h e in
    rw c.answered-n.ensures at t
