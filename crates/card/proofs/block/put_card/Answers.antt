-- `card::block::put_card` meets its contract: decoded, run, answered and put, each by its own rule.
use Rattle.card.proofs.Lines.{line_is}
use Rattle.card.specs.Text.{Put}
use Prim.Native.Nat.{◌+◌, ◌-◌}
use mathlib.Core.Path.{subst}
use native.Mathlib.Omega.{arith}
use Rattle.card.proofs.block.put_card.Goals as goal

pub returns : goal.returns
returns c =
    subst (Put _ _ _ _)
    (line_is c.args.n c.args.input.now c.args.from (c.args.from + 96 - c.args.from) (omega arith)
    c.decode-c.ensures
    c.requires.2
    c.run-o.ensures.0
    c.answer_of-a.ensures)
    c.put_line.ensures
