-- `card::text::width` meets its contract: what is counted and what is left to count make the whole.
use Rattle.card.proofs.Digits.{going, ended, counted}
use native.Mathlib.Omega.{arith}
use Rattle.card.proofs.text.width.Goals as goal

pub loop-left-preserved : goal.loop-left-preserved
loop-left-preserved c = let g = going c.loop-left.left c.loop-left.rest c.loop-left-test.true in (omega arith, omega (arith, g.0, c.loop-left.invariant, counted c.loop-left.left c.loop-left.rest g.0 g.1))

pub returns : goal.returns
returns c = omega (arith, c.loop-left.invariant, ended c.loop-left.left c.loop-left.rest c.loop-left-test.false)
