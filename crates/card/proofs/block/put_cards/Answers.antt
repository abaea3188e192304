-- `card::block::put_cards` meets its contract: after k turns the lines of k records stand, in at most 97 k bytes.
use mathlib.Core.Path.{refl, ◌∙◌}
use Prim.Native.Nat.{◌+◌, ◌*◌}
use native.Mathlib.Omega.{arith}
use borrow.Author.Rules.{rules}
use Rattle.card.proofs.Lines.{none, more, line_length}
use Rattle.card.proofs.block.put_cards.Goals as goal

pub loop-k-init : goal.loop-k-init
loop-k-init c = record { along = search rules; few = search rules; so_far = none _ _ _; same = refl; same_slack = refl }

pub loop-k-preserved : goal.loop-k-preserved
loop-k-preserved c = record {
  along = omega arith;
  few = omega (arith, c.loop-k.invariant.few, c.put_card-at.ensures, line_length (c.args.first + c.loop-k.k) c.args.input.now (c.loop-k.k * 96));
  so_far = more c.args.first c.loop-k.k c.args.input.now c.loop-k.invariant.so_far c.put_card-at.ensures;
  same = c.put_card-at.auto.out ∙ c.loop-k.invariant.same;
  same_slack = c.put_card-at.auto.slack ∙ c.loop-k.invariant.same_slack;
}
