-- `workspace::slack` meets its contract: what its closures give is the edge and the gaps of the rule.
use mathlib.Core.Path.{◌≡◌, ap, ◌∙◌}
use native.Mathlib.Omega.{arith}
use borrow.Author.Rules.{rules}
use lib.Ieee.{binary64}
use lib.ListN.{length}
use Rattle.checked.specs.Of.{reckoned_from}
use Rattle.workspace.specs.Rule.{gap}
use Rattle.workspace.specs.Of.{walls_of}
use Rattle.workspace.proofs.Gaps.{gap_missing}
use Rattle.workspace.proofs.Over.{least_is, edge_of, slack_is, edge_is}
use Rattle.workspace.proofs.slack.Goals as goal

pub returns : goal.returns
returns c =
    let s = c.args in
    let w = walls_of s.w in
    let long : length s.p ≡ 8 = search rules in
    let first = edge_is _ s.p (gap binary64 w s.p) s.w.shape (λ x y radius e i k. search rules) c.edge_slack-edge.result c.edge_slack-edge.ensures in
    least_is s.w.shape c.edge_slack-edge.result _ s.n c.slack_over.result c.slack_over.ensures.few c.slack_over.ensures.all (edge_of binary64 s.w.shape s.p) (gap binary64 w s.p) first (λ j d b k. search rules) (λ j h. gap_missing binary64 w s.p j (omega arith))
    ∙ ap reckoned_from (slack_is binary64 w s.p s.n s.w.shape)
