-- `workspace::slack_abreast` meets its contract: with a disc the axes are judged one by one; at a box what is measured on all eight gives the slack of n
-- (`slack_from`), or they are judged one by one, too.
use mathlib.Core.Path.{◌≡◌, sym, ap, ◌∙◌}
use mathlib.Core.Bool.{not}
use native.Mathlib.Omega.{arith}
use borrow.Author.Tests.{not-false, ltb-false}
use lib.Dec.{ltb}
use lib.Ieee.{Float, binary64}
use Rattle.checked.specs.Checked.{Checked}
use Rattle.checked.proofs.Each.{neither}
use Rattle.workspace.specs.declared.Shape.{Shape}
use Rattle.workspace.specs.declared.Shape.TheVariants.{Box}
use Rattle.workspace.specs.Rule.{slack_in}
use Rattle.workspace.specs.Of.{walls_of}
use Rattle.workspace.proofs.Shapes.{all_boxed}
use Rattle.workspace.proofs.Gaps.{slack_from}
use Rattle.workspace.proofs.slack_abreast.Goals as goal

pub least_of-least-requires : goal.least_of-least-requires
least_of-least-requires c = ltb-false _ _ (neither (ltb 8 c.args.n) (not c.finite.result) c.if-n-finite.false).0

pub returns : goal.returns
returns c =
    let s = c.args in
    let boxed : s.w.shape ≡ Box = all_boxed s.w.shape (sym c.first_boxed.ensures ∙ omega arith) in
    let t = neither (ltb 8 s.n) (not c.finite.result) c.if-n-finite.false in
    let m = c.around_all-r in
    let e = slack_from binary64 (walls_of s.w) s.p m.result.near 8 s.n (ltb-false _ _ t.0) m.ensures.0 (m.ensures.1 (sym c.finite.ensures ∙ not-false _ t.1)) in
    let b = sym (ap (λ (x : Shape). slack_in binary64 x (walls_of s.w) s.p s.n) boxed) in
    λ i. record { value = (c.least_of-least.ensures ∙ e.0 ∙ ap (λ (d : Checked Float). d.value) b) i; sound = (e.1 ∙ ap (λ (d : Checked Float). d.sound) b) i }
