-- `Trail::net` meets its contract: the trail is judged first, and the test of the last number is a test of all.
use Rattle.std.specs.Prelude.{Result}
use Rattle.refusal.specs.declared.Refusal.{Refusal}
use Prim.Native.Nat.{ℕ}
use mathlib.Core.Path.{◌≡◌, refl, ap, ◌∙◌}
use lib.Ieee.{Float, binary64}
use Rattle.refusal.specs.Order.{refusal}
use Rattle.window.specs.declared.Trail.{Trail}
use Rattle.window.specs.Answer.{out_of_size, unfit, trail_reasons, number_after, net_of}
use Rattle.window.specs.Rule.{net}
use Rattle.window.proofs.TrailJudged.{computed_last}
use Rattle.window.proofs.TrailTold.{net_tells}
use Rattle.window.proofs.Trail.net.Goals as goal

answered : (t : Trail) (d w n : ℕ) (x : Float) (r : Result Float Refusal) → n ≡ refusal (trail_reasons t) → x ≡ (net binary64 t.buf t.head t.len d w).value → r ≡ number_after n x → r ≡ net_of binary64 t d w
unfolding net_of
answered t d w n x r en ex er =
    er ∙ ap (number_after n) ex ∙ computed_last (out_of_size t) (unfit t) (net binary64 t.buf t.head t.len d w) n en (net_tells binary64 t.buf t.head t.len d w)

pub returns : goal.returns
returns c =
    let a = c.args in
    answered a.self a.d a.w _ _ _ refl c.displacement.ensures (c.number_after.ensures _ c.trail_refusal-judged.ensures)
