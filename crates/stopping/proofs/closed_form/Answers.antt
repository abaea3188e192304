-- `stopping::closed_form` meets its contract: the start, then the committed rows, come along all the entries (`Along`).
use Prim.Native.Nat.{suc}
use mathlib.Core.Path.{◌≡◌, refl, sym, ap, ◌∙◌}
use native.Mathlib.Omega.{arith}
use lib.Ieee.{binary64, of_bits, div}
use Rattle.course.proofs.Along.{run_is, written_is}
use Rattle.checked.specs.declared.Reckoned.{Reckoned}
use Rattle.stopping.specs.Rule.{stand, reaction, gain, forecast}
use Rattle.stopping.specs.Of.{task_of, Along}
use Rattle.checked.specs.Of.{reckoned_from}
use Rattle.course.specs.Of.{left_of}
use Rattle.course.proofs.Room.{shape_of}
use Rattle.stopping.proofs.Room.{room_of}
use Rattle.stopping.proofs.closed_form.Goals as goal

pub returns-then-not-roomy : goal.returns-then-not-roomy
unfolding of_bits div
returns-then-not-roomy c = rw (c.halted.ensures, sym c.roomy.ensures ∙ c.if-not-roomy.true) (record { value = refl; slack_after = refl })

pub begin-first-requires : goal.begin-first-requires
begin-first-requires c = let r = room_of _ _ _ (sym c.roomy.ensures ∙ c.if-not-roomy.false) in ((shape_of _ _ r.0).axes, omega (arith, r.1))

pub follow-requires : goal.follow-requires
follow-requires c =
    let r = room_of _ _ _ (sym c.roomy.ensures ∙ c.if-not-roomy.false) in
    let call = c.begin-first in
    (r.0, omega (arith, r.1, call.ensures.0, call.auto.slack))

pub returns : goal.returns
unfolding reaction
returns c =
    let s = c.args in
    let t = task_of s.arm s.react_ticks s.w s.c s.start s.rows.now in
    let pull : reckoned_from (gain binary64 t) ≡ c.ratio-g.result = sym c.ratio-g.ensures in
    let delay : reckoned_from (reaction binary64 t) ≡ c.reaction-react.result = sym c.reaction-react.ensures in
    let a : Along binary64 t s.slack.now (suc (left_of s.c).0) c.follow.result c.follow.new.slack =
    c.follow.ensures.1 s.react_ticks s.start s.slack.now
    (record { pull = ap (λ (x : Reckoned). x.value) pull; delay = ap (λ (x : Reckoned). x.value) delay })
    (c.begin-first.ensures.1 s.react_ticks s.rows.now pull delay)
    in
    rw (sym c.roomy.ensures ∙ c.if-not-roomy.false) (record { value = run_is (forecast binary64 t) (stand binary64 t) s.slack.now _ _ a; slack_after = written_is (forecast binary64 t) (stand binary64 t) s.slack.now _ _ a })
