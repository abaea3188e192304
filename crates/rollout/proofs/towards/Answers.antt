-- `rollout::towards` meets its contract: a run that starts afresh, held for its substeps, comes along all entries of the leg.
use Prim.Native.Nat.{◌+◌}
use mathlib.Core.Path.{◌≡◌, refl}
use mathlib.Core.Bool.{true, false}
use native.Mathlib.Nat.{zero-add}
use lib.ListN.{length}
use lib.Ieee.{binary64, of_bits, div}
use Rattle.checked.specs.Each.{every, every_from}
use Rattle.course.specs.Of.{state_of, CameAlong}
use Rattle.course.proofs.Along.{along_start, along_at, run_is, written_is}
use Rattle.rollout.specs.Leg.{reached, leg}
use Rattle.rollout.specs.Of.{leg_of, leg_roomy}
use Rattle.rollout.proofs.towards.Goals as goal

pub returns-then-not-roomy : goal.returns-then-not-roomy
unfolding of_bits div leg_roomy every every_from
returns-then-not-roomy c =
    let s = c.args in
    let roomless : leg_roomy s.n (length s.a.now) s.count (length s.slack.now) ≡ false = c.if-not-roomy.true in
    rw roomless (record { value = refl; slack_after = refl })

pub returns : goal.returns
unfolding of_bits div leg_roomy every every_from reached
returns c =
    let s = c.args in
    let v = leg_of binary64 s.g s.w s.n s.a.now in
    let q = leg binary64 v (state_of s.start) s.count in
    let stand = reached binary64 v (state_of s.start) in
    let has_room : leg_roomy s.n (length s.a.now) s.count (length s.slack.now) ≡ true = c.if-not-roomy.false in
    let comes : CameAlong q stand s.slack.now s.count c.hold.result c.hold.new.slack =
    along_at q stand s.slack.now s.count c.hold.result c.hold.new.slack (0 + s.count) (zero-add s.count)
    (c.hold.ensures.1 q stand s.slack.now 0 (λ _ j b. record { moves = refl; measures = refl }) (along_start q stand s.slack.now s.start refl))
    in
    rw has_room (record { value = run_is _ _ s.slack.now _ _ comes; slack_after = written_is _ _ s.slack.now _ _ comes })
