-- `window::stored` meets its contract: the numbers are copied over a part of the ring.
use Prim.Native.Nat.{◌+◌, ◌-◌}
use mathlib.Core.Path.{◌≡◌, ap, ◌∙◌}
use mathlib.Core.List.{List, ◌++◌}
use native.Mathlib.Omega.{arith}
use lib.Ieee.{Float}
use lib.ListN.{length, take, drop, length-take}
use lib.Seq.{take_all}
use Rattle.std.proofs.lemmas.Slice.{put_mid-paste}
use Rattle.window.proofs.stored.Goals as goal

pub returns : goal.returns
returns c =
    let s = c.args in
    let k : s.n ≡ s.at + s.n - s.at = omega arith in
    let long : s.n ≡ length (take s.n s.p.now) = omega (arith, length-take s.n s.p.now) in
    put_mid-paste s.at _ s.buf _ (take s.n s.p.now) s.n c.copy_from_slice.ensures.after k long
    ∙ ap (λ (r : List Float). take s.at s.buf ++ r ++ drop (s.at + s.n) s.buf) (take_all s.n (take s.n s.p.now) (omega arith))
