-- `tier1::held::met` meets its contract: rows that overlap lie in both chunks.
use Prim.Native.Nat.{◌+◌, ◌-◌, ◌≤◌}
use native.Mathlib.Nat.{le_trans, mul-le-mul_right}
use native.Mathlib.Omega.{arith}
use Rattle.tier1.proofs.Meeting.{overlapping}
use Rattle.tier1.proofs.held.met.Goals as goal

pub overflow_sub-s : goal.overflow_sub-s
overflow_sub-s c = let g = c.args in (overlapping g.k g.t g.h g.m.dim (rw c.overlap-l.ensures at c.if-l-lt2.false)).emitted

pub matched-requires : goal.matched-requires
matched-requires c =
    let w = c.requires in
    let g = c.args in
    let o = overlapping g.k g.t g.h g.m.dim (rw c.overlap-l.ensures at c.if-l-lt2.false) in
    let e = c.overlap-l.ensures in
    let l = c.overlap-l.result in
    let v = w.2 o.there in
    let s = g.t - g.k.t_emit in
    let i : s + l ≤ g.k.horizon = rw e o.inside in
    (w.0, omega (arith, c.if-l-lt2.false), le_trans i v.0, le_trans (mul-le-mul_right {m = s + l} {n = g.k.horizon} g.m.dim i) (rw o.wide at v.1), le_trans (mul-le-mul_right {m = l} {n = g.h} g.m.dim (rw e o.of_new)) w.1)
