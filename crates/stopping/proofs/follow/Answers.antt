-- `stopping::follow` meets its contract: the loop takes one row a turn.
use Prim.Native.Nat.{suc, ◌+◌}
use mathlib.Core.Path.{◌≡◌, sym, ap, ◌∙◌}
use native.Mathlib.Omega.{arith}
use lib.ListN.{length}
use lib.Ieee.{binary64}
use Rattle.chunk.proofs.Rows.{row_long}
use Rattle.course.proofs.Along.{along_at}
use Rattle.course.proofs.Room.{shape_of}
use Rattle.stopping.specs.Rule.{stand, forecast}
use Rattle.stopping.specs.Of.{task_of}
use Rattle.stopping.proofs.follow.Goals as goal

pub row-next-requires : goal.row-next-requires
row-next-requires c =
    let s = c in
    let i = c.loop-i in
    let q = shape_of _ _ s.requires.0 in
    let long : length c.action-a.result.now ≡ s.args.c.dim =
    ap length c.action-a.ensures ∙ row_long s.args.rows.now s.args.c.horizon s.args.c.dim (s.args.c.from + i.i) q.rowed q.there in
    (q.axes, omega (arith, long, q.within), omega (arith, i.invariant.written, i.invariant.rows_left, i.invariant.same, c.loop-i-test.true, s.requires.1))

pub loop-i-preserved : goal.loop-i-preserved
loop-i-preserved c =
    let s = c in
    let i = c.loop-i in
    let call = c.row-next in record {
      turns = omega (arith, c.loop-i-test.true);
      rows_left = i.invariant.rows_left;
      same = call.auto.slack ∙ i.invariant.same;
      written = omega (arith, call.ensures.0, i.invariant.written);
      comes = λ ticks q l u h.
          let t = task_of s.args.arm ticks s.args.w s.args.c q s.args.rows.now in
          along_at (forecast binary64 t) (stand binary64 t) l (suc (i.i + 1)) call.result _ (suc i.i + 1) (omega arith)
          (call.ensures.1 ticks q s.args.rows.now l i.i u (i.invariant.comes ticks q l u h) (λ _. sym c.action-a.ensures));
    }
