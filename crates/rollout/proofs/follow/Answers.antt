-- `rollout::follow` meets its contract: the loop holds one row a turn, and row i is what its substeps go towards (`Rows`).
use Prim.Native.Nat.{ℕ, ◌+◌, ◌*◌, ◌<◌}
use mathlib.Core.Path.{◌≡◌, refl, sym, ap, ◌∙◌}
use native.Mathlib.Omega.{arith}
use lib.ListN.{length}
use lib.Ieee.{binary64}
use Rattle.checked.specs.Checked.{pure}
use Rattle.chunk.proofs.Rows.{row_long}
use Rattle.chunk.proofs.Rows.{row_within_lem}
use Rattle.rollout.specs.Rule.{after, forecast}
use Rattle.rollout.specs.Of.{task_of}
use Rattle.course.specs.Of.{left_of}
use Rattle.course.proofs.Along.{along_at}
use Rattle.course.proofs.Room.{shape_of}
use Rattle.rollout.proofs.Along.{aimed_step}
use Rattle.rollout.proofs.Rows.{row_more, aims_row}
use Rattle.rollout.proofs.follow.Goals as goal

pub hold-next-requires : goal.hold-next-requires
hold-next-requires c =
    let s = c in
    let i = c.loop-i in
    let q = shape_of _ _ s.requires.0 in
    let long : length c.action-a.result.now ≡ s.args.c.dim =
    ap length c.action-a.ensures ∙ row_long s.args.rows.now s.args.c.horizon s.args.c.dim (s.args.c.from + i.i) q.rowed q.there in
    (q.axes, omega (arith, long, q.within), omega (arith, i.invariant.written, i.invariant.rows_left, i.invariant.same, row_within_lem i.i (left_of s.args.c).0 s.args.c.per.0 (omega (arith, i.invariant.rows_left)), s.requires.1), s.requires.2)

still : (c : goal.After-slice_known-in-loop-i-1) → c.loop-i.i < (left_of c.args.c).0
still c = omega (arith, c.loop-i-test.true, c.loop-i.invariant.rows_left)

pub loop-i-preserved : goal.loop-i-preserved
loop-i-preserved c =
    let s = c in
    let i = c.loop-i in
    let call = c.hold-next in
    let per = s.args.c.per.0 in record {
      turns = omega (arith, c.loop-i-test.true);
      rows_left = i.invariant.rows_left;
      substeps = refl;
      same = call.auto.slack ∙ i.invariant.same;
      written = omega (arith, call.ensures.0, i.invariant.written, row_more i.i per);
      comes = λ q l h.
          let t = task_of s.args.g s.args.w s.args.c q s.args.rows.now in
          along_at (forecast binary64 t) (after binary64 t) l ((i.i + 1) * per) call.result _ (i.i * per + per) (sym (row_more i.i per))
          (call.ensures.1 (forecast binary64 t) (after binary64 t) l (i.i * per)
          (λ _ j b. aimed_step binary64 t (i.i * per + j) _ (aims_row binary64 t i.i j (still c) b ∙ ap pure (sym c.action-a.ensures)))
          (i.invariant.comes q l h));
    }

pub returns : goal.returns
returns c =
    let s = c in
    let i = c.loop-i in
    let per = s.args.c.per.0 in
    let e : i.i ≡ (left_of s.args.c).0 = omega (arith, i.invariant.rows_left) in
    let m : i.i * per ≡ (left_of s.args.c).0 * per = ap (λ (x : ℕ). x * per) e in
    (omega (arith, i.invariant.written, m), λ q l h. along_at (forecast binary64 (task_of s.args.g s.args.w s.args.c q s.args.rows.now)) (after binary64 (task_of s.args.g s.args.w s.args.c q s.args.rows.now)) l ((left_of s.args.c).0 * per) _ _ (i.i * per) m (i.invariant.comes q l h))
