-- `workspace::wall_masks` meets its contract: from the eighth axis and the last coordinate on no wall moves anything, and the loop keeps both masks so far.
use Prim.Native.Nat.{ℕ, min}
use mathlib.Core.Path.{◌≡◌, refl, ap, ◌∙◌}
use mathlib.Core.Bool.{Bool, ◌&&◌}
use native.Mathlib.Omega.{arith}
use borrow.Author.Rules.{rules}
use lib.Dec.{leb}
use lib.ListN.{length}
use Rattle.bits.specs.Bits.{bits_where}
use Rattle.bits.proofs.Bits.{Turned, turn}
use Rattle.checked.proofs.Each.{◌&&≡◌}
use Rattle.workspace.specs.declared.Shape.{Shape}
use Rattle.workspace.specs.Shape.{first_boxed, boxed}
use Rattle.workspace.specs.Rule.{raised_at, lowered_at}
use Rattle.workspace.specs.Of.{walls_in}
use Rattle.workspace.proofs.Shapes.{boxed_told}
use Rattle.workspace.proofs.Masks.{low_told, high_told, masks_are}
use Rattle.workspace.proofs.wall_masks.Goals as goal

pub loop-j-init : goal.loop-j-init
unfolding bits_where
loop-j-init c = record {
  there = omega (arith, c.fewer-m.ensures, c.fewer.ensures);
  narrow = omega (arith, c.fewer-m.ensures, c.fewer.ensures);
  next = refl;
  low_so_far = λ s h. refl;
  high_so_far = λ s h. refl;
}

-- the test of the loop, with what it tells of a wall
has_box : (s : Shape) (j : ℕ) {first : ℕ} {t u : Bool} → first ≡ first_boxed s → t ≡ u → leb first j && t ≡ boxed s j && u
has_box s j e h = (ap (λ (k : ℕ). leb k j) e ∙ boxed_told s j) &&≡ h

pub overflow_add-low : goal.overflow_add-low
overflow_add-low c =
    let l = c.loop-j in
    let s = c.args.shape in
    let h = c.first_boxed-first.ensures in
    let t = turn _ l.j l.low l.power _ (omega (arith, c.loop-j-test.true, l.invariant.narrow)) (l.invariant.low_so_far s h) l.invariant.next (has_box s l.j h (low_told _ _ _ c.clamp-c.ensures)) c.weight-low.ensures.0 in
    omega arith

lowered_turn : (c : goal.After-weight-high) → (shape : Shape) → c.first_boxed-first.result ≡ first_boxed shape → Turned (lowered_at (walls_in shape c.args.b) c.args.a.now) c.loop-j.j c.loop-j.high c.loop-j.power c.weight-high.result
lowered_turn c shape h =
    let l = c.loop-j in
    turn _ l.j l.high l.power _ (omega (arith, c.loop-j-test.true, l.invariant.narrow)) (l.invariant.high_so_far shape h) l.invariant.next (has_box shape l.j h (high_told _ _ _ c.clamp-c.ensures)) c.weight-high.ensures.0

pub overflow_add-high : goal.overflow_add-high
overflow_add-high c = let t = lowered_turn c c.args.shape c.first_boxed-first.ensures in omega arith

pub overflow_mul-power : goal.overflow_mul-power
overflow_mul-power c = let t = lowered_turn c c.args.shape c.first_boxed-first.ensures in omega arith

pub loop-j-preserved : goal.loop-j-preserved
loop-j-preserved c =
    let l = c.loop-j in
    let t = lowered_turn c c.args.shape c.first_boxed-first.ensures in
    record {
      there = l.invariant.there;
      narrow = l.invariant.narrow;
      next = t.next;
      low_so_far = λ shape h. (turn _ l.j l.low l.power _ (omega (arith, c.loop-j-test.true, l.invariant.narrow)) (l.invariant.low_so_far shape h) l.invariant.next (has_box shape l.j h (low_told _ _ _ c.clamp-c.ensures)) c.weight-low.ensures.0).so_far;
      high_so_far = λ shape h. (lowered_turn c shape h).so_far;
    }

pub returns : goal.returns
returns c =
    let l = c.loop-j in
    let s = c.args in
    let e : l.j ≡ min s.n (min (length s.a.now) 8) = omega (arith, l.auto.j-end, c.loop-j-test.false, c.fewer-m.ensures, c.fewer.ensures) in
    let first = c.first_boxed-first.ensures in
    masks_are
    (walls_in s.shape s.b)
    s.a.now
    s.n
    (search rules)
    (search rules)
    (l.invariant.low_so_far s.shape first ∙ ap (bits_where (raised_at (walls_in s.shape s.b) s.a.now)) e)
    (l.invariant.high_so_far s.shape first ∙ ap (bits_where (lowered_at (walls_in s.shape s.b) s.a.now)) e)
