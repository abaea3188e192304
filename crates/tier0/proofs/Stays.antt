-- A row that is not out of the workspace stays: it is neither past the edge nor beyond a wall, so neither the pull nor a clamp moves it. The first move computes nothing of it but the
-- distance that the check has judged, so where that is finite the move may be passed over.
use Prim.Native.Nat.{ℕ, ◌≤◌, ◌<◌}
use mathlib.Core.Path.{◌≡◌, refl, sym, ap, ◌∙◌}
use mathlib.Core.Bool.{Bool, true, false, not, ◌&&◌, ◌||◌}
use mathlib.Core.List.{List, [], ◌∷◌}
use native.Mathlib.Omega.{arith}
use borrow.Author.Tests.{leb-true, not-true}
use lib.Dec.{leb}
use lib.Ieee.{Float, Format, lt}
use Rattle.std.specs.Prelude.{if◌then◌else◌}
use Rattle.checked.specs.Each.{at, some, over}
use Rattle.checked.specs.Checked.{Checked, pure}
use Rattle.checked.specs.Row.{padded}
use Rattle.checked.specs.Of.{test_from}
use Rattle.checked.specs.declared.Test.{Test}
use Rattle.checked.proofs.Copy.{padded_at}
use Rattle.checked.proofs.Each.{and_left, and_right, neither, all_at, some_same, some_none_at, over_itself}
use Rattle.fmath.specs.Clamp.{clamped}
use Rattle.fmath.proofs.Clamping.{clamp_keeps}
use Rattle.fmath.proofs.Lengths.{dist_same}
use Rattle.pull.specs.Rule.{pulled}
use Rattle.workspace.specs.declared.Shape.{Shape}
use Rattle.workspace.specs.declared.Shape.TheVariants.{Box, Disc}
use Rattle.workspace.specs.Shape.{boxed, spans}
use Rattle.workspace.specs.Of.{walls_in}
use Rattle.workspace.specs.Rule.{Walls, past_edge, beyond, outside, onto_disc, inside_at, inward}
use Rattle.workspace.proofs.Promises as workspace
use Rattle.tier0.specs.declared.Checks.{Checks}
use Rattle.tier0.specs.Rule.{WORKSPACE, arms, box_dims, out_of_workspace, moved_inside}
use Rattle.tier0.specs.Chunk.{raw_row, some_of, some_out_of_workspace}
use Rattle.tier0.specs.Promises.{RowInside}
use Rattle.tier0.proofs.Masks.{not_out}

-- ---- the row stays

-- a row that is not past the edge is not pulled
onto_stays : (f : Format) (s : Shape) (a : List Float) → (past_edge f s a).value ≡ false → (onto_disc f s a).value ≡ a
unfolding past_edge onto_disc
onto_stays f Box a h = refl
onto_stays f (Disc x y radius) a h = ((workspace.promised).on_a_disc f x y radius [] [] a 0).inside_stays h

-- a coordinate that is not beyond its walls is not clamped
inside_keeps : (w : Walls) (a : List Float) (j : ℕ) → beyond w a j ≡ false → inside_at w a j ≡ at a j
inside_keeps w a j = go (boxed w.shape j)
  where
    go : (b : Bool) → (b && (lt (at a j) (at w.lo j) || lt (at w.hi j) (at a j))) ≡ false → (if b then clamped (at a j) (at w.lo j) (at w.hi j) else at a j) ≡ at a j
    go true h = let none = neither (lt (at a j) (at w.lo j)) (lt (at w.hi j) (at a j)) h in clamp_keeps (at a j) (at w.lo j) (at w.hi j) none.0 none.1
    go false h = refl

inward_stays : (f : Format) (s : Checks) (a : List Float) → RowInside f s a → (inward f (walls_in s.shape s.walls) a (box_dims s)).value ≡ a
unfolding inward
inward_stays f s a h =
    let w = walls_in s.shape s.walls in
    ap (λ (b : List Float). over (inside_at w b) b (box_dims s)) (onto_stays f s.shape a h.within_edge) ∙ over_itself (inside_at w a) a (box_dims s) (λ j l. inside_keeps w a j (h.within_walls j l))

-- a row stays that is inside where WORKSPACE is armed
kept_where : (f : Format) (s : Checks) (a : List Float) → (arms s WORKSPACE ≡ true → RowInside f s a) → (moved_inside f s a).value ≡ a
unfolding moved_inside
kept_where f s a h = go (arms s WORKSPACE) refl
  where
    go : (b : Bool) → arms s WORKSPACE ≡ b → (if b then inward f (walls_in s.shape s.walls) a (box_dims s) else pure a).value ≡ a
    go true armed = inward_stays f s a (h armed)
    go false unarmed = refl

pub kept : (f : Format) (s : Checks) (a : List Float) → (out_of_workspace f s a).value ≡ false → (moved_inside f s a).value ≡ a
kept f s a h = kept_where f s a (λ armed. not_out f s a armed h)

-- ---- nothing more is computed

-- of a row that is not past the edge the pull computes the distance alone
onto_sound : (f : Format) (s : Shape) (a : List Float) → (past_edge f s a).value ≡ false → (onto_disc f s a).sound ≡ (past_edge f s a).sound
unfolding past_edge onto_disc pulled
onto_sound f Box a h = refl
onto_sound f (Disc x y radius) a h = rw h

kept_sound : (f : Format) (s : Checks) (a : List Float) → (out_of_workspace f s a).value ≡ false → (moved_inside f s a).sound ≡ (out_of_workspace f s a).sound
unfolding moved_inside out_of_workspace inward outside
kept_sound f s a h = go (arms s WORKSPACE) refl
  where
    w : Walls
    w = walls_in s.shape s.walls

    go : (b : Bool) → arms s WORKSPACE ≡ b → (if b then inward f w a (box_dims s) else pure a).sound ≡ (if b then outside f w a (box_dims s) else pure false).sound
    go true armed = ap (λ (t : Bool). t && true) (onto_sound f s.shape a (not_out f s a armed h).within_edge)
    go false unarmed = refl

-- where the check has found the row inside, the first move gives it as it came
pub inside_kept : (f : Format) (s : Checks) (a : List Float) → out_of_workspace f s a ≡ pure false → moved_inside f s a ≡ pure a
inside_kept f s a e =
    let in-value = ap (λ (x : Checked Bool). x.value) e in
    rw (kept f s a in-value, kept_sound f s a in-value, e)

-- ---- what the check finds

-- it found the row inside, or each of some rows
pub found_inside : (x : Checked Bool) {t : Test} → t ≡ test_from x → t.sound && not t.holds ≡ true → x ≡ pure false
found_inside x {t} e h = rw (sym (ap (λ (r : Test). r.holds) e) ∙ not-true t.holds (and_right t.sound (not t.holds) h), sym (ap (λ (r : Test). r.sound) e) ∙ and_left t.sound (not t.holds) h)

pub each_inside : (f : Format) (s : Checks) (rows : List Float) (h : ℕ) → some_out_of_workspace f s rows h ≡ pure false → (i : ℕ) → i < h → out_of_workspace f s (raw_row rows s.dim i) ≡ pure false
unfolding some_out_of_workspace some_of
each_inside f s rows h e i l =
    rw (some_none_at (λ (j : ℕ). (out_of_workspace f s (raw_row rows s.dim j)).value) h (ap (λ (x : Checked Bool). x.value) e) i l, all_at (λ (j : ℕ). (out_of_workspace f s (raw_row rows s.dim j)).sound) h (ap (λ (x : Checked Bool). x.sound) e) i l)

-- ---- the row that projection is given has the action's numbers on the coordinates of the disc and on the shared ones

past_alike : (f : Format) (s : Shape) (dim pos-dim : ℕ) (a b : List Float) → spans s dim pos-dim ≡ true → ((j : ℕ) → j < dim → at b j ≡ at a j) → past_edge f s b ≡ past_edge f s a
unfolding past_edge
past_alike f Box dim pos-dim a b fits same = refl
past_alike f (Disc x y radius) dim pos-dim a b fits same =
    let two : 2 ≤ dim = leb-true 2 dim (and_left (leb 2 dim) (leb 2 pos-dim) fits) in
    rw (dist_same f b (x ∷ y ∷ []) a (x ∷ y ∷ []) 2 (λ j h. same j (omega (arith, two))) (λ j h. refl))

beyond_alike : (s : Checks) (a b : List Float) → ((j : ℕ) → j < s.dim → at b j ≡ at a j) → some (beyond (walls_in s.shape s.walls) b) (box_dims s) ≡ some (beyond (walls_in s.shape s.walls) a) (box_dims s)
beyond_alike s a b same =
    let w = walls_in s.shape s.walls in
    some_same (beyond w b) (beyond w a) (box_dims s) (λ j l. ap (λ (x : Float). boxed s.shape j && (lt x (at s.walls.lo j) || lt (at s.walls.hi j) x)) (same j (omega arith)))

pub padded_alike : (f : Format) (s : Checks) (a : List Float) → s.dim ≤ 8 → spans s.shape s.dim s.pos_dim ≡ true → out_of_workspace f s (padded a s.dim) ≡ out_of_workspace f s a
unfolding out_of_workspace outside
padded_alike f s a narrow fits =
    let row = padded a s.dim in
    let same : (j : ℕ) → j < s.dim → at row j ≡ at a j = λ j h. padded_at a s.dim j narrow h in
    rw (past_alike f s.shape s.dim s.pos_dim a row fits same, beyond_alike s a row same)
