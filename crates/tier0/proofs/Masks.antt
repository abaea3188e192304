-- The walls that moved the rows: by the tests that led to each answer. A row that is not out of the workspace was moved by none.
use Prim.Native.Nat.{ℕ, ◌<◌}
use mathlib.Core.Path.{◌≡◌, refl, sym, ◌∙◌}
use mathlib.Core.Bool.{Bool, true, false, ◌&&◌, false≢true}
use mathlib.Core.List.{List}
use lib.Ieee.{Float, Format}
use Rattle.std.specs.Prelude.{if◌then◌else◌}
use Rattle.checked.specs.Checked.{Checked, pure}
use Rattle.checked.specs.Each.{some}
use Rattle.checked.proofs.Each.{and_right, neither, some_none_at}
use Rattle.workspace.specs.declared.WallMasks.{WallMasks}
use Rattle.workspace.specs.Of.{walls_in}
use Rattle.workspace.specs.Rule.{past_edge, outside, beyond, wall_masks, any_masks, unmoved}
use Rattle.workspace.proofs.Masks.{inside_unmoved, any_inside_unmoved}
use Rattle.envelope.specs.declared.ClampMode.{ClampMode}
use Rattle.envelope.specs.declared.ClampMode.TheVariants as M
use Rattle.tier0.specs.declared.Checks.{Checks}
use Rattle.tier0.specs.Rule.{WORKSPACE, arms, box_dims, out_of_workspace, moves_inside, row_masks}
use Rattle.tier0.specs.Chunk.{raw_row, some_of, some_out_of_workspace, rows_masks}
use Rattle.tier0.specs.Promises.{RowInside}

module _ (s : Checks) (m : ClampMode) where
  pub moves_inside_off : m ≡ M.Off → false ≡ moves_inside s m
  unfolding moves_inside
  moves_inside_off e = rw e

  pub moves_inside_on : m ≡ M.Project → {k : Bool} → k ≡ arms s WORKSPACE → k ≡ moves_inside s m
  unfolding moves_inside
  moves_inside_on e h = rw e h

-- rows are moved inside the workspace only where WORKSPACE is armed
pub moves_inside_armed : (s : Checks) (m : ClampMode) → moves_inside s m ≡ true → arms s WORKSPACE ≡ true
unfolding moves_inside
moves_inside_armed s M.Off e = absurd (false≢true e)
moves_inside_armed s M.Project e = e

-- an armed check whose test fails
armed_test : (b : Bool) (x : Checked Bool) → b ≡ true → (if b then x else pure false).value ≡ false → x.value ≡ false
armed_test b x e h = rw e at h

-- a row that is not out of the workspace, where WORKSPACE is armed, is inside it
pub not_out : (f : Format) (s : Checks) (a : List Float) → arms s WORKSPACE ≡ true → (out_of_workspace f s a).value ≡ false → RowInside f s a
unfolding out_of_workspace outside
not_out f s a e h =
    let none = neither (past_edge f s.shape a).value (some (beyond (walls_in s.shape s.walls) a) (box_dims s)) (armed_test (arms s WORKSPACE) (outside f (walls_in s.shape s.walls) a (box_dims s)) e h) in
    record { within_edge = none.0; within_walls = some_none_at (beyond (walls_in s.shape s.walls) a) (box_dims s) none.1 }

-- so it has no coordinate beyond its walls
none_beyond : (f : Format) (s : Checks) (a : List Float) → arms s WORKSPACE ≡ true → (out_of_workspace f s a).value ≡ false → (j : ℕ) → j < box_dims s → beyond (walls_in s.shape s.walls) a j ≡ false
none_beyond f s a e h = (not_out f s a e h).within_walls

-- the two tests of the code
left_false : (b c : Bool) → b && c ≡ false → c ≡ true → b ≡ false
left_false true c e h = sym h ∙ e
left_false false c e h = refl

module _ (f : Format) (s : Checks) (out k : Bool) (ek : k ≡ moves_inside s s.clamp) where
  abbrev n : ℕ
  n = box_dims s

  where_made : {A : Type 0} (b : Bool) (x y : A) → (b ≡ true → x ≡ y) → (if b then x else y) ≡ y
  where_made true x y h = h refl
  where_made false x y h = refl

  module _ (a : List Float) (eo : out ≡ (out_of_workspace f s a).value) where
    pub row_moved : (out && k) ≡ true → {r : WallMasks} {d : ℕ} → d ≡ n → r ≡ wall_masks (walls_in s.shape s.walls) a d → r ≡ row_masks s a
    unfolding row_masks
    row_moved h ed e = rw (sym ek ∙ and_right out k h) (e ∙ rw ed)

    pub row_unmoved : (out && k) ≡ false → {r : WallMasks} → r ≡ unmoved → r ≡ row_masks s a
    unfolding row_masks
    row_unmoved h e =
        e ∙ sym (where_made (moves_inside s s.clamp) (wall_masks (walls_in s.shape s.walls) a n) unmoved (λ b. inside_unmoved (walls_in s.shape s.walls) a n (none_beyond f s a (moves_inside_armed s s.clamp b) (sym eo ∙ left_false out k h (ek ∙ b)))))

  module _ (rows : List Float) (h : ℕ) (eo : out ≡ (some_out_of_workspace f s rows h).value) where
    pub rows_moved : (out && k) ≡ true → {r : WallMasks} → r ≡ any_masks (walls_in s.shape s.walls) (raw_row rows s.dim) h n → r ≡ rows_masks s rows h
    unfolding rows_masks
    rows_moved g e = rw (sym ek ∙ and_right out k g) e

    pub rows_unmoved : (out && k) ≡ false → {r : WallMasks} → r ≡ unmoved → r ≡ rows_masks s rows h
    unfolding rows_masks some_out_of_workspace some_of
    rows_unmoved g e =
        e ∙ sym (where_made (moves_inside s s.clamp) (any_masks (walls_in s.shape s.walls) (raw_row rows s.dim) h n) unmoved (λ b. any_inside_unmoved (walls_in s.shape s.walls) (raw_row rows s.dim) h n (λ i l. none_beyond f s (raw_row rows s.dim i) (moves_inside_armed s s.clamp b) (some_none_at (λ (j : ℕ). (out_of_workspace f s (raw_row rows s.dim j)).value) h (sym eo ∙ left_false out k g (ek ∙ b)) i l))))
