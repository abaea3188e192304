-- A row as it is sent: the row itself on the axes within pos_dim, and everywhere where the last command is not written; past pos_dim the last command's numbers where it is.
use Prim.Native.Nat.{ℕ, ◌≤◌, ◌<◌}
use mathlib.Core.Path.{◌≡◌, refl, ap, ◌∙◌}
use mathlib.Core.Bool.{Bool, true, false, ◌&&◌, and-false}
use mathlib.Core.List.{List}
use native.Mathlib.Omega.{arith}
use borrow.Author.Tests.{le-leb, lt-leb}
use lib.ListN.{length}
use lib.Ieee.{Float}
use Rattle.checked.specs.Each.{at, over}
use Rattle.checked.proofs.Each.{over_at, over_itself, over_same}
use Rattle.envelope.specs.declared.ActionKind.{ActionKind}
use Rattle.envelope.specs.declared.ActionKind.TheVariants.{EePosition}
use Rattle.envelope.specs.declared.FuseConfig.{FuseConfig}
use Rattle.envelope.specs.declared.Gripper.{Gripper}
use Rattle.envelope.specs.declared.Gripper.TheVariants.{LastCommand}
use Rattle.brake.specs.Rule.{live, is_position, takes_last, sent_coordinate, sent_row}
use Rattle.brake.specs.Promises.{bounded}

-- the mode and the kind in which the last command is written
abbrev pub writes_last : Gripper → ActionKind → Bool
writes_last g k = takes_last g && is_position k

module _ (g : Gripper) (k : ActionKind) (pos-dim : ℕ) (last row : List Float) where
  pub own_within : (j : ℕ) → j < pos-dim → sent_coordinate g k pos-dim last row j ≡ at row j
  unfolding sent_coordinate
  own_within j within = rw (lt-leb pos-dim j within, and-false (writes_last g k))

  pub own_elsewhere : writes_last g k ≡ false → (j : ℕ) → sent_coordinate g k pos-dim last row j ≡ at row j
  unfolding sent_coordinate
  own_elsewhere e j = rw e

  pub last_past : writes_last g k ≡ true → (j : ℕ) → pos-dim ≤ j → sent_coordinate g k pos-dim last row j ≡ at last j
  unfolding sent_coordinate
  last_past e j past = rw (e, le-leb pos-dim j past)

  pub row_elsewhere : writes_last g k ≡ false → (n : ℕ) → sent_row g k pos-dim last row n ≡ row
  unfolding sent_row
  row_elsewhere e n = over_itself _ row n (λ j l. own_elsewhere e j)

  pub row_within_lem : (n : ℕ) → n ≤ pos-dim → sent_row g k pos-dim last row n ≡ row
  unfolding sent_row
  row_within_lem n few = over_itself _ row n (λ j l. own_within j (omega arith))

  -- wherever the last command is written, the same row is sent
  pub row_alike : writes_last g k ≡ true → (n : ℕ) → sent_row LastCommand EePosition pos-dim last row n ≡ sent_row g k pos-dim last row n
  unfolding sent_row sent_coordinate
  row_alike e n = over_same _ _ row n (λ j l. rw e)

-- ---- written over an output, of a configuration

module _ (c : FuseConfig) (last row l : List Float) (narrow : c.dim ≤ 8) (room : c.dim ≤ length l) (long : length row ≡ 8) (j : ℕ) where
  abbrev written : List Float
  written = over (at (sent_row c.gripper c.kind c.pos_dim last row c.dim)) l c.dim

  coordinate_written : j < c.dim → at written j ≡ sent_coordinate c.gripper c.kind c.pos_dim last row j
  unfolding sent_row
  coordinate_written here =
      over_at (at (sent_row c.gripper c.kind c.pos_dim last row c.dim)) l c.dim j here (omega arith)
      ∙ over_at (sent_coordinate c.gripper c.kind c.pos_dim last row) row c.dim j here (omega (arith, long))

  pub last_written : writes_last c.gripper c.kind ≡ true → c.pos_dim ≤ j → j < c.dim → at written j ≡ at last j
  last_written e past here = coordinate_written here ∙ last_past c.gripper c.kind c.pos_dim last row e j past

  -- the coordinates that lie in their boxes are the row's own
  pub own_written : j < bounded c → at written j ≡ at row j
  own_written = go (takes_last c.gripper) refl
    where
      go : (b : Bool) → takes_last c.gripper ≡ b → j < bounded c → at written j ≡ at row j
      go true e h =
          let within : j < live c = rw e at h in
          coordinate_written (omega arith) ∙ own_within c.gripper c.kind c.pos_dim last row j (omega arith)
      go false e h =
          let here : j < c.dim = rw e at h in
          coordinate_written here ∙ own_elsewhere c.gripper c.kind c.pos_dim last row (ap (λ (b : Bool). b && is_position c.kind) e) j
