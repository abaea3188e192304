-- Brake and hold of a guard that has no mode of the gripper and is lent no last command, as the Rust is: what the mode ToZero is held to.
use Rattle.workspace.specs.declared.WallMasks.{WallMasks}
use Rattle.refusal.specs.declared.Refusal.{Refusal}
use Rattle.std.specs.Prelude.{ℕ, Bool, not, ◌||◌, List, [], ◌∷◌, ◌++◌, ltb, length, Float, Result}
use Rattle.std.specs.Float.{Format}
use Rattle.refusal.specs.Order.{short, not_finite, computed, ◌when◌, refusal}
use Rattle.fmath.specs.Answer.{some_not_finite}
use Rattle.checked.specs.Checked.{Checked}
use Rattle.conformal.specs.Rule.{Tables}
use Rattle.envelope.specs.Refusals.{config_judged}
use Rattle.envelope.specs.declared.FuseConfig.{FuseConfig}
use Rattle.brake.specs.Answer.{sent_at, row_at, masks_sent, brake_made, hold_made}

-- by the row and by whether some number of the position or the velocity is not finite: the configuration's own number, then 11, 12 and 13
abbrev refused_with : Format → FuseConfig → Tables → Bool → Checked (List Float) → ℕ → ℕ
refused_with f c t unfit row room = refusal (config_judged f c t ++ ((short when ltb room c.dim) ∷ (not_finite when unfit) ∷ (computed when not row.sound) ∷ []))

module _ (f : Format) (c : FuseConfig) (t : Tables) (p v : List Float) where
  abbrev pub brake_answer : ℕ → Result WallMasks Refusal
  brake_answer room = sent_at (refused_with f c t (some_not_finite p || some_not_finite v) (brake_made f c p v) room) (masks_sent f c p)

  -- the row itself over the output's first dim numbers
  abbrev pub brake_output : List Float → List Float
  brake_output l = row_at (refused_with f c t (some_not_finite p || some_not_finite v) (brake_made f c p v) (length l)) (brake_made f c p v).value c.dim l

module _ (f : Format) (c : FuseConfig) (t : Tables) (p : List Float) where
  abbrev pub hold_answer : ℕ → Result WallMasks Refusal
  hold_answer room = sent_at (refused_with f c t (some_not_finite p) (hold_made f c p) room) (masks_sent f c p)

  abbrev pub hold_output : List Float → List Float
  hold_output l = row_at (refused_with f c t (some_not_finite p) (hold_made f c p) (length l)) (hold_made f c p).value c.dim l
