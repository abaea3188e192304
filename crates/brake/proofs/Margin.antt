-- A round table without further axes: nothing that is derived knows the margin (`envelope`), so that nothing which is computed of it does.
use Prim.Native.Nat.{ℕ, ◌≤◌}
use mathlib.Core.Path.{◌≡◌, ap}
use mathlib.Core.List.{List}
use lib.Ieee.{Float, binary64}
use Rattle.chunk.specs.declared.Header.{Header}
use Rattle.envelope.specs.Promises.{margined_by}
use Rattle.envelope.specs.declared.BrakeKind.{BrakeKind}
use Rattle.envelope.specs.declared.BrakeKind.TheVariants.{PdSecondOrder, FirstOrderDecay, BoundedAccel, JerkLimited, ZeroVelocityHold}
use Rattle.envelope.specs.declared.FuseConfig.{FuseConfig}
use Rattle.envelope.specs.declared.Derived.{Derived}
use Rattle.envelope.proofs.Promises as config
use Rattle.workspace.specs.declared.Shape.TheVariants.{Disc}
use Rattle.workspace.specs.Rule.{Walls}
use Rattle.brake.specs.Rule.{live, walls_at, forecast_by, brake_row, hold_row, sent_masks}
use Rattle.brake.specs.Answer.{masks_sent, sending, brake_sent, hold_sent}
use Rattle.brake.specs.Towards.{running}
use Rattle.brake.specs.Promises.{MarginUnread}

module _ (c : FuseConfig) (x y radius m : Float) (disc : c.shape ≡ Disc x y radius) (few : c.pos_dim ≤ 2) where
  same_walls : walls_at binary64 (margined_by c m) ≡ walls_at binary64 c
  same_walls = ap (λ (d : Derived). record { shape = c.shape; lo = d.box_lo; hi = d.box_hi }) ((config.promised).margin_leaves_the_disc binary64 c x y radius m disc few)

  module _ (p v rows : List Float) (k : Header) (from : ℕ) where
    by_kind : (b : BrakeKind) → forecast_by binary64 (margined_by c m) p v rows k from b ≡ forecast_by binary64 c p v rows k from b
    unfolding forecast_by
    by_kind (PdSecondOrder kp kv dt) = rw same_walls
    by_kind (FirstOrderDecay kp kv dt) = rw same_walls
    by_kind (BoundedAccel kp kv dt) = rw same_walls
    by_kind (JerkLimited kp kv dt) = rw same_walls
    by_kind (ZeroVelocityHold kp kv dt) = rw same_walls

  brakes : (p v last : List Float) → brake_sent binary64 (margined_by c m) p v last ≡ brake_sent binary64 c p v last
  unfolding brake_sent
  brakes p v last = ap (λ (w : Walls). sending c last (brake_row binary64 c.kind c.limits.a_max c.limits.dt w p v c.dim)) same_walls

  holds : (p last : List Float) → hold_sent binary64 (margined_by c m) p last ≡ hold_sent binary64 c p last
  unfolding hold_sent
  holds p last = ap (λ (w : Walls). sending c last (hold_row binary64 c.kind w p c.dim)) same_walls

  masks : (p : List Float) → masks_sent binary64 (margined_by c m) p ≡ masks_sent binary64 c p
  unfolding masks_sent
  masks p = ap (λ (w : Walls). sent_masks c.kind w p (live c)) same_walls

  runs : (a p v : List Float) (n : ℕ) → running binary64 (margined_by c m) a p v n ≡ running binary64 c a p v n
  runs a p v n = rw same_walls

  pub margin_unread : MarginUnread c m
  margin_unread = record { same_forecast = λ p v rows k from. by_kind p v rows k from c.brake.kind; same_run = runs; same_brake = brakes; same_hold = holds; same_masks = masks }
