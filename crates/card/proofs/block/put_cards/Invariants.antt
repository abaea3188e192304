-- `card::block::put_cards` meets its contract: after k turns the lines of k records stand, in at most 97 k bytes.
use mathlib.Core.Path.{◌≡◌}
use Prim.Native.Nat.{ℕ, ◌≤◌, ◌*◌}
use mathlib.Core.List.{List}
use lib.ListN.{length}
use lib.Ieee.{Float}
use Rattle.card.specs.Text.{Put}
use Rattle.card.specs.Block.{lines}
use Rattle.card.proofs.block.put_cards.Given as goal

-- the lines of the first k records are put
pub record Putting (out₀ input : List ℕ) (first : ℕ) (slack₀ : List Float) (whole : ℕ) (out : List ℕ) (slack : List Float) (at k : ℕ) : Type 0 where
  pub along : k ≤ whole
  pub few : at ≤ 97 * k
  pub so_far : Put out₀ out 0 at (lines first input k)
  pub same : length out ≡ length out₀
  pub same_slack : length slack ≡ length slack₀

abbrev pub invariant-loop-k : goal.invariant-loop-k
invariant-loop-k l = Putting l.initial.out l.input l.first l.initial.slack l.whole l.out l.slack l.at l.k
