-- `tier1::tick::gathered` meets its contract: the loop takes one feature more a turn.
use mathlib.Core.Path.{refl, ◌∙◌}
use native.Mathlib.Omega.{arith}
use borrow.Author.Rules.{rules}
use lib.ListN.{length, length-set}
use Rattle.checked.specs.Each.{table}
use Rattle.checked.proofs.Each.{table_more}
use Rattle.bits.specs.Bits.{bits_where}
use Rattle.bits.proofs.Bits.{Turned, turn}
use Rattle.tier1.specs.Rule.{valid_at}
use Rattle.tier1.proofs.tick.gathered.Goals as goal

pub loop-j-init : goal.loop-j-init
unfolding bits_where table
loop-j-init c =
    record {
      along = search rules;
      weighs = refl;
      bits-so-far = refl;
      wide = refl;
      so_far = refl;
    }

turned : (c : goal.After-weight-valid) → let l = c.loop-j in let a = c.args in Turned (valid_at a.held_valid a.len (length a.ext.now)) l.j l.valid l.w c.weight-valid.result
turned c = let l = c.loop-j in turn _ l.j l.valid l.w _ (omega arith) l.invariant.bits-so-far l.invariant.weighs c.valid_at-on.ensures c.weight-valid.ensures.0

pub overflow_add-valid : goal.overflow_add-valid
overflow_add-valid c = let z = turned c in omega arith

pub loop-j-preserved : goal.loop-j-preserved
loop-j-preserved c =
    let l = c.loop-j in
    let z = turned c in record {
      along = omega arith;
      weighs = z.next;
      bits-so-far = z.so_far;
      wide = simp length-set l.invariant.wide;
      so_far = table_more _ _ _ _ (omega arith) l.invariant.so_far (c.feature_at.ensures ∙ rw c.valid_at-on.ensures);
    }
