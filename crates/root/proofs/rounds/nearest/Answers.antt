-- `root::rounds::nearest` meets its contract: a test is 1 where it holds, and 0 where it does not.
use Rattle.std.proofs.Common.{◌≡◌, ℕ, ◌+◌, ◌≤◌, Bool, true, false, cond, ltb, arith}
use mir.Val.{bool_byte}
use Rattle.root.proofs.rounds.nearest.Goals as goal

one_more : (n : ℕ) (b : Bool) → (n + bool_byte b ≡ cond b (n + 1) n) × (bool_byte b ≤ 1)
one_more n true = (omega arith, omega arith)
one_more n false = (omega arith, omega arith)

pub overflow_add-result : goal.overflow_add-result
overflow_add-result c = omega (arith, (one_more c.args.root (ltb c.args.root c.args.rest)).1)

pub returns : goal.returns
returns c = (one_more c.args.root (ltb c.args.root c.args.rest)).0
