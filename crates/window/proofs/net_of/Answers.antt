-- `window::net_of` meets its contract, by its one test.
use native.Mathlib.Omega.{arith}
use lib.Ieee.{of_bits}
use Rattle.window.specs.Rule.{net}
use Rattle.window.proofs.Ranges.{net_range}
use Rattle.window.proofs.net_of.Goals as goal

pub returns-then-w-len : goal.returns-then-w-len
unfolding net of_bits
returns-then-w-len c = rw c.if-w-len.true

pub overflow_sub-w : goal.overflow_sub-w
overflow_sub-w c = let a = c.args in (net_range a.w a.len c.if-w-len.false).0

pub between-requires : goal.between-requires
between-requires c = let a = c.args in let r = net_range a.w a.len c.if-w-len.false in omega arith

pub returns : goal.returns
unfolding net
returns c = rw c.if-w-len.false c.between.ensures
