-- `fmath::sqrt` meets its contract: there is a root exactly where the checked root is finite.
use mathlib.Core.Path.{refl}
use mathlib.Core.Bool.{false}
use lib.Ieee.{binary64}
use Rattle.checked.specs.Checked.{root}
use Rattle.fmath.proofs.Judged.{is_computed, is_value}
use Rattle.fmath.proofs.sqrt.Goals as goal

pub returns-then-finite : goal.returns-then-finite
returns-then-finite c =
    let s = c in
    is_value false false (root binary64 s.args.x) _ _ refl refl refl c.sqrt-root.ensures c.finite.ensures c.if-finite.true

pub returns : goal.returns
returns c =
    let s = c in
    is_computed false false (root binary64 s.args.x) _ _ _ c.of.ensures refl refl refl c.sqrt-root.ensures c.finite.ensures c.if-finite.false
