-- What is promised of a run (`specs/Promises.antt`).
use mathlib.Core.Path.{◌≡◌}
use mathlib.Core.Bool.{true}
use Prim.Native.Nat.{◌%◌}
use native.Mathlib.Omega.{arith}
use borrow.Author.Tests.{eq-eqb}
use lib.ListN.{length, take}
use lib.Seq.{length-take-le}
use Rattle.card.specs.Block.{rest}
use Rattle.input.specs.declared.Filled.{Filled}
use Rattle.input.specs.Reads.{answered}
use Rattle.input.proofs.Answers.{answered_most}
use Rattle.forecast.specs.Promises.{NoRestAfterAFailedRead, FollowedIsWhole}
use Rattle.forecast.proofs.Numbers.{full, goes}

whole_records : (f : Filled) → f.failed ≡ true → answered f 96 % 96 ≡ 0
unfolding answered
whole_records f h = rw h (omega arith)

pub no_rest_after_a_failed_read : NoRestAfterAFailedRead
unfolding rest
no_rest_after_a_failed_read f n l h k =
    let e : length (take (answered f 96) l) ≡ answered f 96 = length-take-le (answered f 96) l (omega (arith, answered_most f 96)) in
    rw (e, eq-eqb (answered f 96 % 96) 0 (whole_records f h))

pub followed_is_whole : FollowedIsWhole
followed_is_whole t block e h =
    let n : answered t.filled 96 ≡ 65472 = full t.filled (goes t 65472 h).0 in
    omega (arith, length-take-le (answered t.filled 96) block (omega arith))
