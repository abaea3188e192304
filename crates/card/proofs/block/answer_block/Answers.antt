-- `card::block::answer_block` meets its contract: by whether the lines fit.
use Rattle.card.proofs.Room.{roomy, fit, unfit}
use Rattle.card.specs.Block.{fits}
use lib.ListN.{length}
use native.Mathlib.Omega.{arith}
use Prim.Native.Nat.{◌≤◌}
use mathlib.Core.Path.{◌≡◌, sym, ◌∙◌}
use mathlib.Core.Bool.{true}
use Rattle.card.proofs.block.answer_block.Goals as goal

pub put_text-bytes-requires : goal.put_text-bytes-requires
put_text-bytes-requires c =
    let small : c.args.first ≤ 18446744073709551615 = omega arith in
    let h : fits (length c.args.out.now) (length c.args.input.now) c.args.first ≡ true = sym c.fits.ensures ∙ c.if-fits.true in
    roomy (length c.args.out.now) (length c.args.input.now) c.args.first small h

pub overflow_add-next : goal.overflow_add-next
overflow_add-next c =
    let small : c.args.first ≤ 18446744073709551615 = omega arith in
    let h : fits (length c.args.out.now) (length c.args.input.now) c.args.first ≡ true = sym c.fits.ensures ∙ c.if-fits.true in
    omega (arith, (roomy (length c.args.out.now) (length c.args.input.now) c.args.first small h).1)

pub returns-then-fits : goal.returns-then-fits
returns-then-fits c =
    let small : c.args.first ≤ 18446744073709551615 = omega arith in
    let h : fits (length c.args.out.now) (length c.args.input.now) c.args.first ≡ true = sym c.fits.ensures ∙ c.if-fits.true in
    fit c.args.first c.args.input.now small h c.put_text-bytes.ensures

pub returns-else-fits : goal.returns-else-fits
returns-else-fits c =
    unfit c.args.first c.args.input.now c.args.out.now (sym c.fits.ensures ∙ c.if-fits.false)
