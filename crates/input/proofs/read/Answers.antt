-- `input::read` meets its contract: the part behind what the block holds is lent, so a read gives no more than there is room for and changes nothing before it.
use native.Mathlib.Omega.{arith}
use mir.Facts.{to_z-of_z}
use borrow.Rule.Slice.PartMut.{take_put, same_len_mid}
use Rattle.std.proofs.Common.{◌-◌, length}
use Rattle.input.specs.Reads.{answer, after}
use Rattle.input.proofs.Answers.{answer_given, room, fills}
use Rattle.input.proofs.Known.{read_bytes, read_ended, at_most}
use Rattle.input.proofs.read.Goals as goal

pub after-requires : goal.after-requires
after-requires g c =
    rw (to_z-of_z (record { sfits = c.answer-got.type_inv }), c.answer-got.ensures)
    (omega (arith, room c.args.n c.args.buf.now c.read.new.buf c.requires c.read.auto.buf, answer_given c.read.result (length c.read.new.buf) (at_most c.read.result c.read.new.buf c.read.ensures.bound)))

pub returns-clause-read : goal.returns-clause-read
returns-clause-read g c =
    let e = rw (to_z-of_z (record { sfits = c.answer-got.type_inv }), c.answer-got.ensures) at c.after.ensures in
    let k = room c.args.n c.args.buf.now c.read.new.buf c.requires c.read.auto.buf in
    let same = same_len_mid c.args.n (length c.args.buf.now - c.args.n) c.args.buf.now c.read.new.buf c.read.auto.buf in
    let b = answer_given c.read.result (length c.read.new.buf) (at_most c.read.result c.read.new.buf c.read.ensures.bound) in
    record {
      got = answer c.read.result;
      is = e;
      fits = fills c.args.n _ (answer c.read.result) e (omega (arith, k, b, same));
      same = same;
      kept = take_put c.args.n (length c.args.buf.now - c.args.n) c.args.buf.now c.read.new.buf c.requires;
    }

pub returns-clause-bytes : goal.returns-clause-bytes
unfolding after
returns-clause-bytes g c =
    let e = rw (to_z-of_z (record { sfits = c.answer-got.type_inv }), c.answer-got.ensures) at c.after.ensures in
    rw e (read_bytes c.read.result _ _ c.args.n (length c.args.buf.now - c.args.n) c.args.buf.now c.read.new.buf c.requires (at_most c.read.result c.read.new.buf c.read.ensures.bound) c.read.ensures.bytes)

pub returns-clause-end : goal.returns-clause-end
unfolding after
returns-clause-end g c = λ h f z.
    let e = rw (to_z-of_z (record { sfits = c.answer-got.type_inv }), c.answer-got.ensures) at c.after.ensures in
    let k = room c.args.n c.args.buf.now c.read.new.buf c.requires c.read.auto.buf in
    read_ended c.read.result _ _ c.read.new.buf (omega (arith, h, k)) c.read.ensures.bytes (rw e at f) (rw e at z)
