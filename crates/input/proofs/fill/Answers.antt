-- `input::fill` meets its contract: what is read so far never passes the buffer and is what the answers say, and with each read fewer are left.
use mathlib.Core.Path.{sym, ◌∙◌}
use native.Mathlib.Omega.{arith}
use Rattle.std.specs.Prelude.{length}
use borrow.Author.Rules.{rules}
use Rattle.input.proofs.Answers.{none_yet, one_more, falls, has_room, grows, spent}
use Rattle.input.proofs.Known.{consumes_none, bytes_more}
use Rattle.input.proofs.fill.Goals as goal

pub loop-from-init : goal.loop-from-init
loop-from-init g c = record { fits = search rules; same = search rules; told = none_yet; bytes = consumes_none _; ended = λ f z. absurd (omega arith) }

pub loop-from-smaller : goal.loop-from-smaller
loop-from-smaller g c =
    let r = c.read-f.ensures.read in
    rw r.same (falls c.loop-from.f c.read-f.result _ r.got r.is (rw r.same at r.fits) (sym c.reads_on.ensures ∙ c.loop-from-test.true))

pub loop-from-preserved : goal.loop-from-preserved
loop-from-preserved g c =
    let r = c.read-f.ensures.read in
    let i = c.loop-from.invariant in
    let h = has_room c.loop-from.f (length c.loop-from.buf) (sym c.reads_on.ensures ∙ c.loop-from-test.true) in
    record {
      fits = r.fits;
      same = r.same ∙ i.same;
      told = one_more r.got i.told r.is;
      bytes = bytes_more _ _ _ c.loop-from.f.n c.read-f.result.n c.loop-from.buf c.read-f.new.buf (grows c.loop-from.f.n r.got r.is) r.kept i.bytes c.read-f.ensures.bytes;
      ended = c.read-f.ensures.end h.0;
    }

pub returns-clause-end : goal.returns-clause-end
returns-clause-end g c = λ f n. c.loop-from.invariant.ended f (spent c.loop-from.f (length c.loop-from.buf) (sym c.reads_on.ensures ∙ c.loop-from-test.false) n)
