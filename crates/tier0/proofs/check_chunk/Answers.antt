-- `tier0::check_chunk` meets its contract: refused by what is lent, refused by a computed number, or passed.
use mathlib.Core.Path.{refl}
use native.Mathlib.Omega.{arith}
use mathlib.Core.Bool.{not}
use borrow.Author.Tests.{not-true, not-false}
use lib.Ieee.{binary64, of_bits}
use Rattle.tier0.proofs.Refused.{checks_are}
use Rattle.tier0.proofs.ChunkRefused.{accepted_sizes, sized_checks, lent_refused, not_sound, passes}
use Rattle.refusal.specs.Chain.{refuses_by, passes_by, when_passed, when_refused}
use Rattle.conformal.specs.Of.{tables}
use Rattle.envelope.proofs.Accepted.{compiled_judged, compiled_derived}
use borrow.Author.Rules.{rules}
use Rattle.tier0.proofs.check_chunk.Goals as goal

pub returns-in_err-chunk_refusal : goal.returns-in_err-chunk_refusal
returns-in_err-chunk_refusal c =
    let g = c.args in
    let r = refuses_by (c.chunk_refusal.ensures _ (compiled_judged c.compile-compiled.ensures)) c.in_err-chunk_refusal.was in
    let w = lent_refused binary64 g.c (tables g.center.now g.scale.now) g.pos.now g.aux.now g.rows.now g.header g.out.now _ refl r.0 r.1 in
    (grind (arith, w.0, c.from_residual.ensures), w.1)

pub judge_chunk-v-requires : goal.judge_chunk-v-requires
judge_chunk-v-requires c = let g = c.args in sized_checks binary64 g.c g.pos.now g.rows.now g.header.horizon _ (checks_are binary64 g.c c.checks_of-s.ensures (compiled_derived c.compile-compiled.ensures)) (accepted_sizes binary64 g.c (tables g.center.now g.scale.now) g.pos.now g.aux.now g.rows.now g.header _ (passes_by (c.chunk_refusal.ensures _ (compiled_judged c.compile-compiled.ensures)) c.in_ok-chunk_refusal.was))

pub returns-in_err-when : goal.returns-in_err-when
unfolding of_bits
returns-in_err-when c =
    let g = c.args in
    let r = when_refused 13 (not c.judge_chunk-v.result.sound) c.in_err-when.ensures in
    let w = not_sound binary64 g.c (tables g.center.now g.scale.now) g.pos.now g.aux.now g.rows.now g.header g.out.now (passes_by (c.chunk_refusal.ensures _ (compiled_judged c.compile-compiled.ensures)) c.in_ok-chunk_refusal.was) (checks_are binary64 g.c c.checks_of-s.ensures (compiled_derived c.compile-compiled.ensures)) refl c.judge_chunk-v.ensures (not-true _ r.0) r.1 in
    (grind (arith, w.0, c.from_residual-in_err-when.ensures), w.1)

pub overflow_mul-h : goal.overflow_mul-h
overflow_mul-h c = let g = c.args in let w = accepted_sizes binary64 g.c (tables g.center.now g.scale.now) g.pos.now g.aux.now g.rows.now g.header _ (passes_by (c.chunk_refusal.ensures _ (compiled_judged c.compile-compiled.ensures)) c.in_ok-chunk_refusal.was) in let k = w.small in omega arith

pub returns : goal.returns
unfolding of_bits
returns c = let g = c.args in let w = passes binary64 g.c (tables g.center.now g.scale.now) g.pos.now g.aux.now g.rows.now g.header g.out.now (passes_by (c.chunk_refusal.ensures _ (compiled_judged c.compile-compiled.ensures)) c.in_ok-chunk_refusal.was) (checks_are binary64 g.c c.checks_of-s.ensures (compiled_derived c.compile-compiled.ensures)) refl c.judge_chunk-v.ensures (not-false _ (when_passed 13 (not c.judge_chunk-v.result.sound) c.in_ok-when.ensures)) c.put.ensures (let ok = c.judge_chunk-v.type_inv in search rules) in (w.0, w.1)
