-- `window::number_after` meets its contract: by what is judged before it, and by the test of its own number.
use Rattle.std.specs.Prelude.{ℕ, zero, suc, ◌≡◌, refl, not, Ok, Err, Float, true, false}
use Rattle.std.proofs.Common.{sym, arith, ◌∙◌}
use borrow.Author.Tests.{not-true, not-false}
use lib.Dec.{eqb-suc-zero}
use Rattle.refusal.specs.declared.Refusal.{Refusal}
use Rattle.refusal.specs.Order.{judged_by, refused_for}
use Rattle.refusal.specs.Chain.{refuses_by, passes_by, when_passed, when_refused}
use Rattle.checked.specs.Finite.{finite}
use Rattle.window.specs.Answer.{number_after}
use Rattle.window.proofs.number_after.Goals as goal

refused : (n : ℕ) (x : Float) {r : Refusal} → Err r ≡ judged_by n → Err r ≡ number_after n x
refused n x e = let w = refuses_by e refl in rw w.1 (go n w.0)
  where
    go : (n : ℕ) → (n ≡ 0 → ⊥) → Err (refused_for n) ≡ number_after n x
    go zero some = absurd (some refl)
    go (suc n) some = rw (eqb-suc-zero n)

not_finite_after : (n : ℕ) (x : Float) → n ≡ 0 → finite x ≡ false → {r : Refusal} → r ≡ refused_for 13 → Err r ≡ number_after n x
not_finite_after n x z h e = rw (z, h, e)

finite_after : (n : ℕ) (x : Float) → n ≡ 0 → finite x ≡ true → Ok x ≡ number_after n x
finite_after n x z h = rw (z, h)

pub returns-in_err-judged : goal.returns-in_err-judged
returns-in_err-judged c = λ n e. grind (arith, refused n c.args.x (sym c.in_err-judged.was ∙ e), c.from_residual.ensures)

pub returns-in_err-when : goal.returns-in_err-when
returns-in_err-when c = λ n e.
    let w = when_refused 13 (not c.finite.result) (c.in_err-when.ensures) in
    grind (arith, not_finite_after n c.args.x (passes_by e c.in_ok-judged.was) (sym c.finite.ensures ∙ not-true _ w.0) w.1, c.from_residual-in_err-when.ensures)

pub returns : goal.returns
returns c = λ n e. finite_after n c.args.x (passes_by e c.in_ok-judged.was) (sym c.finite.ensures ∙ not-false _ (when_passed 13 (not c.finite.result) c.in_ok-when.ensures))
