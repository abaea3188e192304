-- A fold that keeps one of two at each step, as least and greatest do: none of those joined lies beyond the result, and the result is one of them.
use Prim.Native.Nat.{ℕ, zero, suc, ◌<◌}
use mathlib.Core.Path.{◌≡◌, refl, ap, ◌∙◌}
use mathlib.Core.Bool.{Bool, true, false}
use mathlib.Core.Logic.{◌⊎◌, inl, inr, ⊎_elim}
use native.Mathlib.Omega.{arith}
use borrow.Author.Count.{below_more}
use lib.Ieee.{Float, nan, inf, fin, lt, is_nan}
use Rattle.std.specs.Prelude.{if◌then◌else◌}
use Rattle.checked.specs.Each.{Among}
use Rattle.checked.specs.Least.{lesser, greater}
use Rattle.checked.proofs.Extremes.{not_above_inf}
use Rattle.checked.proofs.Ordered.{Real}
use Rattle.conformal.specs.Rule.{join_where}
use Rattle.conformal.specs.Promises.{NoneOf}

-- ---- a fold that picks one of two at each step

module _ (op : Float → Float → Float) (o : Float) (either : (a b : Float) → (op a b ≡ a) ⊎ (op a b ≡ b)) (p : ℕ → Bool) (g : ℕ → Float) where
  abbrev Numbers : ℕ → Type 0
  Numbers n = (j : ℕ) → j < n → Real (g j)

  fewer : (n : ℕ) → Numbers (suc n) → Numbers n
  fewer n w j h = w j (omega arith)

  picked : (t : Bool) (a b : Float) → Real a → Real b → Real (if t then op a b else a)
  picked true a b h k = ⊎_elim (λ e. rw e h) (λ e. rw e k) (either a b)
  picked false a b h k = h

  pub join_number : Real o → (n : ℕ) → Numbers n → Real (join_where op o p g n)
  unfolding join_where
  join_number z zero w = z
  join_number z (suc n) w = picked (p n) (join_where op o p g n) (g n) (join_number z n (fewer n w)) (w n (omega arith))

  -- where nothing is beyond what op picks, none of those joined is beyond what is joined
  module _ (beyond : Float → Float → Bool) (left : (a b x : Float) → Real a → beyond x a ≡ false → beyond x (op a b) ≡ false) (right : (a b : Float) → beyond b (op a b) ≡ false) where
    stays : (t : Bool) (a b x : Float) → Real a → beyond x a ≡ false → beyond x (if t then op a b else a) ≡ false
    stays true a b x w h = left a b x w h
    stays false a b x w h = h

    newest : (t : Bool) (a b : Float) → t ≡ true → beyond b (if t then op a b else a) ≡ false
    newest t a b e = rw e (right a b)

    pub none_beyond : Real o → (n : ℕ) → Numbers n → (j : ℕ) → j < n → p j ≡ true → beyond (g j) (join_where op o p g n) ≡ false
    unfolding join_where
    none_beyond z zero w j l h = absurd (omega arith)
    none_beyond z (suc n) w j l h =
        below_more (λ (i : ℕ). p i ≡ true → beyond (g i) (join_where op o p g (suc n)) ≡ false) n
        (λ i k e. stays (p n) (join_where op o p g n) (g n) (g i) (join_number z n (fewer n w)) (none_beyond z n (fewer n w) i k e))
        (λ e. newest (p n) (join_where op o p g n) (g n) e)
        j (omega arith) h

  -- what is joined is one of them, or there are none and it is what the fold starts from
  abbrev Attained : ℕ → Float → Type 0
  Attained n x = Among p n (λ (j : ℕ). x ≡ g j) ⊎ (NoneOf p n × (x ≡ o))

  later : (n : ℕ) (x : Float) → Among p n (λ (j : ℕ). x ≡ g j) → Among p (suc n) (λ (j : ℕ). x ≡ g j)
  later n x a = record { index = a.index; within = omega (arith, a.within); holds = a.holds; such = a.such }

  latest : (n : ℕ) (x : Float) → p n ≡ true → x ≡ g n → Among p (suc n) (λ (j : ℕ). x ≡ g j)
  latest n x h e = record { index = n; within = omega arith; holds = h; such = e }

  module _ (start : (x : Float) → op o x ≡ x) where
    taken : (n : ℕ) (x : Float) → p n ≡ true → Attained n x → Attained (suc n) (op x (g n))
    taken n x h (inl a) = ⊎_elim (λ e. inl (later n (op x (g n)) (record { index = a.index; within = a.within; holds = a.holds; such = e ∙ a.such }))) (λ e. inl (latest n (op x (g n)) h e)) (either x (g n))
    taken n x h (inr b) = inl (latest n (op x (g n)) h (ap (λ (y : Float). op y (g n)) b.1 ∙ start (g n)))

    passed : (n : ℕ) (x : Float) → p n ≡ false → Attained n x → Attained (suc n) x
    passed n x h (inl a) = inl (later n x a)
    passed n x h (inr b) = inr ((λ j l. below_more (λ (i : ℕ). p i ≡ false) n b.0 h j (omega arith)), b.1)

    chosen : (n : ℕ) (x : Float) (t : Bool) → p n ≡ t → Attained n x → Attained (suc n) (if t then op x (g n) else x)
    chosen n x true h a = taken n x h a
    chosen n x false h a = passed n x h a

    pub attained : (n : ℕ) → Attained n (join_where op o p g n)
    unfolding join_where
    attained zero = inr ((λ j l. absurd (omega arith)), refl)
    attained (suc n) = chosen n (join_where op o p g n) (p n) refl (attained n)

-- ---- least and greatest are such folds

none_below : (x : Float) → lt x (inf true) ≡ false
unfolding lt
none_below nan = refl
none_below (inf true) = refl
none_below (inf false) = refl
none_below (fin t n d) = refl

pub lesser_start : (x : Float) → lesser (inf false) x ≡ x
unfolding lesser
lesser_start x = rw (not_above_inf x)

pub greater_start : (x : Float) → greater (inf true) x ≡ x
unfolding greater
greater_start x = rw (none_below x)

pub real_∞ : (s : Bool) → Real (inf s)
unfolding is_nan
real_∞ s = tt
