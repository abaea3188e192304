-- The slow zones together: the arm is inside one of them where it is inside some, and the step is the least of those, and one of them.
use Rattle.envelope.specs.declared.Zone.{Zone}
use Prim.Native.Nat.{ℕ, zero, suc, ◌<◌}
use mathlib.Core.Path.{◌≡◌, refl, sym, ap, ◌∙◌}
use mathlib.Core.Bool.{Bool, true, false, ◌&&◌, ◌||◌, false≢true, and-true, or-false}
use mathlib.Core.Logic.{⊎_elim}
use mathlib.Core.List.{List}
use native.Mathlib.Omega.{arith}
use borrow.Author.Count.{below_more}
use lib.Ieee.{Float, Format, mul, lt}
use Rattle.std.specs.Prelude.{if◌then◌else◌, None, Option, Some}
use Rattle.checked.specs.Each.{all, some, Among}
use Rattle.checked.specs.Finite.{finite}
use Rattle.checked.specs.Least.{lesser}
use Rattle.checked.specs.Checked.{pure}
use Rattle.checked.proofs.Each.{and_left, and_right, some_either}
use Rattle.checked.proofs.Ordered.{finite_real}
use Rattle.checked.proofs.Extremes.{lesser_either, lesser_below}
use Rattle.envelope.specs.declared.AbsentCamera.{AbsentCamera}
use Rattle.tier0.specs.Rule.{Slow, clear, inside_zone, zone_step, zone_in, slower, slowest}
use Rattle.tier0.specs.Chunk.{step_to, some_longer}

-- ---- two findings together

-- a and b, where the arm is inside the first as t says, and inside the second as u says
abbrev together : Slow → Slow → Bool → Bool → Slow
together a b t u = slower (record { inside = t; step = a.step }) (record { inside = u; step = b.step })

slower_inside : (a b : Slow) → (slower a b).inside ≡ (a.inside || b.inside)
slower_inside a b = go a.inside b.inside
  where
    go : (t u : Bool) → (together a b t u).inside ≡ (t || u)
    go true true = refl
    go true false = refl
    go false u = refl

-- the step is a finite number where the arm is inside
abbrev pub Firm : Slow → Type 0
Firm z = z.inside ≡ true → finite z.step ≡ true

slower_firm : (a b : Slow) → Firm a → Firm b → Firm (slower a b)
slower_firm a b = go a.inside b.inside
  where
    go : (t u : Bool) → (t ≡ true → finite a.step ≡ true) → (u ≡ true → finite b.step ≡ true) → Firm (together a b t u)
    go true true p q i = ⊎_elim (λ l. ap finite l ∙ p refl) (λ r. ap finite r ∙ q refl) (lesser_either a.step b.step)
    go true false p q i = p i
    go false u p q i = q i

-- a test that holds of the lesser of two finite numbers where it holds of one
abbrev pub OfLesser : (Float → Bool) → Type 0
OfLesser longer = (a b : Float) → finite b ≡ true → longer (lesser a b) ≡ (longer a || longer b)

-- it holds of the two together where it holds of one that the arm is inside
slower_tested : (longer : Float → Bool) → OfLesser longer → (a b : Slow) → Firm b → ((slower a b).inside && longer (slower a b).step) ≡ ((a.inside && longer a.step) || (b.inside && longer b.step))
slower_tested longer of-lesser a b = go a.inside b.inside
  where
    go : (t u : Bool) → (u ≡ true → finite b.step ≡ true) → ((together a b t u).inside && longer (together a b t u).step) ≡ ((t && longer a.step) || (u && longer b.step))
    go true true q = of-lesser a.step b.step (q refl)
    go true false q = sym (or-false (longer a.step))
    go false u q = refl

-- zones that say the same one by one say the same together
pub slowest_alike : (f : Format) (dt period : Float) (choice other : AbsentCamera) (zone place : ℕ → Option Zone) (p aux q cam : List Float) (n : ℕ) → ((k : ℕ) → k < n → zone_in f period other (place k) q cam ≡ zone_in f dt choice (zone k) p aux)
    → slowest f period other place q cam n ≡ slowest f dt choice zone p aux n
unfolding slowest
slowest_alike f dt period choice other zone place p aux q cam zero same = refl
slowest_alike f dt period choice other zone place p aux q cam (suc n) same = rw (slowest_alike f dt period choice other zone place p aux q cam n (λ k l. same k (omega arith)), same n (omega arith))

-- ---- one zone

module _ (f : Format) (dt : Float) (choice : AbsentCamera) (p aux : List Float) where
  -- where all that it computes is finite, so is its step
  zone_firm : (z : Option Zone) → (zone_in f dt choice z p aux).sound ≡ true → Firm (zone_in f dt choice z p aux).value
  unfolding zone_in zone_step
  zone_firm None = λ s i. absurd (false≢true i)
  zone_firm (Some z) = go (inside_zone f choice z.radius z.a0 z.a1 p aux).value (inside_zone f choice z.radius z.a0 z.a1 p aux).sound
    where
      go : (b t : Bool) → t && (if b then zone_step f dt z.v_max else pure clear).sound ≡ true → Firm (if b then zone_step f dt z.v_max else pure clear).value
      go true t s in-it = rw (and-true (finite (mul f z.v_max dt))) at (and_right t (finite (mul f z.v_max dt) && true) s)
      go false t s in-it = absurd (false≢true in-it)

  -- ---- all of them

  module _ (zone : ℕ → Option Zone) where
    abbrev found : ℕ → Slow
    found k = (zone_in f dt choice (zone k) p aux).value

    abbrev all_found : ℕ → Slow
    all_found n = (slowest f dt choice zone p aux n).value

    -- zones that say nothing
    pub slowest_clear : (n : ℕ) → ((k : ℕ) → k < n → zone_in f dt choice (zone k) p aux ≡ pure clear) → slowest f dt choice zone p aux n ≡ pure clear
    unfolding slowest
    slowest_clear zero none = refl
    slowest_clear (suc n) none = rw (slowest_clear n (λ k l. none k (omega arith)), none n (omega arith))

    pub slowest_outside : (n : ℕ) → ((k : ℕ) → k < n → found k ≡ clear) → all_found n ≡ clear
    unfolding slowest
    slowest_outside zero none = refl
    slowest_outside (suc n) none = rw (slowest_outside n (λ k l. none k (omega arith)), none n (omega arith))

    -- what is computed is finite of each
    sound_before : (n : ℕ) → (slowest f dt choice zone p aux (suc n)).sound ≡ true → (slowest f dt choice zone p aux n).sound ≡ true
    unfolding slowest
    sound_before n s = and_left (slowest f dt choice zone p aux n).sound ((zone_in f dt choice (zone n) p aux).sound && true) s

    sound_last : (n : ℕ) → (slowest f dt choice zone p aux (suc n)).sound ≡ true → (zone_in f dt choice (zone n) p aux).sound ≡ true
    unfolding slowest
    sound_last n s = and_left (zone_in f dt choice (zone n) p aux).sound true (and_right (slowest f dt choice zone p aux n).sound ((zone_in f dt choice (zone n) p aux).sound && true) s)

    pub each_sound : (n : ℕ) → (slowest f dt choice zone p aux n).sound ≡ all (λ (k : ℕ). (zone_in f dt choice (zone k) p aux).sound) n
    unfolding slowest all
    each_sound zero = refl
    each_sound (suc n) = rw (each_sound n, and-true)

    pub inside_some : (n : ℕ) → (all_found n).inside ≡ some (λ (k : ℕ). (found k).inside) n
    unfolding slowest some
    inside_some zero = refl
    inside_some (suc n) = slower_inside (all_found n) (found n) ∙ ap (λ (b : Bool). b || (found n).inside) (inside_some n)

    pub all_firm : (n : ℕ) → (slowest f dt choice zone p aux n).sound ≡ true → Firm (all_found n)
    unfolding slowest
    all_firm zero s = λ i. absurd (false≢true i)
    all_firm (suc n) s = slower_firm (all_found n) (found n) (all_firm n (sound_before n s)) (zone_firm (zone n) (sound_last n s))

    pub each_firm : (n : ℕ) → (slowest f dt choice zone p aux n).sound ≡ true → (k : ℕ) → k < n → Firm (found k)
    each_firm zero s k l = absurd (omega arith)
    each_firm (suc n) s k l = below_more (λ (m : ℕ). Firm (found m)) n (each_firm n (sound_before n s)) (zone_firm (zone n) (sound_last n s)) k (omega arith)

    pub all_tested : (longer : Float → Bool) → OfLesser longer → (n : ℕ) → (slowest f dt choice zone p aux n).sound ≡ true → ((all_found n).inside && longer (all_found n).step) ≡ some (λ (k : ℕ). (found k).inside && longer (found k).step) n
    unfolding slowest some
    all_tested longer of-lesser zero s = refl
    all_tested longer of-lesser (suc n) s =
        slower_tested longer of-lesser (all_found n) (found n) (zone_firm (zone n) (sound_last n s))
        ∙ ap (λ (b : Bool). b || ((found n).inside && longer (found n).step)) (all_tested longer of-lesser n (sound_before n s))

    -- the step is one of theirs
    pub is_one : (n : ℕ) → (all_found n).inside ≡ true → Among (λ (k : ℕ). (found k).inside) n (λ (k : ℕ). (all_found n).step ≡ (found k).step)
    unfolding slowest
    is_one zero = λ i. absurd (false≢true i)
    is_one (suc n) = go (all_found n).inside (found n).inside refl (is_one n)
      where
        latest : (x : Float) → (found n).inside ≡ true → x ≡ (found n).step → Among (λ (k : ℕ). (found k).inside) (suc n) (λ (k : ℕ). x ≡ (found k).step)
        latest x i e = record { index = n; within = omega arith; holds = i; such = e }

        earlier : (x y : Float) → x ≡ y → Among (λ (k : ℕ). (found k).inside) n (λ (k : ℕ). y ≡ (found k).step) → Among (λ (k : ℕ). (found k).inside) (suc n) (λ (k : ℕ). x ≡ (found k).step)
        earlier x y e a = record { index = a.index; within = omega (arith, a.within); holds = a.holds; such = e ∙ a.such }

        next : Bool → Bool → Slow
        next = together (all_found n) (found n)

        go : (t u : Bool) → (found n).inside ≡ u → (t ≡ true → Among (λ (k : ℕ). (found k).inside) n (λ (k : ℕ). (all_found n).step ≡ (found k).step)) → (next t u).inside ≡ true
            → Among (λ (k : ℕ). (found k).inside) (suc n) (λ (k : ℕ). (next t u).step ≡ (found k).step)
        go true true h before i = ⊎_elim (λ l. earlier (next true true).step (all_found n).step l (before refl)) (λ r. latest (next true true).step h r) (lesser_either (all_found n).step (found n).step)
        go true false h before i = earlier (all_found n).step (all_found n).step refl (before refl)
        go false u h before i = latest (found n).step (h ∙ i) refl

-- ---- the tests of the two checks

pub step_longer : (x : Float) → OfLesser (λ (s : Float). lt s x)
step_longer x a b h = lesser_below a b x (finite_real b h)

pub some_step_longer : (f : Format) (q rows : List Float) (n h : ℕ) → OfLesser (λ (s : Float). some_longer f q rows n s h)
unfolding some_longer
some_step_longer f q rows n h a b w =
    (λ i. some (λ (k : ℕ). lesser_below a b (step_to f q rows n k).value (finite_real b w) i) h)
    ∙ some_either (λ (k : ℕ). lt a (step_to f q rows n k).value) (λ (k : ℕ). lt b (step_to f q rows n k).value) h
