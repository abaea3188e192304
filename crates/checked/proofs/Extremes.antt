-- The least and the greatest of some numbers: one turn of a loop, that they are attained, and that they bound every member.
use mathlib.Core.Path.{◌≡◌, refl, sym, ◌∙◌}
use mathlib.Core.Bool.{Bool, true, false, cond, ◌||◌, false≢true}
use Prim.Native.Nat.{ℕ, zero, suc, ◌+◌, ◌≤◌, ◌<◌}
use native.Mathlib.Nat.{add-zero, add-suc}
use native.Mathlib.Numerals.{add-one}
use native.Mathlib.Omega.{arith}
use borrow.Author.Count.{below_more}
use mathlib.Core.Logic.{◌⊎◌, inl, inr, ⊎_elim}
use lib.Ieee.{Float, nan, inf, fin, lt, eq, is_nan}
use Rattle.checked.specs.Least.{lesser, greater, least, greatest}
use Rattle.checked.proofs.Ordered.{Real, lt_not_below, lt_asymmetric, lt_irrefl, lt_transitive, lt_total, below_nan}

-- ---- of two

pub lesser_real : (a b : Float) → Real a → Real b → Real (lesser a b)
unfolding lesser
lesser_real a b p q = go (lt a b)
  where
    go : (t : Bool) → Real (cond t a b)
    go true = p
    go false = q

either_of : (t : Bool) (a b : Float) → (cond t a b ≡ a) ⊎ (cond t a b ≡ b)
either_of true a b = inl refl
either_of false a b = inr refl

pub lesser_either : (a b : Float) → (lesser a b ≡ a) ⊎ (lesser a b ≡ b)
unfolding lesser
lesser_either a b = either_of (lt a b) a b

pub greater_either : (a b : Float) → (greater a b ≡ a) ⊎ (greater a b ≡ b)
unfolding greater
greater_either a b = either_of (lt b a) a b

-- the lesser is below what one of the two is below
pub lesser_below : (a b x : Float) → Real b → lt (lesser a b) x ≡ (lt a x || lt b x)
unfolding lesser
lesser_below a b x w = go (lt a b) (lt a x) (lt b x) refl refl refl
  where
    go : (t u v : Bool) → lt a b ≡ t → lt a x ≡ u → lt b x ≡ v → lt (cond t a b) x ≡ (u || v)
    go true true v e h g = h
    go true false true e h g = absurd (false≢true (sym h ∙ lt_transitive a b x e g))
    go true false false e h g = h
    go false true true e h g = g
    go false true false e h g = absurd (false≢true (sym (lt_not_below a b x w e g) ∙ h))
    go false false v e h g = g

-- what is not below the first is not below the lesser
pub lesser_left : (a b x : Float) → Real a → lt x a ≡ false → lt x (lesser a b) ≡ false
unfolding lesser
lesser_left a b x w h = go (lt a b) refl
  where
    go : (t : Bool) → lt a b ≡ t → lt x (cond t a b) ≡ false
    go true e = h
    go false e = lt_not_below x a b w h e

pub lesser_right : (a b : Float) → lt b (lesser a b) ≡ false
unfolding lesser
lesser_right a b = go (lt a b) refl
  where
    go : (t : Bool) → lt a b ≡ t → lt b (cond t a b) ≡ false
    go true e = lt_asymmetric a b e
    go false e = lt_irrefl b

-- nothing but infinity is not below it
pub lesser_infinite : (x : Float) → Real x → lesser x (inf false) ≡ x
unfolding lesser lt is_nan
lesser_infinite nan r = absurd r
lesser_infinite (inf true) r = refl
lesser_infinite (inf false) r = refl
lesser_infinite (fin s m e) r = refl

-- of three, in either grouping: the same one of them
pub lesser_assoc : (a b c : Float) → Real b → lesser (lesser a b) c ≡ lesser a (lesser b c)
unfolding lesser
lesser_assoc a b c w = go (lt a b) (lt b c) (lt a c) refl refl refl
  where
    go : (t u v : Bool) → lt a b ≡ t → lt b c ≡ u → lt a c ≡ v → cond (lt (cond t a b) c) (cond t a b) c ≡ cond (lt a (cond u b c)) a (cond u b c)
    go true true true e h g = rw (e, g)
    go true true false e h g = absurd (false≢true (sym g ∙ lt_transitive a b c e h))
    go true false v e h g = refl
    go false true v e h g = rw (e, h)
    go false false true e h g = absurd (false≢true (sym (lt_not_below a b c w e h) ∙ g))
    go false false false e h g = rw (h, g)

-- in either order they are equal as numbers
pub lesser_either_way : (a b : Float) → Real a → Real b → eq (lesser b a) (lesser a b) ≡ true
unfolding lesser
lesser_either_way a b p q = go (lt a b) (lt b a) refl refl
  where
    go : (t u : Bool) → lt a b ≡ t → lt b a ≡ u → eq (cond u b a) (cond t a b) ≡ true
    go true true e h = absurd (false≢true (sym (lt_asymmetric a b e) ∙ h))
    go true false e h = lt_total a a p p (lt_irrefl a) (lt_irrefl a)
    go false true e h = lt_total b b q q (lt_irrefl b) (lt_irrefl b)
    go false false e h = lt_total a b p q e h

pub greater_real : (a b : Float) → Real a → Real b → Real (greater a b)
unfolding greater
greater_real a b p q = go (lt b a)
  where
    go : (t : Bool) → Real (cond t a b)
    go true = p
    go false = q

pub greater_left : (a b x : Float) → Real a → lt a x ≡ false → lt (greater a b) x ≡ false
unfolding greater
greater_left a b x w h = go (lt b a) refl
  where
    go : (t : Bool) → lt b a ≡ t → lt (cond t a b) x ≡ false
    go true e = h
    go false e = lt_not_below b a x w e h

pub greater_right : (a b : Float) → lt (greater a b) b ≡ false
unfolding greater
greater_right a b = go (lt b a) refl
  where
    go : (t : Bool) → lt b a ≡ t → lt (cond t a b) b ≡ false
    go true e = lt_asymmetric b a e
    go false e = lt_irrefl b

not_below_nan : (x : Float) → cond (lt x nan) x nan ≡ nan
not_below_nan x = rw (below_nan x)

-- nothing is above infinity
pub not_above_inf : (x : Float) → lt (inf false) x ≡ false
unfolding lt
not_above_inf nan = refl
not_above_inf (inf s) = refl
not_above_inf (fin s m e) = refl

-- ---- of many

module _ (g : ℕ → Float) where
  pub least_more : (i : ℕ) (m x : Float) → m ≡ least g i → x ≡ g i → lesser m x ≡ least g (i + 1)
  unfolding least
  least_more i m x e h = rw (add-one, e, h)

  -- where the members from some place on are no numbers, neither is the least
  pub least_missing : (m n : ℕ) → m < n → ((j : ℕ) → m ≤ j → g j ≡ nan) → least g n ≡ nan
  unfolding least lesser
  least_missing m zero h w = absurd (omega arith)
  least_missing m (suc n) h w = rw (w n (omega arith)) (not_below_nan (least g n))

  pub least_real : (n : ℕ) → ((j : ℕ) → j < n → Real (g j)) → Real (least g n)
  unfolding least is_nan
  least_real zero w = tt
  least_real (suc n) w = lesser_real (least g n) (g n) (least_real n (λ j h. w j (omega arith))) (w n (omega arith))

  -- where infinity and no member is below x, nor is the least
  pub least_not_below : (x : Float) → lt (inf false) x ≡ false → (n : ℕ) → ((j : ℕ) → j < n → lt (g j) x ≡ false) → lt (least g n) x ≡ false
  unfolding least
  least_not_below x start zero w = start
  least_not_below x start (suc n) w =
      ⊎_elim (λ e. rw e (least_not_below x start n (λ j h. w j (omega arith)))) (λ e. rw e (w n (omega arith))) (lesser_either (least g n) (g n))

  -- no member is below the least
  pub least_bounds : (n : ℕ) → ((j : ℕ) → j < n → Real (g j)) → (j : ℕ) → j < n → lt (g j) (least g n) ≡ false
  unfolding least
  least_bounds zero w j h = absurd (omega arith)
  least_bounds (suc n) w j h =
      below_more (λ (j : ℕ). lt (g j) (lesser (least g n) (g n)) ≡ false) n
      (λ j h. lesser_left (least g n) (g n) (g j) (least_real n (λ i p. w i (omega arith))) (least_bounds n (λ i p. w i (omega arith)) j h))
      (lesser_right (least g n) (g n))
      j (omega arith)

  -- the least of some numbers is one of them
  pub least_attained : (n : ℕ) → (j : ℕ) × (j < suc n) × (least g (suc n) ≡ g j)
  unfolding least lesser
  least_attained zero = (0, omega arith, rw (not_above_inf (g 0)))
  least_attained (suc n) = go (lt (least g (suc n)) (g (suc n))) (least_attained n)
    where
      go : (t : Bool) → (j : ℕ) × (j < suc n) × (least g (suc n) ≡ g j) → (j : ℕ) × (j < suc (suc n)) × (cond t (least g (suc n)) (g (suc n)) ≡ g j)
      go true w = (w.0, omega (arith, w.1), w.2)
      go false w = (suc n, omega arith, refl)

-- of the first m, and of n more
pub least_sum : (g : ℕ → Float) (m n : ℕ) → ((j : ℕ) → j < m + n → Real (g j)) → least g (m + n) ≡ lesser (least g m) (least (λ (j : ℕ). g (m + j)) n)
unfolding least
least_sum g m zero w = rw add-zero (sym (lesser_infinite (least g m) (least_real g m (λ j h. w j (omega arith)))))
least_sum g m (suc n) w =
    rw (add-suc, least_sum g m n (λ j h. w j (omega arith)))
    (lesser_assoc (least g m) (least (λ (j : ℕ). g (m + j)) n) (g (m + n)) (least_real (λ (j : ℕ). g (m + j)) n (λ j h. w (m + j) (omega arith))))

module _ (z : Float) (g : ℕ → Float) where
  pub greatest_more : (i : ℕ) (m x : Float) → m ≡ greatest z g i → x ≡ g i → greater m x ≡ greatest z g (i + 1)
  unfolding greatest
  greatest_more i m x e h = rw (add-one, e, h)

  pub greatest_real : (n : ℕ) → Real z → ((j : ℕ) → j < n → Real (g j)) → Real (greatest z g n)
  unfolding greatest
  greatest_real zero r w = r
  greatest_real (suc n) r w = greater_real (greatest z g n) (g n) (greatest_real n r (λ j h. w j (omega arith))) (w n (omega arith))

  -- no member is above the greatest
  pub greatest_bounds : (n : ℕ) → Real z → ((j : ℕ) → j < n → Real (g j)) → (j : ℕ) → j < n → lt (greatest z g n) (g j) ≡ false
  unfolding greatest
  greatest_bounds zero r w j h = absurd (omega arith)
  greatest_bounds (suc n) r w j h =
      below_more (λ (j : ℕ). lt (greater (greatest z g n) (g n)) (g j) ≡ false) n
      (λ j h. greater_left (greatest z g n) (g n) (g j) (greatest_real n r (λ i p. w i (omega arith))) (greatest_bounds n r (λ i p. w i (omega arith)) j h))
      (greater_right (greatest z g n) (g n))
      j (omega arith)

  -- the greatest is where it starts from, or one of them
  pub greatest_attained : (n : ℕ) → (greatest z g n ≡ z) ⊎ ((j : ℕ) × (j < n) × (greatest z g n ≡ g j))
  unfolding greatest greater
  greatest_attained zero = inl refl
  greatest_attained (suc n) = go (lt (g n) (greatest z g n)) (greatest_attained n)
    where
      go : (t : Bool) → (greatest z g n ≡ z) ⊎ ((j : ℕ) × (j < n) × (greatest z g n ≡ g j))
          → (cond t (greatest z g n) (g n) ≡ z) ⊎ ((j : ℕ) × (j < suc n) × (cond t (greatest z g n) (g n) ≡ g j))
      go true (inl e) = inl e
      go true (inr w) = inr (w.0, omega (arith, w.1), w.2)
      go false w = inr (n, omega arith, refl)
