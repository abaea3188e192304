-- Laws of the workspace: what lies past the eight axes, and what one test tells of a gap.
use mathlib.Core.Path.{◌≡◌, refl, sym, ap, ◌∙◌}
use mathlib.Core.Bool.{Bool, true, false, ◌&&◌, ◌||◌, and-true, and-false}
use mathlib.Core.List.{List, [], ◌∷◌}
use Prim.Native.Nat.{ℕ, zero, suc, ◌+◌, ◌-◌, ◌≤◌, ◌<◌, min}
use native.Mathlib.Nat.{lt_of_not-le, le_refl}
use native.Mathlib.Decide.{dec_le}
use native.Mathlib.Omega.{arith}
use borrow.Author.Count.{below_more}
use lib.ListN.{length, set, length-set, get_or-eq_default}
use lib.Seq.{get_or-set_same, get_or-set_other}
use lib.Ieee.{Float, Format, nan, lt, add, sub}
use Rattle.checked.specs.Each.{at, some, all, over}
use Rattle.checked.specs.Finite.{finite}
use Rattle.checked.specs.Least.{lesser, least}
use Rattle.checked.specs.Checked.{Checked, least_of}
use Rattle.checked.specs.declared.Row.{Row}
use Rattle.checked.specs.declared.Test.{Test}
use Rattle.checked.specs.Of.{row_from, test_from}
use Rattle.checked.proofs.Each.{◌&&≡◌, some_cut, some_none, over_itself, over_cut, all_fails, all_more, all_from, and_left, and_right}
use Rattle.checked.proofs.Extremes.{least_missing, least_more}
use Rattle.checked.proofs.Absorbing.{sub_nan, nan_sub, fine_sub_left, fine_sub_right, fine_add_left, fine_add_right}
use Rattle.checked.proofs.Ordered.{below_nan, nan_below}
use Rattle.checked.proofs.Told.{implied}
use Rattle.fmath.proofs.Lengths.{dist_sound, dist_same}
use Rattle.pull.specs.Rule.{pulled}
use Rattle.workspace.specs.declared.Shape.{Shape}
use Rattle.workspace.specs.declared.Shape.TheVariants.{Box, Disc}
use Rattle.workspace.specs.Shape.{first_boxed, boxed}
use Rattle.workspace.specs.Rule.{Walls, from_centre, past_edge, beyond, outside, onto_disc, inside_at, inward, between, between_r, gap, gap_r, to_edge, to_edge_r, edge_first, slack_in}
use Rattle.workspace.proofs.Shapes.{boxed_before}

-- ---- by the shape

module _ (f : Format) (a : List Float) {s : Shape} where
  past_edge_box : s ≡ Box → ◌≡◌ {A = Test} (record { holds = false; sound = true }) (test_from (past_edge f s a))
  unfolding past_edge
  past_edge_box h = rw h

  past_edge_disc : {x y radius d : Float} {k : Bool} → s ≡ Disc x y radius → d ≡ (from_centre f x y a).value → k ≡ finite d → ◌≡◌ {A = Test} (record { holds = lt radius d; sound = k }) (test_from (past_edge f s a))
  unfolding past_edge
  past_edge_disc {x} {y} h e k = rw (h, dist_sound f a (x ∷ y ∷ []) 2 e k, e, and-true)

  onto_box : s ≡ Box → ◌≡◌ {A = Row} (record { at = a; sound = true }) (row_from (onto_disc f s a))
  unfolding onto_disc
  onto_box h = rw h

  onto_the_disc : {x y radius : Float} {r : Row} → s ≡ Disc x y radius → r ≡ row_from (pulled f radius (x ∷ y ∷ []) 2 a) → r ≡ row_from (onto_disc f s a)
  unfolding onto_disc
  onto_the_disc h e = rw h e

module _ (f : Format) (w : Walls) (a : List Float) (n : ℕ) where
  outside_is : {t : Test} → t ≡ test_from (past_edge f w.shape a) → {b : Bool} → b ≡ some (beyond w a) n → ◌≡◌ {A = Test} (record { holds = t.holds || b; sound = t.sound }) (test_from (outside f w a n))
  unfolding outside
  outside_is t e = rw (t, e, and-true)

  pub outside_box : w.shape ≡ Box → {b : Bool} → b ≡ some (beyond w a) n → ◌≡◌ {A = Test} (record { holds = b; sound = true }) (test_from (outside f w a n))
  outside_box h e = outside_is (past_edge_box f a h) e

  pub outside_disc : {x y radius d : Float} {k b : Bool} → w.shape ≡ Disc x y radius → d ≡ (from_centre f x y a).value → k ≡ finite d → b ≡ some (beyond w a) n
      → ◌≡◌ {A = Test} (record { holds = lt radius d || b; sound = k }) (test_from (outside f w a n))
  outside_disc h e k o = outside_is (past_edge_disc f a h e k) o

  inward_is : {o : Row} → o ≡ row_from (onto_disc f w.shape a) → {r : List Float} → r ≡ over (inside_at w o.at) o.at n → ◌≡◌ {A = Row} (record { at = r; sound = o.sound }) (row_from (inward f w a n))
  unfolding inward
  inward_is k e = rw (e, k, and-true)

  pub inward_box : w.shape ≡ Box → {r : List Float} → r ≡ over (inside_at w a) a n → ◌≡◌ {A = Row} (record { at = r; sound = true }) (row_from (inward f w a n))
  inward_box h e = inward_is (onto_box f a h) e

  pub inward_disc : {x y radius : Float} {o : Row} {r : List Float} → w.shape ≡ Disc x y radius → o ≡ row_from (pulled f radius (x ∷ y ∷ []) 2 a) → r ≡ over (inside_at w o.at) o.at n
      → ◌≡◌ {A = Row} (record { at = r; sound = o.sound }) (row_from (inward f w a n))
  inward_disc h k e = inward_is (onto_the_disc f a h k) e

-- ---- past the end

past : (l : List Float) (j : ℕ) → length l ≤ j → at l j ≡ nan
past l j h = get_or-eq_default l nan h

-- a coordinate, or its walls, that are not there: it is not beyond them
pub none_beyond : (w : Walls) (a : List Float) (j : ℕ) → length w.lo ≡ 8 → length w.hi ≡ 8 → min (length a) 8 ≤ j → beyond w a j ≡ false
none_beyond w a j hl hh h = go (dec_le (length a) j)
  where
    go : Dec (length a ≤ j) → beyond w a j ≡ false
    go (yes k) = rw (past a j k, nan_below (at w.lo j), below_nan (at w.hi j)) (and-false (boxed w.shape j))
    go (no k) =
        let g : 8 ≤ j = omega (arith, lt_of_not-le k) in
        rw (past w.lo j (omega arith), past w.hi j (omega arith), below_nan (at a j), nan_below (at a j)) (and-false (boxed w.shape j))

-- one that has no box is not beyond it either
pub none_beyond_before : (w : Walls) (a : List Float) (m : ℕ) → m ≤ first_boxed w.shape → some (beyond w a) m ≡ false
none_beyond_before w a m h = some_none (beyond w a) m (λ j l. rw (boxed_before w.shape j (omega arith)))

-- so that what is found on the axes and coordinates that are there is all
pub some_beyond_is : (w : Walls) (a : List Float) (n : ℕ) → length w.lo ≡ 8 → length w.hi ≡ 8 → some (beyond w a) (min n (min (length a) 8)) ≡ some (beyond w a) n
some_beyond_is w a n hl hh = sym (some_cut (beyond w a) n (min (length a) 8) (λ j h. none_beyond w a j hl hh h))

-- the coordinates before the first that has a box are put over themselves
pub none_inside_before : (w : Walls) (b : List Float) (m : ℕ) → m ≤ first_boxed w.shape → b ≡ over (inside_at w b) b m
none_inside_before w b m h = sym (over_itself (inside_at w b) b m (λ j l. rw (boxed_before w.shape j (omega arith))))

-- and nothing is put past the end
pub walled_is : (w : Walls) (a : List Float) (n : ℕ) → length a ≡ 8 → over (inside_at w a) a (min n 8) ≡ over (inside_at w a) a n
walled_is w a n h = ap (λ (m : ℕ). over (inside_at w a) a (min n m)) (sym h) ∙ sym (over_cut (inside_at w a) a n)

-- ---- one test of the last number tells of each before it

pub between_tells : (f : Format) (lo hi p : Float) → (between f lo hi p).sound ≡ finite (sub f p lo) && finite (sub f hi p)
unfolding between
between_tells f lo hi p = ap (λ (b : Bool). finite (sub f p lo) && b) (and-true (finite (sub f hi p)))

-- near, low, far, high: low tells of near, and high of far
four : (a b c d : Bool) → (b ≡ true → a ≡ true) → (d ≡ true → c ≡ true) → a && (b && (c && (d && true))) ≡ b && d
four a b c d h g = ap (λ (t : Bool). a && (b && (c && t))) (and-true d) ∙ ap (λ (t : Bool). a && (b && t)) (implied c d g) ∙ implied a (b && d) (λ e. h (and_left b d e))

pub within_tells : (f : Format) (r lo hi p : Float) → (between_r f r lo hi p).sound ≡ finite (sub f (sub f p r) lo) && finite (sub f (sub f hi p) r)
unfolding between_r
within_tells f r lo hi p =
    four (finite (sub f p r)) (finite (sub f (sub f p r) lo)) (finite (sub f hi p)) (finite (sub f (sub f hi p) r)) (fine_sub_left f (sub f p r) lo) (fine_sub_left f (sub f hi p) r)

-- ---- a point with too few coordinates has no slack

between_missing : (f : Format) (lo hi : Float) → ((between f lo hi nan).value ≡ nan) × ((between f lo hi nan).sound ≡ false)
unfolding between lesser finite lt
between_missing f lo hi = (rw (nan_sub f lo, sub_nan f hi), rw (nan_sub f lo))

within_missing : (f : Format) (r lo hi : Float) → ((between_r f r lo hi nan).value ≡ nan) × ((between_r f r lo hi nan).sound ≡ false)
unfolding between_r lesser finite lt
within_missing f r lo hi = (rw (nan_sub f r, nan_sub f lo, sub_nan f hi, nan_sub f r), rw (nan_sub f r))

-- no slack at all
abbrev pub NoSlack : Checked Float → Type 0
NoSlack x = (x.value ≡ nan) × (x.sound ≡ false)

pub least_missing_of : (g : ℕ → Checked Float) (m n : ℕ) → m < n → ((j : ℕ) → m ≤ j → NoSlack (g j)) → NoSlack (least_of g n)
unfolding least_of
least_missing_of g m n h w = (least_missing (λ (j : ℕ). (g j).value) m n h (λ j k. (w j k).0), all_fails (λ (j : ℕ). (g j).sound) n m h (w m (le_refl m)).1)

pub gap_missing : (f : Format) (w : Walls) (p : List Float) (j : ℕ) → length p ≤ j → NoSlack (gap f w p j)
gap_missing f w p j k = rw (past p j k) (between_missing f (at w.lo j) (at w.hi j))

pub gap_missing_r : (f : Format) (w : Walls) (r : Float) (p : List Float) (j : ℕ) → length p ≤ j → NoSlack (gap_r f w r p j)
gap_missing_r f w r p j k = rw (past p j k) (within_missing f r (at w.lo j) (at w.hi j))

-- one of the further axes is missing where two more than these are
pub further_missing : (edge : Checked Float) (g : ℕ → Checked Float) (m n : ℕ) → 2 ≤ m → m < n → ((j : ℕ) → m ≤ j → NoSlack (g j)) → NoSlack (least_of (edge_first edge g) (suc (n - 2)))
further_missing edge g m n l h w = least_missing_of (edge_first edge g) (m - 1) (suc (n - 2)) (omega arith) at_k
  where
    at_k : (k : ℕ) → m - 1 ≤ k → NoSlack (edge_first edge g k)
    at_k zero b = absurd (omega arith)
    at_k (suc k) b = w (suc (suc k)) (omega arith)

-- ---- the disc's own slack: one test of it tells of the distance

module _ (f : Format) (x y radius : Float) (p : List Float) {n : Float} (e : n ≡ (from_centre f x y p).value) where
  pub edge_told : finite (sub f radius n) ≡ (to_edge f x y radius p).sound
  unfolding to_edge
  edge_told = rw (sym (dist_sound f p _ 2 e refl), e) (sym (implied (finite (from_centre f x y p).value) (finite (sub f radius (from_centre f x y p).value)) (fine_sub_right f radius (from_centre f x y p).value)))

  pub edge_told_r : (r : Float) → finite (sub f (sub f radius n) r) ≡ (to_edge_r f x y radius r p).sound
  unfolding to_edge to_edge_r
  edge_told_r r = rw (sym edge_told, e) (sym (implied (finite (sub f radius (from_centre f x y p).value)) _ (fine_sub_left f (sub f radius (from_centre f x y p).value) r)))

-- ---- one turn of a loop over the axes

pub least_of_more : (g : ℕ → Checked Float) (i : ℕ) (m x : Float) (s t : Bool) → (m ≡ (least_of g i).value) × (s ≡ (least_of g i).sound) → x ≡ (g i).value → t ≡ (g i).sound → (lesser m x ≡ (least_of g (i + 1)).value) × (s && t ≡ (least_of g (i + 1)).sound)
unfolding least_of
least_of_more g i m x s t h e k = (least_more (λ (j : ℕ). (g j).value) i m x h.0 e, all_more (λ (j : ℕ). (g j).sound) i s t h.1 k)

-- ---- all eight axes abreast, two a turn

two_more : (P : ℕ → Type 0) (m : ℕ) → ((j : ℕ) → j < m → P j) → P m → P (m + 1) → (j : ℕ) → j < m + 1 + 1 → P j
two_more P m h a b = below_more P (m + 1) (below_more P m h a) b

pub near_more : (g : ℕ → Float) (l : List Float) (m : ℕ) (x y : Float) → m + 1 < length l → ((j : ℕ) → j < m → at l j ≡ g j) → x ≡ g m → y ≡ g (m + 1)
    → (j : ℕ) → j < m + 1 + 1 → at (set (set l m x) (m + 1) y) j ≡ g j
near_more g l m x y b h e k =
    two_more (λ (j : ℕ). at (set (set l m x) (m + 1) y) j ≡ g j) m
    (λ j c. let d : j ≡ m + 1 → ⊥ = λ z. omega arith in let e : j ≡ m → ⊥ = λ z. omega arith in get_or-set_other (set l m x) (m + 1) j y nan d ∙ get_or-set_other l m j x nan e ∙ h j c)
    (let d : m ≡ m + 1 → ⊥ = λ z. omega arith in get_or-set_other (set l m x) (m + 1) m y nan d ∙ get_or-set_same l m x nan (omega arith) ∙ e)
    (get_or-set_same (set l m x) (m + 1) y nan (rw (length-set l m x) b) ∙ k)

module _ (f : Format) (w : Walls) (p : List Float) where
  -- both distances on axis j
  abbrev both : ℕ → Float
  both j = add f (sub f (at p j) (at w.lo j)) (sub f (at w.hi j) (at p j))

  both_tell : (j : ℕ) → finite (both j) ≡ true → (gap f w p j).sound ≡ true
  both_tell j h = between_tells f (at w.lo j) (at w.hi j) (at p j) ∙ (fine_add_left f (sub f (at p j) (at w.lo j)) (sub f (at w.hi j) (at p j)) h &&≡ fine_add_right f (sub f (at p j) (at w.lo j)) (sub f (at w.hi j) (at p j)) h)

  -- the two sums tell of two axes more
  pub sums_tell : (m : ℕ) (even odd x y : Float) → (finite even && finite odd ≡ true → (j : ℕ) → j < m → (gap f w p j).sound ≡ true) → x ≡ both m → y ≡ both (m + 1)
      → finite (add f even x) && finite (add f odd y) ≡ true → (j : ℕ) → j < m + 1 + 1 → (gap f w p j).sound ≡ true
  sums_tell m even odd x y h e k t =
      let a = and_left (finite (add f even x)) (finite (add f odd y)) t in
      let b = and_right (finite (add f even x)) (finite (add f odd y)) t in
      two_more (λ (j : ℕ). (gap f w p j).sound ≡ true) m (h (fine_add_left f even x a &&≡ fine_add_left f odd y b)) (both_tell m (ap finite (sym e) ∙ fine_add_right f even x a)) (both_tell (m + 1) (ap finite (sym k) ∙ fine_add_right f odd y b))

  -- what is measured on more axes gives the slack at a box
  pub slack_from : (near : List Float) (m n : ℕ) → n ≤ m → ((j : ℕ) → j < m → at near j ≡ (gap f w p j).value) → ((j : ℕ) → j < m → (gap f w p j).sound ≡ true) → (least (at near) n ≡ (slack_in f Box w p n).value) × (true ≡ (slack_in f Box w p n).sound)
  unfolding slack_in least_of least
  slack_from near m n h e t = (go n h, sym (all_from (λ (j : ℕ). (gap f w p j).sound) n (λ j b. t j (omega arith))))
    where
      go : (k : ℕ) → k ≤ m → least (at near) k ≡ least (λ (j : ℕ). (gap f w p j).value) k
      go zero b = refl
      go (suc k) b = rw (go k (omega arith), e k (omega arith))

-- ---- the slack looks at no coordinate past the first n, and past the disc's two

pub least_of_same : (g h : ℕ → Checked Float) (n : ℕ) → ((j : ℕ) → j < n → g j ≡ h j) → least_of g n ≡ least_of h n
unfolding least_of least all
least_of_same g h zero e = refl
least_of_same g h (suc n) e =
    let k = e n (omega arith) in
    let t = least_of_same g h n (λ j b. e j (omega arith)) in
    λ i. record { value = lesser (t i).value (k i).value; sound = (t i).sound && (k i).sound }

pub slack_same : (f : Format) (s : Shape) (w : Walls) (p q : List Float) (n : ℕ) → 2 ≤ n → ((j : ℕ) → j < n → at p j ≡ at q j) → slack_in f s w p n ≡ slack_in f s w q n
unfolding slack_in to_edge
slack_same f s w p q n l e = go s
  where
    axis : (j : ℕ) → j < n → gap f w p j ≡ gap f w q j
    axis j b = ap (between f (at w.lo j) (at w.hi j)) (e j b)

    further : (x y radius : Float) (k : ℕ) → k < suc (n - 2) → edge_first (to_edge f x y radius p) (gap f w p) k ≡ edge_first (to_edge f x y radius q) (gap f w q) k
    further x y radius zero b = rw (dist_same f p (x ∷ y ∷ []) q (x ∷ y ∷ []) 2 (λ j c. e j (omega arith)) (λ j c. refl))
    further x y radius (suc k) b = axis (suc (suc k)) (omega arith)

    go : (s : Shape) → slack_in f s w p n ≡ slack_in f s w q n
    go Box = least_of_same (gap f w p) (gap f w q) n axis
    go (Disc x y radius) = least_of_same (edge_first (to_edge f x y radius p) (gap f w p)) (edge_first (to_edge f x y radius q) (gap f w q)) (suc (n - 2)) (further x y radius)
