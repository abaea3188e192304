-- Laws of `all`, `some`, `every`, `table` and `over`: one turn of a loop that computes each, its end, and what it says of one index.
use Prim.Native.Nat.{ℕ, zero, suc, ◌+◌, ◌≤◌, ◌<◌, min}
use mathlib.Core.Path.{◌≡◌, refl, ap, sym, ◌∙◌}
use mathlib.Core.Bool.{Bool, true, false, ◌&&◌, ◌||◌, false≢true, and-true, or-false}
use mathlib.Core.List.{List, [], ◌∷◌, ◌++◌, append_assoc, append-nil}
use native.Mathlib.Nat.{le_refl, lt_of_not-le, add-zero, add-suc}
use native.Mathlib.Decide.{dec_le}
use native.Mathlib.Numerals.{add-one}
use native.Mathlib.Omega.{arith}
use borrow.Author.Count.{below_more}
use lib.ListN.{length, get_or, take, drop, set, length-append, length-set, get_or-append, get_or-eq_default}
use lib.Seq.{take-suc-set, take_all, drop-cons, set_at, ext_get_or, set_out, set-get_or, get_or-append_seam, get_or-set_same, get_or-set_other}
use lib.Ieee.{Float, nan}
use Rattle.checked.specs.Each.{at, all, some, every, every_from, table, over}

-- ---- conjunctions

-- two answers and what each is
infixl 35 ◌&&≡◌
pub ◌&&≡◌ : {a b c d : Bool} → a ≡ c → b ≡ d → a && b ≡ c && d
e &&≡ h = rw (e, h)

pub and_left : (a b : Bool) → a && b ≡ true → a ≡ true
and_left true b e = refl
and_left false b e = e

pub and_right : (a b : Bool) → a && b ≡ true → b ≡ true
and_right true b e = e
and_right false b e = absurd (false≢true e)

and_assoc : (a b c : Bool) → (a && b) && c ≡ a && (b && c)
and_assoc true b c = refl
and_assoc false b c = refl

pub or_left : (a b : Bool) → a ≡ true → (a || b) ≡ true
or_left a b e = rw e

pub or_right : (a b : Bool) → b ≡ true → (a || b) ≡ true
or_right true b e = refl
or_right false b e = e

-- a test that cannot hold
pub refuted : (b : Bool) → (b ≡ true → ⊥) → b ≡ false
refuted true h = absurd (h refl)
refuted false h = refl

-- where neither of two tests holds
pub neither : (a b : Bool) → a || b ≡ false → (a ≡ false) × (b ≡ false)
neither true b e = absurd (false≢true (sym e))
neither false b e = (refl, e)

-- ---- all

-- one turn of a loop that keeps the answer so far
pub all_more : (p : ℕ → Bool) (i : ℕ) (ok t : Bool) → ok ≡ all p i → t ≡ p i → ok && t ≡ all p (i + 1)
unfolding all
all_more p i ok t h g = rw (h, g, add-one)

pub all_at : (p : ℕ → Bool) (n : ℕ) → all p n ≡ true → (j : ℕ) → j < n → p j ≡ true
unfolding all
all_at p zero h j l = absurd (omega arith)
all_at p (suc n) h j l = below_more (λ (i : ℕ). p i ≡ true) n (all_at p n (and_left (all p n) (p n) h)) (and_right (all p n) (p n) h) j (omega arith)

pub all_from : (p : ℕ → Bool) (n : ℕ) → ((j : ℕ) → j < n → p j ≡ true) → all p n ≡ true
unfolding all
all_from p zero h = refl
all_from p (suc n) h = all_from p n (λ j l. h j (omega arith)) &&≡ h n (omega arith)

-- two tests that agree below n
pub all_same : (p q : ℕ → Bool) (n : ℕ) → ((i : ℕ) → i < n → p i ≡ q i) → all p n ≡ all q n
unfolding all
all_same p q zero h = refl
all_same p q (suc n) h = rw (all_same p q n (λ i l. h i (omega arith)), h n (omega arith))

-- one that fails is enough
pub all_fails : (p : ℕ → Bool) (n j : ℕ) → j < n → p j ≡ false → all p n ≡ false
all_fails p n j l e = go (all p n) refl
  where
    go : (b : Bool) → all p n ≡ b → b ≡ false
    go true h = sym (all_at p n h j l) ∙ e
    go false h = refl

-- where not all hold, one fails
pub all_fails_at : (p : ℕ → Bool) (n : ℕ) → all p n ≡ false → (j : ℕ) × (j < n) × (p j ≡ false)
unfolding all
all_fails_at p zero h = absurd (false≢true (sym h))
all_fails_at p (suc n) h = go (all p n) (p n) refl refl h (all_fails_at p n)
  where
    go : (a b : Bool) → all p n ≡ a → p n ≡ b → a && b ≡ false → (all p n ≡ false → (j : ℕ) × (j < n) × (p j ≡ false)) → (j : ℕ) × (j < suc n) × (p j ≡ false)
    go true b e g f before = (n, omega arith, g ∙ f)
    go false b e g f before = let w = before e in (w.0, omega (arith, w.1), w.2)

-- an entry that is not there fails a test that a NaN fails
pub all_missing : (q : Float → Bool) (l : List Float) (n : ℕ) → q nan ≡ false → length l < n → all (λ (i : ℕ). q (at l i)) n ≡ false
all_missing q l n e h = all_fails (λ (i : ℕ). q (at l i)) n (length l) h (ap q (get_or-eq_default l nan (le_refl (length l))) ∙ e)

-- the first m, and n more
pub all_sum : (p : ℕ → Bool) (m n : ℕ) → all p (m + n) ≡ all p m && all (λ (j : ℕ). p (m + j)) n
unfolding all
all_sum p m zero = rw add-zero (sym (and-true (all p m)))
all_sum p m (suc n) = rw (add-suc, all_sum p m n) (and_assoc (all p m) (all (λ (j : ℕ). p (m + j)) n) (p (m + n)))

apart : (a b p q : Bool) → (a && b) && (p && q) ≡ (a && p) && (b && q)
apart true true p q = refl
apart true false true q = refl
apart true false false q = refl
apart false b p q = refl

-- two tests of each, judged one by one or together
pub all_both : (p q : ℕ → Bool) (n : ℕ) → all p n && all q n ≡ all (λ (i : ℕ). p i && q i) n
unfolding all
all_both p q zero = refl
all_both p q (suc n) = apart (all p n) (p n) (all q n) (q n) ∙ ap (λ (b : Bool). b && (p n && q n)) (all_both p q n)

-- ---- some

pub some_more : (p : ℕ → Bool) (i : ℕ) (so t : Bool) → so ≡ some p i → t ≡ p i → so || t ≡ some p (i + 1)
unfolding some
some_more p i so t h g = rw (h, g, add-one)

-- a list of tests of which none holds from some place on
pub some_cut : (p : ℕ → Bool) (n m : ℕ) → ((j : ℕ) → m ≤ j → p j ≡ false) → some p n ≡ some p (min n m)
unfolding some
some_cut p zero m h = let e : min 0 m ≡ 0 = omega arith in rw e
some_cut p (suc n) m h = go (dec_le m n) (some_cut p n m h)
  where
    go : Dec (m ≤ n) → some p n ≡ some p (min n m) → some p n || p n ≡ some p (min (suc n) m)
    go (yes l) e = let k : min (suc n) m ≡ min n m = omega arith in rw (h n l, k) (or-false (some p n) ∙ e)
    go (no l) e = let k : min (suc n) m ≡ suc n = omega (arith, lt_of_not-le l) in rw k

-- tests that agree
pub some_same : (p q : ℕ → Bool) (n : ℕ) → ((i : ℕ) → i < n → p i ≡ q i) → some p n ≡ some q n
unfolding some
some_same p q zero e = refl
some_same p q (suc n) e = rw (some_same p q n (λ i l. e i (omega arith)), e n (omega arith))

-- none holds: each fails, and the other way round
pub some_none : (p : ℕ → Bool) (n : ℕ) → ((j : ℕ) → j < n → p j ≡ false) → some p n ≡ false
unfolding some
some_none p zero h = refl
some_none p (suc n) h = rw (some_none p n (λ j l. h j (omega arith)), h n (omega arith))

pub some_none_at : (p : ℕ → Bool) (n : ℕ) → some p n ≡ false → (j : ℕ) → j < n → p j ≡ false
unfolding some
some_none_at p zero h j l = absurd (omega arith)
some_none_at p (suc n) h j l = let t = neither (some p n) (p n) h in below_more (λ (i : ℕ). p i ≡ false) n (some_none_at p n t.0) t.1 j (omega arith)

-- one holds: so does some
pub some_there : (p : ℕ → Bool) (n j : ℕ) → j < n → p j ≡ true → some p n ≡ true
some_there p n j l e = go (some p n) refl
  where
    go : (b : Bool) → some p n ≡ b → b ≡ true
    go true h = refl
    go false h = sym (some_none_at p n h j l) ∙ e

or_apart : (a b p q : Bool) → (a || b) || (p || q) ≡ (a || p) || (b || q)
or_apart true b p q = refl
or_apart false true true q = refl
or_apart false true false q = refl
or_apart false false p q = refl

-- one of two tests holds of some: the one of some, or the other
pub some_either : (p q : ℕ → Bool) (n : ℕ) → some (λ (i : ℕ). p i || q i) n ≡ (some p n || some q n)
unfolding some
some_either p q zero = refl
some_either p q (suc n) = ap (λ (b : Bool). b || (p n || q n)) (some_either p q n) ∙ or_apart (some p n) (some q n) (p n) (q n)

-- ---- every

from_first : (a : Bool) (l : List Bool) → every_from a l ≡ true → a ≡ true
unfolding every_from
from_first a [] e = e
from_first a (b ∷ l) e = and_left a b (from_first (a && b) l e)

from_rest : (a : Bool) (l : List Bool) (k : ℕ) → every_from a l ≡ true → get_or l k true ≡ true
unfolding every_from
from_rest a [] k e = refl
from_rest a (b ∷ l) zero e = and_right a b (from_first (a && b) l e)
from_rest a (b ∷ l) (suc k) e = from_rest (a && b) l k e

-- test k of some that all hold
pub every_at : (l : List Bool) (k : ℕ) → every l ≡ true → get_or l k true ≡ true
unfolding every
every_at [] k e = refl
every_at (a ∷ l) zero e = from_first a l e
every_at (a ∷ l) (suc k) e = from_rest a l k e

-- ---- table

-- one turn of a loop that fills an array from the front
pub table_more : (g : ℕ → Float) (i : ℕ) (a : List Float) (v : Float) → i < length a → take i a ≡ table g i → v ≡ g i → take (i + 1) (set a i v) ≡ table g (i + 1)
unfolding table
table_more g i a v h e w = rw (add-one, take-suc-set a i v h, e, w)

-- the end of such a loop
pub table_all : (g : ℕ → Float) (n i : ℕ) (a : List Float) → i ≡ n → length a ≡ n → take i a ≡ table g i → a ≡ table g n
table_all g n i a hi hl e = sym (take_all n a (omega arith)) ∙ rw hi at e

pub table_long : (g : ℕ → Float) (n : ℕ) → length (table g n) ≡ n
unfolding table
table_long g zero = refl
table_long g (suc n) = let e = table_long g n in length-append (table g n) (g n ∷ []) ∙ omega arith

-- of numbers that agree
pub table_same : (g h : ℕ → Float) (n : ℕ) → ((j : ℕ) → j < n → g j ≡ h j) → table g n ≡ table h n
unfolding table
table_same g h zero e = refl
table_same g h (suc n) e = rw (table_same g h n (λ j b. e j (omega arith)), e n (omega arith))

-- the first m, and n more
pub table_sum : (g : ℕ → Float) (m n : ℕ) → table g (m + n) ≡ table g m ++ table (λ (j : ℕ). g (m + j)) n
unfolding table
table_sum g m zero = rw (add-zero, append-nil)
table_sum g m (suc n) = rw (add-suc, table_sum g m n, append_assoc)

-- entry j of a table
pub table_at : (g : ℕ → Float) (n j : ℕ) → j < n → at (table g n) j ≡ g j
unfolding table
table_at g zero j l = absurd (omega arith)
table_at g (suc n) j l =
    below_more (λ (i : ℕ). at (table g (suc n)) i ≡ g i) n
    (λ i h. get_or-append (table g n) (g n ∷ []) nan i (rw (table_long g n) h) ∙ table_at g n i h)
    (ap (at (table g (suc n))) (sym (table_long g n)) ∙ get_or-append_seam (table g n) (g n) [] nan)
    j (omega arith)

-- ---- over

pub over_more : (g : ℕ → Float) (l a : List Float) (i : ℕ) (v : Float) → a ≡ over g l i → v ≡ g i → set a i v ≡ over g l (i + 1)
unfolding over
over_more g l a i v e w = rw (add-one, e, w)

pub over_same : (g h : ℕ → Float) (l : List Float) (n : ℕ) → ((j : ℕ) → j < n → g j ≡ h j) → over g l n ≡ over h l n
unfolding over
over_same g h l zero e = refl
over_same g h l (suc n) e = rw (over_same g h l n (λ j b. e j (omega arith)), e n (omega arith))

-- entries put over themselves change nothing
pub over_itself : (g : ℕ → Float) (l : List Float) (n : ℕ) → ((j : ℕ) → j < n → g j ≡ at l j) → over g l n ≡ l
unfolding over
over_itself g l zero e = refl
over_itself g l (suc n) e = rw (over_itself g l n (λ j b. e j (omega arith)), e n (omega arith)) (set-get_or l n nan)

pub length_over : (g : ℕ → Float) (l : List Float) (n : ℕ) → length (over g l n) ≡ length l
unfolding over
length_over g l zero = refl
length_over g l (suc n) = simp length-set (length_over g l n)

-- nothing is put past the list's end
pub over_cut : (g : ℕ → Float) (l : List Float) (n : ℕ) → over g l n ≡ over g l (min n (length l))
unfolding over
over_cut g l zero = let e : min 0 (length l) ≡ 0 = omega arith in rw e
over_cut g l (suc n) = go (dec_le (length l) n) (over_cut g l n)
  where
    go : Dec (length l ≤ n) → over g l n ≡ over g l (min n (length l)) → set (over g l n) n (g n) ≡ over g l (min (suc n) (length l))
    go (yes h) e =
        let k : min (suc n) (length l) ≡ min n (length l) = omega arith in
        rw k (set_out (over g l n) n (g n) (rw (length_over g l n) h) ∙ e)
    go (no h) e = let k : min (suc n) (length l) ≡ suc n = omega (arith, lt_of_not-le h) in rw k

-- what was put, and what was kept
pub over_at : (g : ℕ → Float) (l : List Float) (n j : ℕ) → j < n → j < length l → at (over g l n) j ≡ g j
unfolding over
over_at g l zero j h b = absurd (omega arith)
over_at g l (suc n) j h b =
    below_more (λ (i : ℕ). i < length l → at (set (over g l n) n (g n)) i ≡ g i) n
    (λ i c d. let e : i ≡ n → ⊥ = λ z. omega arith in get_or-set_other (over g l n) n i (g n) nan e ∙ over_at g l n i c d)
    (λ d. get_or-set_same (over g l n) n (g n) nan (rw (length_over g l n) d))
    j (omega arith) b

pub over_keeps : (g : ℕ → Float) (l : List Float) (n j : ℕ) → n ≤ j → at (over g l n) j ≡ at l j
unfolding over
over_keeps g l zero j h = refl
over_keeps g l (suc n) j h = let e : j ≡ n → ⊥ = λ z. omega arith in get_or-set_other (over g l n) n j (g n) nan e ∙ over_keeps g l n j (omega arith)

-- the values that are put, and then what was there past them
pub over_front : (g : ℕ → Float) (l : List Float) (n : ℕ) → n ≤ length l → over g l n ≡ table g n ++ drop n l
unfolding over table
over_front g l zero h = refl
over_front g l (suc n) h =
    rw (over_front g l n (omega arith), drop-cons l n nan (omega arith), set_at (table g n) (at l n) (drop (suc n) l) (g n) n (table_long g n), append_assoc)

-- what is put over the same places twice
pub over_twice : (g h : ℕ → Float) (l : List Float) (n : ℕ) → over g (over h l n) n ≡ over g l n
over_twice g h l n =
    ext_get_or nan (over g (over h l n) n) (over g l n) (length_over g (over h l n) n ∙ length_over h l n ∙ sym (length_over g l n))
    (λ i b. go i (rw (length_over g (over h l n) n) at b) (dec_le n i))
  where
    go : (i : ℕ) → i < length (over h l n) → Dec (n ≤ i) → at (over g (over h l n) n) i ≡ at (over g l n) i
    go i b (yes k) = over_keeps g (over h l n) n i k ∙ over_keeps h l n i k ∙ sym (over_keeps g l n i k)
    go i b (no k) = over_at g (over h l n) n i (lt_of_not-le k) b ∙ sym (over_at g l n i (lt_of_not-le k) (rw (length_over h l n) at b))
