-- The rules of the features (R6), over the format: each feature in the source's operation order. Whatever is computed is checked.
use Rattle.std.specs.Prelude.{ℕ, zero, suc, ◌+◌, ◌-◌, ◌*◌, min, Bool, true, false, ◌&&◌, List, [], ◌∷◌, ltb, leb, eqb, pos, length, get_or, drop, Float, if◌then◌else◌}
use Rattle.std.specs.Float.{Format}
use Rattle.std.specs.Float.Ieee.{neg, of_int}
use Rattle.checked.specs.Constants.{1!, 3!, eps}
use Rattle.checked.specs.Each.{at, all, table, over}
use Rattle.checked.specs.Finite.{+0}
use Rattle.checked.specs.Row.{padded}
use Rattle.checked.specs.Checked.{Checked, ◌>>=◌, pure, plus, minus, times, divided, root, sum_from}
use Rattle.checked.specs.Least.{greater, greatest}
use Rattle.fmath.specs.Norm.{dist}
use Rattle.window.specs.Rule.{net, path}
use Rattle.window.specs.declared.Trail.{Trail}
use Rattle.bits.specs.Bits.{bit, bits_where}
use Rattle.conformal.specs.Feat.{PATH-INEFF, STALL, EXT0, COUNT}
use Rattle.envelope.specs.Derive.{kept}
use Rattle.tier1.specs.declared.Manifest.{Manifest}
use Rattle.tier1.specs.declared.Kept.{Kept}

-- how many samples of the trail PathIneff looks at
abbrev pub PE-WINDOW : ℕ
PE-WINDOW = 20

-- row i of rows that are d wide: it starts at i x d, and what follows it is not read
abbrev pub row : List Float → ℕ → ℕ → List Float
row l d i = drop (i * d) l

-- how many coordinates the action and the position share; a short position has fewer
abbrev pub box_dims : Manifest → List Float → ℕ
box_dims m p = min (min m.dim m.pos_dim) (length p)

module _ (f : Format) where
  -- ---- checked operations on checked numbers

  infixl 60 ◌⊕◌
  abbrev pub ◌⊕◌ : Checked Float → Checked Float → Checked Float
  x ⊕ y = do
    a ← x
    b ← y
    plus f a b

  infixl 60 ◌⊖◌
  abbrev pub ◌⊖◌ : Checked Float → Checked Float → Checked Float
  x ⊖ y = do
    a ← x
    b ← y
    minus f a b

  infixl 70 ◌⊗◌
  abbrev pub ◌⊗◌ : Checked Float → Checked Float → Checked Float
  x ⊗ y = do
    a ← x
    b ← y
    times f a b

  infixl 70 ◌⊘◌
  abbrev pub ◌⊘◌ : Checked Float → Checked Float → Checked Float
  x ⊘ y = do
    a ← x
    b ← y
    divided f a b

  abbrev pub squared : Checked Float → Checked Float
  squared x = do
    a ← x
    times f a a

  abbrev pub rooted : Checked Float → Checked Float
  rooted x = do
    a ← x
    root f a

  abbrev pub negated : Checked Float → Checked Float
  negated x = do
    a ← x
    pure (neg a)

  -- a count, as a number of the format
  abbrev pub count : ℕ → Checked Float
  count n = pure (of_int f (pos n))

  -- g over the first d coordinates of the first n rows, summed row by row
  unfoldable pub sum_rows : (ℕ → ℕ → Checked Float) → ℕ → ℕ → Checked Float
  sum_rows g d zero = pure +0
  sum_rows g d (suc i) = do
    s ← sum_rows g d i
    sum_from f s (g i) d

  -- ---- rows in the units of the norm

  -- x on coordinate c
  unfoldable pub normal : Manifest → ℕ → Float → Checked Float
  normal m c x = (pure x ⊖ pure (at m.center c)) ⊗ pure (at m.inverse c)

  -- the squared difference of two rows on coordinate c
  unfoldable pub gap : Manifest → List Float → List Float → ℕ → Checked Float
  gap m a b c = squared (normal m c (at a c) ⊖ normal m c (at b c))

  -- the squared third difference of four rows, from the last back to the first
  unfoldable pub jolt : Manifest → List Float → List Float → List Float → List Float → ℕ → Checked Float
  jolt m third second next here c =
      squared (((normal m c (at third c) ⊖ pure 3! ⊗ normal m c (at second c)) ⊕ pure 3! ⊗ normal m c (at next c)) ⊖ normal m c (at here c))

  -- rows of a, from row s on, against those of b from its first
  abbrev pub gaps : Manifest → List Float → ℕ → List Float → ℕ → ℕ → Checked Float
  gaps m a s b i = gap m (row a m.dim (s + i)) (row b m.dim i)

  -- first differences: the rows from the second on against those from the first
  abbrev pub steps : Manifest → List Float → ℕ → ℕ → Checked Float
  steps m b = gaps m b 1 b

  -- third differences
  abbrev pub jolts : Manifest → List Float → ℕ → ℕ → Checked Float
  jolts m b i = jolt m (row b m.dim (i + 3)) (row b m.dim (i + 2)) (row b m.dim (i + 1)) (row b m.dim i)

  -- ---- the features of a chunk of h rows, b; where a is the chunk before, l of its rows, from row s on, meet those of b

  unfoldable pub tce : Manifest → List Float → ℕ → List Float → ℕ → Checked Float
  tce m a s b l = rooted (sum_rows (gaps m a s b) m.dim l ⊘ count (l * m.dim))

  unfoldable pub acc : Manifest → List Float → ℕ → List Float → ℕ → Checked Float
  acc m a s b l = rooted (sum_rows (gaps m a s b) m.dim l ⊘ (sum_rows (steps m b) m.dim (l - 1) ⊕ pure eps))

  -- the length of the step from row i
  unfoldable pub step_length : Manifest → List Float → ℕ → Checked Float
  step_length m b i = rooted (sum_from f +0 (steps m b i) m.dim)

  unfoldable pub acm_neg : Manifest → List Float → ℕ → Checked Float
  acm_neg m b h = negated (sum_from f +0 (step_length m b) (h - 1) ⊘ count (h - 1))

  unfoldable pub njr : Manifest → List Float → ℕ → Checked Float
  njr m b h = (sum_rows (jolts m b) m.dim (h - 3) ⊘ count (h - 3)) ⊘ (pure eps ⊕ (sum_rows (steps m b) m.dim (h - 1) ⊘ count (h - 1)))

  unfoldable pub reach : Manifest → List Float → List Float → Checked Float
  reach m p b = dist f b p (box_dims m p) ⊘ pure m.iso

  -- before row 0: the position on the shared coordinates, row 0 itself on the others
  unfoldable pub start_row : Manifest → List Float → List Float → List Float
  start_row m p b = over (at p) (padded b m.dim) (box_dims m p)

  -- the raw step to row i, where q stands before row 0
  unfoldable pub stride : ℕ → List Float → List Float → ℕ → Checked Float
  stride d q b zero = dist f b q d
  stride d q b (suc i) = dist f (row b d (suc i)) (row b d i) d

  -- the greatest of the first h, from 0.0; each is computed
  unfoldable pub peak : ℕ → List Float → List Float → ℕ → Checked Float
  peak d q b h = record { value = greatest +0 (λ (i : ℕ). (stride d q b i).value) h; sound = all (λ (i : ℕ). (stride d q b i).sound) h }

  unfoldable pub speed_peak : Manifest → List Float → List Float → ℕ → Checked Float
  speed_peak m p b h = peak m.dim (start_row m p b) b h ⊘ pure m.iso

  -- ---- the feature of the trail, over its last samples

  unfoldable pub net_length : Manifest → Trail → Checked Float
  net_length m t = net f t.buf t.head t.len m.pos_dim PE-WINDOW

  unfoldable pub path_length : Manifest → Trail → Checked Float
  path_length m t = path f t.buf t.head t.len m.pos_dim PE-WINDOW

  unfoldable pub path_ineff : Manifest → Trail → Checked Float
  path_ineff m t = do
    n ← net_length m t
    p ← path_length m t
    pure 1! ⊖ (pure n ⊘ pure (greater p eps))

-- ---- which features there are

-- how many rows the chunk before and a new one share, by their emit times; none where the widths differ or the new one is earlier
unfoldable pub overlap : Kept → ℕ → ℕ → ℕ → ℕ
overlap k t h d = if k.there && eqb k.dim d && leb k.t_emit t then min (k.horizon - (t - k.t_emit)) h else 0

-- bits 0 to 5 of a chunk of h rows, of which l overlap, with n shared coordinates
abbrev pub boundary_at : ℕ → ℕ → ℕ → ℕ → Bool
boundary_at l h n j = get_or (leb 2 l ∷ leb 2 l ∷ leb 2 h ∷ leb 4 h ∷ ltb 0 n ∷ true ∷ []) j false

-- a feature where it is there, else 0.0, for which nothing is computed
abbrev pub if_there : Bool → Checked Float → Checked Float
if_there t x = if t then x else pure +0

-- the features of a chunk of h rows, b, emitted at t, after the kept one with the rows a
unfoldable pub boundary : Format → Manifest → Kept → List Float → List Float → ℕ → ℕ → List Float → Checked (List Float)
boundary f m k a p t h b = do
  let l = overlap k t h m.dim
  let s = t - k.t_emit
  u ← if_there (leb 2 l) (tce f m a s b l)
  v ← if_there (leb 2 l) (acc f m a s b l)
  w ← if_there (leb 2 h) (acm_neg f m b h)
  x ← if_there (leb 4 h) (njr f m b h)
  y ← if_there (ltb 0 (box_dims m p)) (reach f m p b)
  z ← speed_peak f m p b h
  pure (u ∷ v ∷ w ∷ x ∷ y ∷ z ∷ [])

-- the bits of the six features
unfoldable pub boundary_bits : Manifest → Kept → List Float → ℕ → ℕ → ℕ
boundary_bits m k p t h = bits_where (boundary_at (overlap k t h m.dim) h (box_dims m p)) 6

-- PathIneff where the trail holds enough samples
abbrev pub ineff_at : Format → Manifest → Trail → Checked Float
ineff_at f m t = if_there (leb PE-WINDOW t.len) (path_ineff f m t)

-- ---- all twelve of a tick

-- a feature is valid: a held one by its bit, PathIneff where the trail holds enough samples, Stall never, an external one where it is lent
unfoldable pub valid_at : ℕ → ℕ → ℕ → ℕ → Bool
valid_at held len ext j =
    if ltb j PATH-INEFF then bit held j
    else if ltb j STALL then leb PE-WINDOW len
    else if ltb j EXT0 then false
    else ltb (j - EXT0) ext

-- its value where it is valid
unfoldable pub value_at : List Float → Float → List Float → ℕ → Float
value_at held ineff ext j = if ltb j PATH-INEFF then at held j else if ltb j EXT0 then ineff else at ext (j - EXT0)

-- twelve features and their bits
pub record Twelve : Type 0 where
  pub f : List Float
  pub valid : ℕ

-- 0.0 where not valid, so Stall is 0.0; nothing is computed for it
unfoldable pub twelve : Format → Manifest → Trail → List Float → ℕ → List Float → Checked Twelve
twelve f m t held held_valid_of ext = do
  ineff ← ineff_at f m t
  pure (record { f = table (λ (j : ℕ). kept (valid_at held_valid_of t.len (length ext) j) (value_at held ineff ext j)) COUNT; valid = bits_where (valid_at held_valid_of t.len (length ext)) COUNT })
