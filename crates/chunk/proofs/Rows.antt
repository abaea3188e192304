-- Laws of a chunk's rows: a place in them fits, which row there is, and what stands in it.
use Prim.Native.Nat.{ℕ, ◌+◌, ◌-◌, ◌*◌, ◌^◌, ◌≤◌, ◌<◌, min}
use mathlib.Core.Path.{◌≡◌, refl, ap, subst}
use mathlib.Core.Bool.{Bool, true, false, not}
use mathlib.Core.List.{List, []}
use native.Mathlib.Nat.{le_trans, lt_of_le_of_lt, mul-le-mul_left, mul-le-mul_right, suc-mul, mul-lt-mul_of_pos_right, le_of_lt}
use native.Mathlib.Omega.{arith}
use borrow.Author.Tests.{eq-eqb, ne_eqb, le-leb, lt-leb, leb-true}
use lib.Dec.{eqb, leb}
use lib.Ieee.{Float}
use lib.ListN.{length, take, drop, length-take, length-drop}
use lib.Pow.{pow_pos}
use lib.Seq.{paste, take_all, get_or-take, get_or-drop}
use Rattle.checked.specs.Each.{at}
use Rattle.checked.proofs.Each.{and_right}
use Rattle.std.specs.Prelude.{if◌then◌else◌}
use Rattle.chunk.specs.declared.Part.{Part}
use Rattle.chunk.specs.Rule.{row_start, row_within, row_in, row_of, row_set}
use Rattle.chunk.specs.Of.{part_of}

-- two numbers of 16 bits have a product of 32
pub place_small : {k d : ℕ} → k < 2 ^ 16 → d < 2 ^ 16 → k * d < 2 ^ 32
place_small {k} {d} hk hd = lt_of_le_of_lt (mul-le-mul_left k (le_of_lt hd)) (mul-lt-mul_of_pos_right hk (pow_pos 16))

-- where a row starts is small
pub start_small : (h d i : ℕ) → h < 2 ^ 16 → d < 2 ^ 16 → row_start h d i < 2 ^ 32
start_small h d i hh hd = place_small {k = min i (h - 1)} (omega arith) hd

-- a part of a slice to its end
pub rest_is : (k : ℕ) (l : List Float) → take (length l - k) (drop k l) ≡ drop k l
rest_is k l = take_all (length l - k) (drop k l) (omega (arith, length-drop k l))

-- row i of h rows lies among them
pub row_within_lem : (i h d : ℕ) → i < h → i * d + d ≤ h * d
row_within_lem i h d l = subst (λ (y : ℕ). y ≤ h * d) (suc-mul i d) (mul-le-mul_right d l)

-- row i of h rows lies in what holds them
pub row_fits : (i h d len : ℕ) → i < h → h * d ≤ len → i * d + d ≤ len
row_fits i h d len l b = le_trans (row_within_lem i h d l) b

-- the rows of a chunk are few numbers
pub size_small : (h d : ℕ) → h ≤ 64 → d ≤ 8 → h * d ≤ 512
size_small h d l b = le_trans (mul-le-mul_right {m = h} {n = 64} d l) (omega arith)

module _ (n h d i : ℕ) where
  no_rows : h ≡ 0 → row_within n h d i ≡ false
  no_rows e = rw (eq-eqb h 0 e)

  row_there : (h ≡ 0 → ⊥) → row_start h d i + d ≤ n → row_within n h d i ≡ true
  row_there f le = rw (ne_eqb h 0 f, le-leb _ _ le)

  row_past : (h ≡ 0 → ⊥) → n < row_start h d i + d → row_within n h d i ≡ false
  row_past f lt = rw (ne_eqb h 0 f, lt-leb _ _ lt)

  -- the ways out of a function that finds a row's part: none, the part, and none again
  pub part_without_rows : h ≡ 0 → ◌≡◌ {A = Part} (record { start = 0; end = 0 }) (part_of n h d i)
  unfolding part_of
  part_without_rows e = rw (no_rows e)

  pub part_there : (s : ℕ) → (h ≡ 0 → ⊥) → s ≡ row_start h d i → s + d ≤ n → ◌≡◌ {A = Part} (record { start = s; end = s + d }) (part_of n h d i)
  unfolding part_of
  part_there s f e le = rw (row_there f (rw e at le), e)

  pub part_past : (s : ℕ) → (h ≡ 0 → ⊥) → s ≡ row_start h d i → n < s + d → ◌≡◌ {A = Part} (record { start = 0; end = 0 }) (part_of n h d i)
  unfolding part_of
  part_past s f e lt = rw (row_past f (rw e at lt))

  -- a part lies among the numbers
  part_lies : ((part_of n h d i).start ≤ (part_of n h d i).end) × ((part_of n h d i).end ≤ n)
  unfolding part_of
  part_lies = go (row_within n h d i) (λ e. leb-true (row_start h d i + d) n (and_right (not (eqb h 0)) (leb (row_start h d i + d) n) e))
    where
      go : (b : Bool) → (b ≡ true → row_start h d i + d ≤ n)
          → let p : Part = if b then record { start = row_start h d i; end = row_start h d i + d } else record { start = 0; end = 0 } in (p.start ≤ p.end) × (p.end ≤ n)
      go true l = (omega arith, l refl)
      go false l = (omega arith, omega arith)

  pub part_ordered : (p : Part) → p ≡ part_of n h d i → p.start ≤ p.end
  part_ordered p e = rw e part_lies.0

  pub part_within : (p : Part) → p ≡ part_of n h d i → p.end ≤ n
  part_within p e = rw e part_lies.1

module _ (l : List Float) (h d i : ℕ) where
  pub row_is_part : row_in l h d i ≡ true → row_of l h d i ≡ take d (drop (row_start h d i) l)
  unfolding row_of
  row_is_part e = rw e

  -- entry c of row i
  pub row_entry : row_in l h d i ≡ true → (c : ℕ) → c < d → at (row_of l h d i) c ≡ at l (row_start h d i + c)
  row_entry e c lt = rw (row_is_part e, get_or-take, get_or-drop)

  -- rows that are all there: each is d long
  last_in : 0 < h → length l ≡ h * d → min i (h - 1) * d + d ≤ length l
  last_in p e = rw e (row_within_lem (min i (h - 1)) h d (omega arith))

  pub row_in_lem : 0 < h → length l ≡ h * d → row_in l h d i ≡ true
  row_in_lem p e = row_there (length l) h d i (λ z. omega arith) (last_in p e)

  pub row_long : 0 < h → length l ≡ h * d → length (row_of l h d i) ≡ d
  row_long p e = let b = last_in p e in rw (row_is_part (row_in_lem p e), length-take, length-drop) (omega arith)

  -- what stands in a row's part is the row
  held_in : (b : Bool) → let p : Part = if b then record { start = row_start h d i; end = row_start h d i + d } else record { start = 0; end = 0 } in
      take (p.end - p.start) (drop p.start l) ≡ (if b then take d (drop (row_start h d i) l) else [])
  held_in true = let e : row_start h d i + d - row_start h d i ≡ d = omega arith in ap (λ (n : ℕ). take n (drop (row_start h d i) l)) e
  held_in false = refl

  pub part_holds : (p : Part) → p ≡ part_of (length l) h d i → take (p.end - p.start) (drop p.start l) ≡ row_of l h d i
  unfolding part_of row_of
  part_holds p e = rw e (held_in (row_in l h d i))

  -- the ways out of a function that writes a row: nothing twice, and the row
  pub kept_without_rows : (r : List Float) → h ≡ 0 → l ≡ row_set l h d i r
  unfolding row_set
  kept_without_rows r e = rw (no_rows (length l) h d i e)

  pub kept_past : (r : List Float) (s : ℕ) → (h ≡ 0 → ⊥) → s ≡ row_start h d i → length l < s + d → l ≡ row_set l h d i r
  unfolding row_set
  kept_past r s f e lt = rw (row_past (length l) h d i f (rw e at lt))

  pub written_row : (r : List Float) (s n : ℕ) → (h ≡ 0 → ⊥) → s ≡ row_start h d i → s + d ≤ length l → n ≡ min d (length r) → paste l s r n ≡ row_set l h d i r
  unfolding row_set
  written_row r s n f e le m = rw (row_there (length l) h d i f (rw e at le), e, m)
