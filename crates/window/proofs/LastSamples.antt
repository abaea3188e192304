-- The promises about a trail hold: a push writes its own slot alone, one step back is one slot back, and 31 steps back do not reach the slot written next.
use Prim.Native.Nat.{ℕ, zero, suc, ◌+◌, ◌-◌, ◌*◌, ◌%◌, ◌≤◌, ◌<◌}
use mathlib.Core.Path.{◌≡◌, refl, sym, ap, ◌∙◌}
use mathlib.Core.List.{List, [], ◌∷◌, ◌++◌}
use mathlib.Core.Bool.{Bool, true, false}
use native.Mathlib.Nat.{mod-lt}
use native.Mathlib.Omega.{arith}
use borrow.Author.Tests.{ltb-true, ltb-false}
use lib.Dec.{ltb, lit<}
use lib.Ieee.{Float, nan}
use lib.ListN.{length, take, drop, get_or, length-replicate, get_or-append}
use lib.Seq.{paste, take-paste, drop-paste, length-paste, length-take-le, length_paste_head, get_or-take, get_or-drop, get_or-append-add}
use Rattle.checked.specs.Each.{at}
use Rattle.checked.specs.Finite.{+0}
use Rattle.window.specs.Rule.{slot_back, sample_back}
use Rattle.window.specs.Promises.{Push, coordinates, trail_after, CountIsPushes, SampleIsPush}

-- ---- one entry of a list that is written from a place on

module _ (l p : List Float) (a n : ℕ) (fits : a + n ≤ length l) (there : n ≤ length p) where
  inside : a ≤ length l
  inside = omega arith

  written_entry : (c : ℕ) → c < n → at (paste l a p n) (a + c) ≡ at p c
  written_entry c h =
      let b : a + c < a + n = omega arith in
      sym (get_or-take (a + n) (paste l a p n) (a + c) nan b)
      ∙ ap (λ (x : List Float). get_or x (a + c) nan) (take-paste l a p n inside there)
      ∙ ap (λ (k : ℕ). get_or (take a l ++ take n p) (k + c) nan) (sym (length-take-le a l inside))
      ∙ get_or-append-add (take a l) (take n p) c nan
      ∙ get_or-take n p c nan h

  entry_before : (i : ℕ) → i < a → at (paste l a p n) i ≡ at l i
  entry_before i h =
      let both : length (take a l ++ take n p) ≡ a + n = length_paste_head l a p n inside there in
      let front : length (take a l) ≡ a = length-take-le a l inside in
      get_or-append (take a l ++ take n p) (drop (a + n) l) nan i (omega arith)
      ∙ get_or-append (take a l) (take n p) nan i (omega arith)
      ∙ get_or-take a l i nan h

  entry_after : (i : ℕ) → a + n ≤ i → at (paste l a p n) i ≡ at l i
  entry_after i h =
      let e : a + n + (i - (a + n)) ≡ i = omega arith in
      ap (at (paste l a p n)) (sym e)
      ∙ sym (get_or-drop (a + n) (paste l a p n) (i - (a + n)) nan)
      ∙ ap (λ (x : List Float). get_or x (i - (a + n)) nan) (drop-paste l a p n inside there)
      ∙ get_or-drop (a + n) l (i - (a + n)) nan
      ∙ ap (at l) e

-- ---- slots

newest_slot : (h : ℕ) → h < 32 → slot_back ((h + 1) % 32) 0 ≡ h
newest_slot h b = omega arith

one_slot_back : (h k : ℕ) → h < 32 → k < 31 → slot_back ((h + 1) % 32) (suc k) ≡ slot_back h k
one_slot_back h k b e = omega arith

other_slot : (h k : ℕ) → h < 32 → k < 31 → slot_back h k ≡ h → ⊥
other_slot h k b e z = omega arith

sample_entry : (l : List Float) (h k c : ℕ) → c < 8 → at (sample_back l h k) c ≡ at l (slot_back h k * 8 + c)
sample_entry l h k c b = get_or-take 8 (drop (slot_back h k * 8) l) c nan b ∙ get_or-drop (slot_back h k * 8) l c nan

-- a slot that is not written stays
other_stays : (l p : List Float) (h n s c : ℕ) → h * 8 + n ≤ length l → n ≤ length p → n ≤ 8 → (s ≡ h → ⊥) → c < 8 → at (paste l (h * 8) p n) (s * 8 + c) ≡ at l (s * 8 + c)
other_stays l p h n s c fits there small other b = go (ltb s h) refl
  where
    go : (t : Bool) → ltb s h ≡ t → at (paste l (h * 8) p n) (s * 8 + c) ≡ at l (s * 8 + c)
    go true e = let lt : s < h = ltb-true s h e in entry_before l p (h * 8) n fits there (s * 8 + c) (omega arith)
    go false e =
        let le : h ≤ s = ltb-false s h e in
        let lt : h < s = omega (arith, other) in
        entry_after l p (h * 8) n fits there (s * 8 + c) (omega arith)

-- ---- a trail after pushes

head_small : (l : List Push) → (trail_after l).head < 32
head_small [] = lit< tt
head_small (q ∷ l) = mod-lt ((trail_after l).head + 1) (lit< tt)

few : (q : Push) → coordinates q ≤ 8
few q = omega arith

pushed_there : (q : Push) → coordinates q ≤ length q.position
pushed_there q = omega arith

ring_length : (l : List Push) → length (trail_after l).buf ≡ 256
ring_length [] = length-replicate 256 +0
ring_length (q ∷ l) =
    let e = ring_length l in
    let h = head_small l in
    let f = few q in
    length-paste (trail_after l).buf ((trail_after l).head * 8) q.position (coordinates q) (omega arith) (pushed_there q) ∙ e

pub count_is_pushes : CountIsPushes
count_is_pushes [] = refl
count_is_pushes (q ∷ l) = let e = count_is_pushes l in omega arith

pub sample_is_push : SampleIsPush
sample_is_push [] k z b c h = absurd (omega arith)
sample_is_push (q ∷ l) zero z b c h =
    let t = trail_after l in
    let small = head_small l in
    let long = ring_length l in
    let less = few q in
    sample_entry (paste t.buf (t.head * 8) q.position (coordinates q)) ((t.head + 1) % 32) 0 c (omega arith)
    ∙ ap (λ (s : ℕ). at (paste t.buf (t.head * 8) q.position (coordinates q)) (s * 8 + c)) (newest_slot t.head small)
    ∙ written_entry t.buf q.position (t.head * 8) (coordinates q) (omega arith) (pushed_there q) c h
sample_is_push (q ∷ l) (suc k) z b c h =
    let t = trail_after l in
    let small = head_small l in
    let long = ring_length l in
    let less = few q in
    let back : k < 31 = omega arith in
    let eight : c < 8 = omega (arith, few (get_or l k z)) in
    sample_entry (paste t.buf (t.head * 8) q.position (coordinates q)) ((t.head + 1) % 32) (suc k) c eight
    ∙ ap (λ (s : ℕ). at (paste t.buf (t.head * 8) q.position (coordinates q)) (s * 8 + c)) (one_slot_back t.head k small back)
    ∙ other_stays t.buf q.position t.head (coordinates q) (slot_back t.head k) c (omega arith) (pushed_there q) less (other_slot t.head k small back) eight
    ∙ sym (sample_entry t.buf t.head k c eight)
    ∙ sample_is_push l k z (omega arith) c h
