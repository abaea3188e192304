-- Which features are valid, feature by feature; their masks; and the features of a chunk and of a tick from their parts.
use Prim.Native.Nat.{ℕ, ◌+◌, ◌-◌, ◌/◌, ◌%◌, ◌^◌, ◌≤◌, ◌<◌}
use mathlib.Core.Path.{◌≡◌, refl, ◌∙◌}
use mathlib.Core.Bool.{Bool, true, false, ◌&&◌, and-true}
use mathlib.Core.List.{List, [], ◌∷◌}
use native.Mathlib.Nat.{zero-add}
use borrow.Author.Tests.{lt-ltb, le-ltb}
use lib.Dec.{leb, ltb, eqb}
use lib.Ieee.{Float, Format}
use Rattle.std.specs.Prelude.{if◌then◌else◌}
use Rattle.checked.specs.Each.{at}
use Rattle.bits.specs.Bits.{bit, bits_where}
use Rattle.envelope.specs.Derive.{kept}
use Rattle.window.specs.declared.Trail.{Trail}
use Rattle.tier1.specs.declared.Manifest.{Manifest}
use Rattle.tier1.specs.declared.Kept.{Kept}
use Rattle.checked.specs.declared.Reckoned.{Reckoned}
use Rattle.tier1.specs.declared.Pair.{Pair}
use Rattle.tier1.specs.declared.SixFeatures.{SixFeatures}
use Rattle.tier1.specs.declared.AllFeatures.{AllFeatures}
use Rattle.tier1.specs.Rule.{PE-WINDOW, box_dims, acm_neg, njr, reach, speed_peak, overlap, boundary_at, if_there, boundary, boundary_bits, ineff_at, valid_at, value_at, twelve}
use Rattle.checked.specs.Of.{reckoned_from}
use Rattle.tier1.specs.Of.{met_from, boundary_from, gathered_from, twelve_from}

-- ---- of a chunk

pub weights_are : (l h n : ℕ) {a b c d e : ℕ} → a ≡ (if leb 2 l then 1 else 0) → b ≡ (if leb 2 l then 2 else 0) → c ≡ (if leb 2 h then 4 else 0) → d ≡ (if leb 4 h then 8 else 0) → e ≡ (if ltb 0 n then 16 else 0)
    → a + b + c + d + e + 32 ≡ bits_where (boundary_at l h n) 6
unfolding bits_where
weights_are l h n p q r s t = rw (p, q, r, s, t) (rw zero-add)

both_first : (a b c : Bool) → (a && b) && c ≡ a && (b && c)
both_first true b c = refl
both_first false b c = refl

module _ (f : Format) (m : Manifest) (k : Kept) (a p : List Float) (t h : ℕ) (b : List Float) where
  pub bits_are : {l n v : ℕ} → l ≡ overlap k t h m.dim → n ≡ box_dims m p → v ≡ bits_where (boundary_at l h n) 6 → v ≡ boundary_bits m k p t h
  unfolding boundary_bits
  bits_are e g i = i ∙ rw (e, g)

  pub boundary_is : {v : ℕ} {u : Pair} {w x y z : Reckoned} → v ≡ boundary_bits m k p t h
      → u ≡ met_from f m k a t b h
      → w ≡ reckoned_from (if_there (leb 2 h) (acm_neg f m b h))
      → x ≡ reckoned_from (if_there (leb 4 h) (njr f m b h))
      → y ≡ reckoned_from (if_there (ltb 0 (box_dims m p)) (reach f m p b))
      → z ≡ reckoned_from (speed_peak f m p b h)
      → ◌≡◌ {A = SixFeatures} (record { held = u.first ∷ u.second ∷ w.value ∷ x.value ∷ y.value ∷ z.value ∷ []; valid = v; sound = u.sound && (w.sound && (x.sound && (y.sound && z.sound))) })
      (boundary_from (boundary f m k a p t h b) (boundary_bits m k p t h))
  unfolding boundary
  boundary_is ev eu ew ex ey ez = rw (ev, eu, ew, ex, ey, ez, and-true, both_first)

-- ---- of a tick

module _ (held len ext j : ℕ) where
  pub valid_held : (w : ℕ) → j < 6 → w ≡ 2 ^ j → eqb (held / w % 2) 1 ≡ valid_at held len ext j
  unfolding valid_at bit
  valid_held w h e = rw (lt-ltb j 6 h, e)

  pub valid_trail : 6 ≤ j → j < 7 → leb PE-WINDOW len ≡ valid_at held len ext j
  unfolding valid_at
  valid_trail g h = rw (le-ltb j 6 g, lt-ltb j 7 h)

  pub valid_never : 6 ≤ j → 7 ≤ j → j < 8 → false ≡ valid_at held len ext j
  unfolding valid_at
  valid_never g h i = rw (le-ltb j 6 g, le-ltb j 7 h, lt-ltb j 8 i)

  pub valid_lent : 6 ≤ j → 7 ≤ j → 8 ≤ j → ltb (j - 8) ext ≡ valid_at held len ext j
  unfolding valid_at
  valid_lent g h i = rw (le-ltb j 6 g, le-ltb j 7 h, le-ltb j 8 i)

module _ (held : List Float) (ineff : Float) (ext : List Float) (j : ℕ) (on : Bool) where
  module _ (e : on ≡ true) where
    pub value_held : j < 6 → at held j ≡ kept on (value_at held ineff ext j)
    unfolding value_at
    value_held h = rw (e, lt-ltb j 6 h)

    pub value_trail : 6 ≤ j → j < 8 → ineff ≡ kept on (value_at held ineff ext j)
    unfolding value_at
    value_trail g h = rw (e, le-ltb j 6 g, lt-ltb j 8 h)

    pub value_lent : 6 ≤ j → 8 ≤ j → {x : Float} → x ≡ at ext (j - 8) → x ≡ kept on (value_at held ineff ext j)
    unfolding value_at
    value_lent g h i = rw (e, le-ltb j 6 g, le-ltb j 8 h) i

module _ (f : Format) (m : Manifest) (t : Trail) (held : List Float) (hv : ℕ) (ext : List Float) where
  pub twelve_is : {x : Reckoned} {r : AllFeatures} → x ≡ reckoned_from (ineff_at f m t)
      → r ≡ gathered_from held hv t.len x.value x.sound ext → r ≡ twelve_from (twelve f m t held hv ext)
  unfolding twelve
  twelve_is e g = g ∙ rw (e, and-true)
