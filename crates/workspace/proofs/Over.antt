-- Laws of the least over the axes: a loop's first, next and last turn, and that the two slacks are such leasts.
use mathlib.Core.Path.{◌≡◌, refl, sym, ap, ◌∙◌}
use mathlib.Core.Bool.{Bool, false, ◌&&◌}
use mathlib.Core.List.{List}
use mathlib.Core.Logic.{◌⊎◌, inl, inr}
use Prim.Native.Nat.{ℕ, suc, ◌+◌, ◌-◌, ◌≤◌, ◌<◌}
use native.Mathlib.Nat.{lt_of_not-le}
use native.Mathlib.Decide.{dec_le}
use native.Mathlib.Omega.{arith}
use lib.Ieee.{Float, Format, binary64, inf, sub}
use Rattle.checked.specs.Each.{all}
use Rattle.checked.specs.Finite.{finite}
use Rattle.checked.specs.Least.{lesser, least}
use Rattle.checked.specs.Checked.{Checked, pure, least_of}
use Rattle.checked.specs.Of.{reckoned_from}
use Rattle.checked.specs.declared.Reckoned.{Reckoned}
use Rattle.workspace.specs.declared.Shape.{Shape}
use Rattle.workspace.specs.declared.Shape.TheVariants.{Box, Disc}
use Rattle.workspace.specs.Shape.{first_boxed}
use Rattle.workspace.specs.Rule.{Walls, from_centre, gap, gap_r, to_edge, to_edge_r, edge_first, slack_in, slack_in_r}
use Rattle.workspace.specs.Over.{FromEdge, LeastOver, least_over, no_slack}
use Rattle.workspace.proofs.Gaps.{NoSlack, edge_told, edge_told_r, least_of_more, least_missing_of, further_missing}

-- what is known after the first j axes
abbrev pub Least : Shape → Reckoned → (ℕ → Reckoned → Type 0) → ℕ → Float → Bool → ℕ → Type 0
Least s at_edge given n least sound j =
    (edge : Checked Float) (g : ℕ → Checked Float) → at_edge ≡ reckoned_from (least_over s edge g 0) → ((k : ℕ) (d : Reckoned) → k < n → given k d → d ≡ reckoned_from (g k))
    → (least ≡ (least_over s edge g j).value) × (sound ≡ (least_over s edge g j).sound)

starts : (s : Shape) (edge : Checked Float) (g : ℕ → Checked Float) → least_over s edge g 0 ≡ least_over s edge g (first_boxed s)
starts Box edge g = refl
starts (Disc x y radius) edge g = refl

further_more : (edge : Checked Float) (g : ℕ → Checked Float) (j : ℕ) → 2 ≤ j → {m x : Float} {ok t : Bool} → (m ≡ (least_of (edge_first edge g) (suc (j - 2))).value) × (ok ≡ (least_of (edge_first edge g) (suc (j - 2))).sound) → x ≡ (g j).value → t ≡ (g j).sound
    → (lesser m x ≡ (least_of (edge_first edge g) (suc (j + 1 - 2))).value) × (ok && t ≡ (least_of (edge_first edge g) (suc (j + 1 - 2))).sound)
further_more edge g j b {m} {x} {ok} {t} h e k =
    let here : suc (suc (j - 2)) ≡ j = omega arith in
    let next : suc (j - 2) + 1 ≡ suc (j + 1 - 2) = omega arith in
    let r = least_of_more (edge_first edge g) (suc (j - 2)) m x ok t h (e ∙ ap (λ (i : ℕ). (g i).value) (sym here)) (k ∙ ap (λ (i : ℕ). (g i).sound) (sym here)) in
    rw next at r

more : (s : Shape) (edge : Checked Float) (g : ℕ → Checked Float) (j : ℕ) → first_boxed s ≤ j → {m x : Float} {ok t : Bool} → (m ≡ (least_over s edge g j).value) × (ok ≡ (least_over s edge g j).sound) → x ≡ (g j).value → t ≡ (g j).sound
    → (lesser m x ≡ (least_over s edge g (j + 1)).value) × (ok && t ≡ (least_over s edge g (j + 1)).sound)
more Box edge g j b h e k = least_of_more g j _ _ _ _ h e k
more (Disc x y radius) edge g j b h e k = further_more edge g j b h e k

further_ends : (j n : ℕ) → n ≤ j → (j ≤ n) ⊎ (j ≡ 2) → suc (j - 2) ≡ suc (n - 2)
further_ends j n h (inl k) = omega arith
further_ends j n h (inr k) = omega arith

ends_box : (j n : ℕ) → n ≤ j → (j ≤ n) ⊎ (j ≡ 0) → j ≡ n
ends_box j n h (inl k) = omega arith
ends_box j n h (inr k) = omega arith

ends : (s : Shape) (edge : Checked Float) (g : ℕ → Checked Float) (j n : ℕ) → n ≤ j → (j ≤ n) ⊎ (j ≡ first_boxed s) → least_over s edge g j ≡ least_over s edge g n
ends Box edge g j n h k = ap (least_of g) (ends_box j n h k)
ends (Disc x y radius) edge g j n h k = ap (least_of (edge_first edge g)) (further_ends j n h k)

module _ (s : Shape) (at_edge : Reckoned) (given : ℕ → Reckoned → Type 0) (n : ℕ) where
  pub least_starts : (j : ℕ) → j ≡ first_boxed s → Least s at_edge given n at_edge.value at_edge.sound j
  least_starts j h edge g e k =
      let t : at_edge ≡ reckoned_from (least_over s edge g j) = e ∙ ap reckoned_from (starts s edge g) ∙ rw h in
      (ap (λ (d : Reckoned). d.value) t, ap (λ (d : Reckoned). d.sound) t)

  pub least_goes_on : {m l : Float} {ok : Bool} {j : ℕ} {d : Reckoned} → first_boxed s ≤ j → j < n → Least s at_edge given n m ok j → given j d → l ≡ lesser m d.value → Least s at_edge given n l (ok && d.sound) (j + 1)
  least_goes_on {m} {l} {ok} {j} {d} b h so_far t el edge g e k =
      let here = k j d h t in
      let w = more s edge g j b (so_far edge g e k) (ap (λ (d : Reckoned). d.value) here) (ap (λ (d : Reckoned). d.sound) here) in
      (el ∙ w.0, w.1)

  pub least_ends : {m : Float} {ok : Bool} {j : ℕ} → n ≤ j → (j ≤ n) ⊎ (j ≡ first_boxed s) → Least s at_edge given n m ok j
      → (edge : Checked Float) (g : ℕ → Checked Float) → at_edge ≡ reckoned_from (least_over s edge g 0) → ((k : ℕ) (d : Reckoned) → k < n → given k d → d ≡ reckoned_from (g k))
      → ◌≡◌ {A = Reckoned} (record { value = m; sound = ok }) (reckoned_from (least_over s edge g n))
  least_ends {m} {ok} {j} h w so_far edge g e k =
      let t = so_far edge g e k in
      let last = ends s edge g j n h w in
      λ i. record { value = (t.0 ∙ ap (λ (d : Checked Float). d.value) last) i; sound = (t.1 ∙ ap (λ (d : Checked Float). d.sound) last) i }

missing : (s : Shape) (edge : Checked Float) (g : ℕ → Checked Float) (m n : ℕ) → 2 ≤ m → m < n → ((j : ℕ) → m ≤ j → NoSlack (g j)) → NoSlack (least_over s edge g n)
missing Box edge g m n l h w = least_missing_of g m n h w
missing (Disc x y radius) edge g m n l h w = further_missing edge g m n l h w

-- what is given for n axes, of which a point has eight
module _ (s : Shape) (at_edge : Reckoned) (given : ℕ → Reckoned → Type 0) (n : ℕ) (r : Reckoned) where
  pub least_is : (8 < n → r ≡ no_slack) → (n ≤ 8 → LeastOver s at_edge given n r)
      → (edge : Checked Float) (g : ℕ → Checked Float) → at_edge ≡ reckoned_from (least_over s edge g 0) → ((j : ℕ) (d : Reckoned) → j < n → given j d → d ≡ reckoned_from (g j)) → ((j : ℕ) → 8 ≤ j → NoSlack (g j)) → r ≡ reckoned_from (least_over s edge g n)
  least_is few all edge g e k past = go (dec_le n 8)
    where
      go : Dec (n ≤ 8) → r ≡ reckoned_from (least_over s edge g n)
      go (yes h) = all h edge g e k
      go (no h) =
          let b = lt_of_not-le h in
          let m = missing s edge g 8 n (omega arith) b past in
          few b ∙ (λ i. record { value = sym m.0 i; sound = sym m.1 i })

-- ---- the two slacks

-- the edge of a box, which is not looked at, and of a disc
abbrev pub edge_of : Format → Shape → List Float → Checked Float
edge_of f Box p = pure (inf false)
edge_of f (Disc x y radius) p = to_edge f x y radius p

abbrev pub edge_of_r : Format → Shape → Float → List Float → Checked Float
edge_of_r f Box r p = pure (inf false)
edge_of_r f (Disc x y radius) r p = to_edge_r f x y radius r p

module _ (f : Format) (w : Walls) (p : List Float) (n : ℕ) where
  pub slack_is : (s : Shape) → least_over s (edge_of f s p) (gap f w p) n ≡ slack_in f s w p n
  unfolding slack_in
  slack_is Box = refl
  slack_is (Disc x y radius) = refl

  pub slack_r_is : (r : Float) (s : Shape) → least_over s (edge_of_r f s r p) (gap_r f w r p) n ≡ slack_in_r f s w r p n
  unfolding slack_in_r
  slack_r_is r Box = refl
  slack_r_is r (Disc x y radius) = refl

module _ (left : Float → Float → Type 0) (p : List Float) (g : ℕ → Checked Float) where
  -- what `left` makes of the distance to a disc's own edge
  abbrev Leaves : Shape → (Float → Float) → Type 0
  Leaves s rest =
      (x y radius e : Float) → s ≡ Disc x y radius → left (sub binary64 radius (from_centre binary64 x y p).value) e
      → e ≡ rest (sub binary64 radius (from_centre binary64 x y p).value)

  pub edge_is : (s : Shape) → Leaves s (λ (d : Float). d) → (a : Reckoned) → FromEdge left s p a → a ≡ reckoned_from (least_over s (edge_of binary64 s p) g 0)
  unfolding FromEdge least_of least all to_edge
  edge_is Box t a h = h
  edge_is (Disc x y radius) t a (rest, k, h) =
      let e : rest ≡ sub binary64 radius (from_centre binary64 x y p).value = t x y radius rest refl k in
      h ∙ (λ i. record { value = lesser (inf false) (e i); sound = (ap finite e ∙ edge_told binary64 x y radius p refl) i })

  pub edge_r_is : (r : Float) (s : Shape) → Leaves s (λ (d : Float). sub binary64 d r) → (a : Reckoned) → FromEdge left s p a → a ≡ reckoned_from (least_over s (edge_of_r binary64 s r p) g 0)
  unfolding FromEdge least_of least all to_edge to_edge_r
  edge_r_is r Box t a h = h
  edge_r_is r (Disc x y radius) t a (rest, k, h) =
      let e : rest ≡ sub binary64 (sub binary64 radius (from_centre binary64 x y p).value) r = t x y radius rest refl k in
      h ∙ (λ i. record { value = lesser (inf false) (e i); sound = (ap finite e ∙ edge_told_r binary64 x y radius p refl r) i })
