-- What each function of a feature answers, from its parts: the rule's value, and that its few tests are a test of every number on the way.
use Prim.Native.Nat.{ℕ, ◌-◌, ◌*◌}
use mathlib.Core.Path.{◌≡◌, refl, sym, ap, ◌∙◌}
use mathlib.Core.Bool.{Bool, true, false, ◌&&◌, and-true}
use mathlib.Core.List.{List}
use lib.IntN.{pos}
use lib.Ieee.{Float, Format, add, sub, div, neg, of_int}
use Rattle.root.specs.Root.{root_of}
use Rattle.checked.specs.Constants.{1!, eps}
use Rattle.checked.specs.Finite.{finite, +0}
use Rattle.checked.specs.Checked.{Checked, pure, sum_from}
use Rattle.checked.specs.Least.{greater}
use Rattle.fmath.specs.Norm.{dist}
use Rattle.checked.proofs.Absorbing.{fine_sub_right, fine_div_left, fine_root}
use Rattle.checked.proofs.Each.{◌&&≡◌, and_right}
use Rattle.checked.proofs.Told.{implied}
use Rattle.fmath.proofs.Lengths.{dist_tells}
use Rattle.window.specs.declared.Trail.{Trail}
use Rattle.window.proofs.TrailTold.{net_tells, path_tells}
use Rattle.tier1.specs.declared.Manifest.{Manifest}
use Rattle.checked.specs.declared.Reckoned.{Reckoned}
use Rattle.tier1.specs.declared.Pair.{Pair}
use Rattle.tier1.specs.Rule.{box_dims, ◌⊕◌, ◌⊘◌, sum_rows, gaps, steps, jolts, step_length, tce, acc, acm_neg, njr, reach, start_row, peak, speed_peak, net_length, path_length, path_ineff, if_there}
use Rattle.checked.specs.Of.{reckoned_from}
use Rattle.tier1.specs.Of.{pair_from}
use Rattle.tier1.proofs.Tells.{Shows, Tell, shown, pure_shows, finite_neg, plus_tells, rooted_tells, over_tells, over_given_tells, gaps_tell, jolts_tell, lengths_tell}

-- ---- features that are there or not

module _ (x : Checked Float) {t : Bool} {r : Reckoned} where
  pub is_there : t ≡ true → r ≡ reckoned_from x → r ≡ reckoned_from (if_there t x)
  is_there e h = rw e h

a_feature : (x : Checked Float) {v : Float} {k : Bool} → v ≡ x.value → k ≡ x.sound → ◌≡◌ {A = Reckoned} (record { value = v; sound = k }) (reckoned_from x)
a_feature x e h = rw (e, h)

a_pair : (x y : Checked Float) {v w : Float} {k l : Bool} → v ≡ x.value → w ≡ y.value → k ≡ x.sound → l ≡ y.sound → ◌≡◌ {A = Pair} (record { first = v; second = w; sound = k && l }) (pair_from x y)
a_pair x y e g h i = rw (e, g, h, i)

-- a test that the last one implies, between it and another
without : (a b v : Bool) → (v ≡ true → b ≡ true) → (a && b) && v ≡ a && v
without true b v h = implied b v h
without false b v h = refl

module _ (f : Format) (m : Manifest) where
  -- ---- of a chunk

  module _ (b : List Float) (h : ℕ) {s n : Float} {k : Bool} (es : s ≡ (sum_from f +0 (step_length f m b) (h - 1)).value) (en : n ≡ of_int f (pos (h - 1))) (ek : k ≡ finite (neg (div f s n))) where
    acm_sound : k ≡ (acm_neg f m b h).sound
    unfolding acm_neg
    acm_sound = ek ∙ finite_neg (div f s n) ∙ rw (es, en, and-true) (sym (over_given_tells f (shown (lengths_tell f m b (h - 1))) (of_int f (pos (h - 1)))).tells)

    pub acm_is : ◌≡◌ {A = Reckoned} (record { value = neg (div f s n); sound = k }) (reckoned_from (acm_neg f m b h))
    unfolding acm_neg
    acm_is = a_feature (acm_neg f m b h) (rw (es, en)) acm_sound

  module _ (b : List Float) (h : ℕ) {j g n l : Float} {p q : Bool} (ej : j ≡ (sum_rows f (jolts f m b) m.dim (h - 3)).value) (eg : g ≡ (sum_rows f (steps f m b) m.dim (h - 1)).value)
      (en : n ≡ of_int f (pos (h - 1))) (el : l ≡ of_int f (pos (h - 3))) (ep : p ≡ finite (add f eps (div f g n))) (eq : q ≡ finite (div f (div f j l) (add f eps (div f g n)))) where
    abbrev under : Checked Float
    under = ◌⊕◌ f (pure eps) (◌⊘◌ f (sum_rows f (steps f m b) m.dim (h - 1)) (pure (of_int f (pos (h - 1)))))

    abbrev above : Checked Float
    above = ◌⊘◌ f (sum_rows f (jolts f m b) m.dim (h - 3)) (pure (of_int f (pos (h - 3))))

    under_tells : Tell under
    under_tells = plus_tells f (pure_shows eps) (shown (over_given_tells f (shown (gaps_tell f m b 1 b (h - 1))) (of_int f (pos (h - 1)))))

    above_shows : Shows above
    above_shows = shown (over_given_tells f (shown (jolts_tell f m b (h - 3))) (of_int f (pos (h - 3))))

    njr_sound : p && q ≡ (njr f m b h).sound
    unfolding njr
    njr_sound =
        let x : p ≡ under.sound = ep ∙ rw (eg, en) (sym under_tells.tells) in
        let y : q ≡ finite (div f above.value under.value) = eq ∙ rw (ej, eg, en, el) in
        x &&≡ y ∙ sym (over_tells f above_shows under)

    pub njr_is : ◌≡◌ {A = Reckoned} (record { value = div f (div f j l) (add f eps (div f g n)); sound = p && q }) (reckoned_from (njr f m b h))
    unfolding njr
    njr_is = a_feature (njr f m b h) (rw (ej, eg, en, el)) njr_sound

  module _ (a : List Float) (k : ℕ) (b : List Float) (l : ℕ) {j g n v w : Float} {p q r : Bool} (ej : j ≡ (sum_rows f (gaps f m a k b) m.dim l).value) (eg : g ≡ (sum_rows f (steps f m b) m.dim (l - 1)).value)
      (en : n ≡ of_int f (pos (l * m.dim))) (ev : v ≡ root_of f (div f j n)) (ew : w ≡ root_of f (div f j (add f g eps))) (ep : p ≡ finite v) (eq : q ≡ finite (add f g eps)) (er : r ≡ finite w) where
    abbrev errors : Checked Float
    errors = sum_rows f (gaps f m a k b) m.dim l

    abbrev moved : Checked Float
    moved = ◌⊕◌ f (sum_rows f (steps f m b) m.dim (l - 1)) (pure eps)

    moved_tells : Tell moved
    moved_tells = plus_tells f (shown (gaps_tell f m b 1 b (l - 1))) (pure_shows eps)

    tce_value : v ≡ (tce f m a k b l).value
    unfolding tce
    tce_value = ev ∙ rw (ej, en)

    tce_sound : p ≡ (tce f m a k b l).sound
    unfolding tce
    tce_sound = ep ∙ rw (ev, ej, en) (sym (rooted_tells f (shown (over_given_tells f (shown (gaps_tell f m a k b l)) (of_int f (pos (l * m.dim)))))).tells)

    acc_value : w ≡ (acc f m a k b l).value
    unfolding acc
    acc_value = ew ∙ rw (ej, eg)

    acc_sound : q && r ≡ (acc f m a k b l).sound
    unfolding acc
    acc_sound =
        let x : q ≡ moved.sound = eq ∙ rw eg (sym moved_tells.tells) in
        let y : r ≡ finite (root_of f (div f errors.value moved.value)) = er ∙ rw (ew, ej, eg) in
        x &&≡ y
        ∙ sym (ap (λ (t : Bool). t && finite (root_of f (div f errors.value moved.value))) (over_tells f (shown (gaps_tell f m a k b l)) moved)
        ∙ without moved.sound (finite (div f errors.value moved.value)) (finite (root_of f (div f errors.value moved.value))) (fine_root f (div f errors.value moved.value)))

    pub matched_is : ◌≡◌ {A = Pair} (record { first = v; second = w; sound = p && (q && r) }) (pair_from (tce f m a k b l) (acc f m a k b l))
    matched_is = a_pair (tce f m a k b l) (acc f m a k b l) tce_value acc_value tce_sound acc_sound

  pub reach_is : (p b : List Float) {n : ℕ} {d : Float} {k : Bool} → n ≡ box_dims m p → d ≡ (dist f b p n).value → k ≡ finite (div f d m.iso)
      → ◌≡◌ {A = Reckoned} (record { value = div f d m.iso; sound = k }) (reckoned_from (reach f m p b))
  unfolding reach
  reach_is p b en ed ek =
      let t : Tell (dist f b p (box_dims m p)) = record { tells = dist_tells f b p (box_dims m p) } in
      a_feature (reach f m p b) (rw (ed, en)) (ek ∙ rw (ed, en) (sym (over_given_tells f (shown t) m.iso).tells))

  pub speed_is : (p b : List Float) (h : ℕ) {q : List Float} {x : Reckoned} {k : Bool} → q ≡ start_row f m p b → x ≡ reckoned_from (peak f m.dim q b h) → k ≡ finite (div f x.value m.iso)
      → ◌≡◌ {A = Reckoned} (record { value = div f x.value m.iso; sound = x.sound && k }) (reckoned_from (speed_peak f m p b h))
  unfolding speed_peak
  speed_is p b h eq ex ek = rw (ek, ex, eq)

  -- ---- of the trail

  module _ (t : Trail) {n p x : Float} {u v : Bool} (en : n ≡ (net_length f m t).value) (ep : p ≡ (path_length f m t).value) (ex : x ≡ greater p eps)
      (eu : u ≡ finite p) (ev : v ≡ finite (sub f 1! (div f n x))) where
    net_told : Tell (net_length f m t)
    unfolding net_length
    net_told = record { tells = net_tells f t.buf t.head t.len m.pos_dim 20 }

    path_told : Tell (path_length f m t)
    unfolding path_length
    path_told = record { tells = path_tells f t.buf t.head t.len m.pos_dim 20 }

    abbrev quotient : Float
    quotient = div f (net_length f m t).value (greater (path_length f m t).value eps)

    ineff_sound : u && v ≡ (path_ineff f m t).sound
    unfolding path_ineff
    ineff_sound =
        (eu ∙ ap finite ep ∙ sym path_told.tells) &&≡ (ev ∙ rw (ex, en, ep))
        ∙ sym (ap (λ (b : Bool). (net_length f m t).sound && ((path_length f m t).sound && b)) (implied (finite quotient) (finite (sub f 1! quotient)) (fine_sub_right f 1! quotient))
        ∙ implied (net_length f m t).sound ((path_length f m t).sound && finite (sub f 1! quotient)) (λ h. (shown net_told).so (fine_div_left f (net_length f m t).value (greater (path_length f m t).value eps) (fine_sub_right f 1! quotient (and_right (path_length f m t).sound (finite (sub f 1! quotient)) h)))))

    pub ineff_is : ◌≡◌ {A = Reckoned} (record { value = sub f 1! (div f n x); sound = u && v }) (reckoned_from (path_ineff f m t))
    unfolding path_ineff
    ineff_is = a_feature (path_ineff f m t) (rw (ex, en, ep)) ineff_sound
