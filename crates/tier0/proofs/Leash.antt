-- CONTACT and the leash of an accepted call: by the zones that the arm is inside, one by one, since each of their steps is finite.
use Rattle.envelope.specs.declared.Zone.{Zone}
use Rattle.tier0.specs.Refusals.{passed_with}
use Prim.Native.Nat.{ℕ, ◌<◌}
use mathlib.Core.Path.{◌≡◌, refl, sym, ap, ◌∙◌}
use mathlib.Core.Bool.{Bool, true, false, ◌&&◌, ◌||◌, false≢true, and-false}
use mathlib.Core.Logic.{◌⊎◌, inl, inr, ⊎_elim}
use mathlib.Core.List.{List}
use native.Mathlib.Omega.{arith}
use lib.ListN.{replicate}
use lib.Ieee.{Float, Format, lt, le}
use Rattle.std.specs.Prelude.{if◌then◌else◌, None, Option}
use Rattle.checked.specs.Each.{some, Among}
use Rattle.checked.specs.Finite.{+0, finite}
use Rattle.checked.specs.Least.{lesser}
use Rattle.checked.specs.Checked.{Checked, pure}
use Rattle.checked.proofs.Each.{and_left, and_right, or_left, or_right, some_none, some_none_at, some_there}
use Rattle.checked.proofs.Ordered.{Real, finite_real, le_not_above, lt_irrefl, lt_not_below}
use Rattle.checked.proofs.Extremes.{lesser_either, lesser_left, lesser_right, lesser_real}
use Rattle.fmath.specs.Norm.{dist}
use Rattle.workspace.specs.declared.WallMasks.{WallMasks}
use Rattle.chunk.specs.declared.Header.{Header}
use Rattle.conformal.specs.Rule.{Tables}
use Rattle.envelope.specs.Slots.{counted, zone_at}
use Rattle.envelope.specs.Promises.{Fit, zoned_by}
use Rattle.envelope.specs.declared.Zones.{Zones}
use Rattle.envelope.specs.declared.FuseConfig.{FuseConfig}
use Rattle.envelope.proofs.Accepted.{step_max_finite}
use Rattle.tier0.specs.declared.Checks.{Checks}
use Rattle.tier0.specs.Rule.{SPEED, CONTACT, arms, Slow, clear, zone_in, slowest, slow_zone, leash, check_action}
use Rattle.tier0.specs.Chunk.{some_longer, check_chunk}
use Rattle.tier0.specs.Of.{checks_of, action_ruling, action_refusal, action_answer, chunk_ruling, chunk_refusal, chunk_answer}
use Rattle.tier0.specs.Promises.{accepts, raised, before_first, zone_found, inside_at, leash_now, LeashTold, HasZonesOf, MoreAtTheEnd, LeashNotLonger}
use Rattle.tier0.proofs.Slowest.{Firm, OfLesser, inside_some, all_firm, each_firm, all_tested, is_one, step_longer, some_step_longer}
use Rattle.tier0.proofs.Promises.{by_place, empty_place, chunk_raised, action_raised}
use Rattle.tier0.proofs.Accepted.{chunk_passes, action_passes}
use Rattle.tier0.proofs.Walled.{from_rule}

-- ---- the zones, armed or not

module _ (f : Format) (s : Checks) (p aux : List Float) where
  abbrev n : ℕ
  n = counted s.zones

  abbrev asked : Checked Slow
  asked = slowest f s.dt s.absent_camera (zone_at s.zones) p aux n

  abbrev one : ℕ → Slow
  one = zone_found f s p aux

  -- where it is armed or not
  abbrev armed_or : Bool → Checked Slow
  armed_or b = if b then asked else pure clear

  inside_by : (b : Bool) → (armed_or b).value.inside ≡ some (λ (k : ℕ). b && (one k).inside) n
  inside_by true = inside_some f s.dt s.absent_camera p aux (zone_at s.zones) n
  inside_by false = sym (some_none (λ (k : ℕ). false) n (λ k l. refl))

  firm_by : (b : Bool) → (armed_or b).sound ≡ true → Firm (armed_or b).value
  firm_by true e = all_firm f s.dt s.absent_camera p aux (zone_at s.zones) n e
  firm_by false e = λ i. absurd (false≢true i)

  each_by : (b : Bool) → (armed_or b).sound ≡ true → (k : ℕ) → k < n → (b && (one k).inside) ≡ true → finite (one k).step ≡ true
  each_by true e k l i = each_firm f s.dt s.absent_camera p aux (zone_at s.zones) n e k l i
  each_by false e k l i = absurd (false≢true i)

  tested_by : (longer : Float → Bool) → OfLesser longer → (b : Bool) → (armed_or b).sound ≡ true → ((armed_or b).value.inside && longer (armed_or b).value.step) ≡ some (λ (k : ℕ). (b && (one k).inside) && longer (one k).step) n
  tested_by longer of-lesser true e = all_tested f s.dt s.absent_camera p aux (zone_at s.zones) longer of-lesser n e
  tested_by longer of-lesser false e = sym (some_none (λ (k : ℕ). false) n (λ k l. refl))

  one_by : (b : Bool) → (armed_or b).value.inside ≡ true → Among (λ (k : ℕ). b && (one k).inside) n (λ (k : ℕ). (armed_or b).value.step ≡ (one k).step)
  one_by true i = is_one f s.dt s.absent_camera p aux (zone_at s.zones) n i
  one_by false i = absurd (false≢true i)

  abbrev z : Slow
  z = (slow_zone f s p aux).value

  some_inside : z.inside ≡ some (inside_at f s p aux) n
  unfolding slow_zone
  some_inside = inside_by (arms s CONTACT)

  pub one_of : z.inside ≡ true → Among (inside_at f s p aux) n (λ (k : ℕ). z.step ≡ (one k).step)
  unfolding slow_zone
  one_of = one_by (arms s CONTACT)

  module _ (sound : (slow_zone f s p aux).sound ≡ true) where
    firm : Firm z
    unfolding slow_zone
    firm = firm_by (arms s CONTACT) sound

    each_finite : (k : ℕ) → k < n → inside_at f s p aux k ≡ true → finite (one k).step ≡ true
    unfolding slow_zone
    each_finite = each_by (arms s CONTACT) sound

    tested : (longer : Float → Bool) → OfLesser longer → (z.inside && longer z.step) ≡ some (λ (k : ℕ). inside_at f s p aux k && longer (one k).step) n
    unfolding slow_zone
    tested longer of-lesser = tested_by longer of-lesser (arms s CONTACT) sound

    -- none of theirs is below the step
    none_below : (k : ℕ) → k < n → inside_at f s p aux k ≡ true → lt (one k).step z.step ≡ false
    none_below k l i =
        let none = tested (λ (x : Float). lt x z.step) (step_longer z.step) in
        let not_itself : (z.inside && lt z.step z.step) ≡ false = rw (lt_irrefl z.step) (and-false z.inside) in
        rw i at (some_none_at (λ (m : ℕ). inside_at f s p aux m && lt (one m).step z.step) n (sym none ∙ not_itself) k l)

-- ---- the leash, of a speed and the zones together

at_most : (x y : Float) → Real x → Real y → lt y x ≡ false → le x y ≡ true
at_most x y r w e = rw (le_not_above x y r w, e)

module _ (speed : Bool) (most : Float) (z : Slow) (real : finite most ≡ true) (firm : Firm z) where
  -- its number, where it is armed
  leash_real : (speed || z.inside) ≡ true → Real (leash speed most z)
  leash_real = go speed z.inside refl
    where
      go : (t u : Bool) → z.inside ≡ u → (t || u) ≡ true → Real (if t then (if u then lesser most z.step else most) else z.step)
      go true true e h = lesser_real most z.step (finite_real most real) (finite_real z.step (firm e))
      go true false e h = finite_real most real
      go false true e h = finite_real z.step (firm e)
      go false false e h = absurd (false≢true h)

  below_speed : speed ≡ true → lt most (leash speed most z) ≡ false
  below_speed e = rw e (go z.inside)
    where
      go : (u : Bool) → lt most (if u then lesser most z.step else most) ≡ false
      go true = lesser_left most z.step most (finite_real most real) (lt_irrefl most)
      go false = lt_irrefl most

  below_zone : z.inside ≡ true → (x : Float) → lt x z.step ≡ false → lt x (leash speed most z) ≡ false
  below_zone i x e = rw i (go speed)
    where
      go : (t : Bool) → lt x (if t then lesser most z.step else z.step) ≡ false
      go true = lt_not_below x z.step (lesser most z.step) (finite_real z.step (firm i)) e (lesser_right most z.step)
      go false = e

  one_armed : (speed || z.inside) ≡ true → ((speed ≡ true) × (leash speed most z ≡ most)) ⊎ ((z.inside ≡ true) × (leash speed most z ≡ z.step))
  one_armed = go speed z.inside
    where
      go : (t u : Bool) → (t || u) ≡ true → ((t ≡ true) × ((if t then (if u then lesser most z.step else most) else z.step) ≡ most)) ⊎ ((u ≡ true) × ((if t then (if u then lesser most z.step else most) else z.step) ≡ z.step))
      go true true h = ⊎_elim (λ e. inl (refl, e)) (λ e. inr (refl, e)) (lesser_either most z.step)
      go true false h = inl (refl, refl)
      go false true h = inr (refl, refl)
      go false false h = absurd (false≢true h)

leash_told : (f : Format) (s : Checks) (p aux : List Float) → (slow_zone f s p aux).sound ≡ true → finite s.step_max ≡ true → LeashTold f s p aux
leash_told f s p aux sound real =
    let speed = arms s SPEED in
    let z = (slow_zone f s p aux).value in
    let firm-z = firm f s p aux sound in
    record {
      armed_exactly = ap (λ (b : Bool). arms s SPEED || b) (some_inside f s p aux);
      at_most_speed = λ e. at_most (leash_now f s p aux) s.step_max (leash_real speed s.step_max z real firm-z (or_left speed z.inside e)) (finite_real s.step_max real) (below_speed speed s.step_max z real firm-z e);
      at_most_zone = λ k l i.
          let inside : z.inside ≡ true = some_inside f s p aux ∙ some_there (inside_at f s p aux) (counted s.zones) k l i in
          at_most (leash_now f s p aux) (zone_found f s p aux k).step (leash_real speed s.step_max z real firm-z (or_right speed z.inside inside)) (finite_real (zone_found f s p aux k).step (each_finite f s p aux sound k l i)) (below_zone speed s.step_max z real firm-z inside (zone_found f s p aux k).step (none_below f s p aux sound k l i));
      is_armed_step = λ armed. ⊎_elim inl (λ x. inr (told (one_of f s p aux x.0) x.1)) (one_armed speed s.step_max z real firm-z armed);
    }
  where
    told : {y : Float} → Among (inside_at f s p aux) (counted s.zones) (λ (k : ℕ). y ≡ (zone_found f s p aux k).step) → leash_now f s p aux ≡ y → Among (inside_at f s p aux) (counted s.zones) (λ (k : ℕ). leash_now f s p aux ≡ (zone_found f s p aux k).step)
    told a e = record { index = a.index; within = a.within; holds = a.holds; such = e ∙ a.such }

-- ---- an accepted call

module _ (f : Format) (c : FuseConfig) (t : Tables) (p aux : List Float) where
  -- the configuration is accepted, and the slow zones computed finite numbers alone
  record Taken : Type 0 where
    pub fit : Fit f c t
    pub zones_sound : (slow_zone f (checks_of f c) p aux).sound ≡ true

  chunk_taken : (rows : List Float) (k : Header) (room : ℕ) → accepts (chunk_answer f c t p aux rows k room) ≡ true → Taken
  unfolding chunk_ruling check_chunk
  chunk_taken rows k room e =
      let passes = chunk_passes f c t p aux rows k room e in
      record { fit = passes.fit; zones_sound = and_left (slow_zone f (checks_of f c) p aux).sound _ passes.all_finite_lem }

  action_taken : (prev a : List Float) (room : ℕ) → accepts (action_answer f c t p aux prev a room) ≡ true → Taken
  unfolding action_ruling check_action
  action_taken prev a room e =
      let passes = action_passes f c t p aux prev a room e in
      record { fit = passes.fit; zones_sound = and_left (slow_zone f (checks_of f c) p aux).sound _ passes.all_finite_lem }

  longest_finite : Taken → finite (checks_of f c).step_max ≡ true
  unfolding checks_of
  longest_finite x = step_max_finite f c t x.fit

  leash_taken : Taken → LeashTold f (checks_of f c) p aux
  leash_taken x = leash_told f (checks_of f c) p aux x.zones_sound (longest_finite x)

  pub chunk_leash : (rows : List Float) (k : Header) (room : ℕ) → accepts (chunk_answer f c t p aux rows k room) ≡ true → LeashTold f (checks_of f c) p aux
  chunk_leash rows k room e = leash_taken (chunk_taken rows k room e)

  pub action_leash : (prev a : List Float) (room : ℕ) → accepts (action_answer f c t p aux prev a room) ≡ true → LeashTold f (checks_of f c) p aux
  action_leash prev a room e = leash_taken (action_taken prev a room e)

  -- ---- CONTACT

  pub chunk_contact : (rows : List Float) (k : Header) (room trips dims : ℕ) (speed : Float) (walls : WallMasks)
      → chunk_answer f c t p aux rows k room ≡ passed_with trips dims speed walls
      → raised CONTACT trips ≡ some (λ (z : ℕ). inside_at f (checks_of f c) p aux z && some_longer f (before_first f c p aux rows) rows c.dim (zone_found f (checks_of f c) p aux z).step k.horizon) (counted c.zones)
  unfolding chunk_answer chunk_ruling checks_of
  chunk_contact rows k room trips dims speed walls e =
      ap (raised CONTACT) (from_rule (chunk_refusal f c t p aux rows k room) (chunk_ruling f c p aux rows k.horizon).value trips dims speed walls e).same_trips
      ∙ (chunk_raised f (checks_of f c) p aux rows (replicate 512 +0) k.horizon).contact
      ∙ tested f (checks_of f c) p aux (chunk_taken rows k room (ap accepts e)).zones_sound (λ (x : Float). some_longer f (before_first f c p aux rows) rows c.dim x k.horizon) (some_step_longer f (before_first f c p aux rows) rows c.dim k.horizon)

  pub action_contact : (prev a : List Float) (room trips dims : ℕ) (speed : Float) (walls : WallMasks)
      → action_answer f c t p aux prev a room ≡ passed_with trips dims speed walls
      → raised CONTACT trips ≡ some (λ (z : ℕ). inside_at f (checks_of f c) p aux z && lt (zone_found f (checks_of f c) p aux z).step (dist f a prev c.dim).value) (counted c.zones)
  unfolding action_answer action_ruling checks_of
  action_contact prev a room trips dims speed walls e =
      ap (raised CONTACT) (from_rule (action_refusal f c t p aux prev a room) (action_ruling f c p aux prev a).value trips dims speed walls e).same_trips
      ∙ (action_raised f (checks_of f c) p aux prev a).contact
      ∙ tested f (checks_of f c) p aux (action_taken prev a room (ap accepts e)).zones_sound (λ (x : Float). lt x (dist f a prev c.dim).value) (step_longer (dist f a prev c.dim).value)

-- ---- more zones

pub more_at_the_end : MoreAtTheEnd
more_at_the_end z w more same k l radius speed i j e = record { index = k; within = omega arith; holds = refl; such = same k l ∙ e }

module _ (f : Format) (s d : Checks) (p aux : List Float) (speed : arms d SPEED ≡ arms s SPEED) (contact : arms d CONTACT ≡ arms s CONTACT) (most : d.step_max ≡ s.step_max)
    (same : (k : ℕ) → k < counted s.zones → (zone_found f s p aux k).inside ≡ true → Among (λ (m : ℕ). true) (counted d.zones) (λ (m : ℕ). zone_found f d p aux m ≡ zone_found f s p aux k)) (of-s : LeashTold f s p aux) (of-d : LeashTold f d p aux) where
  -- a zone of s that the arm is inside, at its place in d
  its_place : Among (inside_at f s p aux) (counted s.zones) (λ (k : ℕ). leash_now f s p aux ≡ (zone_found f s p aux k).step)
      → Among (inside_at f d p aux) (counted d.zones) (λ (m : ℕ). leash_now f s p aux ≡ (zone_found f d p aux m).step)
  its_place a =
      let m = same a.index a.within (and_right (arms s CONTACT) (zone_found f s p aux a.index).inside a.holds) in
      record { index = m.index; within = m.within; holds = rw (contact, m.such) a.holds; such = a.such ∙ sym (ap (λ (z : Slow). z.step) m.such) }

  not_longer_told : LeashNotLonger f s d p aux
  not_longer_told = record {
    still_armed = λ e. of-d.armed_exactly ∙ ⊎_elim (λ x. or_left (arms d SPEED) _ (speed ∙ x.0)) (λ a. let b = its_place a in or_right (arms d SPEED) _ (some_there (inside_at f d p aux) (counted d.zones) b.index b.within b.holds)) (of-s.is_armed_step e);
    not_longer = λ e. ⊎_elim (λ x. rw (x.1, ← most) (of-d.at_most_speed (speed ∙ x.0))) (λ a. let b = its_place a in rw b.such (of-d.at_most_zone b.index b.within b.holds)) (of-s.is_armed_step e);
  }

module _ (f : Format) (c : FuseConfig) (t : Tables) (w : Zones) (p aux : List Float) (has : HasZonesOf w c.zones) where
  -- a zone of c, at its place in w; an empty place has no arm inside
  found_in : (k : ℕ) → k < counted c.zones → (zone_in f c.limits.dt c.absent_camera (zone_at c.zones k) p aux).value.inside ≡ true
      → Among (λ (m : ℕ). true) (counted w) (λ (m : ℕ). (zone_in f c.limits.dt c.absent_camera (zone_at w m) p aux).value ≡ (zone_in f c.limits.dt c.absent_camera (zone_at c.zones k) p aux).value)
  found_in k l =
      by_place (λ (x : Option Zone). (zone_in f c.limits.dt c.absent_camera x p aux).value.inside ≡ true → Among (λ (m : ℕ). true) (counted w) (λ (m : ℕ). (zone_in f c.limits.dt c.absent_camera (zone_at w m) p aux).value ≡ (zone_in f c.limits.dt c.absent_camera x p aux).value)) (zone_at c.zones k)
      (λ i. absurd (false≢true (sym (ap (λ (x : Checked Slow). x.value.inside) (empty_place f c.limits.dt c.absent_camera p aux None refl)) ∙ i)))
      (λ radius speed i j e inside. let m = has k l radius speed i j e in record { index = m.index; within = m.within; holds = refl; such = ap (λ (x : Option Zone). (zone_in f c.limits.dt c.absent_camera x p aux).value) m.such })

  more_zones : LeashTold f (checks_of f c) p aux → LeashTold f (checks_of f (zoned_by c w)) p aux → LeashNotLonger f (checks_of f c) (checks_of f (zoned_by c w)) p aux
  unfolding checks_of arms
  more_zones =
      not_longer_told f (checks_of f c) (checks_of f (zoned_by c w)) p aux refl refl refl found_in

  pub chunk_more_zones : (rows : List Float) (k : Header) (room : ℕ) → accepts (chunk_answer f c t p aux rows k room) ≡ true → accepts (chunk_answer f (zoned_by c w) t p aux rows k room) ≡ true → LeashNotLonger f (checks_of f c) (checks_of f (zoned_by c w)) p aux
  chunk_more_zones rows k room e h = more_zones (chunk_leash f c t p aux rows k room e) (chunk_leash f (zoned_by c w) t p aux rows k room h)

  pub action_more_zones : (prev a : List Float) (room : ℕ) → accepts (action_answer f c t p aux prev a room) ≡ true → accepts (action_answer f (zoned_by c w) t p aux prev a room) ≡ true → LeashNotLonger f (checks_of f c) (checks_of f (zoned_by c w)) p aux
  action_more_zones prev a room e h = more_zones (action_leash f c t p aux prev a room e) (action_leash f (zoned_by c w) t p aux prev a room h)
