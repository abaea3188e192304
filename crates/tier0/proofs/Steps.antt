-- What each step of the check answers, as a struct of its parts: one or two laws a step, on plain values and at any format.
use Rattle.std.specs.Prelude.{None, Option}
use Rattle.envelope.specs.declared.Zone.{Zone}
use Prim.Native.Nat.{ℕ, ◌+◌}
use mathlib.Core.Path.{◌≡◌, refl, sym, ap, ◌∙◌}
use mathlib.Core.Bool.{Bool, true, false, not, ◌&&◌, ◌||◌, and-true}
use mathlib.Core.List.{List, [], ◌∷◌}
use native.Mathlib.Numerals.{add-one}
use borrow.Author.Tests.{not-true, not-false}
use lib.Ieee.{Float, Format, mul, lt, le}
use Rattle.checked.specs.Each.{at}
use Rattle.checked.specs.Finite.{finite, +0}
use Rattle.checked.specs.Row.{padded}
use Rattle.checked.specs.Checked.{pure}
use Rattle.fmath.specs.Norm.{dist}
use Rattle.checked.proofs.Absorbing.{fine_mul_left}
use Rattle.fmath.proofs.Lengths.{dist_tells, dist_sound}
use Rattle.pull.specs.Rule.{pulled}
use Rattle.workspace.specs.declared.WallMasks.{WallMasks}
use Rattle.workspace.specs.Of.{walls_in}
use Rattle.workspace.specs.Rule.{outside, inward}
use Rattle.envelope.specs.declared.ClampMode.{ClampMode}
use Rattle.envelope.specs.declared.ClampMode.TheVariants as M
use Rattle.envelope.specs.Slots.{counted, zone_at, zone_with}
use Rattle.envelope.specs.declared.AbsentCamera.{AbsentCamera}
use Rattle.tier0.specs.declared.Checks.{Checks}
use Rattle.tier0.specs.declared.SlowZone.{SlowZone}
use Rattle.checked.specs.declared.Row.{Row}
use Rattle.checked.specs.declared.Test.{Test}
use Rattle.tier0.specs.declared.Clamped.{Clamped}
use Rattle.tier0.specs.declared.JudgedAction.{JudgedAction}
use Rattle.tier0.specs.Rule.{Slow, WORKSPACE, SPEED, ACCEL, JERK, REACH, CONTACT, arms, box_dims, clear, seen, inside_seen, inside_unseen, inside_zone, zone_step, zone_in, slowest, slow_zone, out_of_workspace, out_of_reach, weight, trip_bits, leash, moved_inside, leashed, reached, pulls, moves, moved_dims, project, projection, row_masks, check_action}
use Rattle.tier0.specs.Of.{slow_of, zone_from, slower_of, clamped_from, judged_action_from}
use Rattle.checked.specs.Of.{row_from, test_from}
use Rattle.checked.proofs.Each.{neither}
use Rattle.tier0.proofs.Stays.{inside_kept}

-- ---- the workspace

module _ (f : Format) (s : Checks) (a : List Float) {k : Bool} (e : k ≡ arms s WORKSPACE) where
  pub out_off : k ≡ false → ◌≡◌ {A = Test} (record { holds = false; sound = true }) (test_from (out_of_workspace f s a))
  unfolding out_of_workspace
  out_off h = rw (sym e ∙ h)

  pub out_on : k ≡ true → {n : ℕ} {t : Test} → n ≡ box_dims s → t ≡ test_from (outside f (walls_in s.shape s.walls) a n) → t ≡ test_from (out_of_workspace f s a)
  unfolding out_of_workspace
  out_on h p q = rw (sym e ∙ h) (rw p at q)

  pub moved_inside_off : (inside : Bool) → (inside ≡ true → out_of_workspace f s a ≡ pure false) → (inside || not k) ≡ true → ◌≡◌ {A = Row} (record { at = a; sound = true }) (row_from (moved_inside f s a))
  unfolding moved_inside
  moved_inside_off true found h = rw (inside_kept f s a (found refl))
  moved_inside_off false found h = rw (sym e ∙ not-true k h)

  pub moved_inside_on : (inside : Bool) → (inside || not k) ≡ false → {n : ℕ} {r : Row} → n ≡ box_dims s → r ≡ row_from (inward f (walls_in s.shape s.walls) a n) → r ≡ row_from (moved_inside f s a)
  unfolding moved_inside
  moved_inside_on inside h p q = rw (sym e ∙ not-false k (neither inside (not k) h).1) (rw p at q)

-- ---- the slow zones

module _ (f : Format) (radius : Float) (i j : ℕ) (p aux : List Float) where
  pub seen_inside : {d : Float} {k : Bool} → d ≡ (dist f p (at aux i ∷ at aux j ∷ []) 2).value → k ≡ finite d → ◌≡◌ {A = Test} (record { holds = le d radius; sound = k }) (test_from (inside_seen f radius i j p aux))
  unfolding inside_seen
  seen_inside e h = rw (dist_sound f p (at aux i ∷ at aux j ∷ []) 2 e h, e, and-true)

  module _ (choice : AbsentCamera) where
    pub zone_seen : seen p aux i j ≡ true → {t : Test} → t ≡ test_from (inside_seen f radius i j p aux) → t ≡ test_from (inside_zone f choice radius i j p aux)
    unfolding inside_zone
    zone_seen h q = rw h q

    pub zone_unseen : seen p aux i j ≡ false → {b : Bool} → b ≡ inside_unseen choice → ◌≡◌ {A = Test} (record { holds = b; sound = true }) (test_from (inside_zone f choice radius i j p aux))
    unfolding inside_zone
    zone_unseen h q = rw (h, q)

module _ (f : Format) (s : Checks) (p aux : List Float) {k : Bool} (e : k ≡ arms s CONTACT) where
  pub slow_off : k ≡ false → {z : SlowZone} → z ≡ zone_from (pure clear) → z ≡ zone_from (slow_zone f s p aux)
  unfolding slow_zone
  slow_off h q = rw (sym e ∙ h) q

  pub slow_on : k ≡ true → {z : SlowZone} → z ≡ zone_from (slowest f s.dt s.absent_camera (zone_at s.zones) p aux (counted s.zones)) → z ≡ zone_from (slow_zone f s p aux)
  unfolding slow_zone
  slow_on h q = rw (sym e ∙ h) q

module _ (f : Format) (dt : Float) (choice : AbsentCamera) (z : Option Zone) (p aux : List Float) where
  pub unconfigured : z ≡ None → {r : SlowZone} → r ≡ zone_from (pure clear) → r ≡ zone_from (zone_in f dt choice z p aux)
  unfolding zone_in
  unconfigured e h = rw e h

  module _ (radius speed : Float) (i j : ℕ) (e : z ≡ zone_with i j radius speed) {t : Test} (is : t ≡ test_from (inside_zone f choice radius i j p aux)) where
    pub zone_inside : t.holds ≡ true → {k : Bool} → k ≡ finite (mul f speed dt) → ◌≡◌ {A = SlowZone} (record { inside = true; step = mul f speed dt; sound = t.sound && k }) (zone_from (zone_in f dt choice z p aux))
    unfolding zone_in zone_step
    zone_inside h q = rw (e, sym (ap (λ (x : Test). x.holds) is) ∙ h, ap (λ (x : Test). x.sound) is, q, and-true)

    pub zone_outside : t.holds ≡ false → ◌≡◌ {A = SlowZone} (record { inside = false; step = +0; sound = t.sound }) (zone_from (zone_in f dt choice z p aux))
    unfolding zone_in
    zone_outside h = rw (e, sym (ap (λ (x : Test). x.holds) is) ∙ h, ap (λ (x : Test). x.sound) is, and-true)

-- one turn of the loop over the zones
module _ (f : Format) (dt : Float) (choice : AbsentCamera) (zone : ℕ → Option Zone) (p aux : List Float) where
  pub none_asked : {z : SlowZone} → z ≡ zone_from (pure clear) → z ≡ zone_from (slowest f dt choice zone p aux 0)
  unfolding slowest
  none_asked e = e

  pub one_more_asked : (n : ℕ) {found z next : SlowZone} → found ≡ zone_from (slowest f dt choice zone p aux n) → z ≡ zone_from (zone_in f dt choice (zone n) p aux) → next ≡ slower_of found z → next ≡ zone_from (slowest f dt choice zone p aux (n + 1))
  unfolding slowest
  one_more_asked n e h q = rw (q, e, h, add-one, and-true)

-- ---- reach

module _ (f : Format) (s : Checks) (p a : List Float) {k : Bool} (e : k ≡ arms s REACH) where
  pub reach_off : k ≡ false → ◌≡◌ {A = Test} (record { holds = false; sound = true }) (test_from (out_of_reach f s p a))
  unfolding out_of_reach
  reach_off h = rw (sym e ∙ h)

  pub reach_on : k ≡ true → {n : ℕ} {d : Float} {t : Bool} → n ≡ box_dims s → d ≡ (dist f a p n).value → t ≡ finite d
      → ◌≡◌ {A = Test} (record { holds = lt s.reach_max d; sound = t }) (test_from (out_of_reach f s p a))
  unfolding out_of_reach
  reach_on h {n} q u v = rw (sym e ∙ h, dist_sound f a p n u v, u, q, and-true)

  pub reached_off : k ≡ false → ◌≡◌ {A = Row} (record { at = a; sound = true }) (row_from (reached f s p a))
  unfolding reached
  reached_off h = rw (sym e ∙ h)

  pub reached_on : k ≡ true → {n : ℕ} {r : Row} → n ≡ box_dims s → r ≡ row_from (pulled f s.reach_max p n a) → r ≡ row_from (reached f s p a)
  unfolding reached
  reached_on h q u = rw (sym e ∙ h) (rw q at u)

-- ---- the leash

module _ (f : Format) (s : Checks) (z : Slow) (prev a : List Float) {k : Bool} (e : k ≡ arms s SPEED) where
  pub leashed_off : (k || z.inside) ≡ false → ◌≡◌ {A = Row} (record { at = a; sound = true }) (row_from (leashed f s z prev a))
  unfolding leashed
  leashed_off h = rw (ap (λ (b : Bool). b || z.inside) (sym e) ∙ h)

  pub leashed_on : (k || z.inside) ≡ true → {m : Float} {r : Row} → m ≡ leash k s.step_max z → r ≡ row_from (pulled f m prev s.dim a) → r ≡ row_from (leashed f s z prev a)
  unfolding leashed
  leashed_on h p q = rw (ap (λ (b : Bool). b || z.inside) (sym e) ∙ h) (rw (p, e) at q)

-- ---- the three moves

module _ (f : Format) (s : Checks) (z : Slow) (p q a : List Float) (t : Bool) {b r : Row} (eb : b ≡ row_from (moved_inside f s a)) (er : r ≡ row_from (pulls f s z p t q b.at)) where
  pub moved_row : ◌≡◌ {A = Row} (record { at = r.at; sound = b.sound && r.sound }) (row_from (moves f s z p t q a))
  unfolding moves
  moved_row = rw (er, eb)

pub project_is : (f : Format) (s : Checks) (z : Slow) (p prev a : List Float) {b r : Row} {m : ℕ}
    → b ≡ row_from (moved_inside f s a)
    → r ≡ row_from (pulls f s z p true prev b.at)
    → m ≡ moved_dims a r.at s.dim
    → ◌≡◌ {A = Clamped} (record { at = r.at; mask = m; sound = b.sound && r.sound }) (clamped_from (project f s z p prev a))
unfolding project moves
project_is f s z p prev a eb er em = rw (em, er, eb, and-true)

module _ (f : Format) (s : Checks) (m : ClampMode) (z : Slow) (p prev a : List Float) where
  pub projection_off : m ≡ M.Off → ◌≡◌ {A = Clamped} (record { at = a; mask = 0; sound = true }) (clamped_from (projection f s m z p prev a))
  unfolding projection
  projection_off e = rw e

  pub projection_on : m ≡ M.Project → {r : Clamped} → r ≡ clamped_from (project f s z p prev a) → r ≡ clamped_from (projection f s m z p prev a)
  unfolding projection
  projection_on e h = rw e h

-- ---- the check

pub trips_are : (out fast bent jolted far close : Bool) {a b c d e g : ℕ} → a ≡ weight out WORKSPACE → b ≡ weight fast SPEED → c ≡ weight bent ACCEL → d ≡ weight jolted JERK → e ≡ weight far REACH → g ≡ weight close CONTACT
    → a + b + c + d + e + g ≡ trip_bits out fast bent jolted far close
unfolding trip_bits
trips_are out fast bent jolted far close p q r s t u = rw (p, q, r, s, t, u)

absorbed : (x y z : Bool) → (y ≡ true → x ≡ true) → (x && (y && z)) ≡ (y && z)
absorbed true y z h = refl
absorbed false true z h = absurd_is (h refl) z
  where
    absurd_is : false ≡ true → (z : Bool) → false ≡ z
    absurd_is e true = e
    absurd_is e false = refl
absorbed false false z h = refl

pub judge_is : (f : Format) (s : Checks) (p aux prev a : List Float) {z : SlowZone} {n : Float} {k speed : Bool} {out far : Test} {raw : List Float} {c : Clamped} {bits : ℕ} {m : WallMasks}
    → z ≡ zone_from (slow_zone f s p aux)
    → n ≡ (dist f a prev s.dim).value
    → k ≡ finite (mul f n s.inv_dt)
    → out ≡ test_from (out_of_workspace f s a)
    → far ≡ test_from (out_of_reach f s p a)
    → raw ≡ padded a s.dim
    → speed ≡ arms s SPEED
    → bits ≡ trip_bits out.holds (speed && lt s.step_max n) false false far.holds (z.inside && lt z.step n)
    → c ≡ clamped_from (projection f s s.clamp (slow_of z) p prev raw)
    → m ≡ row_masks s a
    → ◌≡◌ {A = JudgedAction} (record { trips = bits; mask = c.mask; peak = mul f n s.inv_dt; at = c.at; walls = m; sound = z.sound && (k && (out.sound && (far.sound && c.sound))) })
    (judged_action_from (check_action f s p aux prev a))
unfolding check_action
judge_is f s p aux prev a ez en ek eo ef ew es eb ec em =
    let n = dist f a prev s.dim in
    rw (em, eb, ec, ew, ef, eo, es, ek, en, ez, and-true, dist_tells f a prev s.dim, absorbed _ _ _ (fine_mul_left f n.value s.inv_dt))
