-- What follows from tier 0's rules: when each bit is raised, that a wall which is touched is not exceeded, when there is no slow zone; and where the rows of a chunk
-- stand in its list.
use Rattle.envelope.specs.declared.Zone.{Zone}
use Prim.Native.Nat.{ℕ, zero, suc, ◌+◌, ◌*◌, ◌≤◌, ◌<◌}
use mathlib.Core.Path.{◌≡◌, refl, sym, ap, ◌∙◌}
use mathlib.Core.Bool.{Bool, true, false, not, ◌&&◌, ◌||◌, false≢true, and-true, and-false, or-false}
use mathlib.Core.List.{List, [], ◌∷◌}
use native.Mathlib.Omega.{arith}
use borrow.Author.Tests.{eq-eqb}
use lib.ListN.{drop, get_or}
use lib.Seq.{get_or-drop}
use lib.Ieee.{Float, Format, nan, inf, fin, mul, lt, le, ne, eq, up, down}
use Rattle.std.specs.Prelude.{if◌then◌else◌, None, Option, Some}
use Rattle.checked.specs.Each.{at, all, over}
use Rattle.checked.specs.Finite.{finite}
use Rattle.checked.specs.Checked.{Checked, pure}
use Rattle.fmath.specs.Norm.{dist}
use Rattle.checked.proofs.Copy.{padded_at}
use Rattle.checked.proofs.Ordered.{lt_irrefl}
use Rattle.workspace.specs.Shape.{boxed}
use Rattle.workspace.specs.Rule.{Walls}
use Rattle.bits.specs.Bits.{bit, bits_where}
use Rattle.bits.proofs.Bits.{bit_where, bits_below, bits_none}
use Rattle.envelope.specs.declared.AbsentCamera.{AbsentCamera}
use Rattle.envelope.specs.Slots.{counted, zone_at, zone_with}
use Rattle.chunk.proofs.Rows.{row_fits}
use Rattle.tier0.specs.declared.Checks.{Checks}
use Rattle.tier0.specs.Rule.{WORKSPACE, SPEED, ACCEL, JERK, REACH, CONTACT, arms, Slow, clear, seen, inside_seen, inside_zone, inside_unseen, zone_step, zone_in, slowest, slow_zone, trip_bits, leash, moved_dims, check_action}
use Rattle.tier0.specs.Promises.{raised, chunk_trips, action_trips, ChunkRaised, ActionRaised, WallsTouched, NoZones, NoContact, SeenOutside, OutsideRadius, OneZone, zone_finite, ZoneTold, EachAsked, NoZoneNoLeash}
use Rattle.tier0.proofs.Slowest.{slowest_clear, slowest_outside, each_sound}
use Rattle.tier0.specs.Chunk.{start_row, some_longer, raw_row, put_row, check_chunk}

-- ---- the bits

-- each bit says its own test
module _ (a b c d e g : Bool) where
  abbrev tests : ℕ → Bool
  tests j = get_or (a ∷ b ∷ c ∷ d ∷ e ∷ g ∷ []) j false

  as_word : trip_bits a b c d e g ≡ bits_where tests 6
  unfolding trip_bits bits_where
  as_word = omega arith

  bits : (raised WORKSPACE (trip_bits a b c d e g) ≡ a) × (raised SPEED (trip_bits a b c d e g) ≡ b) × (raised ACCEL (trip_bits a b c d e g) ≡ c) × (raised JERK (trip_bits a b c d e g) ≡ d) × (raised REACH (trip_bits a b c d e g) ≡ e) × (raised CONTACT (trip_bits a b c d e g) ≡ g)
  unfolding bit
  bits = rw as_word (says 0 (omega arith), says 1 (omega arith), says 2 (omega arith), says 3 (omega arith), says 4 (omega arith), says 5 (omega arith))
    where
      says : (j : ℕ) → j < 6 → bit (bits_where tests 6) j ≡ tests j
      says = bit_where tests 6

  -- and there are six
  six_bits : trip_bits a b c d e g < 64
  six_bits = rw as_word (bits_below tests 6)

-- ---- each check is raised exactly when it is armed and strictly exceeded

pub chunk_raised : (f : Format) (s : Checks) (p aux rows l : List Float) (h : ℕ) → ChunkRaised f s p aux rows l h
unfolding check_chunk
chunk_raised f s p aux rows l h = record {
  workspace = (bits _ _ _ _ _ _).0;
  speed = (bits _ _ _ _ _ _).1;
  accel = (bits _ _ _ _ _ _).2;
  jerk = (bits _ _ _ _ _ _).3;
  reach = (bits _ _ _ _ _ _).4;
  contact = (bits _ _ _ _ _ _).5;
}

pub action_raised : (f : Format) (s : Checks) (p aux prev a : List Float) → ActionRaised f s p aux prev a
unfolding check_action
action_raised f s p aux prev a = record {
  workspace = (bits _ _ _ _ _ _).0;
  speed = (bits _ _ _ _ _ _).1;
  accel = (bits _ _ _ _ _ _).2;
  jerk = (bits _ _ _ _ _ _).3;
  reach = (bits _ _ _ _ _ _).4;
  contact = (bits _ _ _ _ _ _).5;
}

-- no other bit is set
pub chunk_trips_small : (f : Format) (s : Checks) (p aux rows l : List Float) (h : ℕ) → chunk_trips f s p aux rows l h < 64
unfolding check_chunk
chunk_trips_small f s p aux rows l h = six_bits _ _ _ _ _ _

pub action_trips_small : (f : Format) (s : Checks) (p aux prev a : List Float) → action_trips f s p aux prev a < 64
unfolding check_action
action_trips_small f s p aux prev a = six_bits _ _ _ _ _ _

-- ---- touched

pub walls_touched : (w : Walls) (a : List Float) (j : ℕ) → WallsTouched w a j
walls_touched w a j = record {
  low = λ o e. rw (e, lt_irrefl (at w.lo j), o) (and-false (boxed w.shape j));
  high = λ o e. rw (e, lt_irrefl (at w.hi j), o) (and-false (boxed w.shape j));
}

-- ---- no slow zone

or_none : (b : Bool) (x : Checked Slow) → (b ≡ true → x ≡ pure clear) → (if b then x else pure clear) ≡ pure clear
or_none true x e = e refl
or_none false x e = refl

or_clear : (b : Bool) (x : Checked Slow) → x.value ≡ clear → (if b then x else pure clear).value ≡ clear
or_clear true x e = e
or_clear false x e = refl

-- zones of which each says nothing, where CONTACT is armed
pub none_clear : (f : Format) (s : Checks) (p aux : List Float) → (arms s CONTACT ≡ true → (k : ℕ) → k < counted s.zones → zone_in f s.dt s.absent_camera (zone_at s.zones k) p aux ≡ pure clear) → slow_zone f s p aux ≡ pure clear
unfolding slow_zone
none_clear f s p aux none =
    or_none (arms s CONTACT) (slowest f s.dt s.absent_camera (zone_at s.zones) p aux (counted s.zones))
    (λ armed. slowest_clear f s.dt s.absent_camera p aux (zone_at s.zones) (counted s.zones) (none armed))

-- what holds of a place that is empty and of one that holds a zone
pub by_place : (P : Option Zone → Type 0) (z : Option Zone) → P None → ((radius speed : Float) (i j : ℕ) → z ≡ zone_with i j radius speed → P (zone_with i j radius speed)) → P z
by_place P None empty zone = empty
by_place P (Some z) empty zone = zone z.radius z.v_max z.a0 z.a1 refl

pub empty_place : (f : Format) (dt : Float) (choice : AbsentCamera) (p aux : List Float) (z : Option Zone) → z ≡ None → zone_in f dt choice z p aux ≡ pure clear
unfolding zone_in
empty_place f dt choice p aux z e = rw e

pub no_contact : NoContact
no_contact f s p aux none = none_clear f s p aux (λ armed k l. empty_place f s.dt s.absent_camera p aux (zone_at s.zones k) (none k l))

far_clear : (f : Format) (dt radius speed d : Float) → le d radius ≡ false → (if le d radius then zone_step f dt speed else pure clear).value ≡ clear
far_clear f dt radius speed d e = rw e

seen_far : (f : Format) (dt : Float) (choice : AbsentCamera) (p aux : List Float) (radius speed : Float) (i j : ℕ) → SeenOutside f radius i j p aux → (zone_in f dt choice (zone_with i j radius speed) p aux).value ≡ clear
unfolding zone_in inside_zone inside_seen
seen_far f dt choice p aux radius speed i j far = rw far.in_sight (far_clear f dt radius speed (dist f p (at aux i ∷ at aux j ∷ []) 2).value far.beyond_radius)

pub outside_radius : OutsideRadius
unfolding slow_zone
outside_radius f s p aux far =
    or_clear (arms s CONTACT) (slowest f s.dt s.absent_camera (zone_at s.zones) p aux (counted s.zones))
    (slowest_outside f s.dt s.absent_camera p aux (zone_at s.zones) (counted s.zones)
    (λ k l. by_place (λ (z : Option Zone). (zone_in f s.dt s.absent_camera z p aux).value ≡ clear) (zone_at s.zones k)
    (ap (λ (x : Checked Slow). x.value) (empty_place f s.dt s.absent_camera p aux None refl))
    (λ radius speed i j e. seen_far f s.dt s.absent_camera p aux radius speed i j (far k l radius speed i j e))))

-- ---- one zone

pub one_zone : OneZone
unfolding slow_zone slowest
one_zone f s p aux one = rw (one, and-true)

-- ---- each zone by itself

module _ (f : Format) (dt : Float) (choice : AbsentCamera) (p aux : List Float) (z : Option Zone) (radius speed : Float) (i j : ℕ) (is : z ≡ zone_with i j radius speed) where
  abbrev if_inside : Bool → Slow
  if_inside b = (if b then zone_step f dt speed else pure clear).value

  told : (b : Bool) → (if_inside b).inside ≡ b
  unfolding zone_step
  told true = refl
  told false = refl

  stepped : (b : Bool) → (if_inside b).inside ≡ true → (if_inside b).step ≡ mul f speed dt
  unfolding zone_step
  stepped true h = refl
  stepped false h = absurd (false≢true h)

  by_distance : seen p aux i j ≡ true → (zone_in f dt choice z p aux).value.inside ≡ le (dist f p (at aux i ∷ at aux j ∷ []) 2).value radius
  unfolding zone_in inside_zone inside_seen
  by_distance here = rw (is, here) (told (le (dist f p (at aux i ∷ at aux j ∷ []) 2).value radius))

  by_choice : seen p aux i j ≡ false → (zone_in f dt choice z p aux).value.inside ≡ inside_unseen choice
  unfolding zone_in inside_zone
  by_choice away = rw (is, away) (told (inside_unseen choice))

  -- what is computed: the test's numbers, and inside the step
  computed_if : (t b : Bool) → (t && (if b then zone_step f dt speed else pure clear).sound) ≡ (t && (not (if_inside b).inside || finite (mul f speed dt)))
  unfolding zone_step
  computed_if t true = ap (λ (x : Bool). t && x) (and-true (finite (mul f speed dt)))
  computed_if t false = refl

  seen_computed : seen p aux i j ≡ true → (zone_in f dt choice z p aux).sound ≡ ((dist f p (at aux i ∷ at aux j ∷ []) 2).sound && (not (zone_in f dt choice z p aux).value.inside || finite (mul f speed dt)))
  unfolding zone_in inside_zone inside_seen
  seen_computed here = rw (is, here, and-true) (computed_if (dist f p (at aux i ∷ at aux j ∷ []) 2).sound (le (dist f p (at aux i ∷ at aux j ∷ []) 2).value radius))

  unseen_computed : seen p aux i j ≡ false → (zone_in f dt choice z p aux).sound ≡ (not (zone_in f dt choice z p aux).value.inside || finite (mul f speed dt))
  unfolding zone_in inside_zone
  unseen_computed away = rw (is, away) (computed_if true (inside_unseen choice))

  by_speed : (zone_in f dt choice z p aux).value.inside ≡ true → (zone_in f dt choice z p aux).value.step ≡ mul f speed dt
  unfolding zone_in
  by_speed = rw is (stepped (inside_zone f choice radius i j p aux).value)

pub zone_told : (f : Format) (s : Checks) (p aux : List Float) (k : ℕ) → ZoneTold f s p aux k
zone_told f s p aux k = record {
  empty_place = λ e. ap (λ (x : Checked Slow). x.value) (empty_place f s.dt s.absent_camera p aux (zone_at s.zones k) e);
  seen_by_distance = by_distance f s.dt s.absent_camera p aux (zone_at s.zones k);
  unseen_by_choice = by_choice f s.dt s.absent_camera p aux (zone_at s.zones k);
  step_inside = by_speed f s.dt s.absent_camera p aux (zone_at s.zones k);
  empty_computes_nothing = λ e. ap (λ (x : Checked Slow). x.sound) (empty_place f s.dt s.absent_camera p aux (zone_at s.zones k) e);
  seen_computes = seen_computed f s.dt s.absent_camera p aux (zone_at s.zones k);
  unseen_computes = unseen_computed f s.dt s.absent_camera p aux (zone_at s.zones k);
}

pub each_asked : EachAsked
unfolding slow_zone
each_asked f s p aux = go (arms s CONTACT)
  where
    go : (b : Bool) → (if b then slowest f s.dt s.absent_camera (zone_at s.zones) p aux (counted s.zones) else pure clear).sound ≡ (not b || all (zone_finite f s p aux) (counted s.zones))
    go true = each_sound f s.dt s.absent_camera p aux (zone_at s.zones) (counted s.zones)
    go false = refl

-- where there is none CONTACT is not raised
pub clear_no_trip : (f : Format) (s : Checks) (p aux rows l : List Float) (h : ℕ) → (slow_zone f s p aux).value ≡ clear → raised CONTACT (chunk_trips f s p aux rows l h) ≡ false
clear_no_trip f s p aux rows l h e =
    (chunk_raised f s p aux rows l h).contact
    ∙ ap (λ (x : Slow). x.inside && some_longer f (start_row s p rows) rows s.dim x.step h) e

pub clear_no_action_trip : (f : Format) (s : Checks) (p aux prev a : List Float) → (slow_zone f s p aux).value ≡ clear → raised CONTACT (action_trips f s p aux prev a) ≡ false
clear_no_action_trip f s p aux prev a e =
    (action_raised f s p aux prev a).contact
    ∙ ap (λ (x : Slow). x.inside && lt x.step (dist f a prev s.dim).value) e

-- with no zone, in particular
pub no_contact_no_trip : (f : Format) (s : Checks) (p aux rows l : List Float) (h : ℕ) → NoZones s.zones → raised CONTACT (chunk_trips f s p aux rows l h) ≡ false
no_contact_no_trip f s p aux rows l h e = clear_no_trip f s p aux rows l h (ap (λ (x : Checked Slow). x.value) (no_contact f s p aux e))

pub no_contact_no_action_trip : (f : Format) (s : Checks) (p aux prev a : List Float) → NoZones s.zones → raised CONTACT (action_trips f s p aux prev a) ≡ false
no_contact_no_action_trip f s p aux prev a e = clear_no_action_trip f s p aux prev a (ap (λ (x : Checked Slow). x.value) (no_contact f s p aux e))

pub no_zone_no_leash : NoZoneNoLeash
no_zone_no_leash f s p aux none =
    let nothing = ap (λ (x : Checked Slow). x.value) (no_contact f s p aux none) in
    record {
      armed_by_speed = ap (λ (z : Slow). arms s SPEED || z.inside) nothing ∙ or-false (arms s SPEED);
      the_longest_step = λ speed. ap (leash (arms s SPEED) s.step_max) nothing ∙ rw speed;
    }

-- ---- with everything unarmed

pub none_armed : (s : Checks) → s.armed ≡ 0 → (arms s WORKSPACE ≡ false) × ((arms s SPEED ≡ false) × ((arms s REACH ≡ false) × (arms s CONTACT ≡ false)))
unfolding arms
none_armed s e = rw e (refl, (refl, (refl, refl)))

-- there is no slow zone then
pub unarmed_no_zone : (f : Format) (s : Checks) (p aux : List Float) → s.armed ≡ 0 → slow_zone f s p aux ≡ pure clear
unfolding slow_zone
unarmed_no_zone f s p aux e = rw (none_armed s e).1.1.1

-- ---- a row that stays

-- a finite number equals itself
equal_itself : (x : Float) → finite x ≡ true → ne x x ≡ false
unfolding finite ne eq
equal_itself nan e = sym e
equal_itself (inf s) e = absurd (false≢true e)
equal_itself (fin true m e) h = rw (eq-eqb (m * up e * down e) (m * up e * down e) refl)
equal_itself (fin false m e) h = rw (eq-eqb (m * up e * down e) (m * up e * down e) refl)

-- so it sets no bit in clamped_dims
pub no_bit_set : (a : List Float) (n : ℕ) → ((j : ℕ) → j < n → finite (at a j) ≡ true) → moved_dims a a n ≡ 0
no_bit_set a n e = bits_none (λ (j : ℕ). ne (at a j) (at a j)) n (λ j l. equal_itself (at a j) (e j l))

-- ---- rows in a list

-- entry j of a row is that entry of the chunk
pub row_at : (rows : List Float) (n i : ℕ) → n ≤ 8 → (j : ℕ) → j < n → at (raw_row rows n i) j ≡ at rows (i * n + j)
row_at rows n i w j k = padded_at (drop (i * n) rows) n j w k ∙ get_or-drop (i * n) rows j nan

pub below_rows : (i h j n : ℕ) → i < h → j < n → i * n + j < h * n
below_rows i h j n a b = omega (arith, row_fits i h n (h * n) a (omega arith))

-- what is put over the first k numbers from k on is put over the first k + n
pub put_over : (g : ℕ → Float) (l r : List Float) (k n : ℕ) → ((j : ℕ) → j < n → at r j ≡ g (k + j)) → put_row r (over g l k) k n ≡ over g l (k + n)
unfolding put_row over
put_over g l r k zero e = let z : k + 0 ≡ k = omega arith in rw z
put_over g l r k (suc n) e =
    let z : k + suc n ≡ suc (k + n) = omega arith in
    rw (z, put_over g l r k n (λ j w. e j (omega arith)), e n (omega arith))
