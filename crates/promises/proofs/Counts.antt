-- The number that C is given for a count is the table's for the count as it came (`specs/Counts.antt`).
use Prim.Native.Nat.{ℕ, zero, suc, ◌+◌, ◌*◌, ◌≤◌, ◌<◌, min}
use mathlib.Core.Path.{◌≡◌, refl, sym, ap, ◌∙◌}
use mathlib.Core.Bool.{Bool, true, false, not, ◌&&◌, ◌||◌, and-false}
use mathlib.Core.List.{List}
use native.Mathlib.Omega.{arith}
use native.Mathlib.Nat.{min-eq_left, min-eq_right, mul-le-mul_left}
use borrow.Author.Tests.{ltb-true, ltb-false, leb-true, leb-false, eqb-true, eqb-false, lt-ltb, le-ltb, le-leb, lt-leb, eq-eqb, ne_eqb}
use lib.Dec.{leb, ltb, eqb}
use lib.Ieee.{Float}
use Rattle.refusal.specs.Order.{refusal}
use Rattle.std.specs.Prelude.{if◌then◌else◌}
use Rattle.checked.specs.Each.{all, every, every_from}
use Rattle.checked.proofs.Each.{and_left, and_right, all_at, all_same, all_fails, all_fails_at, every_at}
use Rattle.chunk.specs.declared.Header.{Header}
use Rattle.chunk.specs.Refusals.{held_reasons}
use Rattle.conformal.specs.Refusals.{named, without_stall_of, sizes_ok, features_ok}
use Rattle.conformal.specs.Rule.{term_at}
use Rattle.envelope.specs.Slots.{counted, zone_at, zone_with}
use Rattle.envelope.specs.Refusals.{counts_ok, channels_ok, pair_is_own, zones_fit}
use Rattle.envelope.specs.declared.Zones.{Zones}
use Rattle.envelope.proofs.Promises.{same_judged}
use Rattle.layout.specs.Places.{count, in8, in16, in32}
use Rattle.layout.specs.Chunk.{chunk_of}
use Rattle.layout.specs.Trail.{trail_of}
use Rattle.promises.specs.Counts.{TrailCounts, GateCounts, FeatureCounts, StepCounts, radius_at, speed_at, first_at, second_at, zones_as_came, ZoneCounts, ChannelCounts, SameCountedZones, UnreadPastTheCount, ChoiceCounts, ShapeCounts, GripperCounts, cut, HeaderCounts, HeaderKept, HeaderLetGo}
use Rattle.layout.specs.Config.{brake_of, gate_of, calibration_of, channel_of, zone_of, zones_of, zone_held, zones_held, absent_camera_of, shape_of, gripper_of, config_of}

-- ---- a test against a number that the field holds is the same of a count x and of the cut one

at_most_by : (x m k : ℕ) (b : Bool) → k < m → leb x k ≡ b → leb (min x m) k ≡ b
at_most_by x m k true h e = let q = leb-true x k e in le-leb (min x m) k (omega (arith, q, h))
at_most_by x m k false h e = let q = leb-false x k e in lt-leb (min x m) k (omega (arith, q, h))

at_most : (x m k : ℕ) → k < m → leb (min x m) k ≡ leb x k
at_most x m k h = at_most_by x m k (leb x k) h refl

at_least_by : (x m k : ℕ) (b : Bool) → k ≤ m → leb k x ≡ b → leb k (min x m) ≡ b
at_least_by x m k true h e = let q = leb-true k x e in le-leb k (min x m) (omega (arith, q, h))
at_least_by x m k false h e = let q = leb-false k x e in lt-leb k (min x m) (omega (arith, q, h))

at_least : (x m k : ℕ) → k ≤ m → leb k (min x m) ≡ leb k x
at_least x m k h = at_least_by x m k (leb k x) h refl

under_by : (x m k : ℕ) (b : Bool) → k ≤ m → ltb x k ≡ b → ltb (min x m) k ≡ b
under_by x m k true h e = let q = ltb-true x k e in lt-ltb (min x m) k (omega (arith, q, h))
under_by x m k false h e = let q = ltb-false x k e in le-ltb (min x m) k (omega (arith, q, h))

under : (x m k : ℕ) → k ≤ m → ltb (min x m) k ≡ ltb x k
under x m k h = under_by x m k (ltb x k) h refl

none_by : (x m : ℕ) (b : Bool) → 0 < m → eqb x 0 ≡ b → eqb (min x m) 0 ≡ b
none_by x m true h e = let q = eqb-true x 0 e in eq-eqb (min x m) 0 (omega (arith, q, h))
none_by x m false h e = ne_eqb (min x m) 0 (λ p. eqb-false x 0 e (omega (arith, p, h)))

none : (x m : ℕ) → 0 < m → eqb (min x m) 0 ≡ eqb x 0
none x m h = none_by x m (eqb x 0) h refl

-- ---- row 1: a trail's counts, and a calibration's

pub trail_counts : TrailCounts
unfolding trail_of
trail_counts l c = rw (at_least (count c 0) 255 32 (omega arith), at_least (count c 1) 255 33 (omega arith))

pub gate_counts : GateCounts
unfolding sizes_ok calibration_of gate_of all
gate_counts n c =
    rw (
      at_most (count c 24) 255 8 (omega arith),
      under (count c 23) 4294967295 4096 (omega arith),
      at_most (count c 24) 255 0 (omega arith),
      at_most (count c 24) 255 1 (omega arith),
      at_most (count c 24) 255 2 (omega arith),
      at_most (count c 24) 255 3 (omega arith),
      at_most (count c 24) 255 4 (omega arith),
      at_most (count c 24) 255 5 (omega arith),
      at_most (count c 24) 255 6 (omega arith),
      at_most (count c 24) 255 7 (omega arith),
      under (count c 12) 4294967295 4096 (omega arith),
      under (count c 13) 4294967295 4096 (omega arith),
      under (count c 14) 4294967295 4096 (omega arith),
      under (count c 15) 4294967295 4096 (omega arith),
      under (count c 16) 4294967295 4096 (omega arith),
      under (count c 17) 4294967295 4096 (omega arith),
      under (count c 18) 4294967295 4096 (omega arith),
      under (count c 19) 4294967295 4096 (omega arith),
    )

-- ---- row 17: the same, where row 1 refuses nothing

-- a word of features that is not refused is not cut
whole : (x : ℕ) → named (in32 x) ≡ true → in32 x ≡ x
whole x e = let q = ltb-true (in32 x) 4096 e in min-eq_left {n = x} {m = 4294967295} (omega (arith, q))

uncut : (n i x : ℕ) (past : Bool) → leb n i ≡ past → (leb (in8 n) i || named (in32 x)) ≡ true → i < 8 → (leb (in8 n) i || without_stall_of (in32 x)) ≡ (leb n i || without_stall_of x)
uncut n i x true e h l = rw (at_most n 255 i (omega (arith, l)), e)
uncut n i x false e h l =
    let k : (leb n i || named (in32 x)) ≡ true = rw (at_most n 255 i (omega (arith, l))) at h in
    rw (at_most n 255 i (omega (arith, l)), whole x (rw e at k))

pub feature_counts : FeatureCounts
unfolding sizes_ok features_ok calibration_of gate_of all
feature_counts n c sizes =
    let one : (i : ℕ) → i < 8 → (leb (in8 (count c 24)) i || named (term_at (gate_of c) i)) ≡ true = all_at (λ (i : ℕ). leb (in8 (count c 24)) i || named (term_at (gate_of c) i)) 8 (every_at _ 2 sizes) in
    rw (
      whole (count c 23) (every_at _ 1 sizes),
      uncut (count c 24) 0 (count c 12) _ refl (one 0 (omega arith)) (omega arith),
      uncut (count c 24) 1 (count c 13) _ refl (one 1 (omega arith)) (omega arith),
      uncut (count c 24) 2 (count c 14) _ refl (one 2 (omega arith)) (omega arith),
      uncut (count c 24) 3 (count c 15) _ refl (one 3 (omega arith)) (omega arith),
      uncut (count c 24) 4 (count c 16) _ refl (one 4 (omega arith)) (omega arith),
      uncut (count c 24) 5 (count c 17) _ refl (one 5 (omega arith)) (omega arith),
      uncut (count c 24) 6 (count c 18) _ refl (one 6 (omega arith)) (omega arith),
      uncut (count c 24) 7 (count c 19) _ refl (one 7 (omega arith)) (omega arith),
    )

-- ---- row 3: substeps s, committed steps m and braking steps b

where_so : (x : Bool) {y z : Bool} → (x ≡ true → y ≡ z) → (x && y) ≡ (x && z)
where_so true f = f refl
where_so false f = refl

braked : (s m b : ℕ) (x : Bool) → 1 ≤ s → leb b 65535 ≡ x → leb ((m + min b 65535) * s) 4096 ≡ leb ((m + b) * s) 4096
braked s m b true h e = rw (min-eq_left (leb-true b 65535 e))
braked s m b false h e =
    let q = leb-false b 65535 e in
    let p = mul-le-mul_left (m + min b 65535) h in
    let r = mul-le-mul_left (m + b) h in
    lt-leb ((m + min b 65535) * s) 4096 (omega (arith, p, q)) ∙ sym (lt-leb ((m + b) * s) 4096 (omega (arith, r, q)))

steps_in : (s m b : ℕ) → (leb 1 s && leb s 64 && leb m 64) ≡ true → leb ((in16 m + in16 b) * in16 s) 4096 ≡ leb ((m + b) * s) 4096
steps_in s m b t =
    let u = and_left (leb 1 s && leb s 64) (leb m 64) t in
    let few = leb-true s 64 (and_right (leb 1 s) (leb s 64) u) in
    let some = leb-true 1 s (and_left (leb 1 s) (leb s 64) u) in
    let rows = leb-true m 64 (and_right (leb 1 s && leb s 64) (leb m 64) t) in
    rw (min-eq_left {n = s} {m = 65535} (omega (arith, few)), min-eq_left {n = m} {m = 65535} (omega (arith, rows))) (braked s m b (leb b 65535) some refl)

pub step_counts : StepCounts
unfolding counts_ok brake_of every every_from
step_counts n c =
    rw
    (at_least (count c 8) 65535 1 (omega arith), at_most (count c 8) 65535 64 (omega arith), at_most (count c 9) 65535 64 (omega arith))
    (where_so (leb 1 (count c 8) && leb (count c 8) 64 && leb (count c 9) 64) (steps_in (count c 8) (count c 9) (count c 10)))

-- ---- the zones

counted_as : (n : List Float) (c : List ℕ) → (zones_of n c).count ≡ in8 (count c 5)
unfolding zones_of
counted_as n c = refl

pub zone_counts : (n : List Float) (c : List ℕ) → ZoneCounts n c
unfolding zones_of
zone_counts n c = record { over_four = at_most (count c 5) 255 4 (omega arith); as_many = let e : min (min (count c 5) 255) 4 ≡ min (count c 5) 4 = omega arith in e }

-- ---- row 4: the channels i and j of a zone, of so many that are declared

refused : (i j aux : ℕ) (x y z : Bool) → eqb i j ≡ x → leb aux i ≡ y → leb aux j ≡ z → (x || y || z) ≡ true → (not (eqb i j) && ltb i aux && ltb j aux) ≡ false
refused i j aux true y z e f g h = rw e
refused i j aux false true z e f g h = rw (e, le-ltb i aux (leb-true aux i f))
refused i j aux false false true e f g h = rw (e, le-ltb j aux (leb-true aux j g), and-false)
refused i j aux false false false e f g h = rw (e, lt-ltb i aux (leb-false aux i f), lt-ltb j aux (leb-false aux j g)) (sym h)

paired : (i j aux : ℕ) (p q : Bool) → leb i 255 ≡ p → leb j 255 ≡ q → ((p && q) || eqb i j || leb aux i || leb aux j) ≡ true
    → (not (eqb (if q then in8 i else 255) (if p then in8 j else 255)) && ltb (if q then in8 i else 255) aux && ltb (if p then in8 j else 255) aux) ≡ (not (eqb i j) && ltb i aux && ltb j aux)
paired i j aux true true e f h = rw (min-eq_left (leb-true i 255 e), min-eq_left (leb-true j 255 f))
paired i j aux true false e f h = let w = leb-false j 255 f in rw (min-eq_right {n = 255} {m = j} (omega (arith, w))) (sym (refused i j aux _ _ _ refl refl refl h))
paired i j aux false true e f h = let w = leb-false i 255 e in rw (min-eq_right {n = 255} {m = i} (omega (arith, w))) (sym (refused i j aux _ _ _ refl refl refl h))
paired i j aux false false e f h = sym (refused i j aux _ _ _ refl refl refl h)

-- a list of zones, and the same with each channel as it came
module _ (z w : Zones) (aux : ℕ) (r s : ℕ → Float) (i j : ℕ → ℕ) (many : counted z ≡ counted w)
    (cut_to : (k : ℕ) → k < counted w → zone_at z k ≡ zone_with (channel_of (i k) (j k)) (channel_of (j k) (i k)) (r k) (s k))
    (came : (k : ℕ) → k < counted w → zone_at w k ≡ zone_with (i k) (j k) (r k) (s k))
    (fit : (k : ℕ) → k < counted w → zone_held (i k) (j k) aux ≡ true) where
  abbrev held : ℕ → Bool
  held k = leb (i k) 255 && leb (j k) 255

  one_by_one : (k : ℕ) → k < counted w → channels_ok (zone_at z k) aux ≡ channels_ok (zone_at w k) aux
  unfolding zone_held
  one_by_one k l = rw (cut_to k l, came k l) (paired (i k) (j k) aux (leb (i k) 255) (leb (j k) 255) refl refl (fit k l))

  -- one that its field cannot hold is refused as it came
  over : (k : ℕ) → k < counted w → held k ≡ false → channels_ok (zone_at w k) aux ≡ false
  unfolding zone_held
  over k l e = rw (came k l) (refused (i k) (j k) aux _ _ _ refl refl refl (rw e at (fit k l)))

  whole_channels : (k : ℕ) → k < counted w → held k ≡ true → zone_at z k ≡ zone_at w k
  whole_channels k l e =
      let first = and_left (leb (i k) 255) (leb (j k) 255) e in
      let second = and_right (leb (i k) 255) (leb (j k) 255) e in
      rw (cut_to k l, came k l, first, second, min-eq_left (leb-true (i k) 255 first), min-eq_left (leb-true (j k) 255 second))

  zones_alike : zones_fit z aux ≡ zones_fit w aux
  unfolding zones_fit
  zones_alike = go (all held (counted w)) refl
    where
      one-refused : (k : ℕ) → k < counted w → held k ≡ false → zones_fit z aux ≡ zones_fit w aux
      one-refused k l e =
          let no = over k l e in
          all_fails (λ (m : ℕ). channels_ok (zone_at z m) aux && pair_is_own z m) (counted z) k (rw many l) (rw (one_by_one k l, no))
          ∙ sym (all_fails (λ (m : ℕ). channels_ok (zone_at w m) aux && pair_is_own w m) (counted w) k l (rw no))

      go : (b : Bool) → all held (counted w) ≡ b → zones_fit z aux ≡ zones_fit w aux
      go true e = (same_judged w aux z many (λ k l. whole_channels k l (all_at held (counted w) e k l))).1
      go false e = let one = all_fails_at held (counted w) e in one-refused one.0 one.1 one.2

module _ (n : List Float) (c : List ℕ) where
  cut_to : (k : ℕ) → k < min (count c 5) 4 → zone_at (zones_of n c) k ≡ zone_with (channel_of (first_at c k) (second_at c k)) (channel_of (second_at c k) (first_at c k)) (radius_at n k) (speed_at n k)
  unfolding zones_of zone_of
  cut_to zero l = refl
  cut_to (suc zero) l = refl
  cut_to (suc (suc zero)) l = refl
  cut_to (suc (suc (suc zero))) l = refl
  cut_to (suc (suc (suc (suc k)))) l = absurd (omega arith)

  came : (k : ℕ) → k < min (count c 5) 4 → zone_at (zones_as_came n c) k ≡ zone_with (first_at c k) (second_at c k) (radius_at n k) (speed_at n k)
  came zero l = refl
  came (suc zero) l = refl
  came (suc (suc zero)) l = refl
  came (suc (suc (suc zero))) l = refl
  came (suc (suc (suc (suc k)))) l = absurd (omega arith)

-- the tests of the boundary are those of the places that count
held_each : (c : List ℕ) → zones_held c ≡ all (λ (k : ℕ). leb (count c 5) k || zone_held (first_at c k) (second_at c k) (count c 21)) 4
unfolding zones_held every every_from all
held_each c = rw (below_next (count c 5) 0, below_next (count c 5) 1, below_next (count c 5) 2, below_next (count c 5) 3)
  where
    below_by : (m k : ℕ) (b : Bool) → leb m k ≡ b → ltb m (suc k) ≡ b
    below_by m k true e = let q = leb-true m k e in lt-ltb m (suc k) (omega (arith, q))
    below_by m k false e = let q = leb-false m k e in le-ltb m (suc k) (omega (arith, q))

    below_next : (m k : ℕ) → ltb m (suc k) ≡ leb m k
    below_next m k = below_by m k (leb m k) refl

pub channel_counts : ChannelCounts
channel_counts n c h =
    zones_alike (zones_of n c) (zones_as_came n c) (count c 21) (radius_at n) (speed_at n) (first_at c) (second_at c) (zone_counts n c).as_many (cut_to n c) (came n c)
    (λ k l. rw (lt-leb (count c 5) k (omega arith)) at (all_at (λ (k : ℕ). leb (count c 5) k || zone_held (first_at c k) (second_at c k) (count c 21)) 4 (sym (held_each c) ∙ h) k (omega arith)))

-- a place that counts has the same test, and another has none
where_counted : (m k : ℕ) (x y : Bool) → (k < m → x ≡ y) → (leb m k || x) ≡ (leb m k || y)
where_counted m k x y h = go (leb m k) refl
  where
    go : (b : Bool) → leb m k ≡ b → (b || x) ≡ (b || y)
    go true e = refl
    go false e = h (leb-false m k e)

pub unread_past_the_count : (n : List Float) (c : List ℕ) (m : List Float) (d : List ℕ) → SameCountedZones n c m d → UnreadPastTheCount n c m d
unread_past_the_count n c m d same = record {
  same_fit =
      held_each d
      ∙ rw (same.same_count, same.same_aux) (all_same _ _ 4 (λ k l. where_counted (count c 5) k (zone_held (first_at d k) (second_at d k) (count c 21)) (zone_held (first_at c k) (second_at c k) (count c 21)) (λ h. rw (same.same_first k (omega arith), same.same_second k (omega arith)))))
      ∙ sym (held_each c);
  same_zones = record { same_count = as_many; same_places = λ k l. by_place k (rw (zone_counts n c).as_many at l) };
}
  where
    as_many : (zones_of m d).count ≡ (zones_of n c).count
    as_many = counted_as m d ∙ ap in8 same.same_count ∙ sym (counted_as n c)

    by_place : (k : ℕ) → k < min (count c 5) 4 → zone_at (zones_of m d) k ≡ zone_at (zones_of n c) k
    by_place k l = cut_to m d k (rw same.same_count l) ∙ rw (same.same_radius k l, same.same_speed k l, same.same_first k l, same.same_second k l) (sym (cut_to n c k l))

pub choice_counts : (n : List Float) (c : List ℕ) → ChoiceCounts n c
unfolding config_of absent_camera_of
choice_counts n c = record { zero_is_slow = λ e. rw e; one_is_no_zone = λ e. rw e }

pub shape_counts : (n : List Float) (c : List ℕ) → ShapeCounts n c
unfolding config_of shape_of
shape_counts n c = record { zero_is_a_box = λ e. rw e; one_is_a_disc = λ e. rw e }

pub gripper_counts : (n : List Float) (c : List ℕ) → GripperCounts n c
unfolding config_of gripper_of
gripper_counts n c = record { zero_is_to_zero = λ e. rw e; one_is_last_command = λ e. rw e }

-- ---- rows 5 to 9, and 12: a held chunk

header_by : (l : List Float) (k : Header) (x y z : Bool) → (eqb k.horizon 0 || eqb k.dim 0) ≡ x → ltb 64 k.horizon ≡ y → ltb 8 k.dim ≡ z → refusal (held_reasons l (cut k)) ≡ refusal (held_reasons l k)
header_by l k true y z p q r = rw (none k.horizon 65535 (omega arith), none k.dim 65535 (omega arith), p)
header_by l k false true z p q r = rw (none k.horizon 65535 (omega arith), none k.dim 65535 (omega arith), p, at_least k.horizon 65535 65 (omega arith), q)
header_by l k false false true p q r = rw (none k.horizon 65535 (omega arith), none k.dim 65535 (omega arith), p, at_least k.horizon 65535 65 (omega arith), q, at_least k.dim 65535 9 (omega arith), r)
header_by l k false false false p q r =
    let few = ltb-false 64 k.horizon q in
    let thin = ltb-false 8 k.dim r in
    rw (min-eq_left {n = k.horizon} {m = 65535} (omega (arith, few)), min-eq_left {n = k.dim} {m = 65535} (omega (arith, thin)), at_least k.exec_steps 65535 (suc k.horizon) (omega (arith, few)))

pub header_counts : HeaderCounts
header_counts l k = header_by l k (eqb k.horizon 0 || eqb k.dim 0) (ltb 64 k.horizon) (ltb 8 k.dim) refl refl refl

-- ---- a header that is left as it came is the one of the entry's answer, where its counts fit: after a tick without a chunk, and after a reset

pub header_kept : HeaderKept
unfolding chunk_of
header_kept l s t h d e true a b p q r = rw (min-eq_left a, min-eq_left b, min-eq_left p, min-eq_left q, min-eq_left r)
header_kept l s t h d e false a b p q r = rw (min-eq_left a, min-eq_left b, min-eq_left p, min-eq_left q, min-eq_left r)

pub header_let_go : HeaderLetGo
unfolding chunk_of
header_let_go l s t h d e f a b p q r = rw (min-eq_left a, min-eq_left b, min-eq_left p, min-eq_left q, min-eq_left r)
