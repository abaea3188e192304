-- Two zones at channels of three: a swapped pair is another, the same pair is refused, and a place past the count is not judged, by computation.
use Rattle.envelope.specs.declared.Zone.{Zone}
use Rattle.envelope.specs.Slots.{zone_with}
use Rattle.std.specs.Prelude.{ℕ, ◌≡◌, refl, true, false, [], ◌∷◌, None, Option}
use Rattle.std.specs.Float.Ieee.{lt, le}
use Rattle.checked.specs.Constants.{1! }
use Rattle.checked.specs.Each.{all}
use Rattle.checked.specs.Finite.{+0, finite, above_zero, not_below_zero}
use Rattle.envelope.specs.Refusals.{zones_ok, pair_is_own, zones_fit}
use Rattle.envelope.specs.declared.Zones.{Zones}

-- so many of four places
abbrev zones : ℕ → Option Zone → Option Zone → Option Zone → Option Zone → Zones
zones count a b c d = record { count = count; list = a ∷ b ∷ c ∷ d ∷ [] }

-- a zone of radius 0 and speed 1, which is right, and one of radius 1 and speed 0, which is not
abbrev on : ℕ → ℕ → Option Zone
on i j = zone_with i j +0 1!

abbrev still : Option Zone
still = zone_with 0 1 1! +0

pub swapped_fits : zones_fit (zones 2 (on 0 1) (on 1 0) None None) 3 ≡ true
unfolding zones_fit pair_is_own all
swapped_fits = refl

pub repeated_does_not : zones_fit (zones 2 (on 0 1) (on 0 1) None None) 3 ≡ false
unfolding zones_fit pair_is_own all
repeated_does_not = refl

-- the first and the fourth
pub far_apart_does_not : zones_fit (zones 4 (on 0 1) (on 1 0) (on 2 0) (on 0 1)) 3 ≡ false
unfolding zones_fit pair_is_own all
far_apart_does_not = refl

pub past_the_count_fits : zones_fit (zones 3 (on 0 1) (on 1 0) (on 2 0) (on 0 1)) 3 ≡ true
unfolding zones_fit pair_is_own all
past_the_count_fits = refl

-- places that hold none share no pair
pub none_twice_fits : zones_fit (zones 4 None (on 0 1) None None) 3 ≡ true
unfolding zones_fit pair_is_own all
none_twice_fits = refl

pub fourth_is_judged : zones_ok (zones 4 (on 0 1) (on 1 0) (on 2 0) still) ≡ false
unfolding zones_ok all finite above_zero not_below_zero lt le
fourth_is_judged = refl

pub past_the_count_is_not : zones_ok (zones 3 (on 0 1) (on 1 0) (on 2 0) still) ≡ true
unfolding zones_ok all finite above_zero not_below_zero lt le
past_the_count_is_not = refl

pub none_is_right : zones_ok (zones 1 None still still still) ≡ true
unfolding zones_ok all
none_is_right = refl
