-- Worked numbers, by computation.
use Rattle.std.specs.Prelude.{ℕ, zero, suc, ◌≡◌, refl, true, false, List, [], ◌∷◌, pos, negsuc, Float}
use Rattle.std.specs.Float.{binary64, fin}
use Rattle.std.specs.Float.Ieee.{neg, add, sub, mul, div, lt, of_int, of_bits, of_fields, odd}
use Rattle.root.specs.Root.{root_of, number, root_exponent, half, near_root, floor_root, scaled}
use Rattle.checked.specs.Constants.{1!, 2!, 3! }
use Rattle.checked.specs.Each.{all, over, table}
use Rattle.checked.specs.Finite.{finite, +0}
use Rattle.checked.specs.Row.{padded}
use Rattle.checked.specs.Checked.{sum_from}
use Rattle.checked.specs.Least.{greater, greatest}
use Rattle.fmath.specs.Norm.{squared_gap, dist}
use Rattle.window.specs.Rule.{net, path, step}
use Rattle.bits.specs.Bits.{bit, bits_where}
use Rattle.tier1.specs.declared.Manifest.{Manifest}
use Rattle.tier1.specs.Rule.{sum_rows, normal, gap, jolt, tce, acc, step_length, acm_neg, njr, reach, start_row, stride, peak, speed_peak, net_length, path_length, path_ineff, overlap, boundary, boundary_bits, ineff_at, valid_at, value_at, twelve}

abbrev 4! : Float
4! = fin false 1 (pos 2)

abbrev 5! : Float
5! = fin false 5 (pos 0)

abbrev 6! : Float
6! = fin false 3 (pos 1)

abbrev 8! : Float
8! = fin false 1 (pos 3)

abbrev 14! : Float
14! = fin false 7 (pos 1)

abbrev 1/2 : Float
1/2 = fin false 1 (negsuc 0)

-- one coordinate, center 1, scale 2
abbrev line : Manifest
line = record {
  dim = 1;
  pos_dim = 1;
  center = 1! ∷ [];
  inverse = 1/2 ∷ [];
  iso = 2!;
}

-- rows 0, 2, 4, 6 kept from tick 3; rows 4, 6, 8, 14 delivered at tick 4, of which three overlap; position 1
pub line_features : boundary binary64 line (record { there = true; t_emit = 3; horizon = 4; dim = 1 }) (+0 ∷ 2! ∷ 4! ∷ 6! ∷ []) (1! ∷ []) 4 4 (4! ∷ 6! ∷ 8! ∷ 14! ∷ [])
    ≡ record {
      value =
          1! ∷ of_bits binary64 0x3ff3988e13f416b2 ∷ of_bits binary64 0xbffaaaaaaaaaaaab
          ∷ of_bits binary64 0x3ff1745d17315f6b ∷ fin false 3 (negsuc 0) ∷ 3! ∷ [];
      sound = true;
    }
unfolding boundary overlap tce acc acm_neg njr reach speed_peak peak start_row padded stride step_length sum_rows normal gap jolt all over greatest greater sum_from dist squared_gap of_int of_bits of_fields odd neg add sub mul div lt finite root_of number root_exponent half near_root floor_root scaled
line_features = refl

pub line_bits : boundary_bits line (record { there = true; t_emit = 3; horizon = 4; dim = 1 }) (1! ∷ []) 4 4 ≡ 63
unfolding boundary_bits overlap bits_where
line_bits = refl

-- two coordinates, centers 1 and 0, scales 2 and 1, of which the position has the first
abbrev plane : Manifest
plane = record {
  dim = 2;
  pos_dim = 1;
  center = 1! ∷ +0 ∷ [];
  inverse = 1/2 ∷ 1! ∷ [];
  iso = 2!;
}

-- rows (0, 0), (2, 1), (4, 1) kept from tick 3; rows (2, 4), (5, 8), (5, 8) delivered at tick 4, of which two overlap; too few for Njr
pub plane_features : boundary binary64 plane (record { there = true; t_emit = 3; horizon = 3; dim = 2 }) (+0 ∷ +0 ∷ 2! ∷ 1! ∷ 4! ∷ 1! ∷ []) (1! ∷ 5! ∷ []) 4 3 (2! ∷ 4! ∷ 5! ∷ 8! ∷ 5! ∷ 8! ∷ [])
    ≡ record {
      value =
          of_bits binary64 0x400e87573f6c42c5 ∷ of_bits binary64 0x3ffc95bb4c620011 ∷ of_bits binary64 0xc0011687a8ae14a3
          ∷ +0 ∷ 1/2 ∷ fin false 5 (negsuc 0) ∷ [];
      sound = true;
    }
unfolding boundary overlap tce acc acm_neg njr reach speed_peak peak start_row padded stride step_length sum_rows normal gap jolt all over greatest greater sum_from dist squared_gap of_int of_bits of_fields odd neg add sub mul div lt finite root_of number root_exponent half near_root floor_root scaled
plane_features = refl

pub plane_bits : boundary_bits plane (record { there = true; t_emit = 3; horizon = 3; dim = 2 }) (1! ∷ 5! ∷ []) 4 3 ≡ 55
unfolding boundary_bits overlap bits_where
plane_bits = refl

-- a chunk emitted earlier, or of another width, shares no row; without a position there is no Reach
pub earlier_bits : boundary_bits plane (record { there = true; t_emit = 5; horizon = 3; dim = 2 }) (1! ∷ 5! ∷ []) 4 3 ≡ 52
unfolding boundary_bits overlap bits_where
earlier_bits = refl

pub wider_bits : boundary_bits plane (record { there = true; t_emit = 3; horizon = 3; dim = 3 }) [] 4 3 ≡ 36
unfolding boundary_bits overlap bits_where
wider_bits = refl

-- twenty samples between 0 and 1
abbrev sample : Float → List Float → List Float
sample x l = x ∷ +0 ∷ +0 ∷ +0 ∷ +0 ∷ +0 ∷ +0 ∷ +0 ∷ l

abbrev there_and_back : ℕ → List Float
there_and_back zero = []
there_and_back (suc n) = sample +0 (sample 1! (there_and_back n))

-- a way of 19 for a net of 1
pub to_and_fro : ineff_at binary64 line (record { buf = there_and_back 10; head = 20; len = 20 }) ≡ record { value = of_bits binary64 0x3fee50d79435e50e; sound = true }
unfolding path_ineff net_length path_length net path step greater sum_from dist squared_gap of_bits of_fields odd add sub mul div lt finite root_of number root_exponent half near_root floor_root scaled
to_and_fro = refl

-- one sample fewer
pub nineteen : ineff_at binary64 line (record { buf = there_and_back 10; head = 19; len = 19 }) ≡ record { value = +0; sound = true }
nineteen = refl

-- all of a tick: AcmNeg alone is held as valid, and two external scalars are lent; Stall is 0.0, and its bit is clear though the trail has 20 samples
pub tick_features : (twelve binary64 line (record { buf = there_and_back 10; head = 20; len = 20 }) (5! ∷ 5! ∷ 5! ∷ 5! ∷ 5! ∷ 5! ∷ []) 4 (8! ∷ 6! ∷ [])).value
    ≡ record { f = +0 ∷ +0 ∷ 5! ∷ +0 ∷ +0 ∷ +0 ∷ of_bits binary64 0x3fee50d79435e50e ∷ +0 ∷ 8! ∷ 6! ∷ +0 ∷ +0 ∷ []; valid = 836 }
unfolding twelve table valid_at value_at bit bits_where path_ineff net_length path_length net path step greater sum_from dist squared_gap of_bits of_fields odd add sub mul div lt finite root_of number root_exponent half near_root floor_root scaled
tick_features = refl
