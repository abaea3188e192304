-- Worked roots, by computation; of 2 step by step, as docs/TRAINEES.md has it.
use Rattle.std.specs.Prelude.{◌≡◌, ℕ, true, false, [], ◌∷◌, pos, negsuc, refl}
use Rattle.std.specs.Float.{nan, fin, binary32, binary64}
use Rattle.std.specs.Float.Ieee.{of_bits, to_bits, size, odd}
use Rattle.root.specs.Root.{floor_root, near_root, half, root_exponent, scaled, number, root_of}
use Rattle.root.specs.Round.{Round, greatest, found, rounds, all_rounds}
use Rattle.root.specs.Of.{unpacked}

of_25_single : root_of binary32 (fin false 25 (pos 0)) ≡ fin false 5 (pos 0)
unfolding root_of near_root floor_root scaled root_exponent half number size odd
of_25_single = refl

of_2_single : to_bits binary32 (root_of binary32 (fin false 1 (pos 1))) ≡ 0x3fb5_04f3
unfolding root_of near_root floor_root scaled root_exponent half number size odd to_bits
of_2_single = refl

-- the root of 2 ^ -149, which is no power of two: 0x1a3504f3 = 1.41421354 * 2 ^ -75
of_least_single : to_bits binary32 (root_of binary32 (fin false 1 (negsuc 148))) ≡ 0x1a35_04f3
unfolding root_of near_root floor_root scaled root_exponent half number size odd to_bits
of_least_single = refl

-- the largest f64: (2 - 2 ^ -52) * 2 ^ 1023
of_largest : to_bits binary64 (root_of binary64 (of_bits binary64 0x7fef_ffff_ffff_ffff)) ≡ 0x5fef_ffff_ffff_ffff
unfolding root_of near_root floor_root scaled root_exponent half number size odd to_bits of_bits
of_largest = refl

of_minus_zero : root_of binary64 (fin true 0 (pos 0)) ≡ fin true 0 (pos 0)
unfolding root_of near_root floor_root scaled root_exponent half number size odd
of_minus_zero = refl

of_minus_one : root_of binary64 (fin true 1 (pos 0)) ≡ nan
unfolding root_of near_root floor_root scaled root_exponent half number size odd
of_minus_one = refl

-- ---- the root of 2, from its bits to those of the root

of_2_apart : unpacked binary64 0x4000_0000_0000_0000 ≡ record { digits = 0x10_0000_0000_0000; exponent = negsuc 50 }
of_2_apart = refl

-- X is 2 ^ 105, which `scale` gives as 2 ^ 63, at the top of 64; 2 is X * 4 ^ -52
of_2_scaled : scaled 53 0x10_0000_0000_0000 (negsuc 50) ≡ 0x200_0000_0000_0000_0000_0000_0000
unfolding scaled root_exponent half size
of_2_scaled = refl

of_2_exponent : root_exponent 53 0x10_0000_0000_0000 (negsuc 50) ≡ negsuc 51
unfolding root_exponent half size
of_2_exponent = refl

abbrev row : ℕ → ℕ → ℕ → ℕ → Round
row next digit root rest = record { next = next; digit = digit; root = root; rest = rest }

of_2_rounds : all_rounds 27 0x200_0000_0000_0000_0000_0000_0000 ≡
    row 2 1 1 1 ∷
    row 16 1 5 7 ∷
    row 112 2 22 28 ∷
    row 448 2 90 92 ∷
    row 1472 2 362 28 ∷
    row 448 0 1448 448 ∷
    row 7168 0 5792 7168 ∷
    row 114688 2 23170 22012 ∷
    row 352192 1 92681 166831 ∷
    row 2669296 3 370727 444943 ∷
    row 7119088 2 1482910 1187452 ∷
    row 18999232 1 5931641 7135951 ∷
    row 114175216 2 23726566 19268956 ∷
    row 308303296 1 94906265 118490767 ∷
    row 1895852272 2 379625062 377352028 ∷
    row 6037632448 1 1518500249 3000631951 ∷
    row 48010111216 3 6074000999 11566105231 ∷
    row 185057683696 3 24296003999 39281659711 ∷
    row 628506555376 3 97184015999 45402459391 ∷
    row 726439350256 0 388736063996 726439350256 ∷
    row 11623029604096 3 1554944255987 2293364068183 ∷
    row 36693825090928 2 6219777023950 11814716995132 ∷
    row 189035471922112 3 24879108095803 39760823347303 ∷
    row 636173173556848 3 99516432383215 39074579257567 ∷
    row 625193268121072 0 398065729532860 625193268121072 ∷
    row 10003092289937152 3 1592262918131443 449514781148503 ∷
    row 7192236498376048 0 6369051672525772 7192236498376048 ∷ []
unfolding all_rounds rounds found greatest
of_2_rounds = refl

-- more is left than the root, so the next number is nearer
of_2_nearest : near_root 53 0x200_0000_0000_0000_0000_0000_0000 ≡ 6369051672525773
unfolding near_root floor_root
of_2_nearest = refl

of_2_together : to_bits binary64 (number 53 6369051672525773 (negsuc 51)) ≡ 0x3ff6_a09e_667f_3bcd
unfolding number size odd to_bits
of_2_together = refl

-- at 24 digits, which is even, X is 2 ^ 47, and the first round brings down four
of_2_rounds_single : all_rounds 12 0x8000_0000_0000 ≡
    row 8 2 2 4 ∷
    row 64 3 11 7 ∷
    row 112 1 45 23 ∷
    row 368 1 181 7 ∷
    row 112 0 724 112 ∷
    row 1792 0 2896 1792 ∷
    row 28672 1 11585 5503 ∷
    row 88048 0 46340 88048 ∷
    row 1408768 3 185363 296599 ∷
    row 4745584 3 741455 296863 ∷
    row 4749808 0 2965820 4749808 ∷
    row 75996928 3 11863283 4817239 ∷ []
unfolding all_rounds rounds found greatest
of_2_rounds_single = refl
