-- The numbers of the features that the rules name, which are their bits.
use Rattle.std.specs.Prelude.{ℕ}

abbrev pub TCE : ℕ
TCE = 0

abbrev pub ACC : ℕ
ACC = 1

abbrev pub ACM-NEG : ℕ
ACM-NEG = 2

abbrev pub NJR : ℕ
NJR = 3

abbrev pub REACH : ℕ
REACH = 4

abbrev pub SPEED-PEAK : ℕ
SPEED-PEAK = 5

abbrev pub PATH-INEFF : ℕ
PATH-INEFF = 6

-- not computed: `features` never sets it, and no calibration may name it
abbrev pub STALL : ℕ
STALL = 7

-- the first of the four external ones
abbrev pub EXT0 : ℕ
EXT0 = 8

abbrev pub COUNT : ℕ
COUNT = 12
