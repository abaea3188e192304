-- The numbers on the wall that are proved (R10.7), and the trainees' card with a start outside: for each, what the definitions give and what is written.
use Rattle.std.specs.Prelude.{ℕ, true, false, List, [], ◌∷◌}
use Rattle.numbers.specs.Inputs.{1!, 2!, card, forecast_of, root_of, row_of, window_of, gate_of}

pub record Case : Type 0 where
  pub given : List ℕ
  pub written : List ℕ

-- ---- forecasts: 0, count, margin, feasible, stop distance, and the entries

-- slacks 1.5, 1, 0.75, 0.75
abbrev F1 : Case
F1 = record { given = forecast_of (card 0 2! 0 1) 4; written = 0 ∷ 4 ∷ 0x3fe8_0000_0000_0000 ∷ 1 ∷ 0x3ff4_0000_0000_0000 ∷ 0x3ff8_0000_0000_0000 ∷ 1! ∷ 0x3fe8_0000_0000_0000 ∷ 0x3fe8_0000_0000_0000 ∷ [] }

-- slacks 0.5, 0, -0.25, -0.25
abbrev F2 : Case
F2 = record { given = forecast_of (card 0 1! 0 1) 4; written = 0 ∷ 4 ∷ 0xbfd0_0000_0000_0000 ∷ 0 ∷ 0x3ff4_0000_0000_0000 ∷ 0x3fe0_0000_0000_0000 ∷ 0 ∷ 0xbfd0_0000_0000_0000 ∷ 0xbfd0_0000_0000_0000 ∷ [] }

-- F1 with hi 1.25: margin 0, feasible
abbrev F1-touching : Case
F1-touching = record { given = forecast_of (card 0 0x3ff4_0000_0000_0000 0 1) 4; written = 0 ∷ 4 ∷ 0 ∷ 1 ∷ 0x3ff4_0000_0000_0000 ∷ 0x3fe8_0000_0000_0000 ∷ 0x3fd0_0000_0000_0000 ∷ 0 ∷ 0 ∷ [] }

-- no entry, an infinite margin, stop distance 0
abbrev F3 : Case
F3 = record { given = forecast_of (card 0 2! 1 0) 0; written = 0 ∷ 0 ∷ 0x7ff0_0000_0000_0000 ∷ 1 ∷ 0 ∷ [] }

-- F1 from a start a metre beyond the high wall (cards/7-start-outside.card): slacks 0, 1, 1.5, 1.5, and feasible
abbrev start_outside : Case
start_outside = record { given = forecast_of (card 0x4008_0000_0000_0000 2! 0 1) 4; written = 0 ∷ 4 ∷ 0 ∷ 1 ∷ 0x4004_0000_0000_0000 ∷ 0 ∷ 1! ∷ 0x3ff8_0000_0000_0000 ∷ 0x3ff8_0000_0000_0000 ∷ [] }

-- ---- roots: 0 and the root

-- the root of 25 is 5
abbrev root_25 : Case
root_25 = record { given = root_of 0x4039_0000_0000_0000; written = 0 ∷ 0x4014_0000_0000_0000 ∷ [] }

-- the root of 2
abbrev root_2 : Case
root_2 = record { given = root_of 2!; written = 0 ∷ 0x3ff6_a09e_667f_3bcd ∷ [] }

-- the root of 2^-1074 is 2^-537
abbrev root_least : Case
root_least = record { given = root_of 1; written = 0 ∷ 0x1e60_0000_0000_0000 ∷ [] }

-- ---- rows from (0,0): 0, trips, clamped_dims, the greatest speed, and the projected row

-- SPEED, and projected to (3 - 3 x 2^-36, 4 - 4 x 2^-36)
abbrev row_6_8 : Case
row_6_8 = record { given = row_of 0x4018_0000_0000_0000 0x4020_0000_0000_0000; written = 0 ∷ 2 ∷ 3 ∷ 0x4024_0000_0000_0000 ∷ 0x4007_ffff_fffe_8000 ∷ 0x400f_ffff_fffe_0000 ∷ [] }

-- no trip, the same row
abbrev row_3_4 : Case
row_3_4 = record { given = row_of 0x4008_0000_0000_0000 0x4010_0000_0000_0000; written = 0 ∷ 0 ∷ 0 ∷ 0x4014_0000_0000_0000 ∷ 0x4008_0000_0000_0000 ∷ 0x4010_0000_0000_0000 ∷ [] }

-- ---- the window: bits and hits

-- window length 3, pushes true, false, true, true
abbrev window_3 : Case
window_3 = record { given = window_of 3 (true ∷ false ∷ true ∷ true ∷ []); written = 3 ∷ 2 ∷ [] }

-- ---- the gate: 0, s, and then 0 and whether it trips

-- z (2,1), terms {0,1} and {0}: s is 2, and a tau of 2 does not trip
abbrev gate_2 : Case
gate_2 = record { given = gate_of 3; written = 0 ∷ 2! ∷ 0 ∷ 0 ∷ [] }

-- no live term: negative infinity
abbrev gate_none : Case
gate_none = record { given = gate_of 0; written = 0 ∷ 0xfff0_0000_0000_0000 ∷ 0 ∷ 0 ∷ [] }

abbrev pub cases : List Case
cases = F1 ∷ F2 ∷ F1-touching ∷ F3 ∷ start_outside ∷ root_25 ∷ root_2 ∷ root_least ∷ row_6_8 ∷ row_3_4 ∷ window_3 ∷ gate_2 ∷ gate_none ∷ []
