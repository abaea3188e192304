-- What C asks, in the port's structs.
use Rattle.std.specs.Prelude.{ℕ, false, List, leb, Float, length, if◌then◌else◌}
use Rattle.std.proofs.Math.Seq.{paste}
use Rattle.chunk.specs.declared.ChunkBuf.{ChunkBuf}
use Rattle.chunk.specs.declared.Header.{Header}
use Rattle.conformal.specs.declared.Calibration.{Calibration}

-- a buffer of which `fill` keeps the numbers past the chunk's own; its header is not read
abbrev pub bare : List Float → Header → ChunkBuf
bare d k = record { «data» = d; header = k; filled = false }

-- the calibration that tau, mask and gate make
abbrev pub calibration_asked : Float → ℕ → ℕ → List ℕ → Calibration
calibration_asked tau mask n terms = record { mask = mask; gate = record { n_terms = n; terms = terms }; tau = tau }

-- what is said of a chunk besides its rows
abbrev pub header_asked : ℕ → ℕ → ℕ → ℕ → ℕ → Header
header_asked s t h d e = record { seq = s; t_emit = t; horizon = h; dim = d; exec_steps = e }

-- the same where its sizes alone are said
abbrev pub sizes_asked : ℕ → ℕ → ℕ → Header
sizes_asked h d e = header_asked 0 0 h d e

-- numbers with those of l put over the first ones, where a buffer has room for them
abbrev pub rows_over : List Float → List Float → List Float
rows_over d l = if leb (length l) 512 then paste d 0 l (length l) else d
