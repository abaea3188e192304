-- A held chunk in flat arrays: its 512 numbers; 6 counts, seq, t_emit, horizon, dim, exec_steps and filled.
use Rattle.std.specs.Prelude.{ℕ, Bool, ◌&&◌, ◌||◌, List, [], ◌∷◌, leb, eqb, Float}
use Rattle.checked.specs.Each.{every}
use Rattle.chunk.specs.declared.ChunkBuf.{ChunkBuf}
use Rattle.chunk.specs.declared.Header.{Header}
use Rattle.window.specs.Rule.{flag}
use Rattle.layout.specs.Places.{count, long, in16, in32}

-- filled is a flag; of a chunk that is held, seq and t_emit fit, and rows 6 to 8 refuse the sizes that do not
unfoldable pub header_fits : List ℕ → Bool
header_fits h = every (leb (count h 5) 1 ∷ (eqb (count h 5) 0 || (long (count h 0) && long (count h 1))) ∷ [])

-- what the counts say of a chunk besides its rows
abbrev pub header_of : List ℕ → Header
header_of h = record {
  seq = in32 (count h 0);
  t_emit = in32 (count h 1);
  horizon = in16 (count h 2);
  dim = in16 (count h 3);
  exec_steps = in16 (count h 4);
}

-- the buffer that the arrays stand for
unfoldable pub chunk_of : List Float → List ℕ → ChunkBuf
chunk_of l h = record { «data» = l; header = header_of h; filled = eqb (count h 5) 1 }

-- what is said of a chunk, laid out with whether it is held
abbrev pub header_from : Header → Bool → List ℕ
header_from k filled = k.seq ∷ k.t_emit ∷ k.horizon ∷ k.dim ∷ k.exec_steps ∷ flag filled ∷ []

abbrev pub header_flat : ChunkBuf → List ℕ
header_flat b = header_from b.header b.filled

-- the counts of a header whose chunk is let go; what is said of the chunk stays
abbrev pub unheld : List ℕ → List ℕ
unheld h = count h 0 ∷ count h 1 ∷ count h 2 ∷ count h 3 ∷ count h 4 ∷ 0 ∷ []
