-- The rules at the declared structs.
use Rattle.refusal.specs.declared.Refusal.{Refusal}
use Rattle.std.specs.Prelude.{ℕ, ◌+◌, ◌*◌, ◌≡◌, Bool, true, false, List, eqb, Float, length, replicate, if◌then◌else◌, Err, Ok, Result}
use Rattle.std.proofs.Math.Seq.{paste}
use Rattle.std.specs.Borrow.{Bor, MutBor}
use Rattle.checked.specs.Finite.{+0}
use Rattle.refusal.specs.Order.{refusal, answer_by}
use Rattle.chunk.specs.declared.ChunkBuf.{ChunkBuf}
use Rattle.chunk.specs.declared.ChunkView.{ChunkView}
use Rattle.chunk.specs.declared.Filled.{Filled}
use Rattle.chunk.specs.declared.Header.{Header}
use Rattle.chunk.specs.declared.Part.{Part}
use Rattle.chunk.specs.Rule.{row_start, row_within, row_of, held_rows}
use Rattle.chunk.specs.Refusals.{lent_reasons, held_reasons}

-- a buffer that holds no chunk yet
abbrev pub new_chunk : ChunkBuf
new_chunk = record { «data» = replicate 512 +0; header = record { seq = 0; t_emit = 0; horizon = 0; dim = 0; exec_steps = 0 }; filled = false }

-- the buffer with a chunk copied in; the numbers past the chunk's own stay
abbrev pub held_of : ChunkBuf → Header → List Float → ChunkBuf
held_of b k l = record { «data» = paste b.«data» 0 l (length l); header = k; filled = true }

-- a refused chunk gives its number and leaves the buffer as it was
unfoldable pub fill_of : ChunkBuf → Header → List Float → Filled
fill_of b k l = if eqb (refusal (lent_reasons l k)) 0 then record { number = 0; buf = held_of b k l } else record { number = refusal (lent_reasons l k); buf = b }

-- the same for a view
abbrev pub copy_of : ChunkBuf → ChunkView → Filled
copy_of b v = fill_of b v.header v.«data».now

-- the buffer with no chunk held; all else stays
abbrev pub cleared_of : ChunkBuf → ChunkBuf
cleared_of b = record { «data» = b.«data»; header = b.header; filled = false }

-- the number for a held chunk
unfoldable pub held_refusal_of : ChunkBuf → ℕ
held_refusal_of b = if b.filled then refusal (held_reasons b.«data» b.header) else 0

-- a held chunk that is refused gives its number and stays
unfoldable pub clear_of : ChunkBuf → Filled
clear_of b = if eqb (held_refusal_of b) 0 then record { number = 0; buf = cleared_of b } else record { number = held_refusal_of b; buf = b }

-- whether a chunk is held, where it is not refused
unfoldable pub holding_of : ChunkBuf → Result Bool Refusal
holding_of b = answer_by Err (Ok b.filled) (held_refusal_of b)

-- where row i lies among n numbers: from its start, d long, or an empty part
unfoldable pub part_of : ℕ → ℕ → ℕ → ℕ → Part
part_of n h d i = if row_within n h d i then record { start = row_start h d i; end = row_start h d i + d } else record { start = 0; end = 0 }

-- r is row i of lent numbers, and in its place: a number takes 8 bytes
abbrev pub IsRow : MutBor (List Float) → MutBor (List Float) → ℕ → ℕ → ℕ → Type 0
IsRow r l h d i = (r.now ≡ row_of l.now h d i) × (r.ref_ptr ≡ (l.ref_ptr.0, (part_of (length l.now) h d i).start * 8 + l.ref_ptr.1))

-- the view of lent rows
abbrev pub view_of : Header → Bor (List Float) → ChunkView
view_of k r = record { header = k; «data» = r }

-- what is said of a held chunk: sizes 0 where none is held
unfoldable pub held_header : Header → Bool → Header
held_header k filled = if filled then k else record { seq = k.seq; t_emit = k.t_emit; horizon = 0; dim = 0; exec_steps = 0 }

-- a view that shows what a buffer holds: sizes 0 and no rows where no chunk is held
abbrev pub Shows : ChunkView → Header → Bool → List Float → Type 0
Shows v k filled l = (v.header ≡ held_header k filled) × (v.«data».now ≡ held_rows l k.horizon k.dim filled)

-- a view shows what a buffer holds
abbrev pub ShowsHeld : ChunkView → ChunkBuf → Type 0
ShowsHeld v b = Shows v b.header b.filled b.«data»
