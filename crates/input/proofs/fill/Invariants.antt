-- `input::fill` meets its contract: what is read so far never passes the buffer and is what the answers say, and with each read fewer are left.
use mathlib.Core.Path.{◌≡◌}
use Prim.Native.Nat.{◌≤◌}
use lib.ListN.{length}
use Rattle.std.specs.Prelude.{take}
use Rattle.std.specs.Io.KnownBytes.{Consumes}
use Rattle.input.specs.Reads.{Told, HasEnded}
use Rattle.input.proofs.Answers.{left}
use Rattle.input.proofs.fill.Given as goal

abbrev pub invariant-loop-from : goal.invariant-loop-from
invariant-loop-from g l = record {
  fits : l.f.n ≤ length l.buf;
  same : length l.buf ≡ length l.initial.buf;
  told : Told l.f;
  bytes : Consumes (g.R.Read.remaining l.initial.from) (g.R.Read.remaining l.from) (take l.f.n l.buf);
  ended : HasEnded l.f (g.R.Read.remaining l.from);
}

abbrev pub decreases-loop-from : goal.decreases-loop-from
decreases-loop-from g l = left l.f (length l.buf)
