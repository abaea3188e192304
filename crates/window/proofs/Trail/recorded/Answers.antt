-- `Trail::recorded` meets its contract, by the test of a full ring.
use Prim.Native.Nat.{ℕ, ◌+◌, ◌*◌, ◌%◌, ◌≤◌, ◌<◌, min}
use mathlib.Core.Path.{◌≡◌}
use mathlib.Core.List.{List}
use native.Mathlib.Omega.{arith}
use lib.Ieee.{Float}
use lib.ListN.{length}
use lib.Seq.{paste}
use Rattle.window.specs.declared.Trail.{Trail}
use Rattle.window.specs.Of.{recorded_of}
use Rattle.window.proofs.Trail.recorded.Goals as goal

made : (t : Trail) (p : List Float) (d : ℕ) (rows : List Float) (m n len' : ℕ) → rows ≡ paste t.buf (t.head * 8) p n → n ≡ min m (length p) → m ≡ min d 8 → len' ≡ min (t.len + 1) 32
    → ◌≡◌ {A = Trail} (record { buf = rows; head = (t.head + 1) % 32; len = len' }) (recorded_of t p d)
made t p d rows m n len' er en em el = rw (er, en, em, el)

grows : (n : ℕ) → n < 32 → n + 1 ≡ min (n + 1) 32
grows n h = omega arith

full : (n : ℕ) → 32 ≤ n → 32 ≡ min (n + 1) 32
full n h = omega arith

pub returns-then-self-lt32 : goal.returns-then-self-lt32
returns-then-self-lt32 c =
    let a = c.args in
    made a.self a.p.now a.d _ _ _ _ c.stored-buf.ensures c.fewer-n.ensures c.fewer.ensures (grows a.self.len c.if-self-lt32.true)

pub returns : goal.returns
returns c =
    let a = c.args in
    made a.self a.p.now a.d _ _ _ _ c.stored-buf.ensures c.fewer-n.ensures c.fewer.ensures (full a.self.len c.if-self-lt32.false)
