-- The rules at the declared structs.
use Rattle.std.specs.Prelude.{ℕ, ◌+◌, ◌%◌, min, Bool, List, eqb, Float, replicate, if◌then◌else◌}
use Rattle.refusal.specs.Order.{refusal}
use Rattle.checked.specs.Finite.{+0}
use Rattle.window.specs.declared.Window.{Window}
use Rattle.window.specs.declared.Trail.{Trail}
use Rattle.window.specs.declared.Recorded.{Recorded}
use Rattle.window.specs.Rule.{pushed, recorded_in}
use Rattle.window.specs.Answer.{trail_reasons, push_reasons}

-- no push yet
abbrev pub empty_window : Window
empty_window = record { bits = 0 }

-- the window after one more push
abbrev pub pushed_of : Window → Bool → ℕ → Window
pushed_of w hit mask = record { bits = pushed w.bits hit mask }

-- no sample yet
abbrev pub new_trail : Trail
new_trail = record { buf = replicate 256 +0; head = 0; len = 0 }

-- the trail after one more sample: head goes round, the count stops at 32
abbrev pub recorded_of : Trail → List Float → ℕ → Trail
recorded_of t p d = record { buf = recorded_in t.buf t.head p d; head = (t.head + 1) % 32; len = min (t.len + 1) 32 }

-- the trail with head and length reset, and nothing else
abbrev pub cleared_of : Trail → Trail
cleared_of t = record { buf = t.buf; head = 0; len = 0 }

-- a refused push gives its number and leaves the trail as it was
unfoldable pub push_of : Trail → List Float → ℕ → Recorded
push_of t p d = if eqb (refusal (push_reasons t p)) 0 then record { number = 0; trail = recorded_of t p d } else record { number = refusal (push_reasons t p); trail = t }

-- a refused clear gives its number and leaves the trail as it was
unfoldable pub clear_of : Trail → Recorded
clear_of t = if eqb (refusal (trail_reasons t)) 0 then record { number = 0; trail = cleared_of t } else record { number = refusal (trail_reasons t); trail = t }
