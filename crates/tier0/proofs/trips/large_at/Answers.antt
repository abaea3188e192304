-- `tier0::trips::large_at` meets its contract for each difference.
use Rattle.tier0.proofs.trips.large_at.Goals as goal

pub returns-in-Accel : goal.returns-in-Accel
returns-in-Accel c = rw c.in-Accel.is c.bent_at.ensures

pub returns-in-Jerk : goal.returns-in-Jerk
returns-in-Jerk c = rw c.in-Jerk.is c.jolted_at.ensures
