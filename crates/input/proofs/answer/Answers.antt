-- `input::answer` meets its contract: by whether the read failed.
use Rattle.std.proofs.Common.{refl, w64}
use Rattle.std.proofs.lemmas.Int.{to_z_pos}
use Rattle.input.specs.Reads.{answer}
use Rattle.input.proofs.answer.Goals as goal

pub returns-in-Ok : goal.returns-in-Ok
unfolding answer
returns-in-Ok c = rw c.in-Ok.is (to_z_pos w64 c.in-Ok.n (rw c.in-Ok.is at c.requires))

pub returns-in-Err : goal.returns-in-Err
unfolding answer
returns-in-Err c = rw c.in-Err.is refl
