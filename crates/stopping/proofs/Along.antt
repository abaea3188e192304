-- A run of a closed kind that has come along the start and k rows comes along one row more, from what the code computes of it.
use mathlib.Core.Path.{◌≡◌, refl, sym, ap, ◌∙◌}
use mathlib.Core.Bool.{Bool, true, false, ◌&&◌, and-true}
use mathlib.Core.List.{List}
use Prim.Native.Nat.{ℕ, suc, ◌+◌, ◌≤◌}
use native.Mathlib.Numerals.{add-one}
use lib.ListN.{length, set}
use lib.Ieee.{Float, Format, inf}
use Rattle.checked.specs.Least.{lesser}
use Rattle.checked.proofs.Each.{and_left}
use Rattle.checked.proofs.Told.{implied}
use Rattle.checked.specs.declared.Reckoned.{Reckoned}
use Rattle.workspace.specs.Rule.{slack_r}
use Rattle.checked.specs.Of.{reckoned_from, row_from}
use Rattle.course.specs.declared.Plant.{Plant}
use Rattle.course.specs.declared.Run.{Run}
use Rattle.course.specs.Plant.{State}
use Rattle.course.specs.Forecast.{fine, slack_at}
use Rattle.course.specs.Of.{state_of}
use Rattle.course.proofs.Along.{stands_at, along_fails, along_advances, along_start}
use Rattle.checked.specs.declared.Row.{Row}
use Rattle.stopping.specs.Rule.{Task, row_at, radius, command, step, reaction, gain, radius_at, command_at, step_at, after, stand, entry, forecast}
use Rattle.stopping.specs.Of.{Along, Under, halted_at}
use Rattle.stopping.proofs.Told.{command_told}

module _
    (f : Format) (t : Task) (l : List Float) (k : ℕ) (r : Run) (out : List Float) (h : Along f t l (suc k) r out) (s : r.sound ≡ true)
    (g react : Float) (u : Under f t g react) (a : List Float) (row : row_at t k ≡ a) (axes : t.n ≤ length r.plant.v)
    (v : List Float) (ev : v ≡ (command f t.arm.kind t.arm.dt g a (state_of r.plant) t.n).value)
    (reach : Reckoned) (er : reach ≡ reckoned_from (radius f t.arm.brake t.arm.a_max t.arm.j_max react v t.n))
    (d : Reckoned) (ed : d ≡ reckoned_from (slack_r f t.walls reach.value r.plant.p t.n))
    (next : Row) (en : next ≡ row_from (step f t.arm.dt v r.plant.p t.n)) where
  from : state_of r.plant ≡ after f t k
  unfolding stand
  from = stands_at (forecast f t) (stand f t) l (suc k) r out h s

  -- what the code computes is the task's
  v_is : v ≡ (command_at f t k (state_of r.plant)).value
  v_is = rw (ev, u.pull, row)

  reach_is : reach ≡ reckoned_from (radius_at f t v)
  reach_is = rw (er, u.delay)

  -- the tests of the code, at a state q
  abbrev tests : State → Bool
  tests q =
      let w = (command_at f t k q).value in
      (radius_at f t w).sound && ((slack_r f t.walls (radius_at f t w).value q.p t.n).sound && ((step_at f t w q.p).sound && true))

  tested : tests (state_of r.plant) ≡ reach.sound && (d.sound && next.sound)
  tested = rw (en, ed, reach_is, v_is, and-true)

  pub fine_is : fine (forecast f t) (suc k) ≡ reach.sound && (d.sound && next.sound)
  unfolding entry
  fine_is =
      ap (λ (q : State). (command_at f t k q).sound && tests q) (sym from)
      ∙ implied _ _ (λ b. command_told f t.arm.kind t.arm.dt (gain f t).value (row_at t k) (state_of r.plant) t.n axes t.arm.brake t.arm.a_max t.arm.j_max (reaction f t).value (and_left _ _ b))
      ∙ tested

  slack_is : d.value ≡ slack_at (forecast f t) (suc k)
  unfolding entry
  slack_is =
      rw (ed, reach_is, v_is) (ap (λ (q : State). (slack_r f t.walls (radius_at f t (command_at f t k q).value).value q.p t.n).value) from)

  next_is : ◌≡◌ {A = State} (record { p = next.at; v = v }) (stand f t (suc k + 1))
  unfolding stand after
  next_is =
      rw (add-one, en, v_is)
      (ap (λ (q : State). record { p = (step_at f t (command_at f t k q).value q.p).value; v = (command_at f t k q).value }) from)

  pub turn_fails : reach.sound && (d.sound && next.sound) ≡ false → Along f t l (suc k + 1) (halted_at r.plant r.margin r.done) out
  turn_fails b = along_fails (forecast f t) (stand f t) l (suc k) r out h s (fine_is ∙ b)

  pub turn_advances : reach.sound && (d.sound && next.sound) ≡ true → (m : Float) → m ≡ lesser r.margin d.value
      → Along f t l (suc k + 1) (record { plant = record { p = next.at; v = v }; margin = m; done = r.done + 1; sound = true }) (set out r.done d.value)
  turn_advances b m c =
      along_advances (forecast f t) (stand f t) l (suc k) r out h s (fine_is ∙ b) (record { p = next.at; v = v }) next_is d.value slack_is m c

-- the start's entry, from what the code computes of it
module _
    (f : Format) (t : Task) (l : List Float) (q : Plant) (eq : state_of q ≡ t.start) (g : Reckoned) (eg : reckoned_from (gain f t) ≡ g) (react : Reckoned) (ew : reckoned_from (reaction f t) ≡ react)
    (reach : Reckoned) (er : reach ≡ reckoned_from (radius f t.arm.brake t.arm.a_max t.arm.j_max react.value q.v t.n))
    (d : Reckoned) (ed : d ≡ reckoned_from (slack_r f t.walls reach.value q.p t.n)) where
  abbrev first : Run
  first = record { plant = q; margin = inf false; done = 0; sound = true }

  at_start : Along f t l 0 first l
  unfolding stand
  at_start = along_start (forecast f t) (stand f t) l q eq

  start_fine : fine (forecast f t) 0 ≡ react.sound && (g.sound && (reach.sound && d.sound))
  unfolding entry
  start_fine = rw (ed, er, ← ew, ← eg) (ap (λ (s : State). (reaction f t).sound && ((gain f t).sound && ((radius_at f t s.v).sound && (slack_r f t.walls (radius_at f t s.v).value s.p t.n).sound))) (sym eq))

  start_slack : d.value ≡ slack_at (forecast f t) 0
  unfolding entry
  start_slack = rw (ed, er, ← ew) (ap (λ (s : State). (slack_r f t.walls (radius_at f t s.v).value s.p t.n).value) eq)

  pub start_fails : react.sound && (g.sound && (reach.sound && d.sound)) ≡ false → Along f t l 1 (halted_at q (inf false) 0) l
  start_fails b = along_fails (forecast f t) (stand f t) l 0 first l at_start refl (start_fine ∙ b)

  pub start_enters : react.sound && (g.sound && (reach.sound && d.sound)) ≡ true → (m : Float) → m ≡ lesser (inf false) d.value
      → Along f t l 1 (record { plant = q; margin = m; done = 1; sound = true }) (set l 0 d.value)
  unfolding stand after
  start_enters b m c = along_advances (forecast f t) (stand f t) l 0 first l at_start refl (start_fine ∙ b) q eq d.value start_slack m c
