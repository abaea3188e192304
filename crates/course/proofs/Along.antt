-- A run that has come along k entries comes along one more: it has stopped before, it stops here, or it writes the entry and goes on.
use mathlib.Core.Path.{◌≡◌, refl, sym, ap, ◌∙◌, subst}
use mathlib.Core.Bool.{Bool, true, false, ◌&&◌}
use mathlib.Core.List.{List}
use Prim.Native.Nat.{ℕ, zero, suc, ◌+◌}
use native.Mathlib.Nat.{add-zero, add_assoc}
use native.Mathlib.Numerals.{add-one}
use lib.ListN.{set}
use lib.Ieee.{Float, inf}
use Rattle.checked.specs.Each.{all, over}
use Rattle.checked.specs.Least.{lesser, least}
use Rattle.checked.proofs.Each.{◌&&≡◌, over_more}
use Rattle.checked.proofs.Extremes.{least_more}
use Rattle.course.specs.declared.Plant.{Plant}
use Rattle.course.specs.declared.Run.{Run}
use Rattle.course.specs.Plant.{State}
use Rattle.course.specs.Forecast.{Forecast, fine, slack_at, leading, written_of}
use Rattle.course.specs.Of.{state_of, plant_from, CameAlong, run_of}
use Rattle.course.proofs.Leading.{all_next, leading_whole, leading_more, leading_stays}

module _ (t : Forecast) (stand : ℕ → State) (l : List Float) (k : ℕ) (r : Run) (out : List Float) (h : CameAlong t stand l k r out) where
  abbrev ok : ℕ → Bool
  ok = fine t

  abbrev slacks : ℕ → Float
  slacks = slack_at t

  stopped_all : r.sound ≡ false → all ok (k + 1) ≡ false
  stopped_all s = all_next ok k ∙ ap (λ (b : Bool). b && ok k) (sym h.whole ∙ s)

  pub along_stopped : r.sound ≡ false → CameAlong t stand l (k + 1) r out
  along_stopped s = record {
    written = h.written ∙ sym (leading_stays ok k (stopped_all s));
    whole = s ∙ sym (stopped_all s);
    stands = h.stands;
    least = h.least;
    entries = h.entries;
  }

  module _ (s : r.sound ≡ true) where
    whole_so_far : all ok k ≡ true
    whole_so_far = sym h.whole ∙ s

    -- it has written each entry so far
    pub done_is : r.done ≡ k
    done_is = h.written ∙ leading_whole ok k whole_so_far

    next_all : (b : Bool) → ok k ≡ b → all ok (k + 1) ≡ b
    next_all b e = all_next ok k ∙ (whole_so_far &&≡ e)

    pub along_fails : ok k ≡ false → CameAlong t stand l (k + 1) (record { plant = r.plant; margin = r.margin; done = r.done; sound = false }) out
    along_fails e = record {
      written = h.written ∙ sym (leading_stays ok k (next_all false e));
      whole = sym (next_all false e);
      stands = h.stands;
      least = h.least;
      entries = h.entries;
    }

    pub along_advances : ok k ≡ true → (next : Plant) → state_of next ≡ stand (k + 1) → (x : Float) → x ≡ slacks k → (m : Float) → m ≡ lesser r.margin x
        → CameAlong t stand l (k + 1) (record { plant = next; margin = m; done = r.done + 1; sound = true }) (set out r.done x)
    along_advances e next n x v m w = record {
      written = ap (λ (d : ℕ). d + 1) done_is ∙ sym (leading_more ok k (next_all true e));
      whole = sym (next_all true e);
      stands = n ∙ ap (λ (d : ℕ). stand (d + 1)) (sym done_is);
      least = w ∙ least_more slacks r.done r.margin x h.least (v ∙ ap slacks (sym done_is));
      entries = over_more slacks l out r.done x h.entries (v ∙ ap slacks (sym done_is));
    }

    -- the plant that the next substep starts from
    pub stands_at : state_of r.plant ≡ stand k
    stands_at = h.stands ∙ ap stand done_is

module _ (t : Forecast) (stand : ℕ → State) (l : List Float) (k : ℕ) (r : Run) (out : List Float) where
  pub along_zero : CameAlong t stand l k r out → CameAlong t stand l (k + 0) r out
  along_zero h = subst (λ (m : ℕ). CameAlong t stand l m r out) (sym (add-zero k)) h

  pub along_sum : (i j : ℕ) → CameAlong t stand l (k + i + j) r out → CameAlong t stand l (k + (i + j)) r out
  along_sum i j h = subst (λ (m : ℕ). CameAlong t stand l m r out) (add_assoc k i j) h

  pub along_at : (m : ℕ) → m ≡ k → CameAlong t stand l m r out → CameAlong t stand l k r out
  along_at m e h = subst (λ (m : ℕ). CameAlong t stand l m r out) e h

  -- a run that has stopped has come along all that is left
  pub along_rest : r.sound ≡ false → CameAlong t stand l k r out → (m : ℕ) → CameAlong t stand l (k + m) r out
  along_rest s h zero = along_zero h
  along_rest s h (suc m) = subst (λ (j : ℕ). CameAlong t stand l j r out) (add_assoc k m 1 ∙ ap (λ (j : ℕ). k + j) (add-one m)) (along_stopped t stand l (k + m) r out (along_rest s h m) s)

-- ---- the start and the end of a run

module _ (t : Forecast) (stand : ℕ → State) (l : List Float) where
  pub along_start : (s : Plant) → state_of s ≡ stand 0 → CameAlong t stand l 0 (record { plant = s; margin = inf false; done = 0; sound = true }) l
  unfolding leading all least over
  along_start s e = record { written = refl; whole = refl; stands = e; least = refl; entries = refl }

  module _ (r : Run) (out : List Float) (h : CameAlong t stand l t.count r out) where
    pub run_is : r ≡ run_of t stand
    run_is = same r (run_of t stand) (ap plant_from h.stands ∙ ap (λ (d : ℕ). plant_from (stand d)) h.written) (h.least ∙ ap (least (slack_at t)) h.written) h.written h.whole
      where
        same : (r q : Run) → r.plant ≡ q.plant → r.margin ≡ q.margin → r.done ≡ q.done → r.sound ≡ q.sound → r ≡ q
        same r q a b c d = λ i. record { plant = a i; margin = b i; done = c i; sound = d i }

    pub written_is : out ≡ written_of t l
    unfolding written_of
    written_is = h.entries ∙ ap (over (slack_at t) l) h.written
