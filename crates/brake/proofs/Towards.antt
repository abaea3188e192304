-- A run under one setpoint: what is judged before anything is computed comes first, and where that passes the run decides.
use Prim.Native.Nat.{ℕ, suc, ◌+◌, ◌≤◌}
use mathlib.Core.Path.{◌≡◌, refl, sym, ap, ◌∙◌}
use mathlib.Core.Bool.{Bool, true, false, not, ◌||◌}
use mathlib.Core.List.{List, [], ◌∷◌, ◌++◌}
use native.Mathlib.Numerals.{add-one}
use native.Mathlib.Omega.{arith}
use borrow.Author.Tests.{ne_eqb, ltb-false, le-leb}
use lib.Dec.{eqb, ltb}
use lib.ListN.{length}
use lib.Ieee.{Float, Format}
use Rattle.refusal.specs.Order.{Judged, short, not_finite, computed, ◌when◌, refusal, or_later, judged_by, refused_for}
use Rattle.std.specs.Prelude.{if◌then◌else◌, Err, Result, ⊤}
use Rattle.refusal.specs.Chain.{chain, joined, first_refuses, first_passes, both_pass, passes_at}
use Rattle.refusal.specs.declared.Refusal.{Refusal}
use Rattle.refusal.proofs.Entry.{left_kept}
use Rattle.fmath.specs.Answer.{some_lent_not_finite}
use Rattle.checked.specs.Each.{at, all, over, every, every_from}
use Rattle.checked.proofs.Each.{neither}
use Rattle.conformal.specs.Rule.{Tables}
use Rattle.envelope.specs.Refusals.{config_judged}
use Rattle.envelope.specs.declared.FuseConfig.{FuseConfig}
use Rattle.envelope.proofs.Accepted.{accepted, dim_least, dim_most, pos_dim_least}
use Rattle.workspace.specs.declared.Workspace.{Workspace}
use Rattle.workspace.specs.Of.{walls_of}
use Rattle.course.specs.declared.Plant.{Plant}
use Rattle.course.specs.declared.Run.{Run}
use Rattle.course.specs.Of.{state_of, no_run}
use Rattle.rollout.specs.declared.Law.{Law}
use Rattle.rollout.specs.Plant.{Gains}
use Rattle.rollout.specs.Leg.{leg_in, leg}
use Rattle.rollout.specs.Of.{gains_of, leg_of, leg_run, leg_roomy}
use Rattle.course.specs.Forecast.{Forecast, fine, leading_in, place_of, margin_of, written_of}
use Rattle.course.proofs.Leading.{leading_whole, leading_le}
use Rattle.brake.specs.declared.Ran.{Ran}
use Rattle.brake.specs.Rule.{live}
use Rattle.brake.specs.Answer.{too_short}
use Rattle.brake.specs.Towards.{gains_in, leg_at, run_short, ran_to, running, plant_at, run_lent, run_refusal, run_answer, run_slacks, run_position, run_velocity, ran_with}
use Rattle.brake.specs.Of.{workspace_for, start_for, run_for, Lends}
use Rattle.brake.proofs.Judged.{never}

module _ (f : Format) (c : FuseConfig) (tabs : Tables) (a p v : List Float) (n : ℕ) where
  module _ (room : ℕ) where
    abbrev brief : Bool
    brief = run_short c.dim c.pos_dim (length a) (length p) (length v) n room

    abbrev unfit : Bool
    unfit = some_lent_not_finite (a ∷ p ∷ v ∷ [])

    -- what is judged before anything is computed, and its number from that of each part
    abbrev pub before : List Judged
    before = config_judged f c tabs ++ run_lent f c a p v n room

    pub before_is : {k lent r : Result ⊤ Refusal} {s u : Bool} → k ≡ judged_by (refusal (config_judged f c tabs)) → lent ≡ judged_by (if s then 11 else (if u then 12 else 0)) → s ≡ brief → u ≡ unfit → r ≡ or_later k lent → r ≡ judged_by (refusal before)
    before_is ek el es eu er = joined (config_judged f c tabs) (run_lent f c a p v n room) ek (el ∙ rw (es, eu)) er

    -- what is known where nothing is refused yet
    pub lends : refusal before ≡ 0 → Lends c (length a) (length p) (length v) n room
    unfolding run_short too_short
    lends z =
        let w = both_pass (config_judged f c tabs) (run_lent f c a p v n room) z in
        let fit = accepted f c tabs w.0 in
        let b = (passes_at short brief (not_finite when unfit ∷ []) w.1).0 in
        let s = neither (ltb (length a) c.dim) (too_short c.pos_dim (length p) (length v) n room) b in
        let t = neither (ltb (length p) c.pos_dim || ltb (length v) c.pos_dim) (ltb room n) s.1 in
        let q = neither (ltb (length p) c.pos_dim) (ltb (length v) c.pos_dim) t.0 in
        record {
          narrow = dim_most f c tabs fit;
          moves = omega (arith, dim_least f c tabs fit, pos_dim_least f c tabs fit);
          aims = ltb-false (length a) c.dim s.0;
          places = ltb-false (length p) c.pos_dim q.0;
          rates = ltb-false (length v) c.pos_dim q.1;
          space = ltb-false room n t.1;
        }

-- what the code builds is the configuration's
module _ (f : Format) (c : FuseConfig) (a p v : List Float) (n : ℕ) where
  module _ {law : Law} {w : Workspace} {axes : ℕ} {start : Plant} {room : ℕ} (lent : Lends c (length a) (length p) (length v) n room)
      (el : gains_of law ≡ gains_in c.brake.kind) (ew : w ≡ workspace_for f c) (en : axes ≡ live c) (es : start ≡ start_for c p v) where
    roomy : leg_roomy axes (length a) n room ≡ true
    unfolding leg_roomy every every_from
    roomy =
        let b = lent.narrow in
        let d = lent.moves in
        let e = lent.aims in
        rw (le-leb 1 axes (omega arith), le-leb axes 8 (omega arith), le-leb axes (length a) (omega arith), le-leb n room lent.space)

    leg_is : leg_of f law w axes a ≡ leg_at f c a
    leg_is = ap (λ (g : Gains). leg_in f g (walls_of w) axes a) el ∙ rw (ew, en)

    pub run_is : {r : Run} → r ≡ (if leg_roomy axes (length a) n room then leg_run f (leg_of f law w axes a) start n else no_run start) → r ≡ run_for f c a p v n
    run_is e = e ∙ rw (roomy, leg_is, es)

    pub written_is : (l : List Float) {out : List Float} → out ≡ (if leg_roomy axes (length a) n room then written_of (leg f (leg_of f law w axes a) (state_of start) n) l else l) → out ≡ written_of (running f c a p v n) l
    written_is l e = e ∙ rw (roomy, leg_is, es)

module _ (f : Format) (c : FuseConfig) (tabs : Tables) (a p v : List Float) (n : ℕ) where
  abbrev whole : Forecast
  whole = running f c a p v n

  -- what is judged last
  abbrev rest : List Judged
  rest = computed when not (eqb (place_of whole) 0) ∷ []

  -- the whole answer, with the entries l, the position and the velocity as they are left
  pub record Answered (l : List Float) (r : Result Ran Refusal) (entries places rates : List Float) : Type 0 where
    pub gives : r ≡ run_answer f c tabs a p v n (length l)
    pub slacks : entries ≡ run_slacks f c tabs a p v n l
    pub position : places ≡ run_position f c tabs a p v n (length l)
    pub velocity : rates ≡ run_velocity f c tabs a p v n (length l)

  module _ (l : List Float) where
    pub refused : {k : ℕ} → k ≡ refusal (before f c tabs a p v n (length l)) → (k ≡ 0 → ⊥) → {r : Refusal} → r ≡ refused_for k → Answered l (Err r) l p v
    unfolding run_answer run_slacks run_position run_velocity run_refusal
    refused {k} g y i =
        let b = before f c tabs a p v n (length l) in
        let z : chain (b ++ rest) ≡ k = first_refuses b rest (λ q. y (g ∙ q)) ∙ sym g in
        let j = ne_eqb k 0 y in
        let m = ne_eqb k 13 (λ q. never 13 b (λ o. omega arith) refl (sym g ∙ q)) in
        record { gives = rw (z, j, m, i); slacks = rw (z, j, m); position = rw z (sym (left_kept p _ k y)); velocity = rw z (sym (left_kept v _ k y)) }

    -- where that passes, the place of the first number that isn't finite decides
    module _ (passes : refusal (before f c tabs a p v n (length l)) ≡ 0) where
      pub failed-at : (k : ℕ) → place_of whole ≡ suc k → Answered l (Err (record { number = 13; place = suc k })) (written_of whole l) p v
      unfolding run_answer run_slacks run_position run_velocity run_refusal ran_to
      failed-at k place =
          let j : eqb (place_of whole) 0 ≡ false = ap (λ (i : ℕ). eqb i 0) place ∙ ne_eqb (suc k) 0 (λ o. omega arith) in
          let z : chain (before f c tabs a p v n (length l) ++ rest) ≡ 13 = first_passes (before f c tabs a p v n (length l)) rest passes ∙ rw j in
          record { gives = rw (z, j, place); slacks = rw z; position = rw z; velocity = rw z }

      pub failed-nowhere : place_of whole ≡ 0
          → Answered l (ran_with n (margin_of whole)) (written_of whole l) (over (at (plant_at f c a p v n).p) p (live c)) (over (at (plant_at f c a p v n).v) v (live c))
      unfolding run_answer run_slacks run_position run_velocity run_refusal ran_to
      failed-nowhere place =
          let z : chain (before f c tabs a p v n (length l) ++ rest) ≡ 0 = first_passes (before f c tabs a p v n (length l)) rest passes ∙ rw place in
          record { gives = rw (z, place); slacks = rw z; position = rw z; velocity = rw z }

      -- what the run comes to
      module _ {run : Run} (runs : run ≡ run_for f c a p v n) where
        told : run.sound ≡ all (fine whole) n
        told = ap (λ (x : Run). x.sound) runs

        done : run.done ≡ leading_in whole
        done = ap (λ (x : Run). x.done) runs

        pub done-within : run.done ≤ n
        done-within = let b = leading_le (fine whole) n in omega (arith, done)

        stopped-at : run.sound ≡ false → place_of whole ≡ suc run.done
        unfolding place_of
        stopped-at e = rw (sym told ∙ e, done)

        nowhere : run.sound ≡ true → place_of whole ≡ 0
        unfolding place_of
        nowhere e = rw (sym told ∙ e)

        pub failed : {entries : List Float} → entries ≡ written_of whole l → run.sound ≡ false → Answered l (Err (record { number = 13; place = run.done + 1 })) entries p v
        failed w e =
            let q = failed-at run.done (stopped-at e) in
            record { gives = ap (λ (k : ℕ). Err (record { number = 13; place = k })) (add-one run.done) ∙ q.gives; slacks = w ∙ q.slacks; position = q.position; velocity = q.velocity }

        pub ran-through : {entries places rates : List Float} → entries ≡ written_of whole l → run.sound ≡ true → places ≡ over (at run.plant.p) p (live c) → rates ≡ over (at run.plant.v) v (live c)
            → Answered l (ran_with run.done run.margin) entries places rates
        unfolding margin_of
        ran-through w e x y =
            let q = failed-nowhere (nowhere e) in
            let led : leading_in whole ≡ n = leading_whole (fine whole) n (sym told ∙ e) in
            record {
              gives = rw (runs, led) q.gives;
              slacks = w ∙ q.slacks;
              position = x ∙ rw (runs, led) q.position;
              velocity = y ∙ rw (runs, led) q.velocity;
            }
