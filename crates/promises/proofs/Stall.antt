-- Where an entry accepts, neither 1 nor 17 applies to its configuration, which then names Stall nowhere.
use mathlib.Core.Path.{◌≡◌}
use mathlib.Core.Bool.{true, false, not}
use borrow.Author.Tests.{not-false}
use lib.Ieee.{binary64}
use Rattle.refusal.specs.Order.{Reason, size, withdrawn, among}
use Rattle.checked.proofs.Each.{neither}
use Rattle.conformal.specs.Promises.{NamesNoStall}
use Rattle.conformal.specs.Rule.{Tables}
use Rattle.envelope.specs.Refusals.{sizes_ok, features_ok, config_judged}
use Rattle.envelope.specs.declared.FuseConfig.{FuseConfig}
use Rattle.envelope.proofs.Promises.{no_stall}
use Rattle.promises.specs.Stall.{NamedNowhere, AcceptedNamesNoStall}
use Rattle.promises.proofs.Exactly.{check_action_exactly, check_chunk_exactly, features_exactly, brake_feasible_exactly, run_towards_exactly, brake_action_exactly, hold_action_exactly}

module _ (c : FuseConfig) (tabs : Tables) (set : c.calibrated ≡ true) where
  neither_applies : not (sizes_ok c) ≡ false → not (features_ok c) ≡ false → NamesNoStall c.calib
  neither_applies one seventeen = no_stall c set (not-false (sizes_ok c) one) (not-false (features_ok c) seventeen)

  named_nowhere : NamedNowhere c tabs
  named_nowhere = record {
    by_check_action = λ p aux prev a room e. let h = (check_action_exactly c tabs p aux prev a room).1.1 e in neither_applies (h size) (h withdrawn);
    by_check_chunk = λ p aux rows k room e. let h = (check_chunk_exactly c tabs p aux rows k room).1.1 e in neither_applies (h size) (h withdrawn);
    by_features = λ p ext there k rows rt sc e.
        let all = (features_exactly c tabs p ext there k rows rt sc).1.1 e in
        let h : (r : Reason) → among (config_judged binary64 c tabs) r ≡ false = λ r. (neither _ _ (neither _ _ (all r)).0).0 in
        neither_applies (h size) (h withdrawn);
    by_brake_feasible = λ p v rows k from room e. let h = (brake_feasible_exactly c tabs p v rows k from room).1.1 e in neither_applies (h size) (h withdrawn);
    by_run_towards = λ a p v n room e. let h = (run_towards_exactly c tabs a p v n room).1.1 e in neither_applies (h size) (h withdrawn);
    by_brake_action = λ p v last room e. let h = (brake_action_exactly c tabs p v last room).1.1 e in neither_applies (h size) (h withdrawn);
    by_hold_action = λ p last room e. let h = (hold_action_exactly c tabs p last room).1.1 e in neither_applies (h size) (h withdrawn);
  }

pub accepted_names_no_stall : AcceptedNamesNoStall
accepted_names_no_stall = named_nowhere
