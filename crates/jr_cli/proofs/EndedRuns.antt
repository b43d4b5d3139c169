-- A run was interrupted where it isn't complete.
use Rattle.std.proofs.Common.{◌≡◌, List, Bool, true, false, not, sym, ◌∙◌, ap, subst}
use Rattle.std.specs.Prelude.{Option, Some, None, is_some}
use Rattle.std.specs.Borrow.{Bor}
use Rattle.jr_model.specs.declared.events.Event.{Event}
use Rattle.jr_model.specs.Plan.{Plan}
use Rattle.jr_desk.specs.DeskState.{DeskState}
use Rattle.jr_crew_threads.specs.declared.watch.StopFlag.{StopFlag}
use Rattle.jr_crew_threads.specs.declared.watch.StopRequest.{StopRequest}
use Rattle.jr_crew_threads.specs.Stops.{IsCompleteOrAsked}
use Rattle.jr_cli.specs.Executed.{IsDeskOf}
use Rattle.jr_report_faults.specs.declared.faults.Faults.{Faults}
use Rattle.jr_report_faults.specs.Faults.{AreFaultsOf}

-- a run says that it was interrupted where it isn't complete
interrupted_if : (stop : Option (Bor StopFlag)) (complete : Bool) (asked : Option StopRequest) → IsCompleteOrAsked stop complete asked → is_some asked ≡ not complete
interrupted_if stop complete None said = sym (ap not said)
interrupted_if stop complete (Some request) said = sym (ap not said.0)

whole_if : (stop : Option (Bor StopFlag)) (complete : Bool) (asked : Option StopRequest) → IsCompleteOrAsked stop complete asked → is_some asked ≡ false → complete ≡ true
whole_if stop complete None said whole = said
whole_if stop complete (Some request) said whole = cc

-- what is said of the run's request is said of the one that is handed on
module _ (stop : Option (Bor StopFlag)) (complete : Bool) (asked told : Option StopRequest) (said : IsCompleteOrAsked stop complete asked) (same : told ≡ asked) where
  pub asked_on : IsCompleteOrAsked stop complete told
  asked_on = subst (λ (request : Option StopRequest). IsCompleteOrAsked stop complete request) (sym same) said

  pub interrupted_on : is_some told ≡ not complete
  interrupted_on = interrupted_if stop complete told asked_on

  pub complete_on : is_some told ≡ false → complete ≡ true
  complete_on = whole_if stop complete told asked_on

  pub uninterrupted_on : complete ≡ true → is_some told ≡ false
  uninterrupted_on whole = interrupted_on ∙ ap not whole

-- what is said of the desk's plan is said of the run's: its faults
pub faults_on : (found plan : Plan) (history : List Event) (faults told : Faults) → found ≡ plan → AreFaultsOf found history faults → told ≡ faults → AreFaultsOf plan history told
faults_on found plan history faults told same are said =
    subst (λ (f : Faults). AreFaultsOf plan history f) (sym said) (subst (λ (p : Plan). AreFaultsOf p history faults) same are)

-- and so is its desk, as it is handed on
pub desk_on : (found told : DeskState) (plan : Plan) → found.plan ≡ plan → told ≡ found → IsDeskOf plan found.history told
desk_on found told plan same said = record {
  planned = ap (λ (d : DeskState). d.plan) said ∙ same;
  happened = ap (λ (d : DeskState). d.history) said;
}
