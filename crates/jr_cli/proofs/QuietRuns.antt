-- Where the status is 0 and no two clones have one file, the report is that of the draws alone.
use Rattle.std.proofs.Common.{◌≡◌, ℕ, List, true, sym, ◌∙◌, subst}
use Rattle.std.specs.Prelude.{Option}
use Rattle.std.specs.Io.KnownBytes.{Appends}
use Rattle.jr_model.specs.declared.events.Event.{Event}
use Rattle.jr_model.specs.Legal.{is_legal, is_complete}
use Rattle.jr_model.specs.Plan.{Plan}
use Rattle.jr_model.specs.PlanFacts.{IsPlanned}
use Rattle.jr_laws_quiet.specs.Quiet.{NothingRaced}
use Rattle.jr_laws_quiet.proofs.Reports.{quiet_run_unraced}
use Rattle.jr_cli_ends.proofs.FaultlessRuns.{quiet_status}
use Rattle.jr_cli.specs.Executed.{IsReported, IsQuietlyReported}

-- what is reported of a desk is that of its plan and history
pub reported_on : (found plan : Plan) (kept history : List Event) (blank written : Option (List ℕ)) (status : ℕ) → found ≡ plan → kept ≡ history → IsReported found kept blank written status → IsReported plan history blank written status
reported_on found plan kept history blank written status same_plan same_history reported =
    subst (λ (h : List Event). IsReported plan h blank written status) same_history
    (subst (λ (p : Plan). IsReported p kept blank written status) same_plan reported)

-- so what is reported is the quiet report
pub quietly_reported : (plan : Plan) (history : List Event) (blank written : Option (List ℕ)) (status : ℕ) → IsPlanned plan → NothingRaced history → is_legal plan history ≡ true → is_complete plan history ≡ true → IsReported plan history blank written status → IsQuietlyReported plan blank written status
quietly_reported plan history blank written status planned raceless legal complete reported apart clean =
    let quiet = quiet_status plan history planned legal (sym reported.ends ∙ clean) in
    subst (λ (text : List ℕ). Appends blank written text) (quiet_run_unraced plan history planned raceless apart legal complete quiet) reported.report
