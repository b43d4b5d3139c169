-- Believed: the run that a trace is of (of this project).
use Rattle.std.specs.Prelude.{◌≡◌, ℕ, true, List, Ok}
use Rattle.jr_model.specs.Legal.{is_complete, is_legal}
use Rattle.jr_model.specs.Plan.{Plan}
use Rattle.jr_model.specs.Report.{all_totals}
use Rattle.jr_replay_traces.specs.TraceChecks.{history_in}
use Rattle.jr_replay_traces.specs.declared.checks.Checked.{Checked}

-- a legal history of the plan, its totals, and whether it is complete
pub record IsLegalRun (plan : Plan) (run : Checked) : Type 0 where
  pub legal : is_legal plan run.past ≡ true
  pub totals : run.totals.items ≡ all_totals plan run.past
  pub complete : run.is_complete ≡ is_complete plan run.past

-- the history is the one that the text says
pub record IsRunIn (plan : Plan) (text : List ℕ) (run : Checked) : Type 0 where
  pub read : history_in plan text ≡ Ok run.past
  pub legal : IsLegalRun plan run
