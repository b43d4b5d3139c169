-- Claimed: laws of the running counts: which tests are comparisons of them, and what they are after one event more.
use Rattle.std.specs.Prelude.{◌≡◌, ◌≤◌, ◌*◌, set, ℕ, suc, ◌+◌, ◌==◌, nat_lt, true, false, ◌&&◌, ◌||◌, List, [], ◌∷◌, ◌++◌, length, Some, None, slice_get}
use Rattle.std.specs.List.{list_all, cons_option}
use Rattle.jr_model.specs.declared.events.Event.{Event}
use Rattle.jr_model.specs.declared.events.Event.TheVariants.{End, Verdict}
use Rattle.jr_model.specs.declared.events.Outcome.{Outcome}
use Rattle.jr_model.specs.declared.events.Outcome.TheVariants.{Whole}
use Rattle.jr_model.specs.declared.events.Started.{Started}
use Rattle.jr_model.specs.declared.events.Verdict.{Verdict as GivenVerdict}
use Rattle.jr_model.specs.History.{started, in_flight, in_flight_of, awaiting, outcome_of, is_judged, is_judged_kind, is_probe}
use Rattle.jr_model.specs.declared.limits.TheConstants.{LARGEST_BLOCK}
use Rattle.jr_model.specs.declared.totals.Totals.{Totals}
use Rattle.jr_model.specs.Machine.{work_of}
use Rattle.jr_model.specs.Legal.{is_complete, is_legal, may_happen, is_halted, is_over, is_at_rest, has_room}
use Rattle.jr_model.specs.Plan.{Plan, SubJob, clone_of}
use Rattle.jr_model.specs.Report.{miscompares, all_totals}
use Rattle.jr_model.specs.Rounds.{no_issue_flies, nothing_flies_of}
use Rattle.jr_model.specs.Totals.{totals_of}
use Rattle.jr_model.specs.PlanFacts.{IsPlanned}
use Rattle.jr_desk_totals.specs.Tallies.{flying_issues, flying_checks, awaited, tally_of, tally_after, totals_after, named_in, halted_by, miscompare_in, concerns}

-- the tests of a clone, as comparisons of its counts
pub record AreCompared (history : List Event) (job : SubJob) : Type 0 where
  pub flying : length (in_flight_of history job.clone) ≡ flying_issues history job.clone + flying_checks history job.clone
  pub room : has_room history job ≡ nat_lt (flying_issues history job.clone + flying_checks history job.clone) job.depth
  pub none : nothing_flies_of history job.clone ≡ (flying_issues history job.clone + flying_checks history job.clone == 0)
  pub no_issue : no_issue_flies history job.clone ≡ (flying_issues history job.clone == 0)
  pub rest : is_at_rest history job ≡ (is_over history job && (flying_issues history job.clone + flying_checks history job.clone == 0) && (awaited history job.clone == 0))

abbrev pub TestsAreCompared : Type 0
TestsAreCompared = (history : List Event) (job : SubJob) → AreCompared history job

-- nothing is in flight where no clone of the plan has anything in flight; and the same of verdicts to come
pub record AreAll (plan : Plan) (history : List Event) : Type 0 where
  pub flying : (length (in_flight history) == 0) ≡ list_all (λ (job : SubJob). flying_issues history job.clone + flying_checks history job.clone == 0) plan.clones
  pub verdicts : (length (awaiting history) == 0) ≡ list_all (λ (job : SubJob). awaited history job.clone == 0) plan.clones
  pub complete : is_complete plan history ≡ (list_all (λ (job : SubJob). flying_issues history job.clone + flying_checks history job.clone == 0) plan.clones && list_all (λ (job : SubJob). awaited history job.clone == 0) plan.clones && list_all (is_over history) plan.clones)

abbrev pub ClonesAreAll : Type 0
ClonesAreAll = (plan : Plan) (history : List Event) → IsPlanned plan → is_legal plan history ≡ true → AreAll plan history

-- what one event more makes of the counts, the totals, the halts and the bad verdicts
pub record IsAfter (history : List Event) (event : Event) : Type 0 where
  pub tally : (c : ℕ) → tally_of (history ++ event ∷ []) c ≡ tally_after c (named_in (started history) event) event (tally_of history c)
  pub totals : (c : ℕ) → totals_of (history ++ event ∷ []) c ≡ totals_after c (named_in (started history) event) event (totals_of history c)
  pub halted : (job : SubJob) → is_halted (history ++ event ∷ []) job ≡ (is_halted history job || halted_by job (named_in (started history) event) event)
  pub bads : miscompares (history ++ event ∷ []) ≡ miscompares history ++ cons_option (miscompare_in (named_in (started history) event) event) []

abbrev pub OneEventMore : Type 0
OneEventMore =
    (plan : Plan) (history : List Event) (event : Event)
    → is_legal plan history ≡ true
    → may_happen plan history event ≡ true
    → IsAfter history event

-- the I/O that an End names flies, and is counted
pub record EndsCounted (history : List Event) (io : ℕ) (event : Event) : Type 0 where
  pub ended : Started
  pub there : slice_get (started history) io ≡ Some ended
  pub flies : outcome_of history io ≡ None
  pub issue : is_probe ended.kind ≡ false → flying_issues history ended.write.clone ≡ suc (flying_issues (history ++ event ∷ []) ended.write.clone)
  pub check : is_probe ended.kind ≡ true → flying_checks history ended.write.clone ≡ suc (flying_checks (history ++ event ∷ []) ended.write.clone)

abbrev pub EndsAreCounted : Type 0
EndsAreCounted =
    (plan : Plan) (history : List Event) (worker io : ℕ) (outcome : Outcome)
    → is_legal plan history ≡ true
    → may_happen plan history (End worker io outcome) ≡ true
    → EndsCounted history io (End worker io outcome)

-- the check or checked read that a Verdict names ended whole, has no verdict, and is counted
pub record JudgesCounted (history : List Event) (io : ℕ) (event : Event) : Type 0 where
  pub judged : Started
  pub there : slice_get (started history) io ≡ Some judged
  pub check : is_judged_kind judged.kind ≡ true
  pub ended : outcome_of history io ≡ Some Whole
  pub unjudged : is_judged history io ≡ false
  pub verdict : awaited history judged.write.clone ≡ suc (awaited (history ++ event ∷ []) judged.write.clone)

abbrev pub VerdictsAreCounted : Type 0
VerdictsAreCounted =
    (plan : Plan) (history : List Event) (worker io : ℕ) (verdict : GivenVerdict)
    → is_legal plan history ≡ true
    → may_happen plan history (Verdict worker io verdict) ≡ true
    → JudgesCounted history io (Verdict worker io verdict)

-- how large the counts and totals are: each I/O flies or ended, and ended in one way; each that gets a verdict flies, awaits it or
-- has it, if it ended whole; a write is skipped once
pub record AreFew (plan : Plan) (history : List Event) (c : ℕ) (t : Totals) : Type 0 where
  pub ended : t.reads + t.writes + t.faults + (flying_issues history c + flying_checks history c) ≤ length (started history)
  pub judged : t.checks + t.void + awaited history c + (flying_issues history c + flying_checks history c) ≤ length (started history)
  pub found : t.good + t.bad ≡ t.checks
  pub skipped : t.skipped ≤ work_of plan
  pub rbytes : t.rbytes ≤ t.reads * LARGEST_BLOCK
  pub wbytes : t.wbytes ≤ t.writes * LARGEST_BLOCK

abbrev pub CountsAreFew : Type 0
CountsAreFew =
    (plan : Plan) (history : List Event) (c : ℕ)
    → IsPlanned plan
    → is_legal plan history ≡ true
    → AreFew plan history c (totals_of history c)

-- an event changes the totals of the clone alone that it is about
abbrev pub OneCloneChanges : Type 0
OneCloneChanges =
    (plan : Plan) (history : List Event) (event : Event) (c : ℕ) (job : SubJob)
    → IsPlanned plan
    → is_legal plan history ≡ true
    → may_happen plan history event ≡ true
    → clone_of plan c ≡ Some job
    → concerns c (named_in (started history) event) event ≡ true
    → all_totals plan (history ++ event ∷ []) ≡ set (all_totals plan history) c (totals_after c (named_in (started history) event) event (totals_of history c))
