use Rattle.std.proofs.Common.{◌≡◌, IfOk, inl, inr, sym, subst, ap, ◌∙◌}
use Rattle.jr_replay_traces.specs.declared.entries.Entry.{Entry}
use Rattle.jr_replay_traces.specs.TraceChecks.{legal_event}
use Rattle.jr_replay_traces.proofs.EventLemmas.{IsFound, legal_issue_is, legal_probe_is, legal_skip_is, legal_verdict_is}
use Rattle.jr_replay_traces.proofs.legal.legal_event.Goals as goal

pub returns-in-Issue-clause-event : goal.returns-in-Issue-clause-event
returns-in-Issue-clause-event c =
    let plan = c.args.plan.now in
    let history = c.args.course.now.history in
    let found : IsFound plan history c.args.entry.now =
    elim c.in-Issue.is [
      | inl issue ↦ subst (IsFound plan history) (sym issue.1) (legal_issue_is plan history issue.0)
      | inr (inl probe) ↦ subst (IsFound plan history) (sym probe.1) (legal_probe_is plan history probe.0)
      | inr (inr skip) ↦ subst (IsFound plan history) (sym skip.2) (legal_skip_is plan history skip.0 skip.1)
    ] in
    subst (λ said. IfOk c.legal_start.result (λ event. event ≡ said)) found c.legal_start.ensures.event

pub returns-in-Verdict-clause-event : goal.returns-in-Verdict-clause-event
returns-in-Verdict-clause-event c =
    c.judged.ensures
    ∙ legal_verdict_is c.args.plan.now c.args.course.now.history c.in-Verdict.by c.in-Verdict.io c.in-Verdict.finding
    ∙ ap (λ (entry : Entry). legal_event c.args.plan.now c.args.course.now.history entry) (sym c.in-Verdict.is)
