use Rattle.std.proofs.Common.{refl, sym, ◌∙◌, ap}
use Rattle.std.specs.Prelude.{Some}
use Rattle.jr_model.specs.declared.events.Event.TheVariants.{Issue, Probe, Skip}
use Rattle.jr_desk_state.proofs.Takings.{taking_on, taken_none, taken_one, chosen_may, chosen_step, chosen_skip, chosen_issue, chosen_probe}
use Rattle.jr_desk_state.proofs.taking.start_next.Goals as goal

pub returns-in_default-clause-taken : goal.returns-in_default-clause-taken
returns-in_default-clause-taken c =
    taken_none c.args.plan.now c.args.worker c.args.board.now.history.items c.choices.board c.choices.invariant
    (sym c.in_default.ensures.step)

pub skip-requires-clause-may : goal.skip-requires-clause-may
skip-requires-clause-may c =
    let planned = c.choices.invariant.index.planned in
    let history = c.choices.board.history.items in
    chosen_may c.args.plan.now history c.args.worker (Skip c.args.worker c.in-Skip.write) planned
    (chosen_skip c.args.plan.now history c.args.worker c.in-Skip.worker c.in-Skip.write planned
    (sym c.in-Some.ensures.step ∙ ap Some c.in-Skip.is))

pub choices-preserved : goal.choices-preserved
choices-preserved c =
    taking_on c.args.plan.now c.args.worker c.args.board.now.history.items c.choices.board c.skip.new.board c.in-Skip.write c.choices.invariant
    (chosen_skip c.args.plan.now c.choices.board.history.items c.args.worker c.in-Skip.worker c.in-Skip.write c.choices.invariant.index.planned
    (sym c.in-Some.ensures.step ∙ ap Some c.in-Skip.is))
    c.skip.ensures.board c.skip.ensures.ready c.skip.ensures.history

pub issue-ticket-requires-clause-may : goal.issue-ticket-requires-clause-may
issue-ticket-requires-clause-may c =
    let planned = c.choices.invariant.index.planned in
    let history = c.choices.board.history.items in
    chosen_may c.args.plan.now history c.args.worker (Issue c.args.worker c.in-Issue.kind c.in-Issue.write c.in-Issue.piece) planned
    (chosen_issue c.args.plan.now history c.args.worker c.in-Issue.worker c.in-Issue.kind c.in-Issue.write c.in-Issue.piece planned
    (sym c.in-Some.ensures.step ∙ ap Some c.in-Issue.is))

pub returns-in-Issue-clause-taken : goal.returns-in-Issue-clause-taken
returns-in-Issue-clause-taken c =
    let planned = c.choices.invariant.index.planned in
    let history = c.choices.board.history.items in
    taken_one c.args.plan.now c.args.worker c.args.board.now.history.items c.choices.board c.mark_full.new.board
    (Issue c.args.worker c.in-Issue.kind c.in-Issue.write c.in-Issue.piece) _ c.issue-ticket.result c.choices.invariant
    (chosen_issue c.args.plan.now history c.args.worker c.in-Issue.worker c.in-Issue.kind c.in-Issue.write c.in-Issue.piece planned
    (sym c.in-Some.ensures.step ∙ ap Some c.in-Issue.is))
    refl refl (c.mark_full.ensures.history ∙ c.issue-ticket.ensures.history) c.issue-ticket.ensures.ticket

pub probe-ticket-requires-clause-may : goal.probe-ticket-requires-clause-may
probe-ticket-requires-clause-may c =
    let planned = c.choices.invariant.index.planned in
    let history = c.choices.board.history.items in
    chosen_may c.args.plan.now history c.args.worker (Probe c.args.worker c.in-Probe.write c.in-Probe.piece) planned
    (chosen_probe c.args.plan.now history c.args.worker c.in-Probe.worker c.in-Probe.write c.in-Probe.piece planned
    (sym c.in-Some.ensures.step ∙ ap Some c.in-Probe.is))

pub returns-in-Probe-clause-taken : goal.returns-in-Probe-clause-taken
returns-in-Probe-clause-taken c =
    let planned = c.choices.invariant.index.planned in
    let history = c.choices.board.history.items in
    taken_one c.args.plan.now c.args.worker c.args.board.now.history.items c.choices.board c.mark_full-in-Probe.new.board
    (Probe c.args.worker c.in-Probe.write c.in-Probe.piece) _ c.probe-ticket.result c.choices.invariant
    (chosen_probe c.args.plan.now history c.args.worker c.in-Probe.worker c.in-Probe.write c.in-Probe.piece planned
    (sym c.in-Some.ensures.step ∙ ap Some c.in-Probe.is))
    refl refl (c.mark_full-in-Probe.ensures.history ∙ c.probe-ticket.ensures.history) c.probe-ticket.ensures.ticket

pub returns-in-End-clause-taken : goal.returns-in-End-clause-taken
returns-in-End-clause-taken c =
    absurd (chosen_step c.args.plan.now c.choices.board.history.items c.args.worker _ c.choices.invariant.index.planned
    (sym c.in-Some.ensures.step ∙ ap Some c.in-End.is))

pub returns-in-Verdict-clause-taken : goal.returns-in-Verdict-clause-taken
returns-in-Verdict-clause-taken c =
    absurd (chosen_step c.args.plan.now c.choices.board.history.items c.args.worker _ c.choices.invariant.index.planned
    (sym c.in-Some.ensures.step ∙ ap Some c.in-Verdict.is))
