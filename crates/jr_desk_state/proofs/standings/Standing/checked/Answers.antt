use Rattle.std.proofs.Common.{◌<◌, length, ◌∙◌, ap, sym, subst}
use Rattle.jr_model.specs.declared.events.Event.TheVariants.{End}
use Rattle.jr_model.specs.declared.events.Outcome.TheVariants.{Whole}
use Rattle.jr_model.specs.declared.events.WriteId.{WriteId}
use Rattle.jr_model.specs.Plan.{clone_of}
use Rattle.jr_backlog.specs.Rounds.{with_passed}
use Rattle.jr_backlog.specs.Deferred.{Deferred, committed_round, round_now}
use Rattle.jr_laws_steps.specs.Nexts.{grown}
use Rattle.jr_desk_state.specs.Standings.{IsStanding}
use Rattle.jr_desk_state.proofs.StandingMoves.{check_moves}
use Rattle.jr_desk_state.proofs.StartingStandings.{fewer_passed}
use Rattle.jr_desk_state.proofs.standings.Standing.checked.Goals as goal

-- src/standings.rt:147:5
pub returns-clause-kept : goal.returns-clause-kept
returns-clause-kept c plan history job worker id io next at check same clone runs now =
    let s = c.args.self.now in
    subst (λ (rounds : Deferred). IsStanding (grown history (End worker id Whole)) job (record s { rounds = rounds }))
    (ap (λ (w : WriteId). committed_round (with_passed s.rounds.round w)) same ∙ sym c.passed.ensures)
    (check_moves plan history job s now worker id io next at check (ap (λ (w : WriteId). clone_of plan w.clone) same ∙ clone)
    c.requires.settled)

pub returns-clause-fewer : goal.returns-clause-fewer
returns-clause-fewer c =
    let rounds = c.args.self.now.rounds in
    subst (λ (d : Deferred). length (round_now d).to_check < length (round_now rounds).to_check) (sym c.passed.ensures)
    (fewer_passed rounds c.args.write c.requires.settled c.requires.left)
