use Rattle.std.proofs.Common.{◌<◌, true, refl, sym, subst, length}
use Rattle.std.specs.Vec.{with_item}
use Rattle.std.proofs.lemmas.Option.{slice_get_read}
use Rattle.jr_model.specs.declared.events.Event.TheVariants.{Skip}
use Rattle.jr_backlog.specs.Deferred.{Deferred, round_now}
use Rattle.jr_laws_steps.specs.Nexts.{grown}
use Rattle.jr_desk_state.specs.Standings.{IsStanding}
use Rattle.jr_desk_state.proofs.StandingMoves.{skip_moves}
use Rattle.jr_desk_state.proofs.StartingStandings.{fewer_passed}
use Rattle.jr_desk_state.proofs.standings.Standing.skip.Goals as goal

pub returns-clause-kept : goal.returns-clause-kept
returns-clause-kept c plan history job worker next at now =
    let s = c.args.self.now in
    let old = c.index_mut.result.now in
    let write = c.args.write in
    let issued = with_item s.issued write.number (record old { is_taken_up = true }) in
    subst (λ (rounds : Deferred). IsStanding (grown history (Skip worker write)) job (record s { issued = issued; rounds = rounds }))
    (sym c.passed.ensures)
    (skip_moves plan history job s now worker write old next at
    (slice_get_read s.issued.items (length s.issued.items) write.number old refl c.requires.there c.index_mut.ensures.value)
    c.requires.settled)

pub returns-clause-fewer : goal.returns-clause-fewer
returns-clause-fewer c =
    let rounds = c.args.self.now.rounds in
    subst (λ (d : Deferred). length (round_now d).to_check < length (round_now rounds).to_check) (sym c.passed.ensures)
    (fewer_passed rounds c.args.write c.requires.settled c.requires.left)
