use Rattle.std.proofs.Common.{length, ℕ, refl, ap, ◌∙◌, None}
use Rattle.jr_backlog.specs.Rounds.{new_round}
use Rattle.jr_backlog.specs.Deferred.{Deferred, committed_round, round_now}
use Rattle.jr_desk_state.proofs.IssueMoves.{first_standing}
use Rattle.jr_desk_state.proofs.standings.Standing.new.Goals as goal

pub returns-clause-stands : goal.returns-clause-stands
returns-clause-stands c =
    λ plan planned there.
    first_standing plan c.args.job.now planned there (record { pass = 0; draws = c.in_ok-of_pass.field-0; later = None; issued = c.new.result; rounds = c.new-2.result })
    refl c.in_ok-of_pass.ensures refl c.new.ensures.items (c.new-2.ensures ∙ ap (λ (n : ℕ). committed_round (new_round n)) c.backlog.ensures)

pub returns-clause-left : goal.returns-clause-left
returns-clause-left c = ap (λ (d : Deferred). length (round_now d).to_check) c.new-2.ensures
