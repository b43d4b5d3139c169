-- The clone stands where it stood: its round comes to the same, and nothing else is changed but the draws to come.
use Rattle.std.proofs.Common.{◌≡◌, length, suc, refl, sym, ◌∙◌, ap, subst}
use Rattle.std.specs.Prelude.{IfSome}
use Rattle.jr_model.specs.Draws.{draws_of_job}
use Rattle.jr_backlog.specs.Deferred.{round_now}
use Rattle.jr_backlog.specs.Rounds.{Round}
use Rattle.jr_desk_state.proofs.StandingSets.{round_put_in, standing_kept}
use Rattle.jr_desk_state.proofs.standings.Standing.prepare.Goals as goal

pub returns-in_err-commit-clause-kept : goal.returns-in_err-commit-clause-kept
returns-in_err-commit-clause-kept c history is =
    standing_kept history c.args.job.now c.args.self.now _ refl refl is.later refl (ap round_now c.in_err-commit.ensures.err) is

pub returns-in_err-reserve-clause-kept : goal.returns-in_err-reserve-clause-kept
returns-in_err-reserve-clause-kept c history is =
    standing_kept history c.args.job.now c.args.self.now _ refl refl is.later c.in_err-reserve.ensures.items
    (round_put_in c.args.self.now.rounds c.commit.new.self c.in_ok-commit.ensures.ok) is

pub returns-in_err-make_later-clause-kept : goal.returns-in_err-make_later-clause-kept
returns-in_err-make_later-clause-kept c history is =
    let made = c.in_err-make_later.ensures in
    let job = c.args.job.now in
    standing_kept history job c.args.self.now _ made.pass made.draws
    (subst (λ later. IfSome later (λ draws. draws ≡ draws_of_job job (suc c.args.self.now.pass))) (sym made.err) is.later)
    (ap (λ issued. issued.items) made.issued ∙ c.reserve.ensures.items)
    (ap round_now made.rounds ∙ round_put_in c.args.self.now.rounds c.commit.new.self c.in_ok-commit.ensures.ok) is

pub returns-in_ok-make_later-clause-kept : goal.returns-in_ok-make_later-clause-kept
returns-in_ok-make_later-clause-kept c history is =
    let made = c.in_ok-make_later.ensures in
    standing_kept history c.args.job.now c.args.self.now _ made.pass made.draws made.ok
    (ap (λ issued. issued.items) made.issued ∙ c.reserve.ensures.items)
    (ap round_now made.rounds ∙ round_put_in c.args.self.now.rounds c.commit.new.self c.in_ok-commit.ensures.ok) is

pub returns-in_ok-make_later-clause-left : goal.returns-in_ok-make_later-clause-left
returns-in_ok-make_later-clause-left c =
    ap (λ (round : Round). length round.to_check)
    (ap round_now c.in_ok-make_later.ensures.rounds ∙ round_put_in c.args.self.now.rounds c.commit.new.self c.in_ok-commit.ensures.ok)

pub returns-else-is_over-clause-kept : goal.returns-else-is_over-clause-kept
returns-else-is_over-clause-kept c history is =
    standing_kept history c.args.job.now c.args.self.now _ refl refl is.later c.in_ok-reserve.ensures.items
    (round_put_in c.args.self.now.rounds c.commit.new.self c.in_ok-commit.ensures.ok) is

pub returns-else-is_over-clause-left : goal.returns-else-is_over-clause-left
returns-else-is_over-clause-left c = ap (λ (round : Round). length round.to_check) (round_put_in c.args.self.now.rounds c.commit.new.self c.in_ok-commit.ensures.ok)
