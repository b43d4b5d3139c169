use Rattle.std.proofs.Common.{ℕ, List, sym, ap, ◌∙◌}
use Rattle.std.specs.Prelude.{Option, unwrap_or, count_by}
use Rattle.jr_model.specs.declared.events.Event.{Event}
use Rattle.jr_model.specs.Rounds.{issued_count}
use Rattle.jr_replay_history.specs.Marks.{is_issue_in}
use Rattle.jr_replay_history.proofs.MarkLemmas.{issued_is}
use Rattle.jr_replay_history.proofs.ledgers.Ledger.issued_count.Goals as goal

pub returns : goal.returns
returns c = λ pass same_clone same_number.
    let events = c.self.inside.events.items in
    c.unwrap_or.ensures
    ∙ ap (λ (o : Option ℕ). unwrap_or o 0) (c.copied.ensures ∙ c.get.ensures.value)
    ∙ c.self.invariant.all_marked.issued (c.args.clone, c.args.number)
    ∙ ap (λ (clone : ℕ). count_by (is_issue_in (clone, c.args.number)) events) (sym same_clone)
    ∙ ap (λ (number : ℕ). count_by (is_issue_in (pass.job.clone, number)) events) (sym same_number)
    ∙ issued_is pass events
    ∙ ap (λ (history : List Event). issued_count history pass) c.self.view_is
