use Rattle.std.proofs.Common.{refl, sym, ap, ◌∙◌, ℕ, ◌||◌}
use Rattle.jr_model.specs.declared.tickets.TicketKind.{TicketKind}
use Rattle.jr_model.specs.Legal.{is_fault}
use Rattle.jr_desk_totals.specs.Tallies.{tally_ended, totals_ended}
use Rattle.jr_desk_totals.specs.Tallying.{counts_with, tally_in}
use Rattle.jr_desk_totals.proofs.TallyMoves.{ended_tallied}
use Rattle.jr_desk_totals.proofs.tallies.Tallies.ended.Goals as goal

pub returns : goal.returns
returns c = λ plan history worker id io at same kind len next was.
    let old = c.index_mut.result.now in
    let outcome = c.args.outcome in
    let summed = c.index_mut-2.result.now in
    ended_tallied plan history worker id outcome io c.args.clone c.args.self.now _ old c.count_end.new.counts summed c.total_end.new.totals at same next was c.requires.count.counts
    c.index_mut.ensures.value
    (c.count_end.ensures ∙ ap (λ (k : TicketKind). counts_with (tally_ended k outcome (tally_in old)) (old.is_halted || is_fault outcome)) (sym kind))
    refl c.index_mut-2.ensures.value
    (c.total_end.ensures ∙ ap (λ (k : TicketKind). totals_ended k c.args.len outcome summed) (sym kind) ∙ ap (λ (n : ℕ). totals_ended io.kind n outcome summed) (sym len))
    refl refl
