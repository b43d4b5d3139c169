use Rattle.std.proofs.Common.{Bool, refl, sym, ap, ◌∙◌, ◌&&◌, ◌||◌}
use Rattle.jr_model.specs.declared.events.WriteId.{WriteId}
use Rattle.jr_model.specs.Legal.{is_bad}
use Rattle.jr_desk_totals.specs.Tallying.{counts_with, tally_in, tally_judged}
use Rattle.jr_desk_totals.proofs.TallyMoves.{bads_more, bads_same, judged_tallied}
use Rattle.jr_desk_totals.proofs.tallies.Tallies.judged.Goals as goal

pub returns-in-Bad : goal.returns-in-Bad
returns-in-Bad c = λ plan history worker id io job at wrote placed planned fatal next was.
    let old = c.index_mut.result.now in
    judged_tallied plan history worker id c.args.verdict io job c.args.write.clone c.args.self.now _ old c.count_verdict.new.counts c.index_mut-2.result.now c.total_verdict.new.totals at
    (ap (λ (w : WriteId). w.clone) wrote)
    planned next was c.requires.count.counts c.index_mut.ensures.value
    (c.count_verdict.ensures ∙ ap (λ (f : Bool). counts_with (tally_judged (tally_in old)) (old.is_halted || f && is_bad c.args.verdict)) (sym fatal))
    refl c.index_mut-2.ensures.value c.total_verdict.ensures refl
    (bads_more history c.args.self.now.bads.items c.push_reserved.new.self.items io c.args.verdict c.args.write c.args.piece c.in-Bad.what was.bads c.push_reserved.ensures.items c.in-Bad.is wrote placed)

pub returns-in_default : goal.returns-in_default
returns-in_default c = λ plan history worker id io job at wrote placed planned fatal next was.
    let old = c.index_mut.result.now in
    judged_tallied plan history worker id c.args.verdict io job c.args.write.clone c.args.self.now _ old c.count_verdict.new.counts c.index_mut-2.result.now c.total_verdict.new.totals at
    (ap (λ (w : WriteId). w.clone) wrote)
    planned next was c.requires.count.counts c.index_mut.ensures.value
    (c.count_verdict.ensures ∙ ap (λ (f : Bool). counts_with (tally_judged (tally_in old)) (old.is_halted || f && is_bad c.args.verdict)) (sym fatal))
    refl c.index_mut-2.ensures.value c.total_verdict.ensures refl
    (bads_same history c.args.self.now.bads.items io c.args.verdict was.bads c.in_default.not-Bad)
