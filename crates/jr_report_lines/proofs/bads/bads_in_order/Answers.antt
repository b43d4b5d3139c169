use Rattle.std.proofs.Common.{List, rules, subst, sym, ap, ◌∙◌, IsPermutation}
use Rattle.std.proofs.lemmas.Fn.{always_returns_same}
use Rattle.jr_model.specs.Report.{in_order}
use Rattle.jr_report_lines.proofs.SortedBads.{sorted_by_writes}
use Rattle.jr_report_lines.proofs.bads.bads_in_order.Goals as goal
use Rattle.jr_desk_totals.specs.declared.tallies.Bad.{Bad}

pub returns : goal.returns
returns c =
    let plan = c.args.plan.now in
    let run = c.requires in
    let sorted : List Bad = c.sort_unstable_by_key.new.self.items in
    sorted_by_writes plan run.0 c.args.bads.now sorted c.facts.ensures run.1 run.2
    (subst (λ (old : List Bad). IsPermutation old sorted) c.in_ok-sorted.ensures.items c.sort_unstable_by_key.ensures.permutation)
    (c.sort_unstable_by_key.ensures.sorted (λ (bad : Bad). bad.write) (always_returns_same _ _ _ (λ a r q k. search rules)))
    ∙ ap (in_order plan) (sym run.2)
