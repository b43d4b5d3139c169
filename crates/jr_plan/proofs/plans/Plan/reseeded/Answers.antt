use Rattle.std.proofs.Common.{◌≡◌, ap, map, ◌∙◌}
use Rattle.jr_plan.specs.Seeds.{moved_seed}
use Rattle.jr_plan.proofs.SeedLemmas.{drafted-reseeded}
use Rattle.jr_plan.proofs.plans.Plan.reseeded.Goals as goal

pub of_parts-requires-clause-drafted : goal.of_parts-requires-clause-drafted
of_parts-requires-clause-drafted c =
    let inside = c.self.inside in
    let clones_are : c.in_ok-clones.clones.items ≡ map (moved_seed c.args.by) inside.clones.items =
    c.in_ok-clones.ensures ∙ ap (map (moved_seed c.args.by)) c.deref.ensures.value in
    let files_are : c.in_ok-files.files.items ≡ inside.files.items = c.in_ok-files.ensures ∙ c.deref-2.ensures.value in
    rw (clones_are, files_are) (drafted-reseeded c.args.by inside.clones.items inside.files.items c.self.invariant.drafted)
