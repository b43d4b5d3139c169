use Rattle.std.proofs.Common.{sym, ap, ◌∙◌, ◌++◌, ◌∷◌, [], List, map, arith}
use Rattle.std.proofs.lemmas.List.{take_all}
use Rattle.jr_model.proofs.ListLemmas.{map_more}
use Rattle.jr_model.specs.declared.contents.Method.{Method}
use Rattle.jr_model.specs.Plan.{SubJob}
use Rattle.jr_crew_books.proofs.methods.methods_of.Goals as goal

pub loop-clone-preserved : goal.loop-clone-preserved
loop-clone-preserved c =
    let clone = c.clone_at.result.now in
    c.in_ok-add_method.ensures
    ∙ ap (λ (ms : List Method). ms ++ clone.method ∷ []) c.loop-clone.invariant
    ∙ sym (map_more (λ (job : SubJob). job.method) c.args.plan.now.clones c.loop-clone.clone clone c.clone_at.ensures.value)

pub loop-clone-init : goal.loop-clone-init
loop-clone-init c = c.new-methods.ensures.items

pub clone_at-requires : goal.clone_at-requires
clone_at-requires c = omega (arith, c.loop-clone-test.true, c.clones-clone-end.ensures.value)

pub returns : goal.returns
returns c =
    c.loop-clone.invariant
    ∙ ap (λ (jobs : List SubJob). map (λ (job : SubJob). job.method) jobs)
    (take_all c.loop-clone.clone c.args.plan.now.clones (omega (arith, c.loop-clone-test.false, c.clones-clone-end.ensures.value)))
