use Rattle.std.proofs.Common.{◌++◌, IsPermutation, sym, subst}
use Rattle.jr_crew_channel.specs.declared.parcel.PassState.{PassState}
use Rattle.jr_crew_channel.proofs.Steps.{accounts, settles}
use Rattle.jr_crew_channel.proofs.handoff.Handoff.facts.Goals as goal

pub learn_as-requires-clause-rule : goal.learn_as-requires-clause-rule
learn_as-requires-clause-rule c = accounts _ _ c.requires.whole

pub returns-clause-all_taken : goal.returns-clause-all_taken
returns-clause-all_taken c =
    let left = c.learn_as.ensures.rule in
    λ as_many. settles _ _ left.0 as_many
    (subst (λ (v : PassState). IsPermutation v.put (v.taken ++ left.0)) (sym c.learn_as.ensures.channel.2) left.1)
