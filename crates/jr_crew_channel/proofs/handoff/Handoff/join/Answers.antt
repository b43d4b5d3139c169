use Rattle.std.proofs.Common.{ap, ◌∙◌}
use Rattle.jr_crew_channel.specs.declared.parcel.PassState.{PassState}
use Rattle.jr_crew_channel.specs.Passes.{pass_state}
use Rattle.jr_crew_channel.proofs.Steps.{joins, joined-alike}
use Rattle.jr_crew_channel.proofs.handoff.Handoff.join.Goals as goal

pub absorb-requires-clause-rule : goal.absorb-requires-clause-rule
absorb-requires-clause-rule c = joins _ _ _ _ c.requires.pass.parts

pub returns-clause-parts : goal.returns-clause-parts
returns-clause-parts c =
    let joined = c.absorb.ensures.rule in
    λ alike. let same = joined-alike (pass_state c.args.pass.now) (pass_state c.args.other) alike in
    (ap (λ (v : PassState). v.parts) joined ∙ same.0, ap (λ (v : PassState). v.of) joined ∙ same.1)
