use Rattle.std.proofs.Common.{◌+◌, ap, ◌∙◌}
use Rattle.jr_crew_channel.specs.declared.parcel.PassState.{PassState}
use Rattle.jr_crew_channel.specs.Passes.{pass_state}
use Rattle.jr_crew_channel.proofs.Steps.{splits, cut-many}
use Rattle.jr_crew_channel.proofs.handoff.Handoff.split.Goals as goal

pub another-seat-requires-clause-rule : goal.another-seat-requires-clause-rule
another-seat-requires-clause-rule c = splits _ _ c.requires.parts

pub returns-clause-parts : goal.returns-clause-parts
returns-clause-parts c =
    let kept = c.another-seat.ensures.rule.0 in
    λ more. let same = cut-many (pass_state c.args.pass.now) more in
    (ap (λ (v : PassState). v.parts + 1) kept ∙ same.0, ap (λ (v : PassState). v.of) kept ∙ same.1)
