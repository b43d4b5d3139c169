use Rattle.std.proofs.lemmas.List.Elements.{All-map, All-same}
use Rattle.std.proofs.Common.{map}
use Rattle.std.proofs.lemmas.Result.{IfOk-weaker}
use Rattle.jr_after.specs.Findings.{named_by}
use Rattle.jr_after_chunks.specs.Judging.{CanBeNamed}
use Rattle.jr_after_chunks.proofs.judging.named_writes.Goals as goal

pub returns-clause-fit : goal.returns-clause-fit
returns-clause-fit c = λ fit.
    let lines = c.args.lines.now in
    let writes = c.args.writes.now in
    IfOk-weaker c.all_named.result _ _ (λ named is. All-same CanBeNamed named.items (map (named_by lines) writes) is (All-map CanBeNamed (named_by lines) writes fit)) c.all_named.ensures
