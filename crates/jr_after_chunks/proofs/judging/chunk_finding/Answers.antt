use Rattle.std.proofs.Common.{List, ap, ◌∙◌}
use Rattle.std.proofs.lemmas.Result.{IfOk-weaker}
use Rattle.jr_after.specs.declared.writes.Named.{Named}
use Rattle.jr_after.specs.Findings.{finding_of}
use Rattle.jr_after.specs.Ledgers.{kept_lines}
use Rattle.jr_after_chunks.specs.Judging.{named_over}
use Rattle.jr_after_chunks.proofs.Over.{over_named}
use Rattle.jr_after_chunks.proofs.judging.chunk_finding.Goals as goal

pub returns-clause-finding : goal.returns-clause-finding
returns-clause-finding c = λ writes lines is kept.
    let chunk = c.args.chunk.now in
    let bytes = c.args.bytes.now in
    IfOk-weaker c.judged_at.result _ _ (λ finding by.
    by
    ∙ ap (λ n. finding_of n (named_over chunk c.args.named.now) chunk bytes) kept
    ∙ ap (λ (over : List Named). finding_of (kept_lines chunk.file lines) over chunk bytes) (ap (named_over chunk) is ∙ over_named chunk lines writes)) c.judged_at.ensures
