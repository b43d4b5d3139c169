use Rattle.std.proofs.Common.{List, [], ◌∷◌, ◌++◌, length, ap, ◌∙◌, arith}
use Rattle.jr_model.specs.Plan.{FileSpec}
use Rattle.jr_cli_after.specs.Found.{FileAfterState}
use Rattle.jr_cli_after.proofs.Walks.{told_on}
use Rattle.jr_cli_after.proofs.told.judge_files.Goals as goal

pub loop-file-preserved : goal.loop-file-preserved
loop-file-preserved g c =
    let files = c.files-file-end.ensures.facts.drafted in
    let many = ap (λ (l : List FileSpec). length l) c.files-file-end.ensures.value in
    told_on c.args.judge.now _ c.loop-file.file c.loop-file.found.items c.push.new.self.items c.loop-file.unread.items c.push-in-loop-file.new.self.items _ _ c.in_ok-told.told _
    (omega (arith, c.loop-file-test.true, many, files.files_most, files.clones_most))
    c.loop-file.invariant c.in_ok-told.ensures
    (c.in_ok-push.ensures.items ∙ ap (λ (s : FileAfterState). c.loop-file.found.items ++ s.found ∷ []) c.told.view_is)
    (c.in_ok-push-2.ensures.items ∙ ap (λ (s : FileAfterState). c.loop-file.unread.items ++ s.unread ∷ []) c.told.view_is)
