use Rattle.std.proofs.Common.{◌≡◌, take}
use Rattle.jr_model.specs.Replies.{fresh_memory}
use Rattle.jr_engines.proofs.files.fresh_files.Given as goal

abbrev pub invariant-loop-spec : goal.invariant-loop-spec
invariant-loop-spec l = l.files.items ≡ fresh_memory (take l.spec-index l.specs)
