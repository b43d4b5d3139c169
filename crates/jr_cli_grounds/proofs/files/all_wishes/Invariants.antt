use Rattle.std.proofs.Common.{◌≡◌, map}
use Rattle.std.specs.List.{range_with_len}
use Rattle.jr_plan.specs.Wishes.{wish_of}
use Rattle.jr_cli_grounds.proofs.files.all_wishes.Given as goal

abbrev pub invariant-loop-file : goal.invariant-loop-file
invariant-loop-file l = l.wishes.items ≡ map (wish_of l.plan.clones) (range_with_len 0 l.file)
