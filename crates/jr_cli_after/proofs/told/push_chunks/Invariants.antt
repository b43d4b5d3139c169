use Rattle.std.proofs.Common.{◌≡◌, ◌++◌, take, flat_map}
use Rattle.jr_cli_after.specs.Found.{chunks_in}
use Rattle.jr_cli_after.proofs.told.push_chunks.Given as goal

-- the chunks of the files so far were added
abbrev pub invariant-loop-one : goal.invariant-loop-one
invariant-loop-one l = l.chunks.items ≡ l.initial.chunks.items ++ flat_map chunks_in (take l.one-index l.unread)
