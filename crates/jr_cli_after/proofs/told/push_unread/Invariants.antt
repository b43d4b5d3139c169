use Rattle.std.proofs.Common.{◌≡◌, ◌++◌, take, flat_map}
use Rattle.jr_cli_after.specs.Found.{lines_in}
use Rattle.jr_cli_after.proofs.told.push_unread.Given as goal

-- the lines of the files so far were added
abbrev pub invariant-loop-one : goal.invariant-loop-one
invariant-loop-one l = l.text.items ≡ l.initial.text.items ++ flat_map lines_in (take l.one-index l.unread)
