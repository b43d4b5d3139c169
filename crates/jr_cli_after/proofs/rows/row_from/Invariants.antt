use Rattle.std.proofs.Common.{◌+◌, ◌-◌}
use Rattle.jr_model.specs.declared.limits.TheConstants.{LARGEST_END}
use Rattle.jr_cli_after.specs.Reading.{IsRow}
use Rattle.jr_cli_after.proofs.rows.row_from.Given as goal

-- the chunks so far, and all of their bytes
abbrev pub invariant-loop-chunk : goal.invariant-loop-chunk
invariant-loop-chunk l = IsRow l.plan l.first l.chunks.items l.piece

abbrev pub decreases-loop-chunk : goal.decreases-loop-chunk
decreases-loop-chunk l = LARGEST_END - (l.piece.offset + l.piece.len)
