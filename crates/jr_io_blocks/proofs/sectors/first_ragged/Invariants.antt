use Rattle.std.proofs.Common.{◌≡◌, false, take}
use Rattle.std.specs.List.{list_any}
use Rattle.jr_io_blocks.specs.Sectors.{is_ragged}
use Rattle.jr_io_blocks.proofs.sectors.first_ragged.Given as goal

abbrev pub invariant-loop-i : goal.invariant-loop-i
invariant-loop-i l = list_any (is_ragged l.file l.sector) (take l.i l.plan.clones) ≡ false
