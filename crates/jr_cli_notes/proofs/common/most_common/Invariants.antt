use Rattle.std.proofs.Common.{take}
use Rattle.jr_cli_notes.specs.Common.{count_of, traits_of}
use Rattle.jr_cli_notes.proofs.FirstOfMost.{IsMost}
use Rattle.jr_cli_notes.proofs.common.most_common.Given as goal

abbrev pub invariant-loop-one : goal.invariant-loop-one
invariant-loop-one l = IsMost (count_of l.found) (traits_of (take l.one-index l.found)) l.most
