use Rattle.std.proofs.Common.{◌≡◌, take}
use Rattle.jr_report_maps.specs.BadBlocks.{blocks_text}
use Rattle.jr_report_maps.proofs.blocks.blocks_text.Given as goal

abbrev pub invariant-loop-block : goal.invariant-loop-block
invariant-loop-block l = l.text.items ≡ blocks_text (take l.block-index l.blocks)
