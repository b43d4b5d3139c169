use Rattle.jr_report_maps.specs.BadBlocks.{block_line}
use Rattle.jr_report_maps.proofs.Lists.{lines_more}
use Rattle.jr_report_maps.proofs.blocks.blocks_text.Goals as goal

pub loop-block-preserved : goal.loop-block-preserved
loop-block-preserved c =
    lines_more block_line c.loop-block.text.items c.push_block.new.text.items c.args.blocks.now c.loop-block.block-index
    c.loop-block-test.true c.loop-block.invariant c.in_ok-push_block.ensures
