use Rattle.jr_io_blocks.proofs.RegionLemmas.{is_cut}
use Rattle.jr_io_blocks.proofs.regions.Regions.of.Goals as goal

pub returns : goal.returns
returns c = is_cut c.args.high
