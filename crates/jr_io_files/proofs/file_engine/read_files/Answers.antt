use Rattle.std.proofs.Math.Seq.{map-set_same}
use Rattle.jr_io_files.proofs.EngineLemmas.{reads_known}
use Rattle.jr_io_files.proofs.file_engine.read_files.Goals as goal

pub returns-clause-files : goal.returns-clause-files
returns-clause-files g c =
    map-set_same g.F.Positioned.view c.args.files.now c.args.file c.read_whole.new.file c.index-files-file.result c.read_whole.ensures.known

pub returns-clause-bytes : goal.returns-clause-bytes
returns-clause-bytes g c =
    λ places. reads_known g.F.Positioned.view c.args.files.now c.args.file c.args.offset c.args.buf.now c.read_whole.result c.read_whole.new.buf c.index-files-file.result places
    (record { sound = c.read_whole.ensures.sound; gets = c.read_whole.ensures.bytes })
