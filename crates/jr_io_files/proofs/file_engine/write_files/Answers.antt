use Rattle.jr_io_files.proofs.EngineLemmas.{writes_known}
use Rattle.jr_io_files.proofs.file_engine.write_files.Goals as goal

pub returns-clause-bytes : goal.returns-clause-bytes
returns-clause-bytes g c =
    λ places. writes_known g.F.Positioned.view c.args.files.now c.args.file c.args.offset c.args.buf.now c.write_whole.result c.index-files-file.result c.write_whole.new.file places
    (record {
      known = c.write_whole.ensures.known;
      stays = c.write_whole.ensures.stays;
      named = c.write_whole.ensures.named;
      sound = c.write_whole.ensures.sound;
      stores = c.write_whole.ensures.bytes;
    })
