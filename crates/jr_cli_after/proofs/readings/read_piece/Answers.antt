use Rattle.std.proofs.Common.{rules, refl, sym}
use Rattle.jr_cli_after.proofs.readings.read_piece.Goals as goal

pub returns : goal.returns
returns g c = record {
  call = record {
    piece = c.args.piece.now;
    before = c.args.bytes.now;
    answer = c.read-answer.result;
    bytes = c.read-answer.new.buf;
    engine = _;
  };
  piece_is = refl;
  is = record {
    counts = c.read-answer.ensures.0;
    room = c.requires;
    length_is = search rules;
    replies = c.read-answer.ensures.1.1.1;
  };
  whole_is = sym c.has_all.ensures;
  bytes_are = refl;
  engine_is = refl;
}
