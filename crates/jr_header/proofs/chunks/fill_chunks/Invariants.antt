use Rattle.std.proofs.Common.{◌≡◌, ◌*◌, length, take, flat_map}
use Rattle.std.specs.List.{range_with_len}
use Rattle.jr_model.specs.Content.{chunk_bytes}
use Rattle.jr_header.proofs.chunks.fill_chunks.Given as goal

abbrev pub invariant-loop-i : goal.invariant-loop-i
invariant-loop-i l = record {
  size : length l.buffer ≡ length l.fn.buffer;
  begun : take (l.i * l.interval) l.buffer ≡ flat_map (chunk_bytes l.ticket.method l.ticket.write l.ticket.piece l.ticket.seed) (range_with_len 0 l.i);
}
