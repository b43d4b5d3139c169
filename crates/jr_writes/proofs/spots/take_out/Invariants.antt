use Rattle.std.proofs.Common.{◌≡◌, ◌%◌, ◌≤◌}
use Rattle.jr_model.specs.declared.events.WriteId.{WriteId}
use Rattle.jr_model.specs.Pieces.{piece_end}
use Rattle.jr_writes.specs.Index.{IsIndexed, StandsHere}
use Rattle.jr_writes.specs.Last.{NoneOverlapsFrom}
use Rattle.jr_writes.specs.Names.{name_at}
use Rattle.jr_writes.specs.Places.{spot_at}
use Rattle.jr_writes.specs.Staying.{left_of}
use Rattle.jr_writes.proofs.spots.take_out.Given as goal

abbrev pub invariant-loop-offset : goal.invariant-loop-offset
invariant-loop-offset l = record {
  begins : l.end % 512 ≡ 0;
  within : l.end ≤ piece_end l.piece;
  past : NoneOverlapsFrom l.kept l.piece (spot_at l.places.sheets.entries) l.end;
  indexed : IsIndexed l.kept (name_at l.names.sheets.entries) (spot_at l.places.sheets.entries);
  stands : StandsHere l.kept l.piece (spot_at l.places.sheets.entries);
  entries : (q : WriteId) → left_of l.kept l.piece (name_at l.names.sheets.entries) q ≡ left_of l.kept l.piece (name_at l.initial.names.sheets.entries) q;
}

abbrev pub decreases-loop-offset : goal.decreases-loop-offset
decreases-loop-offset l = l.end
