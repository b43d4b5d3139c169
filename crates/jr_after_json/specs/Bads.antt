-- Internal: a bad verdict that is over all bytes of a chunk.
use Rattle.jr_model.specs.declared.blocks.Piece.{Piece}
use Rattle.jr_model.specs.declared.events.What.TheVariants.{Header}
use Rattle.jr_desk_totals.specs.declared.tallies.Bad.{Bad}

abbrev pub bad_over : Piece → Bad
bad_over chunk = record { write = record { clone = 0; pass = 0; number = 0 }; piece = chunk; what = Header }
