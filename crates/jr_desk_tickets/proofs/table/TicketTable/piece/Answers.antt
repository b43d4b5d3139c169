use Rattle.std.proofs.Common.{◌∙◌, ap}
use Rattle.std.specs.Prelude.{Option, Some}
use Rattle.std.specs.Option.{option_map}
use Rattle.jr_model.specs.declared.blocks.Piece.{Piece}
use Rattle.jr_desk_tickets.specs.Handing.{launched_piece}
use Rattle.jr_desk_tickets.proofs.HandingMoves.{piece_found}
use Rattle.jr_desk_tickets.proofs.table.TicketTable.piece.Goals as goal

pub returns-in-None : goal.returns-in-None
returns-in-None c plan history is =
    ap (option_map launched_piece) c.in-None.ensures
    ∙ piece_found plan history c.args.self.now c.args.id is

pub returns-in-Some : goal.returns-in-Some
returns-in-Some c plan history is =
    ap {B = Option Piece} Some c.piece.ensures
    ∙ ap (option_map launched_piece) c.in-Some.ensures
    ∙ piece_found plan history c.args.self.now c.args.id is
