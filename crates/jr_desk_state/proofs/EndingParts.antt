-- What is known of a ticket of the desk's own: its I/O and its clone.
use Rattle.std.proofs.Common.{◌≡◌, ◌^◌, ◌≤◌, List, true, sym, ◌∙◌, ap}
use Rattle.std.specs.Prelude.{Some, slice_get}
use Rattle.jr_model.specs.declared.events.Event.{Event}
use Rattle.jr_model.specs.declared.events.Started.{Started}
use Rattle.jr_model.specs.declared.events.WriteId.{WriteId}
use Rattle.jr_model.specs.declared.tickets.Ticket.{Ticket}
use Rattle.jr_model.specs.History.{started}
use Rattle.jr_model.specs.Legal.{is_legal}
use Rattle.jr_model.specs.Plan.{Plan, SubJob, clone_of}
use Rattle.jr_model.specs.Tickets.{piece_fits}
use Rattle.jr_model.specs.PlanFacts.{IsPlanned}
use Rattle.jr_model.proofs.PieceLemmas.{fitting_is_small}
use Rattle.jr_laws_steps.proofs.DrawnLaws.{started_fit-law}
use Rattle.jr_desk_tickets.specs.Kept.{IsOwn}
use Rattle.jr_desk_tickets.proofs.OwnTickets.{own_started}

-- the I/O of a ticket of the desk's own, and its clone
pub record OwnParts (plan : Plan) (history : List Event) (ticket : Ticket) : Type 0 where
  pub io : Started
  pub job : SubJob
  pub at : slice_get (started history) ticket.id ≡ Some io
  pub kind : io.kind ≡ ticket.kind
  pub write : io.write ≡ ticket.write
  pub piece : io.piece ≡ ticket.piece
  pub clone : io.write.clone ≡ ticket.write.clone
  pub planned : clone_of plan ticket.write.clone ≡ Some job
  pub named : clone_of plan io.write.clone ≡ Some job
  pub small : ticket.piece.len ≤ 2 ^ 24

pub own_parts : (plan : Plan) (history : List Event) (ticket : Ticket) → IsPlanned plan → is_legal plan history ≡ true
    → IsOwn plan history ticket → OwnParts plan history ticket
own_parts plan history ticket planned legal own =
    let found = own_started plan history ticket own in
    let io = found.0 in
    let fits = started_fit-law plan history ticket.id io planned legal found.1 in
    let write : io.write ≡ ticket.write = ap (λ (t : Ticket). t.write) found.2 in
    let piece : io.piece ≡ ticket.piece = ap (λ (t : Ticket). t.piece) found.2 in
    record {
      io = io;
      job = fits.0;
      at = found.1;
      kind = ap (λ (t : Ticket). t.kind) found.2;
      write = write;
      piece = piece;
      clone = ap (λ (w : WriteId). w.clone) write;
      planned = sym (ap (λ (w : WriteId). clone_of plan w.clone) write) ∙ fits.1.planned;
      named = fits.1.planned;
      small = fitting_is_small ticket.piece (sym (ap piece_fits piece) ∙ fits.1.fits);
    }
