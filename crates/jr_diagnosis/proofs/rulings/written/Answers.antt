use Rattle.std.proofs.Common.{◌≡◌, ℕ, Bool, true, length, refl, sym, ◌∙◌, ap}
use Rattle.std.specs.Prelude.{◌&&◌, ◌||◌, nat_lt}
use Rattle.std.proofs.lemmas.Bool.{and_parts}
use Rattle.std.proofs.lemmas.List.{length-replicate, take_at}
use Rattle.jr_model.specs.declared.contents.Method.{Method}
use Rattle.jr_model.specs.declared.contents.VerifyKind.{VerifyKind}
use Rattle.jr_model.specs.declared.contents.VerifyKind.TheVariants.{Plain, Pattern, Md5, Sha1, Sha256}
use Rattle.jr_model.specs.declared.limits.TheConstants.{MOST_PASSES}
use Rattle.jr_model.specs.declared.tickets.Ticket.{Ticket}
use Rattle.jr_model.specs.declared.tickets.TicketKind.{TicketKind}
use Rattle.jr_model.specs.declared.tickets.TicketKind.TheVariants as ticket
use Rattle.jr_model.specs.Tickets.{chunks_fit, expected_fits, has_pattern, interval_fits, piece_fits, ticket_fits}
use Rattle.jr_diagnosis.specs.Rulings.{is_check_of_write, is_known, is_pattern}
use Rattle.jr_diagnosis.proofs.rulings.written.Goals as goal

by_pattern : (kind : VerifyKind) (interval len : ℕ) → is_pattern kind ≡ true → interval_fits kind interval len ≡ true
by_pattern Plain interval len is = refl
by_pattern Pattern interval len is = refl
by_pattern Md5 interval len is = cc
by_pattern Sha1 interval len is = cc
by_pattern Sha256 interval len is = cc

by_kind : (kind : TicketKind) (method : Method) (len : ℕ)
    → chunks_fit kind method len ≡ true
    → (is_check_of_write kind || is_pattern method.kind) ≡ true
    → interval_fits method.kind method.interval len ≡ true
by_kind ticket.Read method len fit known = by_pattern method.kind method.interval len known
by_kind ticket.ReadCheck method len fit known = by_pattern method.kind method.interval len known
by_kind ticket.Write method len fit known = fit
by_kind ticket.Probe method len fit known = fit

-- where it is known which bytes should stand there, they are cut into whole chunks
cut_whole : (t : Ticket) → ticket_fits t ≡ true → is_known t ≡ true → interval_fits t.method.kind t.method.interval t.piece.len ≡ true
cut_whole t fits known =
    let small = piece_fits t.piece && nat_lt t.write.pass MOST_PASSES && has_pattern t.method.kind t.method.pattern in
    let chunks = chunks_fit t.kind t.method t.piece.len in
    by_kind t.kind t.method t.piece.len (and_parts small chunks (and_parts (small && chunks) (expected_fits t) fits).0).1 known

pub fill-requires-clause-interval : goal.fill-requires-clause-interval
fill-requires-clause-interval c = cut_whole c.args.ticket.now c.requires.fits c.requires.known

pub returns-clause-bytes : goal.returns-clause-bytes
returns-clause-bytes c =
    take_at c.fill.new.buffer _ c.in_ok-block.block.len (c.fill.auto.buffer ∙ c.as_mut_slice.ensures.len) ∙ c.fill.ensures.content

pub returns-clause-len : goal.returns-clause-len
returns-clause-len c =
    sym c.as_mut_slice.ensures.len
    ∙ ap length (c.as_mut_slice.ensures.value ∙ c.in_ok-block.ensures)
    ∙ length-replicate c.args.ticket.now.piece.len 0
