-- The ticket of what a board starts: its seed, its method and what its bytes are judged by are those of the plan.
use Rattle.std.proofs.Common.{◌≡◌, ◌<◌, ℕ, List, Bool, true, false, cond, refl, sym, ◌∙◌, ap, subst}
use Rattle.std.specs.Prelude.{Option, Some, None, slice_get, unwrap_or}
use Rattle.std.specs.Option.{option_map}
use Rattle.std.proofs.lemmas.Bool.{false≢true}
use Rattle.std.proofs.lemmas.Option.{same_Some}
use Rattle.jr_model.specs.declared.blocks.Dir.{Dir}
use Rattle.jr_model.specs.declared.blocks.Piece.{Piece}
use Rattle.jr_model.specs.declared.contents.Expected.{Expected}
use Rattle.jr_model.specs.declared.contents.Expected.TheVariants as expected
use Rattle.jr_model.specs.declared.contents.Method.{Method}
use Rattle.jr_model.specs.declared.events.Event.{Event}
use Rattle.jr_model.specs.declared.events.Event.TheVariants.{Issue, Probe, Skip}
use Rattle.jr_model.specs.declared.events.IssueKind.{IssueKind}
use Rattle.jr_model.specs.declared.events.IssueKind.TheVariants as issue
use Rattle.jr_model.specs.declared.events.Started.{Started}
use Rattle.jr_model.specs.declared.events.WriteId.{WriteId}
use Rattle.jr_model.specs.declared.tickets.Ticket.{Ticket}
use Rattle.jr_model.specs.declared.tickets.TicketKind.{TicketKind}
use Rattle.jr_model.specs.declared.workloads.Draw.{Draw}
use Rattle.jr_model.specs.Draws.{draws_of, draws_of_clone, draws_of_job}
use Rattle.jr_model.specs.History.{kind_for}
use Rattle.jr_model.specs.LastWrite.{is_intact}
use Rattle.jr_model.specs.Legal.{may_happen, may_issue, may_take_up, is_this_probe, step_of, step_of_draw, step_of_clone}
use Rattle.jr_model.specs.Machine.{seed_of_draw}
use Rattle.jr_model.specs.Plan.{Plan, SubJob, clone_of, issued_as, declines_of}
use Rattle.jr_model.specs.Rounds.{pass_of, write_id}
use Rattle.jr_writes.specs.declared.logs.Logged.{Logged}
use Rattle.jr_writes.specs.LoggedWrites.{logged}
use Rattle.jr_flight.specs.declared.ios.Io.{Io}
use Rattle.jr_laws_log.specs.Flying.{dir_of, io_of}
use Rattle.jr_laws_rounds.proofs.ChoiceSteps.{can_take}
use Rattle.jr_laws_steps.proofs.StepLaws.{IsNamed, may_probe_of}
use Rattle.jr_desk_tickets.specs.Kept.{tickets_of}
use Rattle.jr_desk_tickets.specs.Tickets.{method_of, seed_of, expected_by, ticket_of}
use Rattle.jr_desk_tickets.proofs.OwnTickets.{ticket_started}
use Rattle.jr_desk_state.specs.declared.board.Board.{Board}
use Rattle.jr_desk_state.specs.declared.standings.Issued.{Issued}
use Rattle.jr_desk_state.specs.declared.standings.Standing.{Standing}
use Rattle.jr_desk_state.specs.WriteLogs.{checked_by}
use Rattle.jr_desk_state.proofs.LogMoves.{log_intact}
use Rattle.jr_desk_state.proofs.StandingHere.{StandsHere, of_job, stands}

-- what was issued in the pass that its clone is in has its ticket, with its draw's seed
pub record HasTicket (plan : Plan) (history : List Event) (write : WriteId) (id : ℕ) : Type 0 where
  pub ticket : Ticket
  pub at : slice_get (tickets_of plan history) id ≡ Some ticket
  pub seed : ticket.seed ≡ seed_of_draw (slice_get (draws_of plan write.clone write.pass) write.number)

has_ticket : {plan : Plan} {board : Board} {job : SubJob} {standing : Standing} (write : WriteId) (issued : Issued)
    → StandsHere plan board write.clone job standing
    → standing.pass ≡ write.pass
    → slice_get standing.issued.items write.number ≡ Some issued
    → HasTicket plan board.history.items write issued.id
has_ticket {plan = plan} {board = board} {job = job} {standing = standing} write issued here pass got =
    let was = (stands here).issued write.number issued got in
    let made : ℕ → ℕ → WriteId = λ (c : ℕ). λ (p : ℕ). record { clone = c; pass = p; number = write.number } in
    let clone : job.clone ≡ write.clone = (here.is.planned.drafted.placed write.clone job here.planned).number in
    let named : was.io.write ≡ write =
    was.named ∙ ap (λ (c : ℕ). made c standing.pass) clone ∙ ap (made write.clone) pass in
    record {
      ticket = ticket_of plan (issued.id, was.io);
      at = ticket_started plan board.history.items issued.id was.io was.at;
      seed = ap (λ (w : WriteId). seed_of_draw (slice_get (draws_of plan w.clone w.pass) w.number)) named;
    }

got_issued : (o : Option Issued) (id : ℕ) → option_map (λ (issued : Issued). issued.id) o ≡ Some id
    → (issued : Issued) × (o ≡ Some issued) × (issued.id ≡ id)
got_issued None id found = cc
got_issued (Some issued) id found = (issued, refl, same_Some issued.id id found)

-- the seed that is read of the ticket of the number under which it was issued
pub seed_kept : {plan : Plan} {board : Board} {job : SubJob} {standing : Standing} (write : WriteId) (id seed : ℕ)
    → StandsHere plan board write.clone job standing
    → standing.pass ≡ write.pass
    → option_map (λ (issued : Issued). issued.id) (slice_get standing.issued.items write.number) ≡ Some id
    → ((t : Ticket) → slice_get (tickets_of plan board.history.items) id ≡ Some t → seed ≡ t.seed)
    → seed ≡ seed_of_draw (slice_get (draws_of plan write.clone write.pass) write.number)
seed_kept {plan = plan} {board = board} {standing = standing} write id seed here pass found read =
    let got = got_issued (slice_get standing.issued.items write.number) id found in
    let has = has_ticket write got.0 here pass got.1 in
    read has.ticket (ap (slice_get (tickets_of plan board.history.items)) (sym got.2) ∙ has.at) ∙ has.seed

-- the ticket of an issue

-- what an I/O's bytes are judged by
abbrev ticket_wants : Plan → Started → Expected
ticket_wants plan io = expected_by io.kind (method_of (clone_of plan io.write.clone)) io (seed_of plan io)

nothing_expected : (dir : IssueKind) (method : Method) (io : Started) (seed : ℕ) → expected_by (kind_for dir) method io seed ≡ expected.Nothing
nothing_expected issue.Read method io seed = refl
nothing_expected issue.Write method io seed = refl
nothing_expected issue.ReadCheck method io seed = refl

-- what a ticket is made of
abbrev made_of : ℕ → TicketKind → WriteId → Piece → ℕ → ℕ → Method → Expected → Ticket
made_of worker kind write piece id seed method wanted =
    record { id = id; worker = worker; kind = kind; write = write; piece = piece; seed = seed; method = method; expected = wanted }

-- an I/O that is started
abbrev start_of : ℕ → TicketKind → WriteId → Piece → Started
start_of worker kind write piece = record { worker = worker; kind = kind; write = write; piece = piece }

pub ticket_made : (plan : Plan) (n worker : ℕ) (kind : TicketKind) (write : WriteId) (piece : Piece) (id seed : ℕ)
    (method : Method) (wanted : Expected)
    → id ≡ n
    → seed ≡ seed_of plan (start_of worker kind write piece)
    → method ≡ method_of (clone_of plan write.clone)
    → wanted ≡ ticket_wants plan (start_of worker kind write piece)
    → made_of worker kind write piece id seed method wanted ≡ ticket_of plan (n, start_of worker kind write piece)
ticket_made plan n worker kind write piece id seed method wanted same seeds methods wants =
    let drawn = seed_of plan (start_of worker kind write piece) in
    let own = method_of (clone_of plan write.clone) in
    ap (λ (i : ℕ). made_of worker kind write piece i seed method wanted) same
    ∙ ap (λ (s : ℕ). made_of worker kind write piece n s method wanted) seeds
    ∙ ap (λ (m : Method). made_of worker kind write piece n drawn m wanted) methods
    ∙ ap (made_of worker kind write piece n drawn own) wants

-- the seed of a planned clone's draw
pub seed_planned : (plan : Plan) (write : WriteId) (job : SubJob) → clone_of plan write.clone ≡ Some job
    → seed_of_draw (slice_get (draws_of_job job write.pass) write.number)
    ≡ seed_of_draw (slice_get (draws_of plan write.clone write.pass) write.number)
seed_planned plan write job planned =
    ap (λ (o : Option SubJob). seed_of_draw (slice_get (draws_of_clone o write.pass) write.number)) (sym planned)

pub method_planned : (plan : Plan) (c : ℕ) (job : SubJob) (method : Method) → clone_of plan c ≡ Some job → method ≡ job.method
    → method ≡ method_of (clone_of plan c)
method_planned plan c job method planned same = same ∙ ap method_of (sym planned)

pub issue_ticket : (plan : Plan) (n worker : ℕ) (dir : IssueKind) (kind : TicketKind) (write : WriteId) (piece : Piece) (id seed : ℕ)
    (method : Method) (job : SubJob)
    → clone_of plan write.clone ≡ Some job
    → kind ≡ kind_for dir
    → id ≡ n
    → seed ≡ seed_of_draw (slice_get (draws_of_job job write.pass) write.number)
    → method ≡ job.method
    → made_of worker kind write piece id seed method expected.Nothing
    ≡ ticket_of plan (n, start_of worker (kind_for dir) write piece)
issue_ticket plan n worker dir kind write piece id seed method job planned kinds same seeds methods =
    let io = start_of worker (kind_for dir) write piece in
    ap (λ (k : TicketKind). made_of worker k write piece id seed method expected.Nothing) kinds
    ∙ ticket_made plan n worker (kind_for dir) write piece id seed method expected.Nothing same
    (seeds ∙ seed_planned plan write job planned)
    (method_planned plan write.clone job method planned methods)
    (sym (nothing_expected dir (method_of (clone_of plan write.clone)) io (seed_of plan io)))

-- and what flies of it
pub issue_io : (plan : Plan) (n worker : ℕ) (kind : TicketKind) (way : Dir) (declines : Bool) (write : WriteId) (piece : Piece) (id : ℕ) (io : Io)
    → io ≡ record { id = id; clone = write.clone; piece = piece; dir = way; declines = declines }
    → way ≡ dir_of kind
    → declines ≡ declines_of (clone_of plan write.clone)
    → id ≡ n
    → io ≡ io_of plan n (start_of worker kind write piece)
issue_io plan n worker kind way declines write piece id io is ways waits same =
    let made : ℕ → Dir → Bool → Io =
    λ (i : ℕ). λ (d : Dir). λ (b : Bool). record { id = i; clone = write.clone; piece = piece; dir = d; declines = b } in
    is ∙ ap (λ (i : ℕ). made i way declines) same ∙ ap (λ (d : Dir). made n d declines) ways ∙ ap (made n (dir_of kind)) waits

-- whether a planned clone declines
pub declines_planned : (plan : Plan) (c : ℕ) (job : SubJob) (declines : Bool) → clone_of plan c ≡ Some job → declines ≡ job.declines
    → declines ≡ declines_of (clone_of plan c)
declines_planned plan c job declines planned is = is ∙ sym (ap declines_of planned)

-- a write that is checked is intact

intact_if : (b t i : Bool) (worker : ℕ) (dir : IssueKind) (w write : WriteId) (p piece : Piece)
    → is_this_probe write piece
    (cond t (Some (cond b (Probe worker w p) (Skip worker w))) (cond i (Some (Issue worker dir w p)) None)) ≡ true
    → b ≡ true
intact_if true t i worker dir w write p piece h = refl
intact_if false true i worker dir w write p piece h = absurd (false≢true h)
intact_if false false true worker dir w write p piece h = absurd (false≢true h)
intact_if false false false worker dir w write p piece h = absurd (false≢true h)

pub probe_intact : (plan : Plan) (history : List Event) (worker : ℕ) (write : WriteId) (piece : Piece) (job : SubJob) (draw : Draw)
    → IsNamed plan write job draw
    → may_happen plan history (Probe worker write piece) ≡ true
    → is_intact history write draw.piece ≡ true
probe_intact plan history worker write piece job draw named may =
    let pass = pass_of job write.pass in
    let w = write_id pass draw in
    let step : is_this_probe write piece (step_of plan history worker pass draw) ≡ true =
    sym (ap (λ (o : Option SubJob). is_this_probe write piece (step_of_clone plan history worker write o)) named.planned
    ∙ ap (λ (o : Option Draw). is_this_probe write piece (step_of_draw plan history worker pass o)) named.drawn) ∙ may in
    subst (λ (x : WriteId). is_intact history x draw.piece ≡ true) named.name
    (intact_if (is_intact history w draw.piece) (may_take_up plan history pass draw) (may_issue plan history pass draw)
    worker (issued_as job draw.dir) w write draw.piece piece step)

-- what an entry of the log is judged by, if there is one
abbrev wanted_of : Option Logged → Expected
wanted_of o = unwrap_or (option_map (λ (entry : Logged). entry.expected) o) expected.Nothing

-- so the log has what it is checked by
pub probe_expects : {plan : Plan} {board : Board} {job : SubJob} {standing : Standing} (worker : ℕ) (write : WriteId) (piece : Piece)
    → StandsHere plan board write.clone job standing
    → standing.pass ≡ write.pass
    → may_happen plan board.history.items (Probe worker write piece) ≡ true
    → wanted_of (logged board.log.writes write) ≡ checked_by plan write piece
probe_expects {plan = plan} {board = board} {standing = standing} worker write piece here pass may =
    let history = board.history.items in
    let entry : Piece → Logged = λ (p : Piece). record { piece = p; expected = checked_by plan write p } in
    let probed = may_probe_of plan history worker write piece may in
    let job = probed.0.job in
    let draw = probed.0.draw in
    let named = probed.0.named in
    let rounds = (can_take plan history (pass_of job write.pass) draw probed.0.may).rounds in
    let within = of_job here (λ (j : SubJob). standing.pass < j.passes) (stands here).in_pass.within job named.planned in
    let below : write.pass < job.passes = subst (λ (p : ℕ). p < job.passes) pass within in
    ap (λ (entries : List (WriteId × Logged)). wanted_of (logged entries write)) here.is.log.entries
    ∙ ap wanted_of
    (log_intact plan history write.clone write.pass write.number job draw here.is.planned here.is.legal named.planned rounds below named.drawn)
    ∙ ap (λ (b : Bool). wanted_of (cond b (Some (entry draw.piece)) None))
    (probe_intact plan history worker write piece job draw named may)
    ∙ ap (checked_by plan write) probed.1
