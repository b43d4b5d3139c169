-- The end of an I/O over a player's engine is the machine's.
use Rattle.std.proofs.Common.{◌≡◌, ℕ, ◌-◌, List, [], ◌∷◌, ◌++◌, length, map, replicate, Bool, cond, refl, sym, ◌∙◌, ap, subst, arith}
use Rattle.std.specs.Prelude.{Option, Some, None, IsTrue, slice_get, is_none, nat_lt}
use Rattle.std.proofs.lemmas.Bool.{eq-eqb}
use Rattle.std.proofs.lemmas.List.{length-replicate, reverse-append}
use Rattle.jr_model.specs.declared.events.Event.{Event}
use Rattle.jr_model.specs.declared.events.Event.TheVariants.{End}
use Rattle.jr_model.specs.declared.events.Outcome.{Outcome}
use Rattle.jr_model.specs.declared.events.Started.{Started}
use Rattle.jr_model.specs.declared.replies.Reply.{Reply}
use Rattle.jr_model.specs.declared.steps.DeskFault.{DeskFault}
use Rattle.jr_model.specs.declared.steps.DeskFault.TheVariants.{Stranger, Twice, Stopped}
use Rattle.jr_model.specs.declared.steps.StepReply.TheVariants as answer
use Rattle.jr_model.specs.declared.tickets.Ticket.{Ticket}
use Rattle.jr_model.specs.declared.tickets.TicketKind.{TicketKind}
use Rattle.jr_model.specs.declared.tickets.TicketKind.TheVariants as ticket
use Rattle.jr_model.specs.History.{started, outcome_of}
use Rattle.jr_model.specs.Machine.{State, end_refusal, ends_by, machine_end, machine_end_by}
use Rattle.jr_model.specs.Plan.{Plan, SubJob, clone_of}
use Rattle.jr_model.specs.Replies.{Asked, FileBytes, asked, asked_write, covers, next_reply, scripted_reply}
use Rattle.jr_model.proofs.MachineLaws.{three_conds}
use Rattle.jr_model.proofs.OptionLemmas.{none_by_test}
use Rattle.jr_engines.specs.Answers.{AnswerParts, Answers, Leaves}
use Rattle.jr_engines.specs.States.{ScriptedState, scripted_state}
use Rattle.jr_engines.proofs.MemoryLemmas.{covers_after_asked}
use Rattle.jr_header.specs.Served.{asked_with}
use Rattle.jr_laws_bytes.specs.Memory.{CoversFiles}
use Rattle.jr_laws_bytes.proofs.Contents.{length-content_of_io, lies_in_file}
use Rattle.jr_laws_steps.proofs.DrawnLaws.{started_fit-law}
use Rattle.jr_laws_bytes.proofs.Memories.{covers_piece}
use Rattle.jr_laws_bytes.proofs.Starts.{draw_started}
use Rattle.jr_desk.specs.declared.plays.Player.{Player}
use Rattle.jr_desk_tickets.specs.Kept.{tickets_of}
use Rattle.jr_desk_tickets.specs.Tickets.{ticket_of}
use Rattle.jr_desk.specs.DeskState.{DeskState}
use Rattle.jr_desk.specs.Plays.{GoesOn, IsReady, KeepsReads, kept_by, read_back_of, state_of}
use Rattle.jr_desk.proofs.Playing.{known, same_states}
use Rattle.jr_desk.proofs.Reading.{keeps_ended}
use Rattle.jr_desk_state.proofs.Serving.{content_is}

-- the bytes read are kept, where it is a read or a check
abbrev read_by : TicketKind → ℕ → List ℕ → List (ℕ × List ℕ) → List (ℕ × List ℕ)
read_by ticket.Write io bytes read_back = read_back
read_by ticket.Read io bytes read_back = (io, bytes) ∷ read_back
read_by ticket.Probe io bytes read_back = (io, bytes) ∷ read_back
read_by ticket.ReadCheck io bytes read_back = (io, bytes) ∷ read_back

-- what a call leaves, in the machine's state
abbrev left_by : State → ℕ → ℕ → TicketKind → Asked → State
left_by s worker io kind left = record {
  history = s.history ++ End worker io left.outcome ∷ [];
  is_stopped = s.is_stopped;
  memory = left.memory;
  read_back = read_by kind io left.bytes s.read_back;
}

-- what the engine is asked with for an I/O
abbrev data_of : Plan → ℕ → Started → TicketKind → List ℕ
data_of plan id io kind = asked_with kind (ticket_of plan (id, io)) (replicate io.piece.len 0)

ends_as : (plan : Plan) (s : State) (id : ℕ) (reply : Reply) (io : Started) (kind : TicketKind) (job : SubJob) → clone_of plan io.write.clone ≡ Some job → ends_by plan s id reply kind io ≡ left_by s io.worker id kind (asked reply s.memory kind io.piece (data_of plan id io kind))
ends_as plan s id reply io ticket.Read job planned = refl
ends_as plan s id reply io ticket.Probe job planned = refl
ends_as plan s id reply io ticket.ReadCheck job planned = refl
ends_as plan s id reply io ticket.Write job planned =
    ap (λ (bytes : List ℕ). left_by s io.worker id ticket.Write (asked_write reply s.memory io.piece bytes)) (sym (content_is plan id io job planned))

kept_read : (kind : TicketKind) (reads : List AnswerParts) (answer : AnswerParts) → read_back_of (kept_by kind reads answer) ≡ read_by kind answer.ticket.id answer.bytes (read_back_of reads)
kept_read ticket.Write reads answer = refl
kept_read ticket.Read reads answer = ap (map (λ (a : AnswerParts). (a.ticket.id, a.bytes))) (reverse-append reads (answer ∷ []))
kept_read ticket.Probe reads answer = ap (map (λ (a : AnswerParts). (a.ticket.id, a.bytes))) (reverse-append reads (answer ∷ []))
kept_read ticket.ReadCheck reads answer = ap (map (λ (a : AnswerParts). (a.ticket.id, a.bytes))) (reverse-append reads (answer ∷ []))

length-data : (plan : Plan) (id : ℕ) (io : Started) (kind : TicketKind) (job : SubJob) → clone_of plan io.write.clone ≡ Some job → length (asked_with ticket.Write (ticket_of plan (id, io)) []) ≡ io.piece.len → length (data_of plan id io kind) ≡ io.piece.len
length-data plan id io ticket.Read job planned written = length-replicate io.piece.len 0
length-data plan id io ticket.Probe job planned written = length-replicate io.piece.len 0
length-data plan id io ticket.ReadCheck job planned written = length-replicate io.piece.len 0
length-data plan id io ticket.Write job planned written = written

-- an I/O that was started and has not ended ends by this reply
module _ (player new : Player) (id : ℕ) (io : Started) (reply : Reply) (served : AnswerParts) (ready : IsReady player) (free : end_refusal (state_of player) id ≡ None) (at : slice_get (started player.desk.history) id ≡ Some io) (called : Answers (scripted_state (record player.engine { set = Some (player.engine.calls, reply) })) (ticket_of player.desk.plan (id, io)) (data_of player.desk.plan id io io.kind) served (scripted_state new.engine)) (desk : new.desk ≡ record player.desk { history = player.desk.history ++ End served.ticket.worker served.ticket.id served.outcome ∷ [] }) (reads : new.reads.items ≡ kept_by served.ticket.kind player.reads.items served) where
  abbrev plan : Plan
  plan = player.desk.plan

  abbrev memory : List FileBytes
  memory = player.engine.memory

  abbrev left : Asked
  left = asked reply memory io.kind io.piece (data_of plan id io io.kind)

  job : (j : SubJob) × (clone_of plan io.write.clone ≡ Some j)
  job = let fits = started_fit-law plan player.desk.history id io ready.planned ready.legal at in (fits.0, fits.1.planned)

  covered : IsTrue (covers memory io.piece.file io.piece.offset io.piece.len)
  covered =
      let drawn = draw_started plan player.desk.history id io ready.legal at in
      covers_piece plan memory io.piece ready.covers (lies_in_file plan io.write io.piece drawn.0 drawn.1 ready.planned drawn.2)

  room : length (data_of plan id io io.kind) ≡ io.piece.len
  room =
      let drawn = draw_started plan player.desk.history id io ready.legal at in
      length-data plan id io io.kind job.0 job.1
      (ap length (content_is plan id io job.0 job.1) ∙ length-content_of_io plan io drawn.0 drawn.1 ready.planned drawn.2)

  leaves : Leaves left served (scripted_state new.engine)
  leaves =
      let next : next_reply (scripted_state (record player.engine { set = Some (player.engine.calls, reply) })) ≡ reply =
      ap (λ (b : Bool). cond b reply (scripted_reply player.engine.script player.engine.calls)) (eq-eqb player.engine.calls player.engine.calls refl) in
      subst (λ (r : Reply). Leaves (asked r memory io.kind io.piece (data_of plan id io io.kind)) served (scripted_state new.engine)) next
      (called.by_reply refl covered)

  same_worker : served.ticket.worker ≡ io.worker
  same_worker = ap (λ (t : Ticket). t.worker) called.ticket

  same_id : served.ticket.id ≡ id
  same_id = ap (λ (t : Ticket). t.id) called.ticket

  same_kind : served.ticket.kind ≡ io.kind
  same_kind = ap (λ (t : Ticket). t.kind) called.ticket

  history : new.desk.history ≡ player.desk.history ++ End io.worker id served.outcome ∷ []
  history =
      ap (λ (d : DeskState). d.history) desk
      ∙ ap (λ (w : ℕ). player.desk.history ++ End w served.ticket.id served.outcome ∷ []) same_worker
      ∙ ap (λ (n : ℕ). player.desk.history ++ End io.worker n served.outcome ∷ []) same_id

  state : state_of new ≡ ends_by plan (state_of player) id reply io.kind io
  state =
      same_states (state_of new) (left_by (state_of player) io.worker id io.kind left)
      (history ∙ ap (λ (o : Outcome). player.desk.history ++ End io.worker id o ∷ []) leaves.outcome)
      (ap (λ (d : DeskState). d.is_stopped) desk)
      leaves.memory
      (ap read_back_of reads
      ∙ kept_read served.ticket.kind player.reads.items served
      ∙ ap (λ (k : TicketKind). read_by k served.ticket.id served.bytes (read_back_of player.reads.items)) same_kind
      ∙ ap (λ (n : ℕ). read_by io.kind n served.bytes (read_back_of player.reads.items)) same_id
      ∙ ap (λ (bytes : List ℕ). read_by io.kind id bytes (read_back_of player.reads.items)) leaves.bytes)
      ∙ sym (ends_as plan (state_of player) id reply io io.kind job.0 job.1)

  same_plan : new.desk.plan ≡ plan
  same_plan = ap (λ (d : DeskState). d.plan) desk

  covers_on : CoversFiles plan new.engine.memory
  covers_on file spec there =
      ap (λ (m : List FileBytes). covers m file spec.low (spec.high - spec.low)) leaves.memory
      ∙ covers_after_asked reply memory io.kind io.piece (data_of plan id io io.kind) room covered file spec.low (spec.high - spec.low)
      ∙ ready.covers file spec there

  unended : outcome_of player.desk.history id ≡ None
  unended =
      none_by_test (outcome_of player.desk.history id)
      (three_conds player.desk.is_stopped (nat_lt id (length (started player.desk.history))) (is_none (outcome_of player.desk.history id)) Stopped Twice Stranger free).2

  reads_on : KeepsReads plan new.desk.history new.reads.items
  reads_on =
      subst (λ (h : List Event). KeepsReads plan h new.reads.items) (sym history)
      (subst (λ (xs : List AnswerParts). KeepsReads plan (player.desk.history ++ End io.worker id served.outcome ∷ []) xs) (sym reads)
      (keeps_ended plan player.desk.history player.reads.items io.worker id io served ready.legal at unended called.ticket ready.reads))

  pub ends_on : GoesOn player (machine_end plan (state_of player) id reply) answer.Ended new
  ends_on =
      subst (λ (o : Option Started). GoesOn player (machine_end_by plan (state_of player) id reply (end_refusal (state_of player) id) o) answer.Ended new) (sym at)
      (subst (λ (o : Option DeskFault). GoesOn player (machine_end_by plan (state_of player) id reply o (Some io)) answer.Ended new) (sym free)
      (record {
        answer = refl;
        state = state;
        plan = same_plan;
        calls = omega (arith, called.calls);
        covers = subst (λ (p : Plan). CoversFiles p new.engine.memory) (sym same_plan) covers_on;
        reads = subst (λ (p : Plan). KeepsReads p new.desk.history new.reads.items) (sym same_plan) reads_on;
      }))

-- what the end of a ticket left is what the machine's end leaves
pub end_goes_on : (player new : Player) (id : ℕ) (reply : Reply) (t : Ticket) (engine : ScriptedState) (served : AnswerParts) → IsReady player → end_refusal (state_of player) id ≡ None → slice_get (tickets_of player.desk.plan player.desk.history) id ≡ Some t → engine ≡ record player.engine { set = Some (player.engine.calls, reply) } → Answers (scripted_state engine) t (asked_with t.kind t (replicate t.piece.len 0)) served (scripted_state new.engine) → new.desk ≡ record player.desk { history = player.desk.history ++ End served.ticket.worker served.ticket.id served.outcome ∷ [] } → new.reads.items ≡ kept_by served.ticket.kind player.reads.items served → GoesOn player (machine_end player.desk.plan (state_of player) id reply) answer.Ended new
end_goes_on player new id reply t engine served ready free at set called desk reads =
    let is = known player.desk.plan player.desk.history id t at in
    ends_on player new id is.0 reply served ready free is.1
    (subst (λ (x : Ticket). Answers (scripted_state (record player.engine { set = Some (player.engine.calls, reply) })) x (asked_with x.kind x (replicate x.piece.len 0)) served (scripted_state new.engine)) (sym is.2)
    (subst (λ (e : ScriptedState). Answers (scripted_state e) t (asked_with t.kind t (replicate t.piece.len 0)) served (scripted_state new.engine)) set called))
    desk reads
