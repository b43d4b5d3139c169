-- Over a fresh memory that keeps what is written, each call ends whole and each check is good.
use Rattle.std.proofs.Common.{◌≡◌, ℕ, ◌-◌, ◌*◌, ◌<◌, List, [], ◌∷◌, ◌++◌, length, drop, true, cond, refl, sym, ◌∙◌, ap, subst, arith, append_assoc}
use Rattle.std.specs.Prelude.{Option, Some, slice_get, nat_lt, IsTrue}
use Rattle.std.proofs.lemmas.Bool.{cond_both, ltb-true}
use Rattle.std.proofs.lemmas.List.{length-take-le, length-drop}
use Rattle.jr_model.specs.declared.events.Event.{Event}
use Rattle.jr_model.specs.declared.events.Event.TheVariants.{End, Verdict}
use Rattle.jr_model.specs.declared.events.Outcome.{Outcome}
use Rattle.jr_model.specs.declared.events.Outcome.TheVariants.{Whole, Short}
use Rattle.jr_model.specs.declared.events.Started.{Started}
use Rattle.jr_model.specs.declared.events.Verdict.{Verdict as GivenVerdict}
use Rattle.jr_model.specs.declared.events.Verdict.TheVariants.{Good}
use Rattle.jr_model.specs.declared.replies.Reply.{Reply}
use Rattle.jr_model.specs.declared.replies.Reply.TheVariants.{Pass}
use Rattle.jr_model.specs.declared.tickets.TicketKind.{TicketKind}
use Rattle.jr_model.specs.declared.tickets.TicketKind.TheVariants as ticket
use Rattle.jr_model.specs.declared.workloads.Draw.{Draw}
use Rattle.jr_model.specs.History.{started, is_judged_kind, is_probe, is_write}
use Rattle.jr_model.specs.Judgement.{verdict_of}
use Rattle.jr_model.specs.Legal.{is_legal}
use Rattle.jr_model.specs.Machine.{content_of_io, verdict_on, work_of}
use Rattle.jr_model.specs.Plan.{Plan, SubJob, clone_of}
use Rattle.jr_model.specs.Replies.{EngineState, FileBytes, asked, covers, memory_with, outcome_for, scripted_reply, stored, stored_in}
use Rattle.jr_model.specs.Serial.{ends_as, followed_by, memory_after, serial_history, stored_for, with_io}
use Rattle.jr_model.specs.PlanFacts.{IsPlanned}
use Rattle.jr_engines.specs.Answers.{AnswerParts, Answers, Leaves}
use Rattle.jr_engines.proofs.MemoryLemmas.{covers_after_asked}
use Rattle.jr_header.specs.Served.{is_whole_check}
use Rattle.jr_laws_bytes.specs.Memory.{CoversFiles, HoldsLastWrites}
use Rattle.jr_laws_bytes.proofs.Starts.{draw_started, IsDrawOf}
use Rattle.jr_laws_bytes.proofs.Contents.{lies_in_file, length-content_of_io}
use Rattle.jr_laws_bytes.proofs.Memories.{has_range, covers_piece, covers-fresh_memory, holds_write, holds_read, holds_on, holds_none, stored_check}
use Rattle.jr_laws_bytes.proofs.Verdicts.{good_on_own}
use Rattle.jr_desk_state.specs.Takes.{IsChosen}
use Rattle.jr_desk_state.proofs.Keeping.{chosen_at}
use Rattle.jr_desk_state.proofs.Serving.{content_is, verdict_is}
use Rattle.jr_crew.specs.Runs.{IsFresh}
use Rattle.jr_crew.specs.Turns.{AreSettled, IsTurn, IsLastTurn}
use Rattle.jr_crew.proofs.Chosen.{chosen_worker, chosen_unended}
use Rattle.jr_crew.proofs.Carrying.{next_of, buffer_for, ended_with, ended_by-with, begun_legal, ended_legal}
use Rattle.jr_crew.proofs.Calling.{data_for}
use Rattle.jr_crew.proofs.Going.{IsAhead, ahead_none, ahead_some, ahead_ends, none_left, holds_appends}
use Rattle.jr_crew.proofs.Remembering.{memory_appends, memory_ended}
use Rattle.jr_crew.proofs.Turning.{asked_room_for}
use Rattle.jr_crew.proofs.Unraced.{chosen_unraced}

-- a run over such a memory so far
pub record IsSerialSoFar (plan : Plan) (history : List Event) (engine : EngineState) : Type 0 where
  pub known : IsTrue engine.is_known
  pub script : engine.script ≡ []
  pub covers : CoversFiles plan engine.memory
  pub holds : HoldsLastWrites plan history engine.memory
  pub memory : engine.memory ≡ memory_after plan history
  pub ahead : IsAhead plan history

pub serial_first : (plan : Plan) (history : List Event) (engine : EngineState) → IsPlanned plan → history ≡ [] → IsFresh plan engine → IsSerialSoFar plan history engine
serial_first plan history engine planned none fresh =
    let first : IsSerialSoFar plan [] engine = record {
      known = fresh.known;
      script = fresh.script;
      covers = subst (λ (m : List FileBytes). CoversFiles plan m) (sym fresh.memory) (covers-fresh_memory plan planned);
      holds = holds_none plan engine.memory;
      memory = fresh.memory;
      ahead = record { limit = 2 * work_of plan; ahead = refl };
    } in
    subst (λ (h : List Event). IsSerialSoFar plan h engine) (sym none) first

-- one call that is carried out

stored_size : (memory : List FileBytes) (file offset n : ℕ) → covers memory file offset n ≡ true → length (stored memory file offset n) ≡ n
stored_size memory file offset n covered =
    let range = has_range memory file offset n covered in
    let found = range.found in
    ap (λ (o : Option FileBytes). length (stored_in o offset n)) range.there
    ∙ length-take-le n (drop (offset - found.low) found.bytes)
    (omega (arith, length-drop (offset - found.low) found.bytes, range.low, range.high, range.size))

all_moved : (n len : ℕ) → n ≡ len → outcome_for (Some n) len ≡ Whole
all_moved n len same =
    cond_both (nat_lt n len) (Short n) Whole (λ (o : Outcome). o ≡ Whole)
    (λ (below : nat_lt n len ≡ true). let less : n < len = ltb-true n len below in absurd (omega (arith, less, same)))
    (λ h. refl)

-- what such a call leaves
abbrev LeavesAll : Plan → EngineState → EngineState → ℕ → Started → TicketKind → AnswerParts → Type 0
LeavesAll plan engine next id io kind answer = Leaves (asked Pass engine.memory kind io.piece (data_for plan id io kind)) answer next

ends_whole : (plan : Plan) (engine next : EngineState) (id : ℕ) (io : Started) (kind : TicketKind) (answer : AnswerParts) → covers engine.memory io.piece.file io.piece.offset io.piece.len ≡ true → length (data_for plan id io kind) ≡ io.piece.len → LeavesAll plan engine next id io kind answer → answer.outcome ≡ Whole
ends_whole plan engine next id io ticket.Read answer covered room leaves =
    leaves.outcome ∙ all_moved (length (stored engine.memory io.piece.file io.piece.offset io.piece.len)) io.piece.len (stored_size engine.memory io.piece.file io.piece.offset io.piece.len covered)
ends_whole plan engine next id io ticket.Probe answer covered room leaves =
    leaves.outcome ∙ all_moved (length (stored engine.memory io.piece.file io.piece.offset io.piece.len)) io.piece.len (stored_size engine.memory io.piece.file io.piece.offset io.piece.len covered)
ends_whole plan engine next id io ticket.ReadCheck answer covered room leaves =
    leaves.outcome ∙ all_moved (length (stored engine.memory io.piece.file io.piece.offset io.piece.len)) io.piece.len (stored_size engine.memory io.piece.file io.piece.offset io.piece.len covered)
ends_whole plan engine next id io ticket.Write answer covered room leaves =
    leaves.outcome ∙ all_moved (length (data_for plan id io ticket.Write)) io.piece.len room

gives_stored : (plan : Plan) (engine next : EngineState) (id : ℕ) (io : Started) (kind : TicketKind) (answer : AnswerParts) → is_judged_kind kind ≡ true → LeavesAll plan engine next id io kind answer → answer.bytes ≡ stored_for engine.memory io
gives_stored plan engine next id io ticket.Probe answer judged leaves = leaves.bytes
gives_stored plan engine next id io ticket.ReadCheck answer judged leaves = leaves.bytes
gives_stored plan engine next id io ticket.Read answer judged leaves = cc
gives_stored plan engine next id io ticket.Write answer judged leaves = cc

-- and what it leaves in the memory
leaves_with : (plan : Plan) (engine next : EngineState) (id : ℕ) (io : Started) (kind : TicketKind) (answer : AnswerParts) (job : SubJob) → clone_of plan io.write.clone ≡ Some job → LeavesAll plan engine next id io kind answer → next.memory ≡ cond (is_write kind) (memory_with engine.memory io.piece.file io.piece.offset (content_of_io plan io)) engine.memory
leaves_with plan engine next id io ticket.Read answer job planned leaves = leaves.memory
leaves_with plan engine next id io ticket.Probe answer job planned leaves = leaves.memory
leaves_with plan engine next id io ticket.ReadCheck answer job planned leaves = leaves.memory
leaves_with plan engine next id io ticket.Write answer job planned leaves =
    leaves.memory ∙ ap (λ (bytes : List ℕ). memory_with engine.memory io.piece.file io.piece.offset bytes) (content_is plan id io job planned)

-- the memory goes on to hold the last writes
holds_end : (plan : Plan) (begun : List Event) (engine next : EngineState) (id : ℕ) (io : Started) (kind : TicketKind) (answer : AnswerParts) (job : SubJob) (draw : Draw) → IsPlanned plan → is_legal plan begun ≡ true → slice_get (started begun) id ≡ Some io → io.kind ≡ kind → IsDrawOf plan io.write io.piece job draw → CoversFiles plan engine.memory → HoldsLastWrites plan begun engine.memory → LeavesAll plan engine next id io kind answer → HoldsLastWrites plan (begun ++ End io.worker id answer.outcome ∷ []) next.memory
holds_end plan begun engine next id io ticket.Read answer job draw planned legal at kind names covered holds leaves =
    subst (λ (m : List FileBytes). HoldsLastWrites plan (begun ++ End io.worker id answer.outcome ∷ []) m) (sym leaves.memory)
    (holds_read plan begun engine.memory io.worker id answer.outcome io legal at (ap is_write kind) holds)
holds_end plan begun engine next id io ticket.Probe answer job draw planned legal at kind names covered holds leaves =
    subst (λ (m : List FileBytes). HoldsLastWrites plan (begun ++ End io.worker id answer.outcome ∷ []) m) (sym leaves.memory)
    (holds_read plan begun engine.memory io.worker id answer.outcome io legal at (ap is_write kind) holds)
holds_end plan begun engine next id io ticket.ReadCheck answer job draw planned legal at kind names covered holds leaves =
    subst (λ (m : List FileBytes). HoldsLastWrites plan (begun ++ End io.worker id answer.outcome ∷ []) m) (sym leaves.memory)
    (holds_read plan begun engine.memory io.worker id answer.outcome io legal at (ap is_write kind) holds)
holds_end plan begun engine next id io ticket.Write answer job draw planned legal at kind names covered holds leaves =
    let content = content_of_io plan io in
    let room : length content ≡ io.piece.len = length-content_of_io plan io job draw planned names in
    subst (λ (m : List FileBytes). HoldsLastWrites plan (begun ++ End io.worker id answer.outcome ∷ []) m) (sym (leaves_with plan engine next id io ticket.Write answer job names.planned leaves))
    (holds_write plan begun engine.memory io.worker id answer.outcome io content planned legal at (ap is_write kind) covered holds (omega (arith, room)) (λ h. refl))

-- what is appended is what the serial history has
tail_with : TicketKind → ℕ → ℕ → Outcome → GivenVerdict → List Event
tail_with kind worker id outcome said = End worker id outcome ∷ cond (is_whole_check kind outcome) (Verdict 0 id said ∷ []) []

tail_is : (plan : Plan) (memory : List FileBytes) (id : ℕ) (io : Started) (kind : TicketKind) (said : GivenVerdict) → (is_probe kind ≡ true → said ≡ Good) → (is_judged_kind kind ≡ true → said ≡ verdict_on plan io (stored_for memory io)) → tail_with kind 0 id Whole said ≡ ends_as plan memory id io kind
unfolding tail_with
tail_is plan memory id io ticket.Read said good stored = refl
tail_is plan memory id io ticket.Write said good stored = refl
tail_is plan memory id io ticket.Probe said good stored = ap (λ (v : GivenVerdict). End 0 id Whole ∷ Verdict 0 id v ∷ []) (good refl)
tail_is plan memory id io ticket.ReadCheck said good stored = ap (λ (v : GivenVerdict). End 0 id Whole ∷ Verdict 0 id v ∷ []) (stored refl)

-- a turn of worker 0
module _ (plan : Plan) (history begun : List Event) (io : Started) (engine next : EngineState) (answer : AnswerParts) (planned : IsPlanned plan) (legal : is_legal plan history ≡ true) (chosen : IsChosen plan 0 history begun (Some io)) (asked_so : Answers engine (next_of plan history io) (buffer_for (next_of plan history io)) answer next) (sofar : IsSerialSoFar plan history engine) (settled : AreSettled history) where
  here : slice_get (started begun) (length (started history)) ≡ Some io
  here = chosen_at plan 0 history begun io chosen

  legal_so : is_legal plan begun ≡ true
  legal_so = begun_legal plan history begun io engine next answer planned legal chosen asked_so

  drawn : (job : SubJob) × (draw : Draw) × IsDrawOf plan io.write io.piece job draw
  drawn = draw_started plan begun (length (started history)) io legal_so here

  covered : covers engine.memory io.piece.file io.piece.offset io.piece.len ≡ true
  covered =
      let job = drawn in
      covers_piece plan engine.memory io.piece sofar.covers (lies_in_file plan io.write io.piece job.0 job.1 planned job.2)

  room : length (data_for plan (length (started history)) io io.kind) ≡ io.piece.len
  room =
      let job = drawn in
      asked_room_for (next_of plan history io) io.kind io.piece.len
      (ap length (content_is plan (length (started history)) io job.0 job.2.planned) ∙ length-content_of_io plan io job.0 job.1 planned job.2)

  leaves : LeavesAll plan engine next (length (started history)) io io.kind answer
  leaves =
      subst (λ (reply : Reply). Leaves (asked reply engine.memory io.kind io.piece (data_for plan (length (started history)) io io.kind)) answer next)
      (ap (λ (script : List (ℕ × Reply)). scripted_reply script engine.calls) sofar.script)
      (asked_so.by_reply sofar.known covered)

  whole : answer.outcome ≡ Whole
  whole = ends_whole plan engine next (length (started history)) io io.kind answer covered room leaves

  holds_so : HoldsLastWrites plan begun engine.memory
  holds_so =
      subst (λ (h : List Event). HoldsLastWrites plan h engine.memory) (sym chosen.1)
      (holds_appends plan history chosen.0 engine.memory planned legal chosen.2 sofar.holds)

  -- the verdict is that on the bytes that are there
  said : GivenVerdict
  said =
      let t = next_of plan history io in
      verdict_of t.method t.write t.piece t.expected answer.bytes

  on_stored : is_judged_kind io.kind ≡ true → said ≡ verdict_on plan io (stored_for engine.memory io)
  unfolding said
  on_stored judged =
      let job = drawn in
      sym (verdict_is plan io job.0 answer.bytes job.2.planned)
      ∙ ap (verdict_on plan io) (gives_stored plan engine next (length (started history)) io io.kind answer judged leaves)

  -- a check reads what its write put there
  good : is_probe io.kind ≡ true → said ≡ Good
  good probe =
      let id = length (started history) in
      on_stored (probe_judged io.kind probe)
      ∙ ap (verdict_on plan io)
      (stored_check plan begun engine.memory id io planned legal_so sofar.covers holds_so here probe (chosen_unended plan 0 history begun io planned legal chosen)
      (chosen_unraced plan 0 history begun io chosen settled))
      ∙ good_on_own plan begun id io planned legal_so here probe
    where
      probe_judged : (kind : TicketKind) → is_probe kind ≡ true → is_judged_kind kind ≡ true
      probe_judged ticket.Probe h = refl
      probe_judged ticket.ReadCheck h = refl
      probe_judged ticket.Read h = cc
      probe_judged ticket.Write h = cc

  ended_so : ended_with (next_of plan history io) answer.outcome answer.bytes ≡ followed_by plan (memory_after plan history) (length (started history)) (Some io)
  unfolding tail_with said
  ended_so =
      let id = length (started history) in
      ap (λ (w : ℕ). tail_with io.kind w id answer.outcome said) (chosen_worker plan 0 history begun io planned chosen)
      ∙ ap (λ (o : Outcome). tail_with io.kind 0 id o said) whole
      ∙ tail_is plan engine.memory id io io.kind said good on_stored
      ∙ ap (λ (m : List FileBytes). ends_as plan m id io io.kind) sofar.memory

  -- the memory stays that of the history
  memory_so : next.memory ≡ memory_after plan (begun ++ ended_with (next_of plan history io) answer.outcome answer.bytes)
  memory_so =
      let id = length (started history) in
      let job = drawn in
      let t = next_of plan history io in
      let kept : memory_after plan begun ≡ memory_after plan history =
      ap (memory_after plan) chosen.1 ∙ memory_appends plan history chosen.0 planned legal chosen.2 in
      leaves_with plan engine next id io io.kind answer job.0 job.2.planned leaves
      ∙ ap (λ (m : List FileBytes). with_io plan m (Some io)) (sofar.memory ∙ sym kept)
      ∙ sym (memory_ended plan begun io.worker id 0 io (is_whole_check io.kind answer.outcome) (verdict_of t.method t.write t.piece t.expected answer.bytes) legal_so here)
      ∙ ap (λ (o : Outcome). memory_after plan (begun ++ End io.worker id o ∷ cond (is_whole_check io.kind answer.outcome) (Verdict 0 id (verdict_of t.method t.write t.piece t.expected answer.bytes) ∷ []) [])) (sym whole)

  holds_longer : HoldsLastWrites plan (begun ++ ended_with (next_of plan history io) answer.outcome answer.bytes) next.memory
  holds_longer =
      let id = length (started history) in
      let job = drawn in
      let t = next_of plan history io in
      let e = End io.worker id answer.outcome in
      let said = Verdict 0 id (verdict_of t.method t.write t.piece t.expected answer.bytes) in
      let ended = holds_end plan begun engine next id io io.kind answer job.0 job.1 planned legal_so here refl job.2 sofar.covers holds_so leaves in
      cond_both (is_whole_check io.kind answer.outcome) (said ∷ []) [] (λ (events : List Event). HoldsLastWrites plan (begun ++ e ∷ events) next.memory)
      (λ h. subst (λ (all : List Event). HoldsLastWrites plan all next.memory) (append_assoc begun (e ∷ []) (said ∷ []))
      (holds_on plan (begun ++ e ∷ []) next.memory said (ended_legal plan history begun io engine next answer planned legal chosen asked_so) (λ file block last. refl) ended))
      (λ h. ended)

  next_covers : CoversFiles plan next.memory
  next_covers file spec at =
      ap (λ (m : List FileBytes). covers m file spec.low (spec.high - spec.low)) leaves.memory
      ∙ covers_after_asked Pass engine.memory io.kind io.piece (data_for plan (length (started history)) io io.kind) room covered file spec.low (spec.high - spec.low)
      ∙ sofar.covers file spec at

  pub turn_serial : IsSerialSoFar plan (begun ++ ended_with (next_of plan history io) answer.outcome answer.bytes) next
  turn_serial = record {
    known = asked_so.known ∙ sofar.known;
    script = asked_so.script ∙ sofar.script;
    covers = next_covers;
    holds = holds_longer;
    memory = memory_so;
    ahead =
        subst (λ (xs : List Event). IsAhead plan (begun ++ xs)) (sym ended_so)
        (subst (λ (h : List Event). IsAhead plan (h ++ followed_by plan (memory_after plan history) (length (started history)) (Some io))) (sym chosen.1)
        (ahead_some plan history chosen.0 io planned legal chosen.2 (sym chosen.3) sofar.ahead));
  }

-- each turn goes on so
pub serial_turn : (plan own : Plan) (history after : List Event) (engine next : EngineState) → IsPlanned plan → own ≡ plan → is_legal plan history ≡ true → IsTurn own history after engine next → IsSerialSoFar plan history engine → AreSettled history → IsSerialSoFar plan after next
serial_turn plan own history after engine next planned same legal turn sofar settled =
    let this : IsTurn plan history after engine next = subst (λ (p : Plan). IsTurn p history after engine next) same turn in
    let answer = this.carried.answer in
    let t = next_of plan history this.io in
    subst (λ (h : List Event). IsSerialSoFar plan h next) (sym this.carried.history)
    (subst (λ (xs : List Event). IsSerialSoFar plan (this.begun ++ xs) next) (sym (ended_by-with engine next t (buffer_for t) answer this.carried.asked))
    (turn_serial plan history this.begun this.io engine next answer planned legal this.chosen this.carried.asked sofar settled))

-- and the last one leaves the serial history
pub serial_last : (plan own : Plan) (history after : List Event) (engine next : EngineState) → IsPlanned plan → own ≡ plan → IsLastTurn own history after engine next → IsSerialSoFar plan history engine → after ≡ serial_history plan
serial_last plan own history after engine next planned same last sofar =
    let this : IsLastTurn plan history after engine next = subst (λ (p : Plan). IsLastTurn p history after engine next) same last in
    let chosen = this.chosen in
    chosen.1
    ∙ ahead_ends plan (history ++ chosen.0) (none_left plan history chosen.0 planned chosen.2 (sym chosen.3))
    (ahead_none plan history chosen.0 planned chosen.2 (sym chosen.3) sofar.ahead)
