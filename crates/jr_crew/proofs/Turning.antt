-- What holds between two turns of a run, and how each turn keeps it.
use Rattle.std.proofs.Common.{◌≡◌, ℕ, ◌+◌, ◌-◌, List, [], ◌∷◌, ◌++◌, length, replicate, Bool, true, false, cond, not, ◌&&◌, refl, sym, ◌∙◌, ap, subst, arith, append_assoc, append-nil, length-append}
use Rattle.std.specs.Prelude.{Some, None, slice_get, ◌==◌, IsTrue}
use Rattle.std.specs.Bool.{MatchBool}
use Rattle.std.proofs.lemmas.Bool.{cond_both, eq-eqb}
use Rattle.std.proofs.lemmas.List.{length-replicate}
use Rattle.jr_model.specs.declared.events.Event.{Event}
use Rattle.jr_model.specs.declared.events.Event.TheVariants.{Verdict}
use Rattle.jr_model.specs.declared.events.Started.{Started}
use Rattle.jr_model.specs.declared.tickets.Ticket.{Ticket}
use Rattle.jr_model.specs.declared.tickets.TicketKind.{TicketKind}
use Rattle.jr_model.specs.declared.tickets.TicketKind.TheVariants as ticket
use Rattle.jr_model.specs.declared.workloads.Draw.{Draw}
use Rattle.jr_model.specs.History.{started}
use Rattle.jr_model.specs.Judgement.{verdict_of}
use Rattle.jr_model.specs.Legal.{is_legal, is_void}
use Rattle.jr_model.specs.Machine.{bytes_read, verdict_on}
use Rattle.jr_model.specs.Plan.{Plan, SubJob}
use Rattle.jr_model.specs.Races.{has_raced}
use Rattle.jr_model.specs.Replies.{EngineState, FileBytes, covers, asked, next_reply}
use Rattle.jr_model.specs.Tied.{KnownEngine, called, TiedAlong, IsTied}
use Rattle.jr_model.specs.PlanFacts.{IsPlanned}
use Rattle.jr_model.proofs.PlanLemmas.{numbered_of}
use Rattle.jr_model.proofs.PlaceLemmas.{got_last}
use Rattle.jr_engines.specs.Answers.{AnswerParts, Answers, Leaves, is_failed}
use Rattle.jr_engines.proofs.MemoryLemmas.{covers_after_asked}
use Rattle.jr_header.specs.Served.{asked_with, ticket_content, is_whole_check}
use Rattle.jr_laws_bytes.specs.Memory.{CoversFiles}
use Rattle.jr_laws_bytes.proofs.Starts.{draw_started, IsDrawOf}
use Rattle.jr_laws_bytes.proofs.Contents.{lies_in_file, length-content_of_io}
use Rattle.jr_laws_bytes.proofs.Memories.{covers_piece}
use Rattle.jr_desk_state.specs.Takes.{IsChosen}
use Rattle.jr_desk_state.proofs.Keeping.{chosen_legal, chosen_started, chosen_at}
use Rattle.jr_desk_state.proofs.Serving.{content_is, verdict_is}
use Rattle.jr_crew.specs.Ends.{ends_of, failed_ends_of}
use Rattle.jr_crew.specs.Runs.{known_engine, IsCovering}
use Rattle.jr_crew.specs.Turns.{ended_by, AreSettled, IsTurn}
use Rattle.jr_crew.proofs.Alone.{IsAlone, chosen_alone, ended_alone}
use Rattle.jr_crew.proofs.Chosen.{IsStep, appends_by, chosen_worker}
use Rattle.jr_crew.proofs.Counting.{chosen_ends, chosen_failed_ends, ended_ends, ended_failed_ends}
use Rattle.jr_crew.proofs.Settling.{settled_still}
use Rattle.jr_crew.proofs.Tying.{tied_more, tied_on, tied_step, IsNextCall}
use Rattle.jr_crew.proofs.Carrying.{next_of, buffer_for, judged_with, ended_with, ended_starts_none, ended_by-with, turn_legal, turn_started, turn_settled, begun_legal}
use Rattle.jr_crew.proofs.Calling.{IsCall, is_call}
use Rattle.jr_crew.proofs.Unraced.{turn_unraced}

-- a known engine, as far as the run came: its calls are what was completed, and its memory covers the plan's files
pub record IsTiedSoFar (plan : Plan) (history : List Event) (old engine : EngineState) : Type 0 where
  pub read_back : List (ℕ × List ℕ)
  pub tied : IsTied plan true history 0 (known_engine old []) (known_engine engine read_back)
  pub covers : CoversFiles plan engine.memory

-- a run so far, from an engine's state on: all that was started is settled, and the engine was called once for each end
pub record IsSoFar (plan : Plan) (history : List Event) (old engine : EngineState) : Type 0 where
  pub legal : is_legal plan history ≡ true
  pub settled : AreSettled history
  pub alone : IsAlone history
  pub unraced : (io : ℕ) → has_raced history io ≡ false
  pub ends : ends_of history ≡ length (started history)
  pub calls : engine.calls ≡ old.calls + ends_of history
  pub failures : engine.failures ≡ old.failures + failed_ends_of history
  pub known : engine.is_known ≡ old.is_known
  pub script : engine.script ≡ old.script
  pub tied : IsCovering plan old → IsTiedSoFar plan history old engine

match_true : (b : Bool) (A B : Type 0) → b ≡ true → A → MatchBool b A B
match_true b A B is a = subst (λ (x : Bool). MatchBool x A B) (sym is) a

-- what holds holds where it is asked for
either_way : (b : Bool) (A : Type 0) → A → MatchBool b A (Unit {0})
either_way true A a = a
either_way false A a = tt

one_failed : (failed : Bool) (before now old counted : ℕ) → now ≡ cond failed (before + 1) before → before ≡ old + counted → now ≡ old + cond failed (counted + 1) counted
one_failed true before now old counted is was = omega (arith, is, was)
one_failed false before now old counted is was = omega (arith, is, was)

-- how much an engine is asked with
pub asked_room_for : (t : Ticket) (kind : TicketKind) (n : ℕ) → length (ticket_content t) ≡ n → length (asked_with kind t (replicate n 0)) ≡ n
asked_room_for t ticket.Read n content = length-replicate n 0
asked_room_for t ticket.Probe n content = length-replicate n 0
asked_room_for t ticket.ReadCheck n content = length-replicate n 0
asked_room_for t ticket.Write n content = content

-- a turn of worker 0 whose engine is known
module _ (plan : Plan) (history begun : List Event) (io : Started) (old engine next : EngineState) (answer : AnswerParts) (planned : IsPlanned plan) (legal : is_legal plan history ≡ true) (chosen : IsChosen plan 0 history begun (Some io)) (asked_so : Answers engine (next_of plan history io) (buffer_for (next_of plan history io)) answer next) (known : IsTrue engine.is_known) (sofar : IsTiedSoFar plan history old engine) where
  drawn : (job : SubJob) × (draw : Draw) × IsDrawOf plan io.write io.piece job draw
  drawn = draw_started plan begun (length (started history)) io (begun_legal plan history begun io engine next answer planned legal chosen asked_so) (chosen_at plan 0 history begun io chosen)

  piece_covered : IsTrue (covers engine.memory io.piece.file io.piece.offset io.piece.len)
  piece_covered =
      let job = drawn in
      covers_piece plan engine.memory io.piece sofar.covers (lies_in_file plan io.write io.piece job.0 job.1 planned job.2)

  pub left : Leaves (asked (next_reply engine) engine.memory io.kind io.piece (buffer_for (next_of plan history io))) answer next
  left = asked_so.by_reply known piece_covered

  pub call : IsCall plan engine next sofar.read_back (length (started history)) io io.kind answer
  call =
      let job = drawn in
      is_call plan engine next sofar.read_back (length (started history)) io io.kind answer job.0 job.2.planned left asked_so.script asked_so.calls

  -- the length of what the engine is asked with
  asked_room : length (buffer_for (next_of plan history io)) ≡ io.piece.len
  asked_room =
      let job = drawn in
      asked_room_for (next_of plan history io) io.kind io.piece.len
      (ap length (content_is plan (length (started history)) io job.0 job.2.planned)
      ∙ length-content_of_io plan io job.0 job.1 planned job.2)

  next_covers : CoversFiles plan next.memory
  next_covers file spec at =
      ap (λ (m : List FileBytes). covers m file spec.low (spec.high - spec.low)) left.memory
      ∙ covers_after_asked (next_reply engine) engine.memory io.kind io.piece (buffer_for (next_of plan history io)) asked_room piece_covered file spec.low (spec.high - spec.low)
      ∙ sofar.covers file spec at

  -- the engine after the I/O's call
  abbrev after_call : KnownEngine
  after_call = (called plan (known_engine engine sofar.read_back) (length (started history)) io.kind io).engine

  -- its end and verdict are that call's
  call_tied : (ios : List Started) → slice_get ios (length (started history)) ≡ Some io → TiedAlong plan true 0 ios (known_engine engine sofar.read_back) (ended_with (next_of plan history io) answer.outcome answer.bytes) (known_engine next after_call.read_back)
  call_tied ios at =
      let id = length (started history) in
      let t = next_of plan history io in
      let before = known_engine engine sofar.read_back in
      let after = known_engine next after_call.read_back in
      let said = verdict_of t.method t.write t.piece t.expected answer.bytes in
      let verdicts = judged_with t answer.outcome answer.bytes in
      let job = drawn in
      let by_worker = eq-eqb io.worker 0 (chosen_worker plan 0 history begun io planned chosen) in
      let rest : TiedAlong plan true 0 ios after_call verdicts after =
      cond_both (is_whole_check io.kind answer.outcome) (Verdict 0 id said ∷ []) [] (λ (events : List Event). TiedAlong plan true 0 ios after_call events after)
      (λ (whole : is_whole_check io.kind answer.outcome ≡ true). (
        (
          io,
          at,
          either_way (io.worker == 0 && not (is_void said)) (verdict_on plan io (bytes_read after_call.read_back id) ≡ said)
              (ap (verdict_on plan io) (call.bytes whole) ∙ verdict_is plan io job.0 answer.bytes job.2.planned),
        ),
        call.leaves,
      ))
      (λ h. call.leaves) in
      match_true (io.worker == 0)
      (IsNextCall plan ios before id answer.outcome (λ (e : KnownEngine). TiedAlong plan true 0 ios e verdicts after))
      (TiedAlong plan true 0 ios before verdicts after)
      by_worker
      (io, at, call.outcome, rest)

  -- the run so far and this turn
  pub turn_tied : IsTiedSoFar plan (begun ++ ended_with (next_of plan history io) answer.outcome answer.bytes) old next
  turn_tied =
      let events = ended_with (next_of plan history io) answer.outcome answer.bytes in
      let longer = begun ++ events in
      let ios = started history ++ io ∷ [] in
      let first = known_engine old [] in
      let before = known_engine engine sofar.read_back in
      let after = known_engine next after_call.read_back in
      let back : TiedAlong plan true 0 ios before (chosen.0 ++ events) after =
      appends_by plan 0 (λ (steps : List Event). TiedAlong plan true 0 ios before (steps ++ events) after) (numbered_of plan planned)
      (call_tied ios (got_last (started history) io))
      (λ (e : Event) (steps : List Event) (step : IsStep 0 e) (tied : TiedAlong plan true 0 ios before (steps ++ events) after).
      tied_step plan true 0 0 ios before e (steps ++ events) after step tied)
      history chosen.0 chosen.2 in
      let whole : TiedAlong plan true 0 ios first (history ++ (chosen.0 ++ events)) after =
      tied_on plan true 0 ios first history before (chosen.0 ++ events) after (tied_more plan true 0 (started history) (io ∷ []) first history before sofar.tied) back in
      let same : history ++ (chosen.0 ++ events) ≡ longer =
      sym (append_assoc history chosen.0 events) ∙ ap (λ (h : List Event). h ++ events) (sym chosen.1) in
      let all : started longer ≡ ios = turn_started plan history begun io engine next answer planned legal chosen asked_so in record {
        read_back = after_call.read_back;
        tied = subst (λ (s : List Started). TiedAlong plan true 0 s first longer after) (sym all)
            (subst (λ (h : List Event). TiedAlong plan true 0 ios first h after) same whole);
        covers = next_covers;
      }

-- what appends no end goes on being tied
last_tied : (plan : Plan) (history after : List Event) (old engine : EngineState) → IsPlanned plan → IsChosen plan 0 history after None → started after ≡ started history → IsTiedSoFar plan history old engine → IsTiedSoFar plan after old engine
last_tied plan history after old engine planned chosen more sofar =
    let ios = started history in
    let first = known_engine old [] in
    let now = known_engine engine sofar.read_back in
    let back : TiedAlong plan true 0 ios now chosen.0 now =
    appends_by plan 0 (λ (steps : List Event). TiedAlong plan true 0 ios now steps now) (numbered_of plan planned) refl
    (λ (e : Event) (steps : List Event) (step : IsStep 0 e) (tied : TiedAlong plan true 0 ios now steps now). tied_step plan true 0 0 ios now e steps now step tied)
    history chosen.0 chosen.2 in
    record {
      read_back = sofar.read_back;
      tied = subst (λ (s : List Started). TiedAlong plan true 0 s first after now) (sym more)
          (subst (λ (h : List Event). TiedAlong plan true 0 ios first h now) (sym chosen.1)
          (tied_on plan true 0 ios first history now chosen.0 now sofar.tied back));
      covers = sofar.covers;
    }

-- each turn keeps what holds so far
module _ (plan : Plan) (history : List Event) (old engine next : EngineState) (planned : IsPlanned plan) (sofar : IsSoFar plan history old engine) where
  with_answer : (begun : List Event) (io : Started) (answer : AnswerParts) → IsChosen plan 0 history begun (Some io) → Answers engine (next_of plan history io) (buffer_for (next_of plan history io)) answer next → IsSoFar plan (begun ++ ended_by answer) old next
  with_answer begun io answer chosen asked_so =
      let t = next_of plan history io in
      let events = ended_with t answer.outcome answer.bytes in
      let same : ended_by answer ≡ events = ended_by-with engine next t (buffer_for t) answer asked_so in
      let worker : answer.ticket.worker ≡ 0 =
      ap (λ (x : Ticket). x.worker) asked_so.ticket ∙ chosen_worker plan 0 history begun io planned chosen in
      let ended = ended_ends begun answer in
      let failed = ended_failed_ends begun answer in
      let all = turn_started plan history begun io engine next answer planned sofar.legal chosen asked_so in
      let ends : ends_of (begun ++ ended_by answer) ≡ ends_of history + 1 =
      omega (arith, ended, chosen_ends plan 0 history begun (Some io) planned chosen) in
      let starts : length (started (begun ++ events)) ≡ length (started history) + 1 =
      omega (arith, ap length all, length-append (started history) (io ∷ [])) in
      let counted : ends_of history + 1 ≡ length (started (begun ++ events)) = omega (arith, starts, sofar.ends) in
      let failures : next.failures ≡ old.failures + cond (is_failed answer.outcome) (failed_ends_of history + 1) (failed_ends_of history) =
      one_failed (is_failed answer.outcome) engine.failures next.failures old.failures (failed_ends_of history) asked_so.failures sofar.failures in
      record {
        legal = subst (λ (xs : List Event). is_legal plan (begun ++ xs) ≡ true) (sym same)
            (turn_legal plan history begun io engine next answer planned sofar.legal chosen asked_so sofar.settled);
        settled = subst (λ (xs : List Event). AreSettled (begun ++ xs)) (sym same)
            (turn_settled plan history begun io engine next answer planned sofar.legal chosen asked_so sofar.settled);
        alone = ended_alone begun answer worker (chosen_alone plan history begun (Some io) planned chosen sofar.alone);
        unraced =
            subst (λ (xs : List Event). (id : ℕ) → has_raced (begun ++ xs) id ≡ false) (sym same)
            (turn_unraced plan 0 history begun events (Some io) chosen sofar.settled (ended_starts_none t answer.outcome answer.bytes) sofar.unraced);
        ends = ends ∙ counted ∙ ap (λ (xs : List Event). length (started (begun ++ xs))) (sym same);
        calls = omega (arith, asked_so.calls, sofar.calls, ends);
        failures =
            failures
            ∙ ap (λ (n : ℕ). old.failures + cond (is_failed answer.outcome) (n + 1) n) (sym (chosen_failed_ends plan 0 history begun (Some io) planned chosen))
            ∙ ap (λ (n : ℕ). old.failures + n) (sym failed);
        known = asked_so.known ∙ sofar.known;
        script = asked_so.script ∙ sofar.script;
        tied = λ (covering : IsCovering plan old).
            subst (λ (xs : List Event). IsTiedSoFar plan (begun ++ xs) old next) (sym same)
            (turn_tied plan history begun io old engine next answer planned sofar.legal chosen asked_so (sofar.known ∙ covering.known) (sofar.tied covering));
      }

  pub turn_keeps : (after : List Event) → IsTurn plan history after engine next → IsSoFar plan after old next
  turn_keeps after turn =
      subst (λ (h : List Event). IsSoFar plan h old next) (sym turn.carried.history)
      (with_answer turn.begun turn.io turn.carried.answer turn.chosen turn.carried.asked)

  -- and starts one more
  pub turn_starts : (after : List Event) → IsTurn plan history after engine next → length (started after) ≡ length (started history) + 1
  turn_starts after turn =
      let answer = turn.carried.answer in
      let t = next_of plan history turn.io in
      let same = ended_by-with engine next t (buffer_for t) answer turn.carried.asked in
      let all : started after ≡ started history ++ turn.io ∷ [] =
      ap started (turn.carried.history ∙ ap (λ (xs : List Event). turn.begun ++ xs) same)
      ∙ turn_started plan history turn.begun turn.io engine next answer planned sofar.legal turn.chosen turn.carried.asked in
      omega (arith, ap length all, length-append (started history) (turn.io ∷ []))

  -- the last turn starts and ends nothing
  pub last_keeps : (after : List Event) → IsChosen plan 0 history after None → next ≡ engine → IsSoFar plan after old next
  last_keeps after chosen same =
      let more : started after ≡ started history = chosen_started plan 0 history after None chosen ∙ append-nil (started history) in
      let ends = chosen_ends plan 0 history after None planned chosen in
      let failed = chosen_failed_ends plan 0 history after None planned chosen in
      subst (λ (e : EngineState). IsSoFar plan after old e) (sym same)
      (record {
        legal = chosen_legal plan 0 history after None planned sofar.legal chosen;
        settled = settled_still history after chosen.0 sofar.settled chosen.1 more;
        alone = chosen_alone plan history after None planned chosen sofar.alone;
        unraced = λ id.
            ap (λ (h : List Event). has_raced h id) (sym (append-nil after))
            ∙ turn_unraced plan 0 history after [] None chosen sofar.settled refl sofar.unraced id;
        ends = ends ∙ sofar.ends ∙ ap length (sym more);
        calls = sofar.calls ∙ ap (λ (n : ℕ). old.calls + n) (sym ends);
        failures = sofar.failures ∙ ap (λ (n : ℕ). old.failures + n) (sym failed);
        known = sofar.known;
        script = sofar.script;
        tied = λ (covering : IsCovering plan old). last_tied plan history after old engine planned chosen more (sofar.tied covering);
      })
