-- Along a history, the calls that a worker's book tells of are what the history says that it completed.
use Rattle.std.proofs.Common.{◌≡◌, ℕ, ◌-◌, List, [], ◌∷◌, ◌++◌, length, replicate, Bool, true, false, cond, not, ◌&&◌, ◌||◌, refl, sym, ◌∙◌, ap, subst, append_assoc}
use Rattle.std.specs.Prelude.{Option, Some, None, slice_get, filter_map, ◌==◌, IsTrue}
use Rattle.std.specs.Bool.{MatchBool}
use Rattle.std.specs.List.{cons_option}
use Rattle.std.specs.Option.{option_or}
use Rattle.std.proofs.lemmas.Bool.{and_parts, eq-eqb, eqb-true, not-true}
use Rattle.std.proofs.lemmas.Option.{same_Some}
use Rattle.jr_model.specs.declared.events.Event.{Event}
use Rattle.jr_model.specs.declared.events.Event.TheVariants.{Issue, Probe, Skip, End, Verdict}
use Rattle.jr_model.specs.declared.events.Outcome.{Outcome}
use Rattle.jr_model.specs.declared.events.Started.{Started}
use Rattle.jr_model.specs.declared.events.Verdict.{Verdict as GivenVerdict}
use Rattle.jr_model.specs.declared.tickets.Ticket.{Ticket}
use Rattle.jr_model.specs.declared.tickets.TicketKind.{TicketKind}
use Rattle.jr_model.specs.declared.tickets.TicketKind.TheVariants as ticket
use Rattle.jr_model.specs.declared.workloads.Draw.{Draw}
use Rattle.jr_model.specs.History.{started, end_of, outcome_of, ended_whole, is_judged, flies}
use Rattle.jr_model.specs.Judgement.{verdict_of}
use Rattle.jr_model.specs.Legal.{is_legal, is_void, legal_after, may_happen, end_fits, outcome_fits, verdict_fits}
use Rattle.jr_model.specs.Machine.{verdict_on, bytes_read}
use Rattle.jr_model.specs.Plan.{Plan, SubJob}
use Rattle.jr_model.specs.Races.{has_raced}
use Rattle.jr_model.specs.Replies.{EngineState, FileBytes, covers, asked, next_reply}
use Rattle.jr_model.specs.Tied.{KnownEngine, called, IsOnBytes, TiedAlong}
use Rattle.jr_model.proofs.MachineLaws.{got_front}
use Rattle.jr_model.proofs.SerialLaws.{first_given-append}
use Rattle.jr_model.specs.PlanFacts.{IsPlanned}
use Rattle.jr_model.proofs.HistoryLemmas.{outcome_of-stays, judged_there}
use Rattle.jr_engines.specs.Answers.{Leaves}
use Rattle.jr_engines.proofs.MemoryLemmas.{covers_after_asked}
use Rattle.jr_header.specs.Served.{asked_with, is_whole_check, is_to_judge}
use Rattle.jr_laws_bytes.specs.Memory.{CoversFiles}
use Rattle.jr_laws_bytes.proofs.Starts.{draw_started, IsDrawOf}
use Rattle.jr_laws_bytes.proofs.Contents.{lies_in_file, length-content_of_io}
use Rattle.jr_laws_bytes.proofs.Memories.{covers_piece}
use Rattle.jr_laws_steps.proofs.StartedLemmas.{started-append}
use Rattle.jr_desk_tickets.specs.Kept.{tickets_of}
use Rattle.jr_desk_tickets.specs.Tickets.{ticket_of}
use Rattle.jr_desk_tickets.proofs.OwnTickets.{ticket_started}
use Rattle.jr_desk_state.proofs.Serving.{content_is, verdict_is}
use Rattle.jr_crew_books.specs.declared.books.Done.{Done}
use Rattle.jr_crew_books.specs.Books.{verdict_by, verdict_in, done_with, done_by}
use Rattle.jr_crew.specs.Runs.{known_engine}
use Rattle.jr_crew.specs.Crews.{IsCalledFor, AreCallsFor}
use Rattle.jr_crew.proofs.Calling.{IsCall, is_call}
use Rattle.jr_crew.proofs.Turning.{asked_room_for}
use Rattle.jr_crew.proofs.Tying.{IsNextCall}

-- where workers judge, each verdict on what this worker has ended, where it didn't race, is that on the bytes that were kept
abbrev pub AreSaidOn : Plan → Bool → List Event → ℕ → List Event → List (ℕ × List ℕ) → Type 0
AreSaidOn plan inline history worker before kept =
    inline ≡ true → (io : ℕ) (s : Started) (v : GivenVerdict) → slice_get (started history) io ≡ Some s → s.worker ≡ worker → ended_whole (outcome_of before io) ≡ true → verdict_in history io ≡ Some v → is_void v ≡ false → verdict_on plan s (bytes_read kept io) ≡ v

said_other : (plan : Plan) (inline : Bool) (history : List Event) (worker : ℕ) (before : List Event) (e : Event) (kept : List (ℕ × List ℕ)) → ((io : ℕ) → end_of io e ≡ None) → AreSaidOn plan inline history worker before kept → AreSaidOn plan inline history worker (before ++ e ∷ []) kept
said_other plan inline history worker before e kept none said so io s v at by ended given plain =
    said so io s v at by (ap ended_whole (sym (outcome_of-stays before e io (none io))) ∙ ended) given plain

-- what has no verdict has none
pub unjudged_none : (before : List Event) (io : ℕ) → is_judged before io ≡ false → verdict_in before io ≡ None
unjudged_none [] io h = refl
unjudged_none (Issue w dir write piece ∷ before) io h = unjudged_none before io h
unjudged_none (Probe w write piece ∷ before) io h = unjudged_none before io h
unjudged_none (Skip w write ∷ before) io h = unjudged_none before io h
unjudged_none (End w id outcome ∷ before) io h = unjudged_none before io h
unjudged_none (Verdict w id v ∷ before) io h = by (id == io) h (λ rest. unjudged_none before io rest)
  where
    by : (b : Bool) → (b || is_judged before io) ≡ false → (is_judged before io ≡ false → verdict_in before io ≡ None) → option_or (cond b (Some v) None) (verdict_in before io) ≡ None
    by true h rest = cc
    by false h rest = rest h

-- the starter of what ends
starter : (worker : ℕ) (outcome : Outcome) (o : Option Started) → end_fits worker outcome o ≡ true → (s : Started) × (o ≡ Some s) × (s.worker ≡ worker)
starter worker outcome None fits = cc
starter worker outcome (Some s) fits =
    (s, refl, eqb-true s.worker worker (and_parts (s.worker == worker) (outcome_fits outcome s.piece.len) fits).0)

-- a verdict that was given was given on a check that ended whole
judged_so : (b : Bool) (a v : GivenVerdict) → Some v ≡ cond b (Some a) None → (b ≡ true) × (a ≡ v)
judged_so true a v h = (refl, sym (same_Some v a h))
judged_so false a v h = cc

-- a call keeps nothing else
kept_other : (plan : Plan) (engine : EngineState) (kept : List (ℕ × List ℕ)) (id io : ℕ) (kind : TicketKind) (s : Started) → (id == io) ≡ false → bytes_read (called plan (known_engine engine kept) id kind s).engine.read_back io ≡ bytes_read kept io
kept_other plan engine kept id io ticket.Read s other =
    ap (λ (b : Bool). cond b (asked (next_reply engine) engine.memory ticket.Read s.piece (replicate s.piece.len 0)).bytes (bytes_read kept io)) other
kept_other plan engine kept id io ticket.Probe s other =
    ap (λ (b : Bool). cond b (asked (next_reply engine) engine.memory ticket.Probe s.piece (replicate s.piece.len 0)).bytes (bytes_read kept io)) other
kept_other plan engine kept id io ticket.ReadCheck s other =
    ap (λ (b : Bool). cond b (asked (next_reply engine) engine.memory ticket.ReadCheck s.piece (replicate s.piece.len 0)).bytes (bytes_read kept io)) other
kept_other plan engine kept id io ticket.Write s other = refl

-- what has ended whole after an end had before, or is what ended
ended_front : (before : List Event) (w id io : ℕ) (outcome : Outcome) → (id == io) ≡ false → ended_whole (outcome_of (before ++ End w id outcome ∷ []) io) ≡ true → ended_whole (outcome_of before io) ≡ true
ended_front before w id io outcome other ended =
    ap ended_whole (sym (outcome_of-stays before (End w id outcome) io (ap (λ (b : Bool). cond b (Some outcome) None) other))) ∙ ended

differs : (a b : ℕ) → (a == b) ≡ false → a ≡ b → ⊥
differs a b other same = let so = eq-eqb a b same in cc

-- where it is so
only_if : (b : Bool) (A : Type 0) → (b ≡ true → A) → MatchBool b A (Unit {0})
only_if true A f = f refl
only_if false A f = tt

module _ (plan : Plan) (inline : Bool) (history : List Event) (worker : ℕ) (planned : IsPlanned plan) (legal : is_legal plan history ≡ true) where
  -- the engine's calls for the rest of the book are those of the rest of the history
  abbrev Follows : List Event → EngineState → List (ℕ × List ℕ) → EngineState → Type 0
  Follows events engine kept final =
      (read_back : List (ℕ × List ℕ)) × TiedAlong plan inline worker (started history) (known_engine engine kept) events (known_engine final read_back)

  -- as after this front
  abbrev Goes : List Event → List Event → EngineState → EngineState → List (ℕ × List ℕ) → Type 0
  Goes before events final engine kept =
      IsTrue engine.is_known → CoversFiles plan engine.memory → AreSaidOn plan inline history worker before kept → AreCallsFor inline engine (filter_map (done_by plan inline history worker) events) final → Follows events engine kept final

  -- the verdict on a check of this worker's is that on its bytes
  on_bytes : (before events : List Event) (w io : ℕ) (v : GivenVerdict) (engine : EngineState) (kept : List (ℕ × List ℕ)) → before ++ Verdict w io v ∷ events ≡ history → ended_whole (outcome_of before io) ≡ true → is_judged before io ≡ false → inline ≡ true → verdict_fits plan (has_raced before io) v (slice_get (started before) io) ≡ true → AreSaidOn plan inline history worker before kept → IsOnBytes plan worker (started history) (known_engine engine kept) io v
  on_bytes before events w io v engine kept same whole unjudged so fits said =
      let one = judged_there plan (has_raced before io) v (slice_get (started before) io) fits in
      let there : slice_get (started history) io ≡ Some one.0 =
      ap (λ (h : List Event). slice_get (started h) io) (sym same)
      ∙ ap (λ (ios : List Started). slice_get ios io) (started-append before (Verdict w io v ∷ events))
      ∙ got_front (started before) (started (Verdict w io v ∷ events)) io one.0 one.1 in
      let given : verdict_in history io ≡ Some v =
      ap (λ (h : List Event). verdict_in h io) (sym same)
      ∙ first_given-append (verdict_by io) before (Verdict w io v ∷ events)
      ∙ ap (λ (o : Option GivenVerdict). option_or o (verdict_in (Verdict w io v ∷ events) io)) (unjudged_none before io unjudged)
      ∙ ap (λ (b : Bool). option_or (cond b (Some v) None) (verdict_in events io)) (eq-eqb io io refl) in (
        one.0,
        there,
        only_if (one.0.worker == worker && not (is_void v)) (verdict_on plan one.0 (bytes_read kept io) ≡ v)
            (λ (mine : (one.0.worker == worker && not (is_void v)) ≡ true).
            let parts = and_parts (one.0.worker == worker) (not (is_void v)) mine in
            said so io one.0 v there (eqb-true one.0.worker worker parts.0) whole given (not-true (is_void v) parts.1)),
      )

  -- one call of this worker's engine
  module _ (before events : List Event) (io : ℕ) (s : Started) (outcome : Outcome) (engine middle final : EngineState) (kept : List (ℕ × List ℕ)) (at : slice_get (started history) io ≡ Some s) (call : IsCalledFor inline engine (record { ticket = ticket_of plan (io, s); outcome = outcome; verdict = cond inline (verdict_in history io) None }) middle) (known : IsTrue engine.is_known) (covered : CoversFiles plan engine.memory) (said : AreSaidOn plan inline history worker before kept) where
    drawn : (job : SubJob) × (draw : Draw) × IsDrawOf plan s.write s.piece job draw
    drawn = draw_started plan history io s legal at

    abbrev buffer : List ℕ
    buffer = asked_with s.kind (ticket_of plan (io, s)) (replicate s.piece.len 0)

    piece_covered : IsTrue (covers engine.memory s.piece.file s.piece.offset s.piece.len)
    piece_covered =
        let job = drawn in
        covers_piece plan engine.memory s.piece covered (lies_in_file plan s.write s.piece job.0 job.1 planned job.2)

    left : Leaves (asked (next_reply engine) engine.memory s.kind s.piece buffer) call.answer middle
    left = call.asked.by_reply known piece_covered

    is : IsCall plan engine middle kept io s s.kind call.answer
    is =
        let job = drawn in
        is_call plan engine middle kept io s s.kind call.answer job.0 job.2.planned left call.asked.script call.asked.calls

    next_covers : CoversFiles plan middle.memory
    next_covers file spec there =
        let job = drawn in
        let room : length buffer ≡ s.piece.len = asked_room_for (ticket_of plan (io, s)) s.kind s.piece.len (ap length (content_is plan io s job.0 job.2.planned) ∙ length-content_of_io plan s job.0 job.1 planned job.2) in
        ap (λ (m : List FileBytes). covers m file spec.low (spec.high - spec.low)) left.memory
        ∙ covers_after_asked (next_reply engine) engine.memory s.kind s.piece buffer room piece_covered file spec.low (spec.high - spec.low)
        ∙ covered file spec there

    abbrev next_kept : List (ℕ × List ℕ)
    next_kept = (called plan (known_engine engine kept) io s.kind s).engine.read_back

    -- its verdict is that on the bytes that it gave
    said_here : inline ≡ true → (v : GivenVerdict) → verdict_in history io ≡ Some v → is_void v ≡ false → verdict_on plan s (bytes_read next_kept io) ≡ v
    said_here so v given plain =
        let job = drawn in
        let noted : verdict_in history io ≡ cond (is_to_judge call.answer) (Some call.verdict.said) None =
        subst (λ (b : Bool). cond b (verdict_in history io) None ≡ cond (b && is_to_judge call.answer) (Some call.verdict.said) None) so call.verdict.is in
        let so = judged_so (is_to_judge call.answer) call.verdict.said v (sym given ∙ noted) in
        let whole : is_whole_check s.kind call.answer.outcome ≡ true = ap (λ (t : Ticket). is_whole_check t.kind call.answer.outcome) (sym call.asked.ticket) ∙ so.0 in
        ap (verdict_on plan s) (is.bytes whole)
        ∙ verdict_is plan s job.0 call.answer.bytes job.2.planned
        ∙ ap (λ (t : Ticket). verdict_of t.method t.write t.piece t.expected call.answer.bytes) (sym call.asked.ticket)
        ∙ sym (call.verdict.true_of (ap is_void so.1 ∙ plain))
        ∙ so.1

    next_said : (w : ℕ) → AreSaidOn plan inline history worker (before ++ End w io outcome ∷ []) next_kept
    next_said w so id x v there by ended given plain = on (io == id) refl
      where
        on : (b : Bool) → (io == id) ≡ b → verdict_on plan x (bytes_read next_kept id) ≡ v
        on true same =
            let one : id ≡ io = sym (eqb-true io id same) in
            let who : s ≡ x = same_Some s x (sym at ∙ ap (slice_get (started history)) (sym one) ∙ there) in
            ap (λ (y : Started). verdict_on plan y (bytes_read next_kept id)) (sym who)
            ∙ ap (λ (n : ℕ). verdict_on plan s (bytes_read next_kept n)) one
            ∙ said_here so v (ap (verdict_in history) (sym one) ∙ given) plain
        on false other =
            ap (verdict_on plan x) (kept_other plan engine kept io id s.kind s other)
            ∙ said so id x v there by (ended_front before w io id outcome other ended) given plain

    pub call_goes : (w : ℕ) → AreCallsFor inline middle (filter_map (done_by plan inline history worker) events) final → Goes (before ++ End w io outcome ∷ []) events final middle next_kept → (read_back : List (ℕ × List ℕ)) × IsNextCall plan (started history) (known_engine engine kept) io outcome (λ (e : KnownEngine). TiedAlong plan inline worker (started history) e events (known_engine final read_back))
    call_goes w calls next =
        let rest = next (call.asked.known ∙ known) next_covers (next_said w) calls in (
          rest.0,
          (
            s,
            at,
            is.outcome ∙ sym call.outcome,
            subst (λ (e : KnownEngine). TiedAlong plan inline worker (started history) e events (known_engine final rest.0)) is.leaves rest.1,
          ),
        )

  -- an end of this worker is its engine's next call; another's is none
  end_goes : (before events : List Event) (w io : ℕ) (outcome : Outcome) (s : Started) (engine final : EngineState) (kept : List (ℕ × List ℕ)) → slice_get (started history) io ≡ Some s → s.worker ≡ w → IsTrue engine.is_known → CoversFiles plan engine.memory → AreSaidOn plan inline history worker before kept → (b : Bool) → (w == worker) ≡ b → AreCallsFor inline engine (cons_option (cond b (done_with outcome (cond inline (verdict_in history io) None) (slice_get (tickets_of plan history) io)) None) (filter_map (done_by plan inline history worker) events)) final → ((next : EngineState) (more : List (ℕ × List ℕ)) → Goes (before ++ End w io outcome ∷ []) events final next more) → (read_back : List (ℕ × List ℕ)) × MatchBool b (IsNextCall plan (started history) (known_engine engine kept) io outcome (λ (e : KnownEngine). TiedAlong plan inline worker (started history) e events (known_engine final read_back))) (TiedAlong plan inline worker (started history) (known_engine engine kept) events (known_engine final read_back))
  end_goes before events w io outcome s engine final kept at by known covered said true mine calls next =
      let done : Done = record { ticket = ticket_of plan (io, s); outcome = outcome; verdict = cond inline (verdict_in history io) None } in
      let its : slice_get (tickets_of plan history) io ≡ Some (ticket_of plan (io, s)) =
      ticket_started plan history io s at in
      let all : AreCallsFor inline engine (done ∷ filter_map (done_by plan inline history worker) events) final =
      subst (λ (o : Option Ticket). AreCallsFor inline engine (cons_option (done_with outcome (cond inline (verdict_in history io) None) o) (filter_map (done_by plan inline history worker) events)) final) its calls in
      call_goes before events io s outcome engine all.0 final kept at all.1 known covered said w all.2
      (next all.0 (next_kept before events io s outcome engine all.0 final kept at all.1 known covered said))
  end_goes before events w io outcome s engine final kept at by known covered said false other calls next =
      next engine kept known covered
      (λ so id x v there mine ended given plain.
      not_here so (io == id) id refl x v there mine ended given plain)
      calls
    where
      not_here : inline ≡ true → (b : Bool) (id : ℕ) → (io == id) ≡ b → (x : Started) (v : GivenVerdict) → slice_get (started history) id ≡ Some x → x.worker ≡ worker → ended_whole (outcome_of (before ++ End w io outcome ∷ []) id) ≡ true → verdict_in history id ≡ Some v → is_void v ≡ false → verdict_on plan x (bytes_read kept id) ≡ v
      not_here so true id same x v there mine ended given plain =
          let one : io ≡ id = eqb-true io id same in
          let who : s ≡ x = same_Some s x (sym at ∙ ap (slice_get (started history)) one ∙ there) in
          absurd (differs w worker other (sym by ∙ ap (λ (y : Started). y.worker) who ∙ mine))
      not_here so false id different x v there mine ended given plain =
          said so id x v there mine (ended_front before w io id outcome different ended) given plain

  -- what starts, and is in the history
  ends_started : (before events : List Event) (w io : ℕ) (outcome : Outcome) → before ++ End w io outcome ∷ events ≡ history → may_happen plan before (End w io outcome) ≡ true → (s : Started) × (slice_get (started history) io ≡ Some s) × (s.worker ≡ w)
  ends_started before events w io outcome same may =
      let who = starter w outcome (slice_get (started before) io) (and_parts (flies before io) (end_fits w outcome (slice_get (started before) io)) may).1 in (
        who.0,
        ap (λ (h : List Event). slice_get (started h) io) (sym same)
            ∙ ap (λ (ios : List Started). slice_get ios io) (started-append before (End w io outcome ∷ events))
            ∙ got_front (started before) (started (End w io outcome ∷ events)) io who.0 who.1,
        who.2,
      )

  -- along the rest of the history
  pub walk : (events before : List Event) → before ++ events ≡ history → legal_after plan before events ≡ true → (final engine : EngineState) (kept : List (ℕ × List ℕ)) → Goes before events final engine kept
  walk [] before same legal final engine kept known covered said calls = (kept, ap (λ (e : EngineState). known_engine e kept) calls)
  walk (Issue w dir write piece ∷ events) before same legal final engine kept known covered said calls =
      let e = Issue w dir write piece in
      walk events (before ++ e ∷ []) (append_assoc before (e ∷ []) events ∙ same)
      (and_parts (may_happen plan before e) (legal_after plan (before ++ e ∷ []) events) legal).1 final engine kept known covered
      (said_other plan inline history worker before e kept (λ io. refl) said) calls
  walk (Probe w write piece ∷ events) before same legal final engine kept known covered said calls =
      let e = Probe w write piece in
      walk events (before ++ e ∷ []) (append_assoc before (e ∷ []) events ∙ same)
      (and_parts (may_happen plan before e) (legal_after plan (before ++ e ∷ []) events) legal).1 final engine kept known covered
      (said_other plan inline history worker before e kept (λ io. refl) said) calls
  walk (Skip w write ∷ events) before same legal final engine kept known covered said calls =
      let e = Skip w write in
      walk events (before ++ e ∷ []) (append_assoc before (e ∷ []) events ∙ same)
      (and_parts (may_happen plan before e) (legal_after plan (before ++ e ∷ []) events) legal).1 final engine kept known covered
      (said_other plan inline history worker before e kept (λ io. refl) said) calls
  walk (Verdict w io v ∷ events) before same legal final engine kept known covered said calls =
      let e = Verdict w io v in
      let may = and_parts (may_happen plan before e) (legal_after plan (before ++ e ∷ []) events) legal in
      let parts = judged_parts (ended_whole (outcome_of before io)) (is_judged before io) (verdict_fits plan (has_raced before io) v (slice_get (started before) io)) may.0 in
      let rest =
      walk events (before ++ e ∷ []) (append_assoc before (e ∷ []) events ∙ same) may.1 final engine kept known covered
      (said_other plan inline history worker before e kept (λ id. refl) said) calls in (
        rest.0,
        (
          only_if inline (IsOnBytes plan worker (started history) (known_engine engine kept) io v)
              (λ so. on_bytes before events w io v engine kept same parts.0 parts.1 so parts.2 said),
          rest.1,
        ),
      )
    where
      judged_parts : (a b c : Bool) → (a && not b && c) ≡ true → (a ≡ true) × (b ≡ false) × (c ≡ true)
      judged_parts true false c h = (refl, refl, h)
      judged_parts true true c h = cc
      judged_parts false b c h = cc
  walk (End w io outcome ∷ events) before same legal final engine kept known covered said calls =
      let e = End w io outcome in
      let may = and_parts (may_happen plan before e) (legal_after plan (before ++ e ∷ []) events) legal in
      let s = ends_started before events w io outcome same may.0 in
      end_goes before events w io outcome s.0 engine final kept s.1 s.2 known covered said (w == worker) refl calls
      (λ next more known' covered' said' calls'.
      walk events (before ++ e ∷ []) (append_assoc before (e ∷ []) events ∙ same) may.1 final next more known' covered' said' calls')
