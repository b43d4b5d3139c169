-- A player's steps are the machine's.
use Rattle.std.proofs.Common.{◌≡◌, ℕ, ◌+◌, List, [], ◌∷◌, ◌++◌, length, map, Bool, true, false, ◌&&◌, cond, refl, sym, ◌∙◌, ap, subst, arith, inl, inr}
use Rattle.std.specs.Prelude.{Option, Some, None, Result, Ok, Err, IfSome, IfOk, OnOk, IsTrue, IsFalse, slice_get, is_none, is_some, is_ok, nat_lt, ◌==◌, find, reverse}
use Rattle.std.proofs.lemmas.Bool.{and_parts, cases_Bool, cond_both, eqb-true, lt-ltb, ltb-true}
use Rattle.std.proofs.lemmas.Option.{same_Some}
use Rattle.jr_model.specs.declared.events.IssueKind.{IssueKind}
use Rattle.jr_model.specs.declared.events.IssueKind.TheVariants as issue
use Rattle.jr_model.specs.declared.events.Event.{Event}
use Rattle.jr_model.specs.declared.events.Event.TheVariants.{Issue, Probe, Skip, End, Verdict}
use Rattle.jr_model.specs.declared.events.Outcome.{Outcome}
use Rattle.jr_model.specs.declared.events.Started.{Started}
use Rattle.jr_model.specs.declared.events.Verdict.{Verdict as GivenVerdict}
use Rattle.jr_model.specs.declared.memory.Memory.{Memory as OutOfMemory}
use Rattle.jr_model.specs.declared.replies.Reply.{Reply}
use Rattle.jr_model.specs.declared.steps.DeskFault.{DeskFault}
use Rattle.jr_model.specs.declared.steps.DeskFault.TheVariants.{Memory, Stranger, Twice, WrongKind, Stopped}
use Rattle.jr_model.specs.declared.steps.StepReply.{StepReply}
use Rattle.jr_model.specs.declared.steps.StepReply.TheVariants as answer
use Rattle.jr_model.specs.declared.tickets.Ticket.{Ticket}
use Rattle.jr_model.specs.History.{started, kind_for, outcome_of, is_judged, is_judged_kind, is_verdict_on, ended_whole}
use Rattle.jr_model.specs.Legal.{is_legal, is_complete}
use Rattle.jr_model.specs.Machine.{State, Stepped, said_of, taken as taken_by, take_answer, machine_take, machine_end, machine_end_by, machine_stop, end_refusal, judge_refusal, is_judgeable, machine_judge, machine_judge_by, bytes_read, verdict_on}
use Rattle.jr_model.specs.Plan.{Plan}
use Rattle.jr_model.specs.Tickets.{ticket_fits}
use Rattle.jr_engines.specs.Answers.{AnswerParts}
use Rattle.jr_header.specs.Served.{answer_verdict, is_to_judge, is_whole_check}
use Rattle.jr_model.specs.Races.{has_raced}
use Rattle.jr_laws_steps.proofs.CountLaws.{appends_same, taken_all}
use Rattle.jr_laws_steps.proofs.DrawnLaws.{started_fit-law}
use Rattle.jr_model.proofs.PlaceLemmas.{any_found, item_at}
use Rattle.jr_model.proofs.PlanLemmas.{numbered_of}
use Rattle.jr_laws_steps.proofs.StartedLemmas.{started_below}
use Rattle.jr_laws_bytes.proofs.Verdicts.{judged_check}
use Rattle.jr_laws_bytes.specs.Memory.{CoversFiles}
use Rattle.jr_desk.specs.declared.plays.Player.{Player}
use Rattle.jr_desk_tickets.specs.Kept.{tickets_of}
use Rattle.jr_desk_tickets.specs.Tickets.{ticket_of}
use Rattle.jr_desk_tickets.proofs.OwnTickets.{got_ticket, tickets_count}
use Rattle.jr_desk_state.specs.declared.takes.Take.{Take}
use Rattle.jr_desk_state.specs.declared.takes.Take.TheVariants as take
use Rattle.jr_desk.specs.DeskState.{DeskState}
use Rattle.jr_desk.specs.Plays.{GoesOn, IsReady, KeepsReads, is_for, judge_reply, judged_desk, last_read, read_back_of, reply_for, state_of, IsJudgeable}
use Rattle.jr_desk.specs.Refusals.{judge_fault}
use Rattle.jr_desk_state.specs.Takes.{IsTaken, answer_with, handing, last_started, ticket_for}
use Rattle.jr_desk_state.proofs.Answering.{fits_by, no_ends}
use Rattle.jr_desk.proofs.Refusing.{judged_probe, none_from}
use Rattle.jr_desk.proofs.Reading.{keeps_on, last_read_for}
use Rattle.jr_desk_state.proofs.Serving.{verdict_is}

-- a verdict

pub none_said : (o : Option DeskFault) (x : Unit {0}) → IfSome o (λ fault. ◌≡◌ {A = Result (Unit {0}) DeskFault} (Ok x) (Err fault)) → o ≡ None
none_said None x said = refl
none_said (Some fault) x said = absurd (by said)
  where
    by : ◌≡◌ {A = Result (Unit {0}) DeskFault} (Ok x) (Err fault) → ⊥
    by h = cc

pub fault_said : (o : Option DeskFault) (fault : DeskFault) → IfSome o (λ other. ◌≡◌ {A = Result (Unit {0}) DeskFault} (Err fault) (Err other)) → (o ≡ None → fault ≡ Memory) → (fault ≡ Memory → ⊥) → o ≡ Some fault
fault_said None fault said wants other = absurd (other (wants refl))
fault_said (Some first) fault said wants other = same said
  where
    same : ◌≡◌ {A = Result (Unit {0}) DeskFault} (Err fault) (Err first) → Some first ≡ Some fault
    same h = cc

-- a take

idle_reply : (complete : Bool) → reply_for (answer_with complete None) ≡ cond complete answer.Finished answer.Wait
idle_reply true = refl
idle_reply false = refl

issue_reply : (dir : IssueKind) (t : Ticket) → reply_for (handing (kind_for dir) t) ≡ answer.Io t.id
issue_reply issue.Read t = refl
issue_reply issue.Write t = refl
issue_reply issue.ReadCheck t = refl

-- the desk's answer is the machine's
take_reply : (plan : Plan) (history : List Event) (id : ℕ) (events : List Event) → reply_for (answer_with (is_complete plan history) (ticket_for plan id (last_started events))) ≡ take_answer plan history id events
take_reply plan history id [] = idle_reply (is_complete plan history)
take_reply plan history id (Issue worker dir write piece ∷ []) =
    issue_reply dir (ticket_of plan (id, record { worker = worker; kind = kind_for dir; write = write; piece = piece }))
take_reply plan history id (Probe worker write piece ∷ []) = refl
take_reply plan history id (Skip worker write ∷ []) = idle_reply (is_complete plan history)
take_reply plan history id (End worker io outcome ∷ []) = idle_reply (is_complete plan history)
take_reply plan history id (Verdict worker io verdict ∷ []) = idle_reply (is_complete plan history)
take_reply plan history id (e ∷ next ∷ events) = take_reply plan history id (next ∷ events)

pub same_states : (s t : State) → s.history ≡ t.history → s.is_stopped ≡ t.is_stopped → s.memory ≡ t.memory → s.read_back ≡ t.read_back → s ≡ t
same_states s t history stopped memory read =
    λ i. record { history = history i; is_stopped = stopped i; memory = memory i; read_back = read i }

ok_same : {X Y : Type 0} (a b : X) → ◌≡◌ {A = Result X Y} (Ok a) (Ok b) → a ≡ b
ok_same a b h = cc

-- what a desk's take left is what the machine's take leaves
pub take_goes_on : (player : Player) (worker : ℕ) (desk : DeskState) (given : Take) (reply : StepReply) → IsReady player → reply ≡ reply_for given → desk.plan ≡ player.desk.plan → desk.is_stopped ≡ player.desk.is_stopped → (IsTrue player.desk.is_stopped → (◌≡◌ {A = Result Take DeskFault} (Ok given) (Ok take.Finished)) × (desk ≡ player.desk)) → (IsFalse player.desk.is_stopped → IsTaken player.desk.plan worker player.desk.history desk.history given) → GoesOn player (machine_take player.desk.plan (state_of player) worker) reply (record player { desk = desk })
take_goes_on player worker desk given reply ready says plan stop stopped taken =
    cond_both player.desk.is_stopped (record { reply = answer.Finished; state = state_of player })
    (record { reply = take_answer player.desk.plan after id choices; state = record (state_of player) { history = after } })
    (λ (stepped : Stepped). GoesOn player stepped reply (record player { desk = desk }))
    (λ halted.
    let same = stopped halted in record {
      answer = says ∙ ap reply_for (ok_same given take.Finished same.0);
      state = same_states _ (state_of player) (ap (λ (d : DeskState). d.history) same.1) stop refl refl;
      plan = plan;
      calls = omega arith;
      covers = subst (λ (p : Plan). CoversFiles p player.engine.memory) (sym plan) ready.covers;
      reads = subst (λ (d : DeskState). KeepsReads d.plan d.history player.reads.items) (sym same.1) ready.reads;
    })
    (λ goes.
    let said = taken goes in
    let chosen = said.1 in
    let events = chosen.0 in
    let all : events ≡ choices =
    appends_same player.desk.plan worker player.desk.history events choices chosen.2
    (taken_all player.desk.plan worker player.desk.history ready.planned ready.legal) in
    let history : desk.history ≡ after = chosen.1 ∙ ap (λ (es : List Event). player.desk.history ++ es) all in record {
      answer =
          says
          ∙ ap reply_for (said.2 ∙ ap (λ (io : Option Started). answer_with (is_complete player.desk.plan desk.history) (ticket_for player.desk.plan id io)) chosen.3)
          ∙ take_reply player.desk.plan desk.history id events
          ∙ ap (λ (es : List Event). take_answer player.desk.plan desk.history id es) all
          ∙ ap (λ (h : List Event). take_answer player.desk.plan h id choices) history;
      state = same_states _ (record (state_of player) { history = after }) history stop refl refl;
      plan = plan;
      calls = omega arith;
      covers = subst (λ (p : Plan). CoversFiles p player.engine.memory) (sym plan) ready.covers;
      reads =
          subst (λ (p : Plan). KeepsReads p desk.history player.reads.items) (sym plan)
          (subst (λ (h : List Event). KeepsReads player.desk.plan h player.reads.items) (sym chosen.1)
          (keeps_on player.desk.plan player.desk.history events player.reads.items ready.legal
          (λ io. no_ends player.desk.plan worker io player.desk.history events (numbered_of player.desk.plan ready.planned) chosen.2) ready.reads));
    })
  where
    choices : List Event
    choices = taken_by player.desk.plan worker player.desk.history

    after : List Event
    after = player.desk.history ++ choices

    id : ℕ
    id = length (started player.desk.history)

-- refusals

length_none : {X : Type 0} (xs : List X) (k : ℕ) → slice_get xs k ≡ None → nat_lt k (length xs) ≡ false
length_none {X = X} xs k none = elim (cases_Bool (nat_lt k (length xs))) [
  | inl below ↦ absurd (no_item (item_at xs k (ltb-true k (length xs) below)))
  | inr beyond ↦ beyond
]
  where
    no_item : (x : X) × (slice_get xs k ≡ Some x) → ⊥
    no_item found = let at = found.1 in cc

-- a number without a ticket was not handed out
unknown : (plan : Plan) (history : List Event) (io : ℕ) → slice_get (tickets_of plan history) io ≡ None → nat_lt io (length (started history)) ≡ false
unknown plan history io none =
    ap (nat_lt io) (sym (tickets_count plan history)) ∙ length_none (tickets_of plan history) io none

-- one with a ticket was
pub known : (plan : Plan) (history : List Event) (io : ℕ) (t : Ticket) → slice_get (tickets_of plan history) io ≡ Some t → (s : Started) × (slice_get (started history) io ≡ Some s) × (ticket_of plan (io, s) ≡ t) × (nat_lt io (length (started history)) ≡ true)
known plan history io t at =
    let got = got_ticket plan 0 (started history) io t at in
    let same : io ≡ 0 + io = omega arith in (
      got.0,
      got.1,
      ap (λ (i : ℕ). ticket_of plan (i, got.0)) same ∙ got.2,
      lt-ltb io (length (started history)) (started_below history io got.0 got.1),
    )

pub end_stranger : (player : Player) (io : ℕ) → player.desk.is_stopped ≡ false → slice_get (tickets_of player.desk.plan player.desk.history) io ≡ None → end_refusal (state_of player) io ≡ Some Stranger
end_stranger player io going none =
    let beyond = unknown player.desk.plan player.desk.history io none in
    ap (λ (b : Bool). cond b (Some Stopped) (cond (nat_lt io (length (started player.desk.history))) (cond (is_none (outcome_of player.desk.history io)) None (Some Twice)) (Some Stranger))) going
    ∙ ap (λ (b : Bool). cond b (cond (is_none (outcome_of player.desk.history io)) None (Some Twice)) (Some Stranger)) beyond

end_known : (player : Player) (io : ℕ) (t : Ticket) → player.desk.is_stopped ≡ false → slice_get (tickets_of player.desk.plan player.desk.history) io ≡ Some t → end_refusal (state_of player) io ≡ cond (is_none (outcome_of player.desk.history io)) None (Some Twice)
end_known player io t going at =
    let below = (known player.desk.plan player.desk.history io t at).3 in
    ap (λ (b : Bool). cond b (Some Stopped) (cond (nat_lt io (length (started player.desk.history))) (cond (is_none (outcome_of player.desk.history io)) None (Some Twice)) (Some Stranger))) going
    ∙ ap (λ (b : Bool). cond b (cond (is_none (outcome_of player.desk.history io)) None (Some Twice)) (Some Stranger)) below

not_none : (o : Option Outcome) → is_some o ≡ true → is_none o ≡ false
not_none None h = cc
not_none (Some o) h = refl

pub end_twice : (player : Player) (io : ℕ) (t : Ticket) → player.desk.is_stopped ≡ false → slice_get (tickets_of player.desk.plan player.desk.history) io ≡ Some t → is_some (outcome_of player.desk.history io) ≡ true → end_refusal (state_of player) io ≡ Some Twice
end_twice player io t going at ended =
    end_known player io t going at ∙ ap (λ (b : Bool). cond b None (Some Twice)) (not_none (outcome_of player.desk.history io) ended)

pub end_open : (player : Player) (io : ℕ) (t : Ticket) → player.desk.is_stopped ≡ false → slice_get (tickets_of player.desk.plan player.desk.history) io ≡ Some t → is_some (outcome_of player.desk.history io) ≡ false → end_refusal (state_of player) io ≡ None
end_open player io t going at unended =
    end_known player io t going at ∙ ap (λ (b : Bool). cond b None (Some Twice)) (none_from (outcome_of player.desk.history io) unended)

-- what is no check that ended whole has no verdict

verdict_at : (io : ℕ) (e : Event) → is_verdict_on io e ≡ true → (by : ℕ) × (verdict : GivenVerdict) × (e ≡ Verdict by io verdict)
verdict_at io (Verdict by id verdict) h = (by, verdict, ap (λ (n : ℕ). Verdict by n verdict) (eqb-true id io h))
verdict_at io (Issue worker dir write piece) h = cc
verdict_at io (Probe worker write piece) h = cc
verdict_at io (Skip worker write) h = cc
verdict_at io (End worker id outcome) h = cc

judged_whole : (plan : Plan) (history : List Event) (io : ℕ) → is_legal plan history ≡ true → is_judged history io ≡ true → (s : Started) × IsJudgeable history io s
judged_whole plan history io legal judged =
    let found = any_found (is_verdict_on io) history judged in
    let said = verdict_at io found.1 found.3 in
    let check = judged_check plan history found.0 said.0 io said.1 legal (found.2 ∙ ap Some said.2) in
    (check.0, (check.1, check.2, check.3))

unjudged : (plan : Plan) (history : List Event) (io : ℕ) → is_legal plan history ≡ true → ((s : Started) → IsJudgeable history io s → ⊥) → is_judged history io ≡ false
unjudged plan history io legal nothing = elim (cases_Bool (is_judged history io)) [
  | inl judged ↦ let check = judged_whole plan history io legal judged in absurd (nothing check.0 check.1)
  | inr not_yet ↦ not_yet
]

no_verdict : (history : List Event) (io : ℕ) (s : Started) → slice_get (started history) io ≡ Some s → ((x : Started) → IsJudgeable history io x → ⊥) → (is_judged_kind s.kind && ended_whole (outcome_of history io)) ≡ false
no_verdict history io s at nothing = elim (cases_Bool (is_judged_kind s.kind && ended_whole (outcome_of history io))) [
  | inl check ↦
      let parts = and_parts (is_judged_kind s.kind) (ended_whole (outcome_of history io)) check in
      absurd (nothing s (at, parts.0, parts.1))
  | inr none ↦ none
]

-- the machine's refusals of a verdict, one after another
abbrev refusals : Bool → Bool → Bool → Bool → Option DeskFault
refusals stopped below judged judgeable =
    cond stopped (Some Stopped) (cond below (cond judged (Some Twice) (cond judgeable None (Some WrongKind))) (Some Stranger))

refusals_are : (player : Player) (io : ℕ) (o : Option Started) (below judged judgeable : Bool) → player.desk.is_stopped ≡ false → slice_get (started player.desk.history) io ≡ o → nat_lt io (length (started player.desk.history)) ≡ below → is_judged player.desk.history io ≡ judged → is_judgeable player.desk.history io o ≡ judgeable → judge_refusal (state_of player) io ≡ refusals false below judged judgeable
refusals_are player io o below judged judgeable going at lies said check =
    let h = player.desk.history in
    ap (λ (b : Bool). refusals b (nat_lt io (length (started h))) (is_judged h io) (is_judgeable h io (slice_get (started h) io))) going
    ∙ ap (λ (b : Bool). refusals false b (is_judged h io) (is_judgeable h io (slice_get (started h) io))) lies
    ∙ ap (λ (b : Bool). refusals false below b (is_judgeable h io (slice_get (started h) io))) said
    ∙ ap (λ (b : Bool). refusals false below judged b) (ap (is_judgeable h io) at ∙ check)

pub judge_stranger : (player : Player) (io : ℕ) → player.desk.is_stopped ≡ false → slice_get (tickets_of player.desk.plan player.desk.history) io ≡ None → judge_refusal (state_of player) io ≡ Some Stranger
judge_stranger player io going none =
    refusals_are player io (slice_get (started player.desk.history) io) false (is_judged player.desk.history io) (is_judgeable player.desk.history io (slice_get (started player.desk.history) io))
    going refl (unknown player.desk.plan player.desk.history io none) refl refl

pub judge_wrong_kind : (player : Player) (io : ℕ) (t : Ticket) → IsReady player → ((s : Started) → IsJudgeable player.desk.history io s → ⊥) → player.desk.is_stopped ≡ false → slice_get (tickets_of player.desk.plan player.desk.history) io ≡ Some t → judge_refusal (state_of player) io ≡ Some WrongKind
judge_wrong_kind player io t ready nothing going at =
    let is = known player.desk.plan player.desk.history io t at in
    refusals_are player io (Some is.0) true false false going is.1 is.3
    (unjudged player.desk.plan player.desk.history io ready.legal nothing) (no_verdict player.desk.history io is.0 is.1 nothing)

-- a verdict is given

bytes_found : (xs : List AnswerParts) (io : ℕ) (check : AnswerParts) → find (is_for io) xs ≡ Some check → bytes_read (map (λ (a : AnswerParts). (a.ticket.id, a.bytes)) xs) io ≡ check.bytes
bytes_found [] io check found = cc
bytes_found (x ∷ xs) io check found =
    cond_both (x.ticket.id == io) (Some x) (find (is_for io) xs)
    (λ (o : Option AnswerParts). o ≡ Some check → bytes_read (map (λ (a : AnswerParts). (a.ticket.id, a.bytes)) (x ∷ xs)) io ≡ check.bytes)
    (λ here same.
    ap (λ (b : Bool). cond b x.bytes (bytes_read (map (λ (a : AnswerParts). (a.ticket.id, a.bytes)) xs) io)) here
    ∙ ap (λ (a : AnswerParts). a.bytes) (same_Some x check same))
    (λ other rest.
    ap (λ (b : Bool). cond b x.bytes (bytes_read (map (λ (a : AnswerParts). (a.ticket.id, a.bytes)) xs) io)) other
    ∙ bytes_found xs io check rest) found

module _ (player : Player) (by : ℕ) (check : AnswerParts) (ready : IsReady player) (found : last_read player.reads.items check.ticket.id ≡ Some check) (judges : is_to_judge check ≡ true) where
  abbrev id : ℕ
  id = check.ticket.id

  abbrev plan : Plan
  plan = player.desk.plan

  abbrev history : List Event
  history = player.desk.history

  its : (s : Started) × (slice_get (started history) id ≡ Some s) × (ticket_of plan (id, s) ≡ check.ticket) × (nat_lt id (length (started history)) ≡ true)
  its = known plan history id check.ticket (ready.reads.ended id check found).0

  whole : is_whole_check its.0.kind check.outcome ≡ true
  whole = ap (λ (t : Ticket). is_whole_check t.kind check.outcome) its.2 ∙ judges

  -- the machine refuses what the desk refuses
  same_refusal : judge_refusal (state_of player) id ≡ judge_fault player.desk id true
  same_refusal =
      ap (λ (b : Bool). refusals player.desk.is_stopped b (is_judged history id) (is_judgeable history id (slice_get (started history) id))) its.3
      ∙ ap (λ (o : Option Started). refusals player.desk.is_stopped true (is_judged history id) (is_judgeable history id o)) its.1
      ∙ ap (λ (b : Bool). refusals player.desk.is_stopped true (is_judged history id) (b && ended_whole (outcome_of history id)))
      (judged_probe its.0.kind check.outcome whole)

  same_verdict : answer_verdict check ≡ verdict_on plan its.0 (bytes_read (read_back_of player.reads.items) id)
  same_verdict =
      let fits = started_fit-law plan history id its.0 ready.planned ready.legal its.1 in
      ap (λ (t : Ticket). answer_verdict (record check { ticket = t })) (sym its.2)
      ∙ sym (verdict_is plan its.0 fits.0 check.bytes fits.1.planned)
      ∙ ap (verdict_on plan its.0) (sym (bytes_found (reverse player.reads.items) id check found))

  judged_by : (o : Option DeskFault) → GoesOn player (machine_judge_by plan (state_of player) by id o (Some its.0)) (judge_reply o) (record player { desk = judged_desk player.desk by check o })
  judged_by (Some fault) = record { answer = refl; state = refl; plan = refl; calls = omega arith; covers = ready.covers; reads = ready.reads }
  judged_by None = record {
    answer = refl;
    state = ap (λ (v : GivenVerdict). record (state_of player) { history = history ++ Verdict by id (said_of (has_raced history id) v) ∷ [] }) same_verdict;
    plan = refl;
    calls = omega arith;
    covers = ready.covers;
    reads = keeps_on plan history (Verdict by id (said_of (has_raced history id) (answer_verdict check)) ∷ []) player.reads.items ready.legal (λ io. refl) ready.reads;
  }

  judges_on : GoesOn player (machine_judge plan (state_of player) by id) (judge_reply (judge_fault player.desk id true)) (record player { desk = judged_desk player.desk by check (judge_fault player.desk id true) })
  judges_on =
      subst (λ (o : Option Started). GoesOn player (machine_judge_by plan (state_of player) by id (judge_refusal (state_of player) id) o) (judge_reply (judge_fault player.desk id true)) (record player { desk = judged_desk player.desk by check (judge_fault player.desk id true) }))
      (sym its.1)
      (subst (λ (o : Option DeskFault). GoesOn player (machine_judge_by plan (state_of player) by id o (Some its.0)) (judge_reply (judge_fault player.desk id true)) (record player { desk = judged_desk player.desk by check (judge_fault player.desk id true) }))
      (sym same_refusal)
      (judged_by (judge_fault player.desk id true)))

-- what a desk's verdict left is what the machine's leaves
pub judge_goes_on : (player : Player) (by io : ℕ) (check : AnswerParts) (reply : StepReply) (desk : DeskState) → IsReady player → last_read player.reads.items io ≡ Some check → is_to_judge check ≡ true → reply ≡ judge_reply (judge_fault player.desk check.ticket.id true) → desk ≡ judged_desk player.desk by check (judge_fault player.desk check.ticket.id true) → GoesOn player (machine_judge player.desk.plan (state_of player) by io) reply (record player { desk = desk })
judge_goes_on player by io check reply desk ready found judges said left =
    let same = last_read_for player.reads.items io check found in
    let own = subst (λ (n : ℕ). last_read player.reads.items n ≡ Some check) (sym same) found in
    subst (λ (n : ℕ). GoesOn player (machine_judge player.desk.plan (state_of player) by n) reply (record player { desk = desk })) same
    (subst (λ (d : DeskState). GoesOn player (machine_judge player.desk.plan (state_of player) by check.ticket.id) reply (record player { desk = d })) (sym left)
    (subst (λ (r : StepReply). GoesOn player (machine_judge player.desk.plan (state_of player) by check.ticket.id) r (record player { desk = judged_desk player.desk by check (judge_fault player.desk check.ticket.id true) })) (sym said)
    (judges_on player by check ready own judges)))

pub none_there : (o : Option Ticket) → is_some o ≡ false → o ≡ None
none_there None h = refl
none_there (Some t) h = cc

pub some_there : (o : Option Ticket) → is_some o ≡ true → (t : Ticket) × (o ≡ Some t)
some_there (Some t) h = (t, refl)
some_there None h = cc

pub when_ok : (r : Result (Unit {0}) DeskFault) (P : Type 0) → OnOk r P → is_ok r ≡ true → P
when_ok (Ok x) P holds ok = holds
when_ok (Err fault) P holds ok = cc

-- its ticket can be carried out
pub known_fits : (player : Player) (io : ℕ) (t : Ticket) → IsReady player → slice_get (tickets_of player.desk.plan player.desk.history) io ≡ Some t → ticket_fits t ≡ true
known_fits player io t ready at =
    let is = known player.desk.plan player.desk.history io t at in
    let fits = started_fit-law player.desk.plan player.desk.history io is.0 ready.planned ready.legal is.1 in
    subst (λ (x : Ticket). ticket_fits x ≡ true) is.2 (fits_by player.desk.plan io is.0 fits.0 fits.1)

-- unless memory was wanting
pub judge_goes_on_if : (player : Player) (by io : ℕ) (check : AnswerParts) (said : Result StepReply OutOfMemory) (desk : DeskState) → IsReady player → last_read player.reads.items io ≡ Some check → is_to_judge check ≡ true → IfOk said (λ reply. reply ≡ judge_reply (judge_fault player.desk check.ticket.id true)) → OnOk said (desk ≡ judged_desk player.desk by check (judge_fault player.desk check.ticket.id true)) → IfOk said (λ reply. GoesOn player (machine_judge player.desk.plan (state_of player) by io) reply (record player { desk = desk }))
judge_goes_on_if player by io check (Ok reply) desk ready found judges says left = judge_goes_on player by io check reply desk ready found judges says left
judge_goes_on_if player by io check (Err error) desk ready found judges says left = tt

-- a refused end changes nothing
pub refused_end_goes_on : (player : Player) (io : ℕ) (reply : Reply) (fault : DeskFault) → IsReady player → end_refusal (state_of player) io ≡ Some fault → GoesOn player (machine_end player.desk.plan (state_of player) io reply) (answer.Refused fault) player
refused_end_goes_on player io reply fault ready refused =
    let s = state_of player in
    subst (λ (o : Option DeskFault). GoesOn player (machine_end_by player.desk.plan s io reply o (slice_get (started s.history) io)) (answer.Refused fault) player)
    (sym refused) (record { answer = refl; state = refl; plan = refl; calls = omega arith; covers = ready.covers; reads = ready.reads })

-- a stop changes nothing else
pub stop_goes_on : (player : Player) (stopped : DeskState) → IsReady player → stopped ≡ record player.desk { is_stopped = true } → GoesOn player (machine_stop (state_of player)) answer.Stopped (record player { desk = stopped })
stop_goes_on player stopped ready is =
    subst (λ (d : DeskState). GoesOn player (machine_stop (state_of player)) answer.Stopped (record player { desk = d })) (sym is)
    (record { answer = refl; state = refl; plan = refl; calls = omega arith; covers = ready.covers; reads = ready.reads })
