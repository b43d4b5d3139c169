-- What one event more makes of the tickets of a history, and of how far each of them has come.
use Rattle.std.proofs.Common.{◌≡◌, ℕ, ◌+◌, ◌<◌, ◌≤◌, List, [], ◌∷◌, ◌++◌, length, map, Bool, true, false, cond, ◌&&◌, refl, sym, ◌∙◌, ap, arith}
use Rattle.std.proofs.Math.ListN.{set}
use Rattle.std.specs.Prelude.{Option, Some, None, slice_get, nat_lt, is_none}
use Rattle.std.specs.List.{cons_option, enumerate_from, filter_map, range_with_len}
use Rattle.std.specs.Option.{option_map, option_to_list}
use Rattle.std.proofs.lemmas.List.{map-append}
use Rattle.std.proofs.lemmas.List.Elements.{filter_map-append}
use Rattle.std.proofs.lemmas.List.FromFn.{map-range_with_len_more, length-map-range_with_len}
use Rattle.jr_model.specs.declared.events.Event.{Event}
use Rattle.jr_model.specs.declared.events.Event.TheVariants.{Issue, Probe, Skip, End, Verdict}
use Rattle.jr_model.specs.declared.events.Outcome.{Outcome}
use Rattle.jr_model.specs.declared.events.Started.{Started}
use Rattle.jr_model.specs.declared.events.Verdict.{Verdict as GivenVerdict}
use Rattle.jr_model.specs.declared.events.WriteId.{WriteId}
use Rattle.jr_model.specs.declared.tickets.Ticket.{Ticket}
use Rattle.jr_model.specs.History.{started, started_by, end_of, outcome_of, is_verdict_on, is_judged}
use Rattle.jr_model.specs.Legal.{is_legal, may_happen}
use Rattle.jr_model.specs.Plan.{Plan}
use Rattle.jr_model.specs.Races.{has_raced}
use Rattle.jr_model.proofs.RaceLaws.{raced_other, raced_for_good}
use Rattle.jr_model.proofs.HistoryLemmas.{outcome_of-stays, outcome_of-end, legal_is_well}
use Rattle.jr_model.proofs.ListLemmas.{enumerate_more}
use Rattle.jr_laws_steps.proofs.StartedLemmas.{started-starts, started-other, length-started-starts, length-started-other, started_below}
use Rattle.jr_laws_steps.specs.Nexts.{IsNext, grown}
use Rattle.jr_laws_steps.proofs.JudgedEnded.{flying_unjudged}
use Rattle.jr_laws_steps.proofs.Grown.{outcome_of-other, is_judged-stays, is_judged-other, is_judged-verdict, not_ended_yet, not_judged_yet, end_names, verdict_names}
use Rattle.jr_laws_steps.proofs.Lists.{map_same}
use Rattle.jr_desk_tickets.specs.declared.table.TicketTable.{TicketTable}
use Rattle.jr_desk_tickets.specs.declared.table.IoState.{IoState}
use Rattle.jr_desk_tickets.specs.declared.table.IoState.TheVariants as states
use Rattle.jr_desk_tickets.specs.declared.launches.Launch.{Launch}
use Rattle.jr_desk_tickets.specs.Handing.{IsHanded, all_states, by_outcome, header_wanted, launch_of, launched_piece, launches_from, state_of, ticket_again}
use Rattle.jr_desk_tickets.specs.Kept.{tickets_of}
use Rattle.jr_desk_tickets.specs.Tickets.{ticket_of}
use Rattle.jr_desk_tickets.proofs.HandingLaunches.{headers_few, kept_at, launches_more, length-launches, tickets_again}
use Rattle.jr_desk_tickets.proofs.HandingLists.{map_moved}
use Rattle.jr_desk_tickets.proofs.OwnTickets.{tickets_count}

-- the tickets

pub tickets_starts : (plan : Plan) (history : List Event) (event : Event) (io : Started) → started_by event ≡ Some io
    → tickets_of plan (grown history event) ≡ tickets_of plan history ++ ticket_of plan (length (started history), io) ∷ []
tickets_starts plan history event io starts =
    let same : 0 + length (started history) ≡ length (started history) = omega arith in
    ap (λ (ios : List Started). map (ticket_of plan) (enumerate_from 0 ios)) (started-starts history event io starts)
    ∙ ap (map (ticket_of plan)) (enumerate_more 0 (started history) io)
    ∙ map-append (ticket_of plan) (enumerate_from 0 (started history)) ((0 + length (started history), io) ∷ [])
    ∙ ap (λ (k : ℕ). tickets_of plan history ++ ticket_of plan (k, io) ∷ []) same

pub tickets_stay : (plan : Plan) (history : List Event) (event : Event) → started_by event ≡ None
    → tickets_of plan (grown history event) ≡ tickets_of plan history
tickets_stay plan history event nothing =
    ap (λ (ios : List Started). map (ticket_of plan) (enumerate_from 0 ios)) (started-other history event nothing)

-- how far they have come

-- whether it raced doesn't show while it is in flight
raced_unseen : (raced was : Bool) (o : Option Outcome) → (is_none o ≡ false → raced ≡ was) → by_outcome raced o ≡ by_outcome was o
raced_unseen raced was None same = refl
raced_unseen raced was (Some outcome) same = ap (λ (b : Bool). by_outcome b (Some outcome)) (same refl)

states_same : (after before : List Event) (id : ℕ) → is_judged after id ≡ is_judged before id
    → outcome_of after id ≡ outcome_of before id
    → (is_none (outcome_of before id) ≡ false → has_raced after id ≡ has_raced before id)
    → state_of after id ≡ state_of before id
states_same after before id judged ended raced =
    ap (λ (b : Bool). cond b states.Judged (by_outcome (has_raced after id) (outcome_of after id))) judged
    ∙ ap (λ (o : Option Outcome). cond (is_judged before id) states.Judged (by_outcome (has_raced after id) o)) ended
    ∙ ap (cond (is_judged before id) states.Judged)
    (raced_unseen (has_raced after id) (has_raced before id) (outcome_of before id) raced)

states_by : (history : List Event) (id : ℕ) (o : Option Outcome) → is_judged history id ≡ false → outcome_of history id ≡ o
    → state_of history id ≡ by_outcome (has_raced history id) o
states_by history id o unjudged ended =
    ap (λ (b : Bool). cond b states.Judged (by_outcome (has_raced history id) (outcome_of history id))) unjudged
    ∙ ap (by_outcome (has_raced history id)) ended

pub states_count : (history : List Event) → length (all_states history) ≡ length (started history)
states_count history = length-map-range_with_len (state_of history) 0 (length (started history))

-- an event that starts an I/O ends none and judges none
no_end : (event : Event) (io : Started) → started_by event ≡ Some io → (id : ℕ) → end_of id event ≡ None
no_end (Issue worker dir write piece) io starts id = refl
no_end (Probe worker write piece) io starts id = refl
no_end (Skip worker write) io starts id = cc
no_end (End worker ended outcome) io starts id = cc
no_end (Verdict worker judged verdict) io starts id = cc

no_verdict : (event : Event) (io : Started) → started_by event ≡ Some io → (id : ℕ) → is_verdict_on id event ≡ false
no_verdict (Issue worker dir write piece) io starts id = refl
no_verdict (Probe worker write piece) io starts id = refl
no_verdict (Skip worker write) io starts id = cc
no_verdict (End worker ended outcome) io starts id = cc
no_verdict (Verdict worker judged verdict) io starts id = cc

-- an event that starts one
pub states_starts : (plan : Plan) (history : List Event) (event : Event) (io : Started) → is_legal plan history ≡ true
    → started_by event ≡ Some io → all_states (grown history event) ≡ all_states history ++ states.InFlight ∷ []
states_starts plan history event io legal starts =
    ap (λ (m : ℕ). map (state_of after) (range_with_len 0 m)) count
    ∙ map-range_with_len_more (state_of after) 0 n n (omega arith)
    ∙ ap (λ (ps : List IoState). ps ++ state_of after n ∷ []) (map_same (state_of history) (state_of after) (range_with_len 0 n) (λ j i at. same i))
    ∙ ap (λ (p : IoState). all_states history ++ p ∷ []) (same n ∙ new)
  where
    n : ℕ
    n = length (started history)

    after : List Event
    after = grown history event

    count : length (started (grown history event)) ≡ n + 1
    count = omega (arith, length-started-starts history event io starts)

    ended_below : (i : ℕ) (o : Option Outcome) → outcome_of history i ≡ o → is_none o ≡ false → i < n
    ended_below i None at ended = cc
    ended_below i (Some outcome) at ended = (legal_is_well plan history legal).ends i outcome at

    at_rest : (below none : Bool) → none ≡ false → (below && none) ≡ false
    at_rest true none ended = ended
    at_rest false none ended = refl

    -- what has ended keeps its race
    raced_same : (i : ℕ) → is_none (outcome_of history i) ≡ false → has_raced after i ≡ has_raced history i
    raced_same i ended =
        raced_for_good history event i (ended_below i (outcome_of history i) refl ended)
        (at_rest (nat_lt i n) (is_none (outcome_of history i)) ended)

    same : (i : ℕ) → state_of after i ≡ state_of history i
    same i =
        states_same after history i (is_judged-stays history event i (no_verdict event io starts i))
        (outcome_of-stays history event i (no_end event io starts i)) (raced_same i)

    new : state_of history n ≡ states.InFlight
    new =
        let past : n ≤ n = omega arith in
        states_by history n None (not_judged_yet plan history n legal past) (not_ended_yet plan history n legal past)

-- an event that changes how far one has come
states_moves : (history : List Event) (event : Event) (id : ℕ) → started_by event ≡ None → id < length (started history)
    → ((i : ℕ) → (i ≡ id → ⊥) → state_of (grown history event) i ≡ state_of history i)
    → all_states (grown history event) ≡ set (all_states history) id (state_of (grown history event) id)
states_moves history event id nothing below others =
    let n = length (started history) in
    let after = grown history event in
    let same : 0 + id ≡ id = omega arith in
    ap (λ (m : ℕ). map (state_of after) (range_with_len 0 m)) (length-started-other history event nothing)
    ∙ map_moved (state_of after) (state_of history) 0 n id below
    (λ (i : ℕ) (apart : i ≡ 0 + id → ⊥). others i (λ (e : i ≡ id). apart (e ∙ sym same)))
    ∙ ap (λ (i : ℕ). set (all_states history) id (state_of after i)) same

pub states_end : (plan : Plan) (history : List Event) (worker id : ℕ) (outcome : Outcome) → is_legal plan history ≡ true
    → may_happen plan history (End worker id outcome) ≡ true
    → all_states (grown history (End worker id outcome))
    ≡ set (all_states history) id (by_outcome (has_raced history id) (Some outcome))
states_end plan history worker id outcome legal may =
    let event = End worker id outcome in
    let after = grown history event in
    let names = end_names plan history worker id outcome may in
    states_moves history event id refl (started_below history id names.ended names.there)
    (λ (i : ℕ) (apart : i ≡ id → ⊥).
    states_same after history i (is_judged-stays history event i refl)
    (outcome_of-other history worker id outcome i (λ (e : id ≡ i). apart (sym e)))
    (λ (ended : is_none (outcome_of history i) ≡ false). raced_other history event i refl))
    ∙ ap (set (all_states history) id)
    (states_by after id (Some outcome) (is_judged-stays history event id refl ∙ flying_unjudged plan history id legal names.flies)
    (outcome_of-end history worker id outcome names.flies)
    ∙ ap (λ (b : Bool). by_outcome b (Some outcome)) (raced_other history event id refl))

pub states_verdict : (plan : Plan) (history : List Event) (worker id : ℕ) (verdict : GivenVerdict)
    → may_happen plan history (Verdict worker id verdict) ≡ true
    → all_states (grown history (Verdict worker id verdict)) ≡ set (all_states history) id states.Judged
states_verdict plan history worker id verdict may =
    let event = Verdict worker id verdict in
    let after = grown history event in
    let names = verdict_names plan history worker id verdict may in
    states_moves history event id refl (started_below history id names.judged names.there)
    (λ (i : ℕ) (apart : i ≡ id → ⊥).
    states_same after history i (is_judged-other history worker id verdict i (λ (e : id ≡ i). apart (sym e)))
    (outcome_of-stays history event i refl)
    (λ (ended : is_none (outcome_of history i) ≡ false). raced_other history event i refl))
    ∙ ap (λ (b : Bool). set (all_states history) id (cond b states.Judged (by_outcome (has_raced after id) (outcome_of after id))))
    (is_judged-verdict history worker id verdict)

pub states_skip : (history : List Event) (worker : ℕ) (write : WriteId)
    → all_states (grown history (Skip worker write)) ≡ all_states history
states_skip history worker write =
    let event = Skip worker write in
    let after = grown history event in
    ap (λ (m : ℕ). map (state_of after) (range_with_len 0 m)) (length-started-other history event refl)
    ∙ map_same (state_of history) (state_of after) (range_with_len 0 (length (started history)))
    (λ j i at. states_same after history i (is_judged-stays history event i refl) (outcome_of-stays history event i refl)
    (λ (ended : is_none (outcome_of history i) ≡ false). raced_other history event i refl))

-- the index goes on agreeing with the history

pub handed_starts : (plan : Plan) (history : List Event) (event : Event) (io : Started) (before after : TicketTable) (ticket : Ticket)
    → IsNext plan history event
    → started_by event ≡ Some io
    → ticket ≡ ticket_of plan (length (started history), io)
    → after.launches.items ≡ before.launches.items ++ launch_of (length before.headers.items) ticket ∷ []
    → after.headers.items ≡ before.headers.items ++ option_to_list (header_wanted ticket)
    → after.states.items ≡ before.states.items ++ states.InFlight ∷ []
    → IsHanded plan history before
    → IsHanded plan (grown history event) after
handed_starts plan history event io before after ticket next starts is launches headers come handed = record {
  launches =
      launches
      ∙ ap (λ (ls : List Launch). ls ++ launch_of (length before.headers.items) ticket ∷ []) handed.launches
      ∙ ap (λ (n : ℕ). launches_from 0 tickets ++ launch_of n ticket ∷ []) (ap length handed.headers ∙ count)
      ∙ sym (launches_more 0 tickets ticket)
      ∙ ap (launches_from 0) more;
  headers =
      headers
      ∙ ap (λ (hs : List (List ℕ)). hs ++ option_to_list (header_wanted ticket)) handed.headers
      ∙ sym (filter_map-append header_wanted tickets (ticket ∷ []) ∙ ap (λ (hs : List (List ℕ)). filter_map header_wanted tickets ++ hs) (alone (header_wanted ticket)))
      ∙ ap (filter_map header_wanted) more;
  states =
      come
      ∙ ap (λ (ps : List IoState). ps ++ states.InFlight ∷ []) handed.states
      ∙ sym (states_starts plan history event io next.legal starts);
}
  where
    tickets : List Ticket
    tickets = tickets_of plan history

    count : length (filter_map header_wanted tickets) ≡ 0 + length (filter_map header_wanted tickets)
    count = omega arith

    more : tickets ++ ticket ∷ [] ≡ tickets_of plan (grown history event)
    more = ap (λ (t : Ticket). tickets ++ t ∷ []) is ∙ sym (tickets_starts plan history event io starts)

    alone : (o : Option (List ℕ)) → cons_option o [] ≡ option_to_list o
    alone None = refl
    alone (Some h) = refl

pub handed_end : (plan : Plan) (history : List Event) (worker id : ℕ) (outcome : Outcome) (raced : Bool) (before after : TicketTable)
    → IsNext plan history (End worker id outcome) → raced ≡ has_raced history id
    → after.launches.items ≡ before.launches.items
    → after.headers.items ≡ before.headers.items
    → after.states.items ≡ set before.states.items id (by_outcome raced (Some outcome)) → IsHanded plan history before
    → IsHanded plan (grown history (End worker id outcome)) after
handed_end plan history worker id outcome raced before after next same launches headers come handed = record {
  launches = launches ∙ handed.launches ∙ sym (ap (launches_from 0) (tickets_stay plan history (End worker id outcome) refl));
  headers = headers ∙ handed.headers ∙ sym (ap (filter_map header_wanted) (tickets_stay plan history (End worker id outcome) refl));
  states =
      come
      ∙ ap (λ (b : Bool). set before.states.items id (by_outcome b (Some outcome))) same
      ∙ ap (λ (ps : List IoState). set ps id (by_outcome (has_raced history id) (Some outcome))) handed.states
      ∙ sym (states_end plan history worker id outcome next.legal next.may);
}

pub handed_verdict : (plan : Plan) (history : List Event) (worker id : ℕ) (verdict : GivenVerdict) (before after : TicketTable)
    → IsNext plan history (Verdict worker id verdict) → after.launches.items ≡ before.launches.items
    → after.headers.items ≡ before.headers.items
    → after.states.items ≡ set before.states.items id states.Judged → IsHanded plan history before
    → IsHanded plan (grown history (Verdict worker id verdict)) after
handed_verdict plan history worker id verdict before after next launches headers come handed = record {
  launches = launches ∙ handed.launches ∙ sym (ap (launches_from 0) (tickets_stay plan history (Verdict worker id verdict) refl));
  headers = headers ∙ handed.headers ∙ sym (ap (filter_map header_wanted) (tickets_stay plan history (Verdict worker id verdict) refl));
  states =
      come
      ∙ ap (λ (ps : List IoState). set ps id states.Judged) handed.states
      ∙ sym (states_verdict plan history worker id verdict next.may);
}

pub handed_skip : (plan : Plan) (history : List Event) (worker : ℕ) (write : WriteId) (handed : TicketTable)
    → IsNext plan history (Skip worker write) → IsHanded plan history handed → IsHanded plan (grown history (Skip worker write)) handed
handed_skip plan history worker write handed next is = record {
  launches = is.launches ∙ sym (ap (launches_from 0) (tickets_stay plan history (Skip worker write) refl));
  headers = is.headers ∙ sym (ap (filter_map header_wanted) (tickets_stay plan history (Skip worker write) refl));
  states = is.states ∙ sym (states_skip history worker write);
}

-- there are as many as were started

pub handed_length : (plan : Plan) (history : List Event) (handed : TicketTable) → IsHanded plan history handed
    → length handed.states.items ≡ length (started history)
handed_length plan history handed is = ap length is.states ∙ states_count history

pub launches_length : (plan : Plan) (history : List Event) (handed : TicketTable) → IsHanded plan history handed
    → length handed.launches.items ≡ length (started history)
launches_length plan history handed is =
    ap length is.launches ∙ length-launches 0 (tickets_of plan history) ∙ tickets_count plan history

-- and no more headers are kept
pub headers_within : (plan : Plan) (history : List Event) (handed : TicketTable) → IsHanded plan history handed
    → length handed.headers.items ≤ length (started history)
headers_within plan history handed is =
    omega (arith, ap length is.headers, headers_few (tickets_of plan history), tickets_count plan history)

-- what is found under a number

-- the ticket made again is the one that was handed out
pub ticket_found : (plan : Plan) (history : List Event) (handed : TicketTable) (id : ℕ) → IsHanded plan history handed
    → option_map (ticket_again plan handed.headers.items id) (slice_get handed.launches.items id)
    ≡ slice_get (tickets_of plan history) id
ticket_found plan history handed id is =
    ap (λ (hs : List (List ℕ)). option_map (ticket_again plan hs id) (slice_get handed.launches.items id)) is.headers
    ∙ ap (λ (ls : List Launch). option_map (ticket_again plan (filter_map header_wanted (tickets_of plan history)) id) (slice_get ls id))
    is.launches
    ∙ tickets_again plan history id

pub seed_found : (plan : Plan) (history : List Event) (handed : TicketTable) (id : ℕ) → IsHanded plan history handed
    → option_map (λ (launch : Launch). launch.seed) (slice_get handed.launches.items id)
    ≡ option_map (λ (t : Ticket). t.seed) (slice_get (tickets_of plan history) id)
seed_found plan history handed id is =
    ap (λ (ls : List Launch). option_map (λ (launch : Launch). launch.seed) (slice_get ls id)) is.launches
    ∙ kept_at (λ (launch : Launch). launch.seed) (λ (t : Ticket). t.seed) (λ n t. refl) 0 (tickets_of plan history) id

pub worker_found : (plan : Plan) (history : List Event) (handed : TicketTable) (id : ℕ) → IsHanded plan history handed
    → option_map (λ (launch : Launch). launch.worker) (slice_get handed.launches.items id)
    ≡ option_map (λ (t : Ticket). t.worker) (slice_get (tickets_of plan history) id)
worker_found plan history handed id is =
    ap (λ (ls : List Launch). option_map (λ (launch : Launch). launch.worker) (slice_get ls id)) is.launches
    ∙ kept_at (λ (launch : Launch). launch.worker) (λ (t : Ticket). t.worker) (λ n t. refl) 0 (tickets_of plan history) id

pub kind_found : (plan : Plan) (history : List Event) (handed : TicketTable) (id : ℕ) → IsHanded plan history handed
    → option_map (λ (launch : Launch). launch.kind) (slice_get handed.launches.items id)
    ≡ option_map (λ (t : Ticket). t.kind) (slice_get (tickets_of plan history) id)
kind_found plan history handed id is =
    ap (λ (ls : List Launch). option_map (λ (launch : Launch). launch.kind) (slice_get ls id)) is.launches
    ∙ kept_at (λ (launch : Launch). launch.kind) (λ (t : Ticket). t.kind) (λ n t. refl) 0 (tickets_of plan history) id

pub piece_found : (plan : Plan) (history : List Event) (handed : TicketTable) (id : ℕ) → IsHanded plan history handed
    → option_map launched_piece (slice_get handed.launches.items id)
    ≡ option_map (λ (t : Ticket). t.piece) (slice_get (tickets_of plan history) id)
piece_found plan history handed id is =
    ap (λ (ls : List Launch). option_map launched_piece (slice_get ls id)) is.launches
    ∙ kept_at launched_piece (λ (t : Ticket). t.piece) (λ n t. refl) 0 (tickets_of plan history) id
