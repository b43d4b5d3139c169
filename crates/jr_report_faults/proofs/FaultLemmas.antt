-- The faults of a history, of the tickets that were handed out, event by event; and the first of them, when there is one more.
use Rattle.std.proofs.Common.{◌≡◌, ℕ, ◌+◌, ◌-◌, ◌<◌, ◌≤◌, List, [], ◌∷◌, ◌++◌, length, take, map, min, get_or, Option, Some, None, refl, sym, ap, ◌∙◌, subst, arith, append-nil}
use Rattle.std.specs.Prelude.{filter_map, slice_get, string_bytes}
use Rattle.std.specs.Option.{option_to_list}
use Rattle.std.proofs.lemmas.List.{length-append, length-map, length-take, map-append, take-append-le, take_all, take_more}
use Rattle.std.proofs.lemmas.List.Elements.{filter_map-append}
use Rattle.jr_model.specs.declared.events.Event.{Event}
use Rattle.jr_model.specs.declared.events.Outcome.{Outcome}
use Rattle.jr_model.specs.declared.tickets.Ticket.{Ticket}
use Rattle.jr_model.specs.declared.events.Started.{Started}
use Rattle.jr_model.specs.History.{started}
use Rattle.jr_model.specs.Plan.{Plan}
use Rattle.jr_model.specs.Report.{file_name}
use Rattle.jr_model.proofs.OptionLemmas.{one_listed}
use Rattle.jr_desk_tickets.specs.Kept.{tickets_of}
use Rattle.jr_desk_tickets.specs.Tickets.{ticket_of}
use Rattle.jr_desk_tickets.proofs.HandingLists.{got_numbered}
use Rattle.jr_desk_tickets.proofs.OwnTickets.{ticket_started}
use Rattle.jr_report_faults.specs.declared.faults.Fault.{Fault}
use Rattle.jr_report_faults.specs.declared.faults.Faults.{Faults}
use Rattle.jr_report_faults.specs.declared.notes.FaultNote.{FaultNote}
use Rattle.jr_report_faults.specs.Faults.{AreFirst, NamedFault, fault_with, named, named_by}
use Rattle.jr_report_faults.specs.Tickets.{ticket_fault}

-- the fault of a ticket is that of what was started under its number
pub of_ticket : (plan : Plan) (history : List Event) (id : ℕ) (outcome : Outcome)
    → ticket_fault outcome (slice_get (tickets_of plan history) id) ≡ fault_with outcome (slice_get (started history) id)
of_ticket plan history id outcome = by (slice_get (started history) id) (slice_get (tickets_of plan history) id) refl refl
  where
    by : (io : Option Started) (t : Option Ticket) → slice_get (started history) id ≡ io → slice_get (tickets_of plan history) id ≡ t
        → ticket_fault outcome t ≡ fault_with outcome io
    by None None at handed = refl
    by None (Some t) at handed = let found = got_numbered (ticket_of plan) 0 (started history) id t handed in
        let clash : None ≡ Some found.0 = sym at ∙ found.1 in
        cc
    by (Some io) t at handed = ap (ticket_fault outcome) (sym handed ∙ ticket_started plan history id io at)

pub event_more : (by : Event → Option Fault) (events : List Event) (i : ℕ) (d : Event) → i < length events
    → filter_map by (take (i + 1) events) ≡ filter_map by (take i events) ++ option_to_list (by (get_or events i d))
event_more by events i d within =
    ap (filter_map by) (take_more events i d within)
    ∙ filter_map-append by (take i events) (get_or events i d ∷ [])
    ∙ ap (λ (more : List Fault). filter_map by (take i events) ++ more) (one_listed (by (get_or events i d)))

-- how many have notes
count : (plan : Plan) (faults : List Fault) (kept : Faults) → AreFirst plan faults kept → length kept.first.items ≡ min 100 (length faults)
count plan faults kept are =
    sym (length-map kept.first.items named)
    ∙ ap (λ (all : List NamedFault). length all) are.first
    ∙ length-map (take 100 faults) (named_by plan)
    ∙ length-take 100 faults

-- there is none more
pub none_more : (plan : Plan) (faults : List Fault) (kept : Faults) → AreFirst plan faults kept → AreFirst plan (faults ++ []) kept
none_more plan faults kept are = subst (λ (all : List Fault). AreFirst plan all kept) (sym (append-nil faults)) are

-- there is one more, which has no note
pub unnamed_more : (plan : Plan) (faults : List Fault) (fault : Fault) (old new : Faults) → length old.first.items ≡ 100
    → new.first.items ≡ old.first.items → new.more ≡ old.more + 1 → AreFirst plan faults old → AreFirst plan (faults ++ fault ∷ []) new
unnamed_more plan faults fault old new full same counted are =
    let few : length old.first.items ≡ min 100 (length faults) = count plan faults old are in
    let many : 100 ≤ length faults = omega (arith, few, full) in
    let longer : length (faults ++ fault ∷ []) ≡ length faults + 1 = length-append faults (fault ∷ []) in
    record {
      first = ap (map named) same ∙ are.first ∙ ap (map (named_by plan)) (sym (take-append-le 100 faults (fault ∷ []) many));
      more = let before : old.more ≡ length faults - 100 = are.more in omega (arith, before, counted, longer, many);
    }

-- there is one more, and its note is added
pub named_more : (plan : Plan) (faults : List Fault) (fault : Fault) (note : FaultNote) (old new : Faults) → (length old.first.items ≡ 100 → ⊥)
    → named note ≡ named_by plan fault → new.first.items ≡ old.first.items ++ note ∷ [] → new.more ≡ old.more → AreFirst plan faults old
    → AreFirst plan (faults ++ fault ∷ []) new
named_more plan faults fault note old new room noted added counted are =
    let few : length old.first.items ≡ min 100 (length faults) = count plan faults old are in
    let low : length faults < 100 = omega (arith, few, room) in
    let least : length faults ≤ 100 = omega (arith, low) in
    let longer : length (faults ++ fault ∷ []) ≡ length faults + 1 = length-append faults (fault ∷ []) in
    let whole : length (faults ++ fault ∷ []) ≤ 100 = omega (arith, low, longer) in
    record {
      first =
          ap (map named) added
          ∙ map-append named old.first.items (note ∷ [])
          ∙ ap (λ (all : List NamedFault). all ++ named note ∷ []) (are.first ∙ ap (map (named_by plan)) (take_all 100 faults least))
          ∙ ap (λ (one : NamedFault). map (named_by plan) faults ++ one ∷ []) noted
          ∙ sym (map-append (named_by plan) faults (fault ∷ []))
          ∙ ap (map (named_by plan)) (sym (take_all 100 (faults ++ fault ∷ []) whole));
      more = let before : old.more ≡ length faults - 100 = are.more in omega (arith, before, counted, longer, low);
    }

-- so of the first of the faults so far
pub kept_more : (plan : Plan) (by : Event → Option Fault) (events : List Event) (i : ℕ) (d : Event) (kept : Faults) → i < length events
    → AreFirst plan (filter_map by (take i events) ++ option_to_list (by (get_or events i d))) kept
    → AreFirst plan (filter_map by (take (i + 1) events)) kept
kept_more plan by events i d kept within are =
    subst (λ (faults : List Fault). AreFirst plan faults kept) (sym (event_more by events i d within)) are

-- the note of a fault
pub named_is : (plan : Plan) (fault : Fault) (note : FaultNote) → note.fault ≡ fault → string_bytes note.name ≡ file_name plan fault.piece.file
    → named note ≡ named_by plan fault
named_is plan fault note same name = ap {B = NamedFault} (λ (f : Fault). record { fault = f; name = string_bytes note.name }) same
    ∙ ap {B = NamedFault} (λ (n : List ℕ). record { fault = fault; name = n }) name

-- what was added is the fault that the event is
pub event_added : (plan : Plan) (faults : List Fault) (told was : Option Fault) (kept : Faults) → told ≡ was
    → AreFirst plan (faults ++ option_to_list told) kept → AreFirst plan (faults ++ option_to_list was) kept
event_added plan faults told was kept is are = subst (λ (fault : Option Fault). AreFirst plan (faults ++ option_to_list fault) kept) is are
