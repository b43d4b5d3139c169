-- Believed: the faults of a run: its I/Os and checks that failed or ended short, in the order in which they ended, and what is said
-- of each of them (of this project).
use Rattle.std.specs.Prelude.{◌≡◌, ℕ, ◌-◌, List, ◌++◌, length, map, take, filter_map, slice_get, Option, Some, None, codes, decimal, string_bytes, if◌then◌else◌}
use Rattle.jr_model.specs.declared.blocks.Piece.{Piece}
use Rattle.jr_model.specs.declared.events.Event.{Event}
use Rattle.jr_model.specs.declared.events.Event.TheVariants.{Issue, Probe, Skip, End, Verdict}
use Rattle.jr_model.specs.declared.events.Outcome.{Outcome}
use Rattle.jr_model.specs.declared.events.Outcome.TheVariants.{Whole, Failed, Short}
use Rattle.jr_model.specs.declared.events.WriteId.{WriteId}
use Rattle.jr_model.specs.declared.tickets.TicketKind.{TicketKind}
use Rattle.jr_model.specs.declared.tickets.TicketKind.TheVariants as ticket
use Rattle.jr_model.specs.declared.events.Started.{Started}
use Rattle.jr_model.specs.History.{started}
use Rattle.jr_model.specs.Legal.{is_fault}
use Rattle.jr_model.specs.Plan.{Plan}
use Rattle.jr_model.specs.Report.{field, file_name}
use Rattle.jr_report_faults.specs.declared.faults.TheConstants.{MOST_NAMED}
use Rattle.jr_report_faults.specs.declared.faults.Fault.{Fault}
use Rattle.jr_report_faults.specs.declared.faults.Faults.{Faults}
use Rattle.jr_report_faults.specs.declared.notes.FaultNote.{FaultNote}

-- what was started, where it ended in a fault
abbrev pub fault_with : Outcome → Option Started → Option Fault
fault_with outcome None = None
fault_with outcome (Some io) =
    if is_fault outcome
    then Some (record { kind = io.kind; write = io.write; piece = io.piece; outcome = outcome })
    else None

-- the fault that an event is, where these are started
abbrev pub fault_by : List Started → Event → Option Fault
fault_by ios (End worker io outcome) = fault_with outcome (slice_get ios io)
fault_by ios (Issue worker kind write piece) = None
fault_by ios (Probe worker write piece) = None
fault_by ios (Skip worker write) = None
fault_by ios (Verdict worker io verdict) = None

-- the faults of a history
abbrev pub faults_of : List Event → List Fault
faults_of history = filter_map (fault_by (started history)) history

-- a fault with the name of its file
pub record NamedFault : Type 0 where
  pub fault : Fault
  pub name : List ℕ

abbrev pub named_by : Plan → Fault → NamedFault
named_by plan fault = record { fault = fault; name = file_name plan fault.piece.file }

-- what a note is of
abbrev pub named : FaultNote → NamedFault
named note = record { fault = note.fault; name = string_bytes note.name }

-- the notes are of the first of these faults, and so many more there are
pub record AreFirst (plan : Plan) (faults : List Fault) (kept : Faults) : Type 0 where
  pub first : map named kept.first.items ≡ map (named_by plan) (take MOST_NAMED faults)
  pub more : kept.more ≡ length faults - MOST_NAMED

-- those of a run of the plan with this history
abbrev pub AreFaultsOf : Plan → List Event → Faults → Type 0
AreFaultsOf plan history kept = AreFirst plan (faults_of history) kept

-- what a note prints: what it was, how it ended, and then which I/O it was and where, as a bad verdict's line has it
abbrev pub kind_word : TicketKind → List ℕ
kind_word ticket.Read = codes "read"
kind_word ticket.Write = codes "write"
kind_word ticket.Probe = codes "check"
kind_word ticket.ReadCheck = codes "read"

abbrev pub end_words : Outcome → List ℕ
end_words Whole = codes " ended"
end_words Failed = codes " failed"
end_words (Short n) = codes " ended after " ++ decimal n ++ codes " bytes"

abbrev pub place_text : WriteId → Piece → List ℕ → List ℕ
place_text write piece name =
    field (codes "clone") write.clone ++ field (codes "pass") write.pass ++ field (codes "number") write.number
    ++ codes " file=" ++ name ++ field (codes "offset") piece.offset ++ field (codes "length") piece.len

abbrev pub fault_text : NamedFault → List ℕ
fault_text of =
    kind_word of.fault.kind ++ end_words of.fault.outcome ++ codes ":" ++ place_text of.fault.write of.fault.piece of.name
