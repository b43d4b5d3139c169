-- Believed: what stands in the block of a bad verdict (of this project).
use Rattle.std.specs.Prelude.{ℕ, ◌+◌, ◌*◌, nat_lt, nat_le, Bool, true, false, ◌&&◌, ◌||◌, List, [], slice_range, Option, Some, None, if◌then◌else◌}
use Rattle.jr_model.specs.declared.blocks.Piece.{Piece}
use Rattle.jr_model.specs.declared.contents.VerifyKind.{VerifyKind}
use Rattle.jr_model.specs.declared.contents.VerifyKind.TheVariants as verify
use Rattle.jr_model.specs.declared.events.Verdict.{Verdict}
use Rattle.jr_model.specs.declared.events.Verdict.TheVariants.{Good, Bad, Void}
use Rattle.jr_model.specs.declared.events.What.{What}
use Rattle.jr_model.specs.declared.events.What.TheVariants.{Header, Digest, DataArea, Byte, Chunk}
use Rattle.jr_model.specs.declared.events.WriteId.{WriteId}
use Rattle.jr_model.specs.declared.tickets.Ticket.{Ticket}
use Rattle.jr_model.specs.declared.tickets.TicketKind.{TicketKind}
use Rattle.jr_model.specs.declared.tickets.TicketKind.TheVariants as ticket
use Rattle.jr_model.specs.Judgement.{own_interval}
use Rattle.jr_engines.specs.Answers.{AnswerParts}
use Rattle.jr_header.specs.Served.{answer_verdict, ticket_content}
use Rattle.jr_diagnosis.specs.declared.diagnoses.Diagnosis.{Diagnosis}
use Rattle.jr_diagnosis.specs.declared.rulings.Diagnosed.{Diagnosed}
use Rattle.jr_diagnosis.specs.declared.rulings.Span.{Span}
use Rattle.jr_diagnosis.specs.Diagnoses.{diagnosis_of, own_diagnosis_of}
use Rattle.jr_diagnosis.specs.Sectors.{first_sectors}

-- how far apart the headers of a check's block are: as it was written, or as a checked read's first header says
abbrev pub interval_in : TicketKind → Ticket → List ℕ → ℕ
interval_in ticket.Read t bytes = t.method.interval
interval_in ticket.Write t bytes = t.method.interval
interval_in ticket.Probe t bytes = t.method.interval
interval_in ticket.ReadCheck t bytes = own_interval bytes

-- the chunk of this number in a block of so many bytes, or all of the block where no such chunk lies within it
abbrev pub chunk_within : ℕ → ℕ → ℕ → Span
chunk_within len interval i =
    if nat_lt 0 interval && nat_le (i * interval + interval) len
    then record { from = i * interval; len = interval }
    else record { from = 0; len = len }

-- the part of the block that is bad: the chunk that is said to be, or all of it
abbrev pub bad_span : Ticket → List ℕ → What → Span
bad_span t bytes Header = record { from = 0; len = t.piece.len }
bad_span t bytes Digest = record { from = 0; len = t.piece.len }
bad_span t bytes DataArea = record { from = 0; len = t.piece.len }
bad_span t bytes (Byte i) = record { from = 0; len = t.piece.len }
bad_span t bytes (Chunk i part) = chunk_within t.piece.len (interval_in t.kind t bytes) i

-- where it is
abbrev pub place_of : Piece → Span → Piece
place_of piece span = record { file = piece.file; offset = piece.offset + span.from; len = span.len }

-- it is known which bytes should stand there: those of the write that is checked, or a pattern
abbrev pub is_pattern : VerifyKind → Bool
is_pattern verify.Plain = false
is_pattern verify.Pattern = true
is_pattern verify.Md5 = false
is_pattern verify.Sha1 = false
is_pattern verify.Sha256 = false

abbrev pub is_check_of_write : TicketKind → Bool
is_check_of_write ticket.Read = false
is_check_of_write ticket.Write = false
is_check_of_write ticket.Probe = true
is_check_of_write ticket.ReadCheck = false

abbrev pub is_known : Ticket → Bool
is_known t = is_check_of_write t.kind || is_pattern t.method.kind

-- the bytes of a part of a block
abbrev pub bytes_in : Span → List ℕ → List ℕ
bytes_in span bytes = slice_range bytes span.from (span.from + span.len)

-- what stands in this part of the block that was read
abbrev pub diagnosis_in : AnswerParts → Span → Diagnosis
diagnosis_in answer span =
    let t = answer.ticket in
    if is_known t
    then diagnosis_of t.method t.write (place_of t.piece span) (bytes_in span (ticket_content t)) (bytes_in span answer.bytes)
    else own_diagnosis_of t.method.kind (place_of t.piece span) (bytes_in span answer.bytes)

-- of each of its first sectors whether it is right; of none where it isn't known what should stand there
abbrev pub sectors_in : AnswerParts → Span → List Bool
sectors_in answer span =
    if is_known answer.ticket then first_sectors (bytes_in span (ticket_content answer.ticket)) (bytes_in span answer.bytes) else []

-- what is told of a bad block: which write it is about, the place, what stands there, and which of its sectors are right
pub record Told : Type 0 where
  pub write : WriteId
  pub place : Piece
  pub diagnosis : Diagnosis
  pub sectors : List Bool

abbrev pub told : Diagnosed → Told
told found = record { write = found.write; place = found.place; diagnosis = found.diagnosis; sectors = found.sectors.items }

abbrev pub told_in : AnswerParts → Span → Told
told_in answer span = record {
  write = answer.ticket.write;
  place = place_of answer.ticket.piece span;
  diagnosis = diagnosis_in answer span;
  sectors = sectors_in answer span;
}

abbrev pub told_by : AnswerParts → Verdict → Option Told
told_by answer Good = None
told_by answer Void = None
told_by answer (Bad what) = Some (told_in answer (bad_span answer.ticket answer.bytes what))

-- what is told of a block that was judged: nothing of a good one
abbrev pub told_of : AnswerParts → Option Told
told_of answer = told_by answer (answer_verdict answer)
