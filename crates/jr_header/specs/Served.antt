-- Believed: what a worker asks an engine for a ticket, and the verdict on what came back (of this project).
use Rattle.std.specs.Prelude.{◌≡◌, ◌⊎◌, ℕ, List, length, Bool, true, false}
use Rattle.jr_model.specs.declared.contents.Expected.{Expected}
use Rattle.jr_model.specs.declared.contents.Expected.TheVariants as expected
use Rattle.jr_model.specs.declared.events.Outcome.{Outcome}
use Rattle.jr_model.specs.declared.events.Outcome.TheVariants as outcome
use Rattle.jr_model.specs.declared.events.Verdict.{Verdict}
use Rattle.jr_model.specs.declared.tickets.Ticket.{Ticket}
use Rattle.jr_model.specs.declared.tickets.TicketKind.{TicketKind}
use Rattle.jr_model.specs.declared.tickets.TicketKind.TheVariants as kind
use Rattle.jr_model.specs.Content.{content_of, expected_of}
use Rattle.jr_model.specs.Judgement.{verdict_of}
use Rattle.jr_model.specs.Legal.{outcome_fits}
use Rattle.jr_model.specs.Tickets.{ticket_fits}
use Rattle.jr_engines.specs.Answers.{AnswerParts}

-- the bytes of the ticket's write
abbrev pub ticket_content : Ticket → List ℕ
ticket_content t = content_of t.method.kind t.method t.write t.piece t.seed

-- what a check of the ticket's write is judged by
abbrev pub ticket_expected : Ticket → Expected
ticket_expected t = expected_of t.method.kind t.method t.write t.piece t.seed

-- nothing is expected of the ticket's bytes, or what its own write put there
abbrev pub ExpectsOwn : Ticket → Type 0
ExpectsOwn t = (t.expected ≡ expected.Nothing) ⊎ (t.expected ≡ ticket_expected t)

-- the buffer that the engine is asked with: filled for a write, else as it was handed in
abbrev pub asked_with : TicketKind → Ticket → List ℕ → List ℕ
asked_with kind.Read t buffer = buffer
asked_with kind.Write t buffer = ticket_content t
asked_with kind.Probe t buffer = buffer
asked_with kind.ReadCheck t buffer = buffer

-- what is known of a served ticket's bytes: for a write what its check is judged by, else what the ticket says
abbrev pub served_expected : TicketKind → Ticket → Expected
served_expected kind.Read t = t.expected
served_expected kind.Write t = ticket_expected t
served_expected kind.Probe t = t.expected
served_expected kind.ReadCheck t = t.expected

-- a check, or a checked read, that ended whole
abbrev pub is_whole_check : TicketKind → Outcome → Bool
is_whole_check kind.Read how = false
is_whole_check kind.Write how = false
is_whole_check kind.Probe outcome.Whole = true
is_whole_check kind.Probe outcome.Failed = false
is_whole_check kind.Probe (outcome.Short n) = false
is_whole_check kind.ReadCheck outcome.Whole = true
is_whole_check kind.ReadCheck outcome.Failed = false
is_whole_check kind.ReadCheck (outcome.Short n) = false

-- the answer is to be judged
abbrev pub is_to_judge : AnswerParts → Bool
is_to_judge answer = is_whole_check answer.ticket.kind answer.outcome

-- the verdict on an answer's bytes, by what its ticket expects
abbrev pub answer_verdict : AnswerParts → Verdict
answer_verdict answer =
    verdict_of answer.ticket.method answer.ticket.write answer.ticket.piece answer.ticket.expected answer.bytes

-- what an engine is to be asked for: a ticket, and the buffer that it is asked with
pub record ReadyParts : Type 0 where
  pub ticket : Ticket
  pub buffer : List ℕ

-- a ticket that fits, with a buffer of its piece's length, what is known of its bytes, and whether the ticket is known to expect
-- nothing but what its own write put there
pub record IsReady (ticket : Ticket) (buffer : List ℕ) (known : Expected) (is_own : Bool) : Type 0 where
  pub fits : ticket_fits ticket ≡ true
  pub room : length buffer ≡ ticket.piece.len
  pub expected : known ≡ served_expected ticket.kind ticket
  pub own : is_own ≡ true → ExpectsOwn ticket

-- an answer to a ticket that fits, with a buffer of its piece's length, what is known of its bytes, and whether the ticket is known
-- to expect nothing but what its own write put there
pub record IsServed (answer : AnswerParts) (known : Expected) (is_own : Bool) : Type 0 where
  pub fits : ticket_fits answer.ticket ≡ true
  pub room : length answer.bytes ≡ answer.ticket.piece.len
  pub outcome : outcome_fits answer.outcome answer.ticket.piece.len ≡ true
  pub expected : known ≡ served_expected answer.ticket.kind answer.ticket
  pub own : is_own ≡ true → ExpectsOwn answer.ticket

-- an answer that is to be judged, and its verdict
pub record IsRuled (answer : AnswerParts) (said : Verdict) : Type 0 where
  pub fits : ticket_fits answer.ticket ≡ true
  pub room : length answer.bytes ≡ answer.ticket.piece.len
  pub to_judge : is_to_judge answer ≡ true
  pub verdict : said ≡ answer_verdict answer
