-- Believed: which lines a ledger's text has, or its first fault (of this project). The first line names the job; what stands behind the last
-- line feed was cut, and is left out.
use Rattle.std.specs.Prelude.{◌≡◌, ⊤, ℕ, ◌+◌, ◌==◌, Bool, ◌&&◌, List, [], ◌∷◌, ◌++◌, length, take, drop, Option, Some, None, Result, Ok, Err, codes, if◌then◌else◌}
use Rattle.std.specs.List.{slice_split}
use Rattle.jr_model.specs.Plan.{Plan}
use Rattle.jr_ledger.specs.declared.faults.LedgerFault.{LedgerFault}
use Rattle.jr_ledger.specs.declared.faults.LedgerFault.TheVariants.{Line, OtherJob, Memory}
use Rattle.jr_ledger.specs.declared.lines.LedgerLine.{LedgerLine}
use Rattle.jr_fields.specs.Fields.{field_is}
use Rattle.jr_ledger.specs.Fields.{read_line}
use Rattle.jr_ledger.specs.Identity.{job_digest}

abbrev pub is_newline : ℕ → Bool
is_newline b = b == 10

-- what a first line begins with; the job's digest follows
abbrev pub head_word : List ℕ
head_word = codes "fiorun ledger 1 "

-- the first line of the ledger of a job
abbrev pub head_text : Plan → List ℕ
head_text plan = head_word ++ job_digest plan ++ codes "\n"

-- it is the first line of a ledger, of whatever job: 64 bytes say which
abbrev pub is_head : List ℕ → Bool
is_head head = field_is (take 16 head) head_word && (length head == 80)

-- what follows a line, if it is a line of a ledger
abbrev pub line_then : ℕ → Option LedgerLine → (LedgerLine → Result (List LedgerLine) LedgerFault) → Result (List LedgerLine) LedgerFault
line_then n None next = Err (Line n)
line_then n (Some found) next = next found

-- those above and the lines of these texts, of which the first is line n; what is behind the last line feed is left out
abbrev pub lines_read : List LedgerLine → ℕ → List (List ℕ) → Result (List LedgerLine) LedgerFault
lines_read above n [] = Ok above
lines_read above n (cut ∷ []) = Ok above
lines_read above n (text ∷ next ∷ more) =
    line_then n (read_line text) (λ found. lines_read (above ++ found ∷ []) (n + 1) (next ∷ more))

-- the lines after a first line
abbrev pub lines_after : List ℕ → List ℕ → List (List ℕ) → Result (List LedgerLine) LedgerFault
lines_after digest head rest =
    if is_head head
    then (if field_is (drop 16 head) digest then lines_read [] 2 rest else Err OtherJob)
    else Err (Line 1)

-- the lines of a text that is cut at its line feeds
abbrev pub lines_among : List ℕ → List (List ℕ) → Result (List LedgerLine) LedgerFault
lines_among digest [] = Err (Line 1)
lines_among digest (cut ∷ []) = Err (Line 1)
lines_among digest (head ∷ next ∷ more) = lines_after digest head (next ∷ more)

-- the lines of the ledger of a job with this digest
abbrev pub lines_by : List ℕ → List ℕ → Result (List LedgerLine) LedgerFault
lines_by digest text = lines_among digest (slice_split is_newline text)

abbrev pub lines_in : Plan → List ℕ → Result (List LedgerLine) LedgerFault
lines_in plan text = lines_by (job_digest plan) text

-- this is why there are none; a want of memory says nothing
abbrev pub IsRefusal : {T : Type 0} → LedgerFault → Result T LedgerFault → Type 0
IsRefusal (Line n) found = found ≡ Err (Line n)
IsRefusal OtherJob found = found ≡ Err OtherJob
IsRefusal Memory found = ⊤
