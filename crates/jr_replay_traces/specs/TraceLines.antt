-- Believed: what a line of a trace says (the format is of this project): its fields are divided by single spaces.
use Rattle.std.specs.Prelude.{ℕ, ◌==◌, ◌&&◌, List, length, Option, Some, None, codes, if◌then◌else◌}
use Rattle.std.specs.Option.{option_map}
use Rattle.jr_fields.specs.Fields.{fields_of, field_at, field_is, number_at}
use Rattle.jr_model.specs.declared.events.Part.{Part}
use Rattle.jr_model.specs.declared.events.Part.TheVariants as part
use Rattle.jr_replay_traces.specs.declared.entries.Ending.{Ending}
use Rattle.jr_replay_traces.specs.declared.entries.Ending.TheVariants as ending
use Rattle.jr_replay_traces.specs.declared.entries.Entry.{Entry}
use Rattle.jr_replay_traces.specs.declared.entries.Entry.TheVariants as entry
use Rattle.jr_replay_traces.specs.declared.entries.Finding.{Finding}
use Rattle.jr_replay_traces.specs.declared.entries.Finding.TheVariants as finding
use Rattle.jr_replay_traces.specs.declared.entries.Name.{Name}
use Rattle.jr_replay_traces.specs.declared.entries.Start.{Start}

-- the draw that three numbers name
abbrev pub named : Option ℕ → Option ℕ → Option ℕ → Option Name
named (Some clone) (Some pass) (Some number) = Some (record { clone = clone; pass = pass; number = number })
named (Some clone) (Some pass) None = None
named (Some clone) None number = None
named None pass number = None

abbrev pub name_at : List (List ℕ) → ℕ → ℕ → ℕ → Option Name
name_at fields j k l = named (number_at fields j) (number_at fields k) (number_at fields l)

-- a worker, an I/O's number and a draw
abbrev pub start_of : Option ℕ → Option ℕ → Option Name → Option Start
start_of (Some worker) (Some io) (Some write) = Some (record { worker = worker; io = io; write = write })
start_of (Some worker) (Some io) None = None
start_of (Some worker) None write = None
start_of None io write = None

abbrev pub start_in : List (List ℕ) → Option Start
start_in fields = start_of (number_at fields 1) (number_at fields 2) (name_at fields 3 4 5)

-- a worker and a draw
abbrev pub skip_of : Option ℕ → Option Name → Option Entry
skip_of (Some worker) (Some write) = Some (entry.Skip worker write)
skip_of (Some worker) None = None
skip_of None write = None

abbrev pub skip_in : List (List ℕ) → Option Entry
skip_in fields = skip_of (number_at fields 1) (name_at fields 2 3 4)

-- how an I/O ended: one word, or `short` and a number
abbrev pub ending_in : List (List ℕ) → Option Ending
ending_in fields =
    let word = field_at fields 3 in
    if length fields == 4
    then (if field_is word (codes "whole") then Some ending.Whole
    else (if field_is word (codes "failed") then Some ending.Failed else None))
    else (if length fields == 5 && field_is word (codes "short") then option_map ending.Short (number_at fields 4) else None)

abbrev pub end_of : Option ℕ → Option ℕ → Option Ending → Option Entry
end_of (Some worker) (Some io) (Some ending) = Some (entry.End worker io ending)
end_of (Some worker) (Some io) None = None
end_of (Some worker) None ending = None
end_of None io ending = None

abbrev pub end_in : List (List ℕ) → Option Entry
end_in fields = end_of (number_at fields 1) (number_at fields 2) (ending_in fields)

-- what is said of a check or checked read: one word, or a word and a number
abbrev pub word_finding : List ℕ → Option Finding
word_finding word =
    if field_is word (codes "good") then Some finding.Good
    else (if field_is word (codes "header") then Some finding.Header
    else (if field_is word (codes "digest") then Some finding.Digest
    else (if field_is word (codes "data") then Some finding.DataArea
    else (if field_is word (codes "void") then Some finding.Void else None))))

abbrev pub part_of : List ℕ → Option Part
part_of word =
    if field_is word (codes "header") then Some part.Header
    else (if field_is word (codes "digest") then Some part.Digest
    else (if field_is word (codes "data") then Some part.DataArea else None))

-- a part of the chunk of this number
abbrev pub chunk_finding : Option Part → Option ℕ → Option Finding
chunk_finding (Some part) (Some chunk) = Some (finding.Chunk chunk part)
chunk_finding (Some part) None = None
chunk_finding None number = None

abbrev pub counted_finding : List ℕ → Option ℕ → Option Finding
counted_finding word number =
    if field_is word (codes "byte") then option_map finding.Byte number else chunk_finding (part_of word) number

abbrev pub finding_in : List (List ℕ) → Option Finding
finding_in fields =
    if length fields == 4 then word_finding (field_at fields 3)
    else (if length fields == 5 then counted_finding (field_at fields 3) (number_at fields 4) else None)

abbrev pub verdict_of : Option ℕ → Option ℕ → Option Finding → Option Entry
verdict_of (Some by) (Some io) (Some finding) = Some (entry.Verdict by io finding)
verdict_of (Some by) (Some io) None = None
verdict_of (Some by) None finding = None
verdict_of None io finding = None

abbrev pub verdict_in : List (List ℕ) → Option Entry
verdict_in fields = verdict_of (number_at fields 1) (number_at fields 2) (finding_in fields)

-- what a line of these fields says, if it is a line of a trace
abbrev pub entry_in : List (List ℕ) → Option Entry
entry_in fields =
    let tag = field_at fields 0 in
    if field_is tag (codes "I") && (length fields == 6) then option_map entry.Issue (start_in fields)
    else (if field_is tag (codes "P") && (length fields == 6) then option_map entry.Probe (start_in fields)
    else (if field_is tag (codes "S") && (length fields == 5) then skip_in fields
    else (if field_is tag (codes "E") then end_in fields
    else (if field_is tag (codes "V") then verdict_in fields else None))))

-- what a line says
abbrev pub read_line : List ℕ → Option Entry
read_line line = entry_in (fields_of line)
