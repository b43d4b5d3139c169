-- Believed: the trace of a run: a line for each event (the format is of this project).
use Rattle.std.specs.Prelude.{ℕ, List, [], ◌∷◌, ◌++◌, length, codes}
use Rattle.std.specs.Fmt.{decimal}
use Rattle.jr_model.specs.declared.events.Event.{Event}
use Rattle.jr_model.specs.declared.events.Event.TheVariants.{Issue, Probe, Skip, End, Verdict}
use Rattle.jr_model.specs.declared.events.Outcome.{Outcome}
use Rattle.jr_model.specs.declared.events.Outcome.TheVariants.{Whole, Failed, Short}
use Rattle.jr_model.specs.declared.events.Verdict.{Verdict as GivenVerdict}
use Rattle.jr_model.specs.declared.events.Verdict.TheVariants.{Good, Bad, Void}
use Rattle.jr_model.specs.declared.events.Part.{Part}
use Rattle.jr_model.specs.declared.events.Part.TheVariants as part
use Rattle.jr_model.specs.declared.events.What.{What}
use Rattle.jr_model.specs.declared.events.What.TheVariants.{Header, Digest, DataArea, Byte, Chunk}
use Rattle.jr_model.specs.declared.events.WriteId.{WriteId}
use Rattle.jr_model.specs.History.{started}

-- a number behind a space
abbrev pub spaced : ℕ → List ℕ
spaced n = codes " " ++ decimal n

-- the clone, the pass and the number of a draw
abbrev pub draw_fields : WriteId → List ℕ
draw_fields write = spaced write.clone ++ spaced write.pass ++ spaced write.number

-- how an I/O ended
abbrev pub outcome_fields : Outcome → List ℕ
outcome_fields Whole = codes " whole"
outcome_fields Failed = codes " failed"
outcome_fields (Short n) = codes " short" ++ spaced n

-- what is said of a check or checked read
abbrev pub part_fields : Part → List ℕ
part_fields part.Header = codes " header"
part_fields part.Digest = codes " digest"
part_fields part.DataArea = codes " data"

abbrev pub what_fields : What → List ℕ
what_fields Header = part_fields part.Header
what_fields Digest = part_fields part.Digest
what_fields DataArea = part_fields part.DataArea
what_fields (Byte i) = codes " byte" ++ spaced i
what_fields (Chunk i found) = part_fields found ++ spaced i

abbrev pub verdict_fields : GivenVerdict → List ℕ
verdict_fields Good = codes " good"
verdict_fields (Bad what) = what_fields what
verdict_fields Void = codes " void"

-- the line of an event before its line feed, where so many I/Os and checks were started before it
abbrev pub event_text : ℕ → Event → List ℕ
event_text io (Issue worker kind write piece) = codes "I" ++ spaced worker ++ spaced io ++ draw_fields write
event_text io (Probe worker write piece) = codes "P" ++ spaced worker ++ spaced io ++ draw_fields write
event_text io (Skip worker write) = codes "S" ++ spaced worker ++ draw_fields write
event_text io (End worker id outcome) = codes "E" ++ spaced worker ++ spaced id ++ outcome_fields outcome
event_text io (Verdict worker id verdict) = codes "V" ++ spaced worker ++ spaced id ++ verdict_fields verdict

-- the line of an event
abbrev pub event_line : ℕ → Event → List ℕ
event_line io event = event_text io event ++ codes "\n"

-- the lines of these events, which happen after those before
abbrev pub lines_after : List Event → List Event → List ℕ
lines_after before [] = []
lines_after before (event ∷ events) =
    event_line (length (started before)) event ++ lines_after (before ++ event ∷ []) events

-- the trace of a history
abbrev pub trace_of : List Event → List ℕ
trace_of history = lines_after [] history
