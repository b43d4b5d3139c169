-- Believed: the report of a run: a line for each clone, then a line for each bad verdict (the format is of this project).
use Rattle.std.specs.Prelude.{ℕ, List, [], ◌∷◌, ◌++◌, Option, Some, None, codes, map, flat_map, slice_get, filter_map, if◌then◌else◌}
use Rattle.std.specs.Fmt.{decimal}
use Rattle.std.specs.List.{range_with_len}
use Rattle.jr_model.specs.declared.blocks.Piece.{Piece}
use Rattle.jr_model.specs.declared.events.Event.{Event}
use Rattle.jr_model.specs.declared.events.Event.TheVariants.{Issue, Probe, Skip, End, Verdict}
use Rattle.jr_model.specs.declared.events.Verdict.{Verdict as GivenVerdict}
use Rattle.jr_model.specs.declared.events.Verdict.TheVariants.{Good, Bad, Void}
use Rattle.jr_model.specs.declared.events.What.{What}
use Rattle.jr_model.specs.declared.events.Part.{Part}
use Rattle.jr_model.specs.declared.events.Part.TheVariants as part
use Rattle.jr_model.specs.declared.events.What.TheVariants.{Header, Digest, DataArea, Byte, Chunk}
use Rattle.jr_model.specs.declared.events.WriteId.{WriteId}
use Rattle.jr_model.specs.declared.totals.Totals.{Totals}
use Rattle.jr_model.specs.History.{Started, started, same_write}
use Rattle.jr_model.specs.Plan.{Plan, SubJob, FileSpec, clone_of, checks_reads}
use Rattle.jr_model.specs.Rounds.{Pass, pass_of, write_id}
use Rattle.jr_model.specs.Totals.{totals_of}

-- ` key=n`
abbrev pub field : List ℕ → ℕ → List ℕ
field key n = codes " " ++ key ++ codes "=" ++ decimal n

-- what was read and written
abbrev pub moved_fields : Totals → List ℕ
moved_fields t =
    field (codes "reads") t.reads ++ field (codes "rbytes") t.rbytes
    ++ field (codes "writes") t.writes ++ field (codes "wbytes") t.wbytes

-- what was checked, and what went wrong
abbrev pub judged_fields : Totals → List ℕ
judged_fields t =
    field (codes "checks") t.checks ++ field (codes "good") t.good ++ field (codes "bad") t.bad
    ++ field (codes "skipped") t.skipped ++ field (codes "void") t.void ++ field (codes "faults") t.faults

-- the line of a clone; it ends in a line feed
abbrev pub totals_line : SubJob → Totals → List ℕ
totals_line job t =
    job.job ++ codes ":" ++ field (codes "clone") job.clone ++ moved_fields t ++ judged_fields t ++ codes "\n"

-- the lines of these clones, by their totals
abbrev pub lines_of : List SubJob → List Totals → List ℕ
lines_of [] totals = []
lines_of (job ∷ jobs) [] = []
lines_of (job ∷ jobs) (t ∷ totals) = totals_line job t ++ lines_of jobs totals

-- the lines of all clones
abbrev pub totals_lines : Plan → List Totals → List ℕ
totals_lines plan totals = lines_of plan.clones totals

-- a bad verdict: on which write, over which piece, and what is wrong
pub record Miscompare : Type 0 where
  pub write : WriteId
  pub piece : Piece
  pub what : What

abbrev pub miscompare_on : Option Started → GivenVerdict → Option Miscompare
miscompare_on None verdict = None
miscompare_on (Some io) Good = None
miscompare_on (Some io) Void = None
miscompare_on (Some io) (Bad what) = Some (record { write = io.write; piece = io.piece; what = what })

abbrev pub miscompare_by : List Started → Event → Option Miscompare
miscompare_by ios (Verdict worker io verdict) = miscompare_on (slice_get ios io) verdict
miscompare_by ios (Issue worker kind write piece) = None
miscompare_by ios (Probe worker write piece) = None
miscompare_by ios (Skip worker write) = None
miscompare_by ios (End worker io outcome) = None

-- the bad verdicts, in the order in which they were given
abbrev pub miscompares : List Event → List Miscompare
miscompares history = filter_map (miscompare_by (started history)) history

abbrev pub part_text : Part → List ℕ
part_text part.Header = codes "header"
part_text part.Digest = codes "digest"
part_text part.DataArea = codes "data"

abbrev pub what_text : What → List ℕ
what_text Header = part_text part.Header
what_text Digest = part_text part.Digest
what_text DataArea = part_text part.DataArea
what_text (Byte i) = codes "byte:" ++ decimal i
what_text (Chunk i found) = part_text found ++ codes ":" ++ decimal i

abbrev pub file_name : Plan → ℕ → List ℕ
file_name plan file = name_of (slice_get plan.files file)
  where
    name_of : Option FileSpec → List ℕ
    name_of None = []
    name_of (Some spec) = spec.name

-- what the line of a bad verdict begins with: a clone that checks its reads has no other checks
abbrev pub found_word : Option SubJob → List ℕ
found_word None = codes "miscompare:"
found_word (Some job) = if checks_reads job then codes "badread:" else codes "miscompare:"

-- the line of a bad verdict
abbrev pub miscompare_line : Plan → Miscompare → List ℕ
miscompare_line plan m =
    found_word (clone_of plan m.write.clone) ++ field (codes "clone") m.write.clone ++ field (codes "pass") m.write.pass
    ++ field (codes "number") m.write.number ++ codes " file=" ++ file_name plan m.piece.file
    ++ field (codes "offset") m.piece.offset ++ field (codes "length") m.piece.len
    ++ codes " what=" ++ what_text m.what ++ codes "\n"

-- those of these verdicts that are on this write
abbrev pub on_write : WriteId → Miscompare → Option Miscompare
on_write write m = if same_write m.write write then Some m else None

-- bad verdicts in the order of clone, pass and number
abbrev pub of_pass : List Miscompare → Pass → List Miscompare
of_pass found pass = flat_map (λ draw. filter_map (on_write (write_id pass draw)) found) pass.draws

abbrev pub of_clone : List Miscompare → SubJob → List Miscompare
of_clone found job = flat_map (λ p. of_pass found (pass_of job p)) (range_with_len 0 job.passes)

abbrev pub in_order : Plan → List Miscompare → List Miscompare
in_order plan found = flat_map (of_clone found) plan.clones

-- the totals of all clones
abbrev pub all_totals : Plan → List Event → List Totals
all_totals plan history = map (λ (job : SubJob). totals_of history job.clone) plan.clones

abbrev pub report_of : Plan → List Event → List ℕ
report_of plan history =
    totals_lines plan (all_totals plan history)
    ++ flat_map (miscompare_line plan) (in_order plan (miscompares history))
