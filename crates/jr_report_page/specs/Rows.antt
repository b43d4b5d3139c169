-- Believed: the rows of a page's tables. What is of a job file is escaped in them (of this project).
use Rattle.std.specs.Prelude.{ℕ, ◌*◌, ◌==◌, List, [], ◌∷◌, ◌++◌, Option, Some, None}
use Rattle.std.specs.Prelude.{codes, decimal, flat_map, slice_get, if◌then◌else◌}
use Rattle.jr_model.specs.declared.blocks.Piece.{Piece}
use Rattle.jr_model.specs.declared.events.Outcome.{Outcome}
use Rattle.jr_model.specs.declared.events.What.{What}
use Rattle.jr_model.specs.declared.events.WriteId.{WriteId}
use Rattle.jr_model.specs.declared.tickets.TicketKind.{TicketKind}
use Rattle.jr_model.specs.declared.totals.Totals.{Totals}
use Rattle.jr_model.specs.Plan.{FileSpec, Plan, SubJob}
use Rattle.jr_model.specs.Report.{file_name, what_text}
use Rattle.jr_diagnosis.specs.Rulings.{Told}
use Rattle.jr_diagnosis.specs.Texts.{told_of_write, told_text}
use Rattle.jr_report_faults.specs.Faults.{NamedFault, end_words, kind_word}
use Rattle.jr_plan.specs.PlanText.{io_type_word, name_of, verify_word}
use Rattle.jr_report_page.specs.Escapes.{escaped}
use Rattle.jr_desk_totals.specs.declared.tallies.Bad.{Bad}

unfoldable pub number_cell : ℕ → List ℕ
number_cell n = codes "<td>" ++ decimal n ++ codes "</td>"

abbrev pub text_cell : List ℕ → List ℕ
text_cell text = codes "<td>" ++ escaped text ++ codes "</td>"

-- what was read and written
abbrev pub moved_cells : Totals → List ℕ
moved_cells t = number_cell t.reads ++ number_cell t.rbytes ++ number_cell t.writes ++ number_cell t.wbytes

-- what was checked, and what went wrong
abbrev pub judged_cells : Totals → List ℕ
judged_cells t =
    number_cell t.checks ++ number_cell t.good ++ number_cell t.bad
    ++ number_cell t.skipped ++ number_cell t.void ++ number_cell t.faults

abbrev pub totals_row : SubJob → Totals → List ℕ
totals_row job t =
    codes "<tr>" ++ text_cell job.job ++ number_cell job.clone ++ moved_cells t ++ judged_cells t ++ codes "</tr>\n"

-- those of these clones, by their totals
abbrev pub totals_rows : List SubJob → List Totals → List ℕ
totals_rows [] totals = []
totals_rows (job ∷ jobs) [] = []
totals_rows (job ∷ jobs) (t ∷ totals) = totals_row job t ++ totals_rows jobs totals

abbrev pub write_cells : WriteId → List ℕ
write_cells write = number_cell write.clone ++ number_cell write.pass ++ number_cell write.number

abbrev pub piece_cells : Piece → List ℕ
piece_cells piece = number_cell piece.offset ++ number_cell piece.len

abbrev pub what_cell : What → List ℕ
what_cell what = codes "<td>" ++ what_text what ++ codes "</td>"

-- what stands in the block of a write, where that was looked into
abbrev pub found_cell : Option Told → List ℕ
found_cell None = text_cell []
found_cell (Some t) = text_cell (told_text t)

-- a bad verdict
abbrev pub bad_row : Plan → List Told → Bad → List ℕ
bad_row plan told bad =
    codes "<tr>" ++ write_cells bad.write ++ text_cell (file_name plan bad.piece.file) ++ piece_cells bad.piece
    ++ what_cell bad.what ++ found_cell (told_of_write told bad.write) ++ codes "</tr>\n"

abbrev pub end_cell : TicketKind → Outcome → List ℕ
end_cell kind outcome = codes "<td>" ++ kind_word kind ++ end_words outcome ++ codes "</td>"

-- a fault
abbrev pub fault_row : NamedFault → List ℕ
fault_row of =
    codes "<tr>" ++ end_cell of.fault.kind of.fault.outcome ++ write_cells of.fault.write ++ text_cell of.name
    ++ piece_cells of.fault.piece ++ codes "</tr>\n"

-- what a clone of the plan does: who it is, where it works, how much of it there is, and how it works
abbrev pub place_cells : List FileSpec → SubJob → List ℕ
place_cells files job =
    text_cell job.job ++ number_cell job.clone ++ number_cell job.phase
    ++ text_cell (name_of (slice_get files job.file)) ++ number_cell job.start

abbrev pub size_cells : SubJob → List ℕ
size_cells job = number_cell (job.cells * job.cell) ++ number_cell job.cell ++ number_cell job.cells

abbrev pub work_cells : SubJob → List ℕ
work_cells job =
    text_cell (io_type_word job.io_type) ++ number_cell job.depth ++ number_cell job.passes
    ++ text_cell (verify_word job.method.kind)

abbrev pub clone_row : List FileSpec → SubJob → List ℕ
clone_row files job =
    codes "<tr>" ++ place_cells files job ++ size_cells job ++ work_cells job ++ codes "</tr>\n"

-- the plan, with a row for each clone
unfoldable pub plan_table : Plan → List ℕ
plan_table plan =
    codes "<h2>Plan</h2>\n<div class=\"table\"><table class=\"plan\">\n<tr><th>job</th><th>clone</th><th>phase</th>"
    ++ codes "<th>file</th><th>start</th><th>size</th><th>cell</th><th>cells</th><th>rw</th><th>iodepth</th><th>loops</th>"
    ++ codes "<th>verify</th></tr>\n" ++ flat_map (clone_row plan.files) plan.clones ++ codes "</table></div>\n"

-- how many more there are than have a row
abbrev pub more_text : ℕ → List ℕ
more_text more = if more == 0 then [] else codes "<p>and " ++ decimal more ++ codes " more</p>\n"
