-- Believed: the page of a judgement: its title, the totals of the files, the first chunks of which something is told and the first that
-- couldn't be read, with how many more there are, and the plan (of this project).
use Rattle.std.specs.Prelude.{ℕ, ◌-◌, ◌==◌, List, [], ◌++◌, codes, flat_map, length, take, if◌then◌else◌}
use Rattle.jr_model.specs.declared.blocks.Piece.{Piece}
use Rattle.jr_model.specs.Plan.{Plan}
use Rattle.jr_after_report.specs.declared.lines.Judged.{Judged}
use Rattle.jr_after_report.specs.Reports.{FileState}
use Rattle.jr_after_json.specs.Json.{told_in}
use Rattle.jr_report_json.specs.Json.{FileFacts, Setting}
use Rattle.jr_report_page.specs.Heads.{head_text, tail_text}
use Rattle.jr_report_page.specs.Rows.{more_text, plan_table}
use Rattle.jr_report_page.specs.Settings.{setting_text, surroundings_text}
use Rattle.jr_report_page.specs.declared.tables.TheConstants.{MOST_ROWS}
use Rattle.jr_after_page.specs.Rows.{file_row, told_row, unread_row}
use Rattle.jr_after_page.specs.Status.{has_fault, status_of, status_text}

-- what the page is of
abbrev pub about_text : List ℕ
about_text = codes "<p>These files were judged after a cut, by the ledger of their run.</p>\n"

unfoldable pub totals_table : Plan → List FileState → List Piece → List ℕ
totals_table plan found unread =
    codes "<h2>Totals</h2>\n<div class=\"table\"><table class=\"totals\">\n<tr><th>file</th><th>kept</th><th>lost</th>"
    ++ codes "<th>broken</th><th>torn</th><th>open</th><th>unread</th></tr>\n" ++ flat_map (file_row plan unread) found
    ++ codes "</table></div>\n"

unfoldable pub told_rows : Plan → List Judged → List ℕ
told_rows plan told =
    codes "<h2>Lost, broken and torn chunks</h2>\n<div class=\"table\"><table class=\"chunks\">\n<tr><th>found</th><th>file</th>"
    ++ codes "<th>offset</th><th>length</th><th>write kept</th><th>write found</th></tr>\n"
    ++ flat_map (told_row plan) (take MOST_ROWS told) ++ codes "</table></div>\n" ++ more_text (length told - MOST_ROWS)

-- their table, where there are any
abbrev pub told_table : Plan → List Judged → List ℕ
told_table plan told = if length told == 0 then [] else told_rows plan told

unfoldable pub unread_rows : Plan → List Piece → List ℕ
unread_rows plan unread =
    codes "<h2>Chunks that can't be read</h2>\n<div class=\"table\"><table class=\"unread\">\n<tr><th>file</th>"
    ++ codes "<th>offset</th><th>length</th></tr>\n" ++ flat_map (unread_row plan) (take MOST_ROWS unread)
    ++ codes "</table></div>\n" ++ more_text (length unread - MOST_ROWS)

abbrev pub unread_table : Plan → List Piece → List ℕ
unread_table plan unread = if length unread == 0 then [] else unread_rows plan unread

unfoldable pub title_text : List FileState → List Piece → List ℕ
title_text found unread =
    head_text (status_text (status_of found unread)) (has_fault (status_of found unread)) ++ about_text

unfoldable pub tables_text : Plan → List FileState → List Piece → List ℕ
tables_text plan found unread =
    totals_table plan found unread ++ told_table plan (flat_map told_in found) ++ unread_table plan unread ++ plan_table plan

unfoldable pub page_text : Plan → List FileState → List Piece → Setting → List FileFacts → List ℕ
page_text plan found unread setting files =
    title_text found unread ++ setting_text setting ++ tables_text plan found unread ++ surroundings_text files setting ++ tail_text
