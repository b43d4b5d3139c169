-- Believed: the rows of the tables of a judgement's page. What is of a job file is escaped in them (of this project).
use Rattle.std.specs.Prelude.{ℕ, List, [], ◌++◌, Option, Some, None, codes, count_by}
use Rattle.jr_model.specs.declared.blocks.Piece.{Piece}
use Rattle.jr_model.specs.declared.events.WriteId.{WriteId}
use Rattle.jr_model.specs.Plan.{Plan}
use Rattle.jr_model.specs.Report.{file_name}
use Rattle.jr_after.specs.declared.findings.Finding.{Finding}
use Rattle.jr_after.specs.declared.findings.Finding.TheVariants as finding
use Rattle.jr_after_report.specs.declared.counts.Counts.{Counts}
use Rattle.jr_after_report.specs.declared.lines.Judged.{Judged}
use Rattle.jr_after_report.specs.Lines.{write_name}
use Rattle.jr_after_report.specs.Reports.{FileState}
use Rattle.jr_after_json.specs.Json.{is_of, word_of}
use Rattle.jr_report_page.specs.Rows.{number_cell, piece_cells, text_cell}

-- the write that is kept, and the one that is found in its place
abbrev pub kept_of : Finding → Option WriteId
kept_of finding.Open = None
kept_of finding.Kept = None
kept_of (finding.Lost kept found) = Some kept
kept_of (finding.Torn kept) = Some kept
kept_of (finding.Broken kept) = Some kept

abbrev pub found_of : Finding → Option WriteId
found_of finding.Open = None
found_of finding.Kept = None
found_of (finding.Lost kept found) = Some found
found_of (finding.Torn kept) = None
found_of (finding.Broken kept) = None

-- a write as the report's lines name it, where there is one
abbrev pub write_cell : Option WriteId → List ℕ
write_cell None = text_cell []
write_cell (Some write) = codes "<td>" ++ write_name write ++ codes "</td>"

-- a chunk of which something is told
abbrev pub told_row : Plan → Judged → List ℕ
told_row plan one =
    codes "<tr>" ++ text_cell (word_of one.finding) ++ text_cell (file_name plan one.chunk.file) ++ piece_cells one.chunk
    ++ write_cell (kept_of one.finding) ++ write_cell (found_of one.finding) ++ codes "</tr>\n"

-- a chunk that couldn't be read
abbrev pub unread_row : Plan → Piece → List ℕ
unread_row plan chunk = codes "<tr>" ++ text_cell (file_name plan chunk.file) ++ piece_cells chunk ++ codes "</tr>\n"

abbrev pub count_cells : Counts → List ℕ
count_cells counts =
    number_cell counts.kept ++ number_cell counts.lost ++ number_cell counts.broken ++ number_cell counts.torn
    ++ number_cell counts.unpromised

-- how many chunks of a file there are of each finding, and how many of it couldn't be read
abbrev pub file_row : Plan → List Piece → FileState → List ℕ
file_row plan unread state =
    codes "<tr>" ++ text_cell (file_name plan state.file) ++ count_cells state.counts
    ++ number_cell (count_by (is_of state.file) unread) ++ codes "</tr>\n"
