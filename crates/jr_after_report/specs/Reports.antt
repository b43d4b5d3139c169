-- Believed: the report of what is found after a cut: a line of totals for each file, and then the lines of the chunks (of this project).
use Rattle.std.specs.Prelude.{ℕ, Bool, List, ◌++◌, codes, filter, flat_map}
use Rattle.std.specs.List.{list_any}
use Rattle.jr_model.specs.Plan.{Plan}
use Rattle.jr_model.specs.Report.{field, file_name}
use Rattle.jr_after_report.specs.declared.counts.Counts.{Counts}
use Rattle.jr_after_report.specs.declared.lines.Judged.{Judged}
use Rattle.jr_after_report.specs.Counting.{counts_of, is_fault, is_told}
use Rattle.jr_after_report.specs.Lines.{line_of}

-- what is found in a file: its chunks in their order, each with its finding
pub record FileFound : Type 0 where
  pub file : ℕ
  pub chunks : List Judged

-- what of it a report is made of
pub record FileState : Type 0 where
  pub file : ℕ
  pub counts : Counts
  pub lines : List ℕ
  pub told : List Judged

abbrev pub state_of : Plan → FileFound → FileState
state_of plan found = record {
  file = found.file;
  counts = counts_of found.chunks;
  lines = flat_map (line_of plan) found.chunks;
  told = filter is_told found.chunks;
}

abbrev pub totals_line : Plan → FileState → List ℕ
totals_line plan state =
    codes "file=" ++ file_name plan state.file ++ field (codes "kept") state.counts.kept ++ field (codes "lost") state.counts.lost
    ++ field (codes "broken") state.counts.broken ++ field (codes "torn") state.counts.torn
    ++ field (codes "open") state.counts.unpromised ++ codes "\n"

abbrev pub lines_in : FileState → List ℕ
lines_in state = state.lines

-- the report by what it is made of
abbrev pub report_by : Plan → List FileState → List ℕ
report_by plan states = flat_map (totals_line plan) states ++ flat_map lines_in states

abbrev pub totals_of_file : Plan → FileFound → List ℕ
totals_of_file plan found = totals_line plan (state_of plan found)

abbrev pub lines_of_file : Plan → FileFound → List ℕ
lines_of_file plan found = flat_map (line_of plan) found.chunks

-- the report of these files
abbrev pub report_of : Plan → List FileFound → List ℕ
report_of plan files = flat_map (totals_of_file plan) files ++ flat_map (lines_of_file plan) files

-- something in the file isn't as the storage promised
abbrev pub has_fault : FileFound → Bool
has_fault found = list_any is_fault found.chunks
