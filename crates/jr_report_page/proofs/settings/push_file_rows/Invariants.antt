use Rattle.std.proofs.Common.{◌≡◌, ◌++◌, take, string_bytes}
use Rattle.std.specs.Prelude.{flat_map, map}
use Rattle.jr_report_json.specs.Rows.{facts_of}
use Rattle.jr_report_page.specs.Settings.{file_row}
use Rattle.jr_report_page.proofs.settings.push_file_rows.Given as goal

abbrev pub invariant-loop-file : goal.invariant-loop-file
invariant-loop-file l = string_bytes l.page ≡ string_bytes l.fn.page ++ flat_map file_row (map facts_of (take l.file-index l.files))
