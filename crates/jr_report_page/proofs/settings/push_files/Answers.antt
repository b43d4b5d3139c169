use Rattle.std.proofs.Common.{map, string_bytes}
use Rattle.std.specs.Prelude.{flat_map}
use Rattle.jr_report_json.specs.Rows.{facts_of}
use Rattle.jr_report_page.specs.Settings.{file_row, files_table}
use Rattle.jr_report_json.proofs.Members.{three_more}
use Rattle.jr_report_page.proofs.settings.push_files.Goals as goal

pub returns : goal.returns
unfolding files_table
returns c =
    three_more (string_bytes c.args.page.now) (string_bytes c.push_str.new.self)
    (string_bytes c.push_file_rows.new.page) (string_bytes c.push_str-2.new.self)
    _ (flat_map file_row (map facts_of c.args.files.now)) _
    c.in_ok-push_str.ensures.bytes c.in_ok-push_file_rows.ensures c.in_ok-push_str-2.ensures.bytes
