use Rattle.std.proofs.Common.{◌++◌, ◌≤◌, List, length, map, ap, sym, ◌∙◌, arith}
use Rattle.jr_report_json.specs.declared.endings.KnownFile.{KnownFile}
use Rattle.jr_report_json.specs.Json.{file_json}
use Rattle.jr_report_json.specs.Rows.{facts_of, item_text, rest_text}
use Rattle.jr_report_json.proofs.Items.{named_more, none_past, written_more}
use Rattle.jr_report_json.proofs.texts.push_files.Goals as goal

pub loop-i-preserved : goal.loop-i-preserved
loop-i-preserved c =
    let i = c.loop-i.i in
    let files = c.args.files.now in
    written_more c.loop-i.text.items c.push_file.new.text.items _ _ _ _ c.loop-i.invariant
    (named_more file_json facts_of files i c.index-files-i.result c.loop-i-test.true)
    (c.in_ok-push_file.ensures
    ∙ ap (λ (file : KnownFile). c.loop-i.text.items ++ item_text i (file_json (facts_of file))) c.index-files-i.is)

pub returns : goal.returns
returns c =
    let files = c.args.files.now in
    let past : length files ≤ c.loop-i.i = omega arith in
    c.in_ok-push_text-2.ensures
    ∙ ap (λ (left : List KnownFile). c.loop-i.text.items ++ rest_text c.loop-i.i (map file_json (map facts_of left)))
    (sym (none_past files c.loop-i.i past))
    ∙ c.loop-i.invariant
