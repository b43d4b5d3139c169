use Rattle.std.proofs.Common.{ℕ, ◌++◌, ◌≤◌, List, Option, length, get_or, ap, sym, ◌∙◌, arith}
use Rattle.std.specs.Prelude.{slice_get}
use Rattle.serde_json.specs.Data.{Data}
use Rattle.jr_report_faults.specs.Faults.{named}
use Rattle.jr_report_faults.specs.declared.notes.FaultNote.{FaultNote}
use Rattle.jr_report_json.specs.Json.{fault_json}
use Rattle.jr_report_json.specs.Rows.{item_text, rest_text, texts_of, told_by}
use Rattle.jr_report_json.proofs.Items.{faults_more, faults_none, reason_found, written_more}
use Rattle.jr_report_json.proofs.texts.push_faults.Goals as goal

pub loop-i-preserved : goal.loop-i-preserved
loop-i-preserved c =
    let i = c.loop-i.i in
    let fault = c.index-faults-i.result in
    let faults = c.args.faults.now in
    let reasons = c.args.reasons.now in
    written_more c.loop-i.text.items c.push_fault.new.text.items _ _ _ _ c.loop-i.invariant
    (faults_more named faults (texts_of reasons) i fault c.loop-i-test.true)
    (c.in_ok-push_fault.ensures
    ∙ ap (λ (note : FaultNote). c.loop-i.text.items ++ item_text i (fault_json (named note) (told_by (slice_get reasons i)))) c.index-faults-i.is
    ∙ ap (λ (reason : Option (List ℕ)). c.loop-i.text.items ++ item_text i (fault_json (named (get_or faults i fault)) reason))
    (sym (reason_found reasons i)))

pub returns : goal.returns
returns c =
    let past : length c.args.faults.now ≤ c.loop-i.i = omega arith in
    c.in_ok-push_text-2.ensures
    ∙ ap (λ (ds : List Data). c.loop-i.text.items ++ rest_text c.loop-i.i ds)
    (sym (faults_none named c.args.faults.now (texts_of c.args.reasons.now) c.loop-i.i past))
    ∙ c.loop-i.invariant
