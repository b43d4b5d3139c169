use Rattle.std.proofs.Common.{◌≡◌, length, slice_get, Some, ap, ◌∙◌, sym, arith}
use Rattle.std.proofs.lemmas.Option.{slice_get_read}
use Rattle.jr_plan.specs.PlanText.{name_of}
use Rattle.jr_report_page.proofs.plans.file_name.Goals as goal

pub returns : goal.returns
returns c =
    let files = c.args.files.now in
    let file = c.index-files-file.result in
    let at : slice_get files c.file.result ≡ Some file =
    slice_get_read files (length files) c.file.result file (let e : length files ≡ length files = cc in e) (omega (arith, c.requires, c.file.ensures)) c.index-files-file.is in
    c.name.ensures ∙ sym (ap name_of at) ∙ ap (λ n. name_of (slice_get files n)) c.file.ensures
