use Rattle.std.proofs.Common.{◌≡◌, ◌++◌, length, slice_get, Some, string_bytes, ap, ◌∙◌, sym, arith}
use Rattle.std.proofs.lemmas.Option.{slice_get_read}
use Rattle.jr_plan.specs.PlanText.{place_text, size_text, work_text, name_of}
use Rattle.jr_plan.proofs.ListLemmas.{added-three}
use Rattle.jr_plan.proofs.texts.push_clone.Goals as goal

pub returns : goal.returns
returns c =
    let files = c.args.files.now in
    let job = c.args.job.now in
    let file = c.index-files-file.result in
    let place : c.file.result ≡ job.file = c.file.ensures in
    let at : slice_get files c.file.result ≡ Some file = slice_get_read files (length files) c.file.result file (let e : length files ≡ length files = cc in e) (omega (arith, c.requires, place)) c.index-files-file.is in
    let name : file.name ≡ name_of (slice_get files job.file) = sym (ap name_of at) ∙ ap (λ n. name_of (slice_get files n)) place in
    added-three (string_bytes c.args.text.now) (string_bytes c.push_place.new.text) (string_bytes c.push_size.new.text) (string_bytes c.push_work.new.text) (place_text (name_of (slice_get files job.file)) job) (size_text job) (work_text job) (c.in_ok-push_place.ensures ∙ ap (λ n. string_bytes c.args.text.now ++ place_text n job) name) c.in_ok-push_size.ensures c.in_ok-push_work.ensures
