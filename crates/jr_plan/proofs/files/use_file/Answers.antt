use Rattle.std.proofs.Common.{◌≡◌, ◌≤◌, length, string_bytes, arith, ◌∙◌}
use Rattle.jr_plan.specs.Files.{file_place}
use Rattle.jr_plan.proofs.FileLemmas.{with_file-at, with_file-new}
use Rattle.jr_plan.proofs.files.use_file.Goals as goal

pub returns-then-place-len-clause-files : goal.returns-then-place-len-clause-files
returns-then-place-len-clause-files c =
    let looked : c.place_of-place.result ≡ file_place c.args.files.now.items (string_bytes c.args.name) = cc in
    with_file-at c.args.files.now.items (string_bytes c.args.name) c.args.low c.args.high c.index_mut.result.now c.widen.new.self c.place_of-place.result looked (omega arith) c.index_mut.ensures.value c.widen.ensures

pub returns-in_ok-push-clause-files : goal.returns-in_ok-push-clause-files
returns-in_ok-push-clause-files c =
    let files = c.args.files.now.items in
    let looked : c.place_of-place.result ≡ file_place files (string_bytes c.args.name) = cc in
    let past : length files ≤ file_place files (string_bytes c.args.name) = omega arith in
    c.in_ok-push.ensures.items ∙ with_file-new files (string_bytes c.args.name) c.args.low c.args.high past
