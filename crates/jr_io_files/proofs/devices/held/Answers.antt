use Rattle.std.proofs.Common.{◌≡◌, ◌&&◌, slice_get, Some, sym, ap, ◌∙◌, arith}
use Rattle.std.specs.List.{list_any}
use Rattle.std.proofs.lemmas.Grind.{common_steps}
use Rattle.std.proofs.lemmas.List.FromFn.{map-range_with_len_more}
use Rattle.std.proofs.lemmas.Option.{slice_get-get_or}
use Rattle.jr_io_files.specs.Devices.{is_device_at, needs_hold}
use Rattle.jr_io_files.specs.Uses.{writes_file}
use Rattle.jr_io_files.proofs.devices.held.Goals as goal

pub loop-index-preserved : goal.loop-index-preserved
loop-index-preserved g c =
    let there : slice_get c.args.files.now c.loop-index.index ≡ Some c.index-files-index.result =
    slice_get-get_or c.args.files.now c.loop-index.index c.index-files-index.result c.loop-index-test.true ∙ ap (λ f. Some f) (sym c.index-files-index.is)
    in
    let this : needs_hold c.args.plan.now.clones c.args.files.now c.loop-index.index ≡ c.in_ok-is_held.is_held =
    ap (λ o. list_any (writes_file c.loop-index.index) c.args.plan.now.clones && is_device_at o) there ∙ sym c.in_ok-is_held.ensures.ok
    in
    let more = map-range_with_len_more (needs_hold c.args.plan.now.clones c.args.files.now) 0 c.loop-index.index c.loop-index.index (omega arith) in
    grind (arith, common_steps, more, this)
