use Rattle.std.proofs.Common.{◌≡◌, length, sym, ap, ◌∙◌, arith}
use Rattle.std.proofs.lemmas.List.{length-map}
use Rattle.jr_io_files.specs.Opened.{shared_view}
use Rattle.jr_io_files.proofs.shares.FileEngine+SharedFile.opened_to_sync.Goals as goal

pub returns-in-Err : goal.returns-in-Err
returns-in-Err g c =
    let many : length c.files-shared-items.result.now ≡ length c.args.self.now.files =
    sym (length-map c.files-shared-items.result.now shared_view) ∙ ap length c.files-shared-items.ensures
    in
    c.of_system.ensures (length c.args.self.now.files) (omega arith)
