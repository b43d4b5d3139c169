use Rattle.std.proofs.Common.{◌≡◌, ◌&&◌, ◌==◌, List, false, not, length, map, sym, subst, ◌∙◌}
use Rattle.jr_model.specs.declared.blocks.Piece.{Piece}
use Rattle.jr_cli_after.specs.Reading.{AreAdded, reading_at}
use Rattle.jr_cli_after.proofs.RowLemmas.{step_at_once}
use Rattle.jr_cli_after.proofs.walk.judge_row.Goals as goal

pub returns : goal.returns
returns g c =
    let piece = c.args.row.now.piece in
    let whole = c.in_ok-is_whole.is_whole in
    let bytes = c.read_piece.new.bytes in
    let same = c.as_slice-chunks.ensures.value in
    step_at_once c.args.judge.now c.args.row.now.chunks.items piece whole bytes _ _ c.args.told.now c.add_parts.new.told c.in_ok-is_whole.ensures
    (subst (λ (l : List Piece). (not whole && not (length l == 1)) ≡ false) same (sym c.is_split.ensures ∙ c.if-is_split.false))
    (subst (λ (l : List Piece). AreAdded c.args.judge.now (map (reading_at piece whole bytes) l) c.args.told.now c.add_parts.new.told) same c.in_ok-add_parts.ensures)
