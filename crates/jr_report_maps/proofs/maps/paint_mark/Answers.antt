use Rattle.std.proofs.Common.{◌∙◌, ◌<◌, ◌/◌, ℕ, Bool, ap, sym, get_or, arith}
use Rattle.std.specs.Prelude.{◌==◌, ◌&&◌, nat_le, nat_lt}
use Rattle.std.proofs.lemmas.Bool.{and_parts, eqb-true, ltb-true}
use Rattle.jr_report_maps.proofs.Cells.{painted_by}
use Rattle.jr_report_maps.proofs.Pieces.{overlap_is}
use Rattle.jr_report_maps.specs.Maps.{worse}
use Rattle.jr_report_maps.specs.Spans.{span_bytes}
use Rattle.jr_report_maps.specs.declared.fates.Fate.{Fate}
use Rattle.jr_report_maps.proofs.maps.paint_mark.Goals as goal

pub returns : goal.returns
returns c = λ cell d within.
    let mark = c.args.mark.now in
    let size = c.args.size in
    let was = get_or c.args.fates.now cell d in
    let worsened = λ (fate : Fate). worse fate mark.fate in
    let some : 0 < size = omega arith in
    let parts = and_parts ((span_bytes mark.span).file == c.args.file) (nat_lt 0 (span_bytes mark.span).len) (sym c.if-not-has_bytes.ensures) in
    let over = overlap_is (span_bytes mark.span) c.args.file size cell (eqb-true (span_bytes mark.span).file c.args.file parts.0) (ltb-true 0 (span_bytes mark.span).len parts.1) some in
    c.paint_range.ensures cell d within
    ∙ ap (λ (first : ℕ). painted_by worsened (nat_le first cell && nat_lt cell c.end_block-end.result) was) c.first_block-first.ensures
    ∙ ap (λ (end : ℕ). painted_by worsened (nat_le ((span_bytes mark.span).offset / size) cell && nat_lt cell end) was) c.end_block-end.ensures
    ∙ ap (λ (test : Bool). painted_by worsened test was) (sym over)
