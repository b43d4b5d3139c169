use Rattle.std.proofs.Common.{◌∙◌, ◌<◌, ◌/◌, ℕ, Bool, ap, sym, get_or, arith}
use Rattle.std.specs.Prelude.{◌==◌, ◌&&◌, nat_le, nat_lt, Option, Some}
use Rattle.std.specs.Option.{option_or}
use Rattle.std.proofs.lemmas.Bool.{and_parts, eqb-true, ltb-true}
use Rattle.jr_report_maps.proofs.Cells.{painted_by}
use Rattle.jr_report_maps.proofs.Pieces.{no_overlap, overlap_is}
use Rattle.jr_report_maps.specs.Spans.{span_bytes}
use Rattle.jr_report_maps.proofs.firsts.note.Goals as goal
use Rattle.jr_desk_totals.specs.declared.tallies.Bad.{Bad}

pub returns-then-not-has_bytes : goal.returns-then-not-has_bytes
returns-then-not-has_bytes c = λ cell d within.
    let span = span_bytes c.args.span.now in
    let noted = λ (first : Option Bad). option_or first (Some c.args.bad.now) in
    let apart = no_overlap span c.args.file c.args.size cell (sym c.if-not-has_bytes.ensures) in
    sym (ap (λ (test : Bool). painted_by noted test (get_or c.args.firsts.now cell d)) apart)

pub returns : goal.returns
returns c = λ cell d within.
    let span = c.args.span.now in
    let size = c.args.size in
    let was = get_or c.args.firsts.now cell d in
    let noted = λ (first : Option Bad). option_or first (Some c.args.bad.now) in
    let some : 0 < size = omega arith in
    let parts = and_parts ((span_bytes span).file == c.args.file) (nat_lt 0 (span_bytes span).len) (sym c.if-not-has_bytes.ensures) in
    let over = overlap_is (span_bytes span) c.args.file size cell (eqb-true (span_bytes span).file c.args.file parts.0) (ltb-true 0 (span_bytes span).len parts.1) some in
    c.note_range.ensures cell d within
    ∙ ap (λ (first : ℕ). painted_by noted (nat_le first cell && nat_lt cell c.end_block-end.result) was) c.first_block-first.ensures
    ∙ ap (λ (end : ℕ). painted_by noted (nat_le ((span_bytes span).offset / size) cell && nat_lt cell end) was) c.end_block-end.ensures
    ∙ ap (λ (test : Bool). painted_by noted test was) (sym over)
