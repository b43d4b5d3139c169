use Rattle.std.proofs.Common.{◌≡◌, ◌∙◌, ◌/◌, ℕ, ap, max, sym, arith}
use Rattle.jr_report_maps.specs.BadBlocks.{is_listed}
use Rattle.jr_report_maps.proofs.Lists.{rising_on}
use Rattle.jr_report_maps.proofs.Pieces.{piece_listed}
use Rattle.jr_report_maps.specs.Spans.{span_bytes}
use Rattle.jr_report_maps.proofs.blocks.list_span.Goals as goal

pub list_range-requires : goal.list_range-requires
list_range-requires c = rising_on c.args.blocks.now.items c.args.next c.max-from.result (omega arith) c.requires.rising

pub returns-clause-listed : goal.returns-clause-listed
returns-clause-listed c = λ block.
    let from : c.max-from.result ≡ max c.args.next ((span_bytes c.args.span.now).offset / c.args.size) =
    c.max-from.ensures ∙ ap (λ (first : ℕ). max c.args.next first) c.first_block.ensures in
    c.in_ok-list_range.ensures.listed block
    ∙ piece_listed (span_bytes c.args.span.now) c.args.file c.args.size c.args.next c.max-from.result c.end_block-end.result block
    (is_listed c.args.blocks.now.items block) (sym c.if-not-has_bytes.ensures) (omega arith) from c.end_block-end.ensures
