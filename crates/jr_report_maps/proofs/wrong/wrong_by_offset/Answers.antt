use Rattle.std.proofs.Common.{List, Bool, rules, ap, sym, ◌∙◌, ◌+◌, map}
use Rattle.std.specs.Prelude.{◌||◌}
use Rattle.std.specs.List.{list_any}
use Rattle.std.proofs.lemmas.List.Sorted.{IsNonDecreasingBy-from_sort_by_key, list_any-IsPermutation}
use Rattle.std.proofs.lemmas.List.Folds.{list_any-append}
use Rattle.jr_model.specs.declared.blocks.Piece.{Piece}
use Rattle.jr_report_maps.specs.BadBlocks.{is_bad_at}
use Rattle.jr_report_maps.specs.Spans.{span_bytes}
use Rattle.jr_report_maps.specs.Sweeps.{bytes_of, is_in_block, is_over}
use Rattle.jr_report_maps.specs.WrongBlocks.{faulty_pieces}
use Rattle.jr_report_maps.specs.declared.spans.Span.{Span}
use Rattle.jr_report_maps.proofs.Lists.{any_map}
use Rattle.jr_report_maps.proofs.wrong.wrong_by_offset.Goals as goal
use Rattle.jr_desk_totals.specs.Bads.{miscompare_of}

pub returns-clause-same : goal.returns-clause-same
returns-clause-same c = λ file size block.
    let was : List Span = c.in_ok-spans.spans.items in
    let sorted : List Span = c.sort_unstable_by_key.new.self.items in
    let plan = c.args.plan.now in
    let more = faulty_pieces c.args.history.now in
    sym (list_any-IsPermutation (is_over file size block) was sorted c.sort_unstable_by_key.ensures.permutation)
    ∙ sym (any_map (is_in_block file size block) span_bytes was)
    ∙ ap (λ (pieces : List Piece). list_any (is_in_block file size block) pieces) c.in_ok-spans.ensures
    ∙ list_any-append (is_in_block file size block) (map (bytes_of plan) c.args.bads.now) more
    ∙ ap (λ (b : Bool). b || list_any (is_in_block file size block) more)
    (any_map (is_in_block file size block) (bytes_of plan) c.args.bads.now
    ∙ sym (any_map (is_bad_at plan file size block) miscompare_of c.args.bads.now))

pub returns-clause-ascending : goal.returns-clause-ascending
returns-clause-ascending c =
    IsNonDecreasingBy-from_sort_by_key (λ (span : Span). span.offset + span.skip) c.sort_unstable_by_key.new.self.items
    c.sort_unstable_by_key.ensures.sorted (λ a r q k. search rules)
