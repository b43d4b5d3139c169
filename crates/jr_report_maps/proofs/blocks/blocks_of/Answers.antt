use Rattle.std.proofs.Common.{◌∙◌, ℕ, List, ap, sym, subst, arith}
use Rattle.std.specs.List.{list_any}
use Rattle.std.proofs.lemmas.List.{take_all}
use Rattle.jr_report_maps.specs.BadBlocks.{is_listed}
use Rattle.jr_report_maps.specs.Sweeps.{is_over, IsRising}
use Rattle.jr_report_maps.proofs.Lists.{rising_none}
use Rattle.jr_report_maps.proofs.Sweeping.{filled_more, listed_more}
use Rattle.jr_report_maps.proofs.blocks.blocks_of.Goals as goal
use Rattle.jr_report_maps.specs.declared.spans.Span.{Span}

abbrev none : Span
none = record { file = 0; offset = 0; skip = 0; len = 0 }

pub loop-span-init : goal.loop-span-init
loop-span-init c = record {
  rising = subst (λ (xs : List ℕ). IsRising xs 0) (sym c.new-blocks.ensures.items) (rising_none 0);
  listed = λ block. ap (λ (xs : List ℕ). is_listed xs block) c.new-blocks.ensures.items;
  filled = λ k d low within block reach below. absurd (omega arith);
}

pub loop-span-preserved : goal.loop-span-preserved
loop-span-preserved c =
    let spans = c.args.spans.now in
    let i = c.loop-span.span-index in
    let was = c.loop-span.blocks.items in
    let now = c.list_span.new.blocks.items in
    record {
      rising = c.in_ok-end.ensures.rising;
      listed = listed_more c.args.file c.args.size spans i none was now c.loop-span.next c.in_ok-end.end
          c.loop-span-test.true c.in_ok-end.ensures.listed c.in_ok-end.ensures.reached c.loop-span.invariant.filled c.loop-span.invariant.listed;
      filled = filled_more c.args.file c.args.size spans i none was now c.loop-span.next c.in_ok-end.end
          c.loop-span-test.true c.in_ok-end.ensures.listed c.in_ok-end.ensures.reached c.loop-span.invariant.filled c.requires.ascending;
    }

pub returns-clause-listed : goal.returns-clause-listed
returns-clause-listed c = λ block.
    c.loop-span.invariant.listed block
    ∙ ap (λ (spans : List Span). list_any (is_over c.args.file c.args.size block) spans) (take_all c.loop-span.span-index c.args.spans.now c.loop-span-test.false)

pub returns-clause-ascending : goal.returns-clause-ascending
returns-clause-ascending c = c.loop-span.invariant.rising.ascending
