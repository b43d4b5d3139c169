use Rattle.std.proofs.Common.{◌≡◌, ℕ, ◌<◌, ◌≤◌, length, get_or, take}
use Rattle.std.specs.List.{list_any}
use Rattle.jr_report_maps.specs.BadBlocks.{is_listed}
use Rattle.jr_report_maps.specs.Sweeps.{is_over, IsFilled, IsRising}
use Rattle.jr_report_maps.proofs.blocks.blocks_of.Given as goal
use Rattle.jr_report_maps.specs.declared.spans.Span.{Span}
use Rattle.jr_report_maps.specs.Spans.{span_bytes}

-- the blocks of the spans so far are there, and of those to come what lies below `next`
abbrev pub invariant-loop-span : goal.invariant-loop-span
invariant-loop-span l = record {
  rising : IsRising l.blocks.items l.next;
  listed : (block : ℕ) → is_listed l.blocks.items block ≡ list_any (is_over l.file l.size block) (take l.span-index l.spans);
  filled : (k : ℕ) (d : Span) → l.span-index ≤ k → k < length l.spans → IsFilled l.size l.blocks.items l.next (span_bytes (get_or l.spans k d)).offset;
}
