use Rattle.std.proofs.Common.{◌≡◌, ℕ, ◌≤◌, max}
use Rattle.std.specs.Prelude.{◌&&◌, ◌||◌, nat_le, nat_lt}
use Rattle.jr_report_maps.specs.BadBlocks.{is_listed}
use Rattle.jr_report_maps.specs.Sweeps.{IsRising}
use Rattle.jr_report_maps.proofs.blocks.list_range.Given as goal

abbrev pub invariant-loop-block : goal.invariant-loop-block
invariant-loop-block l = record {
  rising : IsRising l.blocks.items l.block;
  until : l.block ≤ max l.from l.end;
  listed : (block : ℕ) → is_listed l.blocks.items block ≡ (is_listed l.fn.blocks.items block || (nat_le l.from block && nat_lt block l.block));
}
