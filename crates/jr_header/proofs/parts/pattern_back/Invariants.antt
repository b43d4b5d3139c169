use Rattle.std.proofs.Common.{◌≡◌, ◌≤◌, ◌<◌, ◌-◌, ◌%◌, length}
use Rattle.jr_model.specs.Content.{pattern_bytes}
use Rattle.jr_header.specs.Hashers.{TookIn}
use Rattle.jr_header.proofs.parts.pattern_back.Given as goal

abbrev pub invariant-loop-done : goal.invariant-loop-done
invariant-loop-done l = record {
  room : length l.room ≡ 512;
  within : l.done ≤ l.count;
  some : 0 < l.part;
  most : l.part ≤ 512;
  cut : l.part % length l.pattern ≡ 0;
  whole : l.done < l.count → l.done % length l.pattern ≡ 0;
  took : TookIn l.fn.kind l.hasher (pattern_bytes l.pattern l.done);
}

abbrev pub decreases-loop-done : goal.decreases-loop-done
decreases-loop-done l = l.count - l.done
