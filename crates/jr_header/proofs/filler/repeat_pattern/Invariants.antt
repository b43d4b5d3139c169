use Rattle.std.proofs.Common.{◌≡◌, ◌≤◌, ◌<◌, ◌-◌, ◌%◌, length, take}
use Rattle.jr_model.specs.Content.{pattern_bytes}
use Rattle.jr_header.proofs.filler.repeat_pattern.Given as goal

abbrev pub invariant-loop-done : goal.invariant-loop-done
invariant-loop-done l = record {
  within : l.done ≤ length l.buffer;
  same_length : length l.buffer ≡ length l.fn.buffer;
  started : 0 < length l.buffer → 0 < l.done;
  whole : l.done < length l.buffer → l.done % length l.pattern ≡ 0;
  begun : take l.done l.buffer ≡ pattern_bytes l.pattern l.done;
}

abbrev pub decreases-loop-done : goal.decreases-loop-done
decreases-loop-done l = length l.buffer - l.done
