use Rattle.std.proofs.Common.{◌≡◌, ◌≤◌, ◌-◌, ◌/◌, ◌%◌, length, take}
use Rattle.jr_model.specs.Content.{generated_bytes}
use Rattle.jr_model.specs.Words.{seeded, state_after}
use Rattle.jr_header.proofs.parts.is_generated.Given as goal

abbrev pub invariant-loop-done : goal.invariant-loop-done
invariant-loop-done l = record {
  room : length l.room ≡ 512;
  within : l.done ≤ length l.bytes;
  whole : l.done % 8 ≡ 0;
  words : l.words ≡ state_after (seeded l.seed) (l.done / 8);
  same : take l.done l.bytes ≡ generated_bytes l.seed l.done;
}

abbrev pub decreases-loop-done : goal.decreases-loop-done
decreases-loop-done l = length l.bytes - l.done
