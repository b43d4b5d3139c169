use Rattle.std.proofs.Common.{length, ◌≡◌, ◌≤◌, ◌-◌, ◌/◌, ◌%◌}
use Rattle.jr_model.specs.Content.{generated_bytes}
use Rattle.jr_model.specs.Words.{seeded, state_after}
use Rattle.jr_header.specs.Hashers.{TookIn}
use Rattle.jr_header.proofs.parts.generated_back.Given as goal

abbrev pub invariant-loop-done : goal.invariant-loop-done
invariant-loop-done l = record {
  room : length l.room ≡ 512;
  within : l.done ≤ l.count;
  whole : l.done % 8 ≡ 0;
  words : l.words ≡ state_after (seeded l.seed) (l.done / 8);
  took : TookIn l.fn.kind l.hasher (generated_bytes l.seed l.done);
}

abbrev pub decreases-loop-done : goal.decreases-loop-done
decreases-loop-done l = l.count - l.done
