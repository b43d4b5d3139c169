use Rattle.std.proofs.Common.{◌≡◌, ◌≤◌, ◌*◌}
use Rattle.jr_diagnosis.specs.Bits.{cleared_in, counted, raised_in}
use Rattle.jr_diagnosis.proofs.bits.flips_between.Given as goal

abbrev pub invariant-loop-i : goal.invariant-loop-i
invariant-loop-i l = record {
  raised : l.raised ≡ counted raised_in l.written l.read l.i;
  cleared : l.cleared ≡ counted cleared_in l.written l.read l.i;
  few : l.raised ≤ l.i * 8;
  few_cleared : l.cleared ≤ l.i * 8;
}
