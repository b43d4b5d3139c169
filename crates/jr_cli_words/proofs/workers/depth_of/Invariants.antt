use Rattle.std.proofs.Common.{◌≡◌, ◌≤◌, ◌*◌, take}
use Rattle.jr_cli_words.specs.Workers.{depth_of}
use Rattle.jr_cli_words.proofs.workers.depth_of.Given as goal

abbrev pub invariant-loop-i : goal.invariant-loop-i
invariant-loop-i l = record { total : l.total ≡ depth_of (take l.i l.plan.clones); few : l.total ≤ l.i * 256; some : l.i ≤ l.total }
