use Rattle.std.proofs.Common.{◌≡◌, IsSome}
use Rattle.jr_ledger_run.proofs.lines.Held.sync_returned.Given as goal

abbrev pub invariant-loop-one : goal.invariant-loop-one
invariant-loop-one l = IsSome l.initial.self.failed → l.self.failed ≡ l.initial.self.failed
