use Rattle.std.proofs.Common.{◌≡◌, ◌-◌, ◌^◌, min, take}
use Rattle.std.specs.Prelude.{sum_by}
use Rattle.jr_after_page.specs.Status.{count_of}
use Rattle.jr_after_page.proofs.status.sum_of.Given as goal

abbrev pub invariant-loop-one : goal.invariant-loop-one
invariant-loop-one l = l.sum ≡ min (2 ^ 64 - 1) (sum_by (count_of l.what) (take l.one-index l.found))
