use Rattle.std.proofs.Common.{◌≡◌, ℕ, take}
use Rattle.std.specs.Prelude.{nat_eq, ◌||◌}
use Rattle.std.specs.HashSet.{contains}
use Rattle.std.specs.List.{list_any}
use Rattle.jr_replay_history.specs.Raced.{is_overlaid_at}
use Rattle.jr_replay_history.proofs.races.mark_overlaid.Given as goal

abbrev pub invariant-loop-io : goal.invariant-loop-io
invariant-loop-io l =
    (io : ℕ) → contains nat_eq l.raced io ≡ (contains nat_eq l.initial.raced io || list_any (is_overlaid_at l.ledger l.new io) (take l.io-index l.ios))
