-- Believed: the exit status of the program behind a run: 1 where the run found a fault. Where it found none: 3 where something that it
-- wrote couldn't be stored, 130 where it was stopped halfway, else 0.
use Rattle.std.specs.Prelude.{ℕ, ◌==◌, nat_lt, Bool, ◌||◌, List, if◌then◌else◌, is_some}
use Rattle.std.specs.List.{list_any}
use Rattle.jr_model.specs.declared.totals.Totals.{Totals}
use Rattle.jr_cli_ends.specs.declared.ended.RunEnd.{RunEnd}
use Rattle.jr_cli_ends.specs.declared.ended.Executed.{Executed}

-- a block of the clone came back wrong, or an I/O of it failed
abbrev pub is_unclean : Totals → Bool
is_unclean totals = nat_lt 0 totals.bad || nat_lt 0 totals.faults

-- 0 where nothing went wrong in any clone, else 1
abbrev pub status_of : List Totals → ℕ
status_of totals = if list_any is_unclean totals then 1 else 0

-- of a run that found this: whether it was stopped halfway, and whether all that it wrote is stored
abbrev pub status_with : ℕ → Bool → Bool → ℕ
status_with found is_interrupted is_stored =
    if found == 0 then (if is_stored then (if is_interrupted then 130 else 0) else 3) else found

-- it was asked to stop before it was complete, as what asked shows
abbrev pub is_interrupted : Executed → Bool
is_interrupted executed = is_some executed.asked

-- the same, when the flag is gone
abbrev pub was_interrupted : RunEnd → Bool
was_interrupted ended = is_some ended.interrupted

abbrev pub status_of_ended : Executed → Bool → ℕ
status_of_ended executed is_stored = status_with executed.found (is_interrupted executed) is_stored

abbrev pub status_of_run_end : RunEnd → Bool → ℕ
status_of_run_end ended is_stored = status_with ended.found (was_interrupted ended) is_stored
