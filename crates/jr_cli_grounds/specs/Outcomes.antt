-- Believed: the exit status of the program after rounds that it ran until their end, the end of their time, or a stop (of this project).
use Rattle.std.specs.Prelude.{ℕ, Bool, not, ◌&&◌, if◌then◌else◌}
use Rattle.jr_cli_grounds.specs.declared.outcomes.Outcome.{Outcome}

-- 1 if a round was bad; else 3 if something isn't stored; else 130 if the last was interrupted, but not by the end of the time; else 0
abbrev pub status_of_outcome : Outcome → ℕ
status_of_outcome outcome =
    if outcome.is_bad then 1
    else (if not outcome.is_stored then 3
    else (if outcome.is_interrupted && not outcome.is_time_over then 130 else 0))
