-- Internal: what is known after a round, before the next one.
use Rattle.std.specs.Prelude.{ℕ, ◌+◌, ◌==◌, Bool, not, ◌&&◌, ◌||◌, List, [], Option, if◌then◌else◌}
use Rattle.std.specs.Io.KnownBytes.{Appends}
use Rattle.jr_model.specs.Plan.{Plan}
use Rattle.jr_cli_ends.specs.declared.ended.RunEnd.{RunEnd}
use Rattle.jr_cli_ends.specs.Status.{was_interrupted}
use Rattle.jr_rounds.specs.declared.repeats.Until.{Until}
use Rattle.jr_rounds.specs.Rounds.{is_bad, sums_text}
use Rattle.jr_rounds.specs.Sums.{RoundSums}

-- whether rounds end after one that ended so, whatever the runner says
abbrev pub ends_after : Until → ℕ → RunEnd → Bool
ends_after until round ended =
    round + 1 == until.limit || (is_bad ended.desk.plan ended.desk.history && not until.is_keeping_going) || was_interrupted ended

-- 1 where this round is bad, else what was found before it
abbrev pub found_after : Bool → ℕ → ℕ
found_after is_bad before = if is_bad then 1 else before

-- the sums of rounds that another can't follow are printed, where they are of any
abbrev pub BreaksWith : Plan → RoundSums → Option (List ℕ) → Option (List ℕ) → Type 0
BreaksWith plan sums blank written = Appends blank written (if sums.rounds == 0 then [] else sums_text plan sums)
