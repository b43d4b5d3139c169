-- Believed: what it is to repeat a run, and when that ends (of this project).
use Rattle.std.specs.Prelude.{◌≡◌, ℕ, ◌+◌, ◌≤◌, ◌==◌, Bool, true, false, not, ◌&&◌, ◌||◌, List, [], ◌∷◌, ◌++◌, Option, All, length, map}
use Rattle.std.specs.Prelude.{if◌then◌else◌}
use Rattle.std.specs.List.{list_any, range_with_len}
use Rattle.std.specs.Io.KnownBytes.{Appends}
use Rattle.jr_model.specs.Legal.{is_complete, is_legal}
use Rattle.jr_model.specs.Plan.{Plan}
use Rattle.jr_cli_ends.specs.declared.ended.RunEnd.{RunEnd}
use Rattle.jr_cli_ends.specs.Status.{status_of_run_end, was_interrupted}
use Rattle.jr_rounds.specs.declared.faults.RoundsFault.{RoundsFault}
use Rattle.jr_rounds.specs.declared.faults.RoundsFault.TheVariants.{Round as NoRound, Untold, Cli}
use Rattle.jr_rounds.specs.declared.ends.RoundsEnd.{RoundsEnd}
use Rattle.jr_rounds.specs.Rounds.{Round, broken_text, is_bad_round, is_whole_round, plan_in, rounds_text, sums_over}

-- so a run of this plan ended: its desk is of the plan, and it was interrupted where its history isn't complete
pub record IsEndOf (plan : Plan) (ended : RunEnd) : Type 0 where
  pub planned : ended.desk.plan ≡ plan
  pub interrupted : was_interrupted ended ≡ not (is_complete plan ended.desk.history)

-- rounds after which another comes: they are numbered from 0, each has a legal history that is complete, and none is bad unless bad
-- rounds don't end the run
pub record AreEarlier (plan : Plan) (keeps_going : Bool) (rounds : List Round) : Type 0 where
  pub numbers : map (λ (round : Round). round.number) rounds ≡ range_with_len 0 (length rounds)
  pub legal : All (λ (round : Round). is_legal (plan_in plan round) round.history ≡ true) rounds
  pub whole : All (λ (round : Round). is_whole_round plan round ≡ true) rounds
  pub clean : keeps_going ≡ false → All (λ (round : Round). is_bad_round plan round ≡ false) rounds

-- the last round comes after these, and has a legal history
pub record IsLast (plan : Plan) (earlier : List Round) (last : Round) : Type 0 where
  pub number : last.number ≡ length earlier
  pub legal : is_legal (plan_in plan last) last.history ≡ true

-- the run ends by this round itself: it is the last that is wanted, it is bad and such a round ends the run, or it was interrupted
abbrev pub ends_run : Plan → ℕ → Bool → Round → Bool
ends_run plan limit keeps_going round =
    round.number + 1 == limit || (is_bad_round plan round && not keeps_going) || not (is_whole_round plan round)

-- 1 if any of these rounds is bad, else 0
abbrev pub found_in : Plan → List Round → ℕ
found_in plan rounds = if list_any (is_bad_round plan) rounds then 1 else 0

-- what is known of the rounds at their end; where nothing said that they are over, the last one ends the run
pub record IsRoundsEnd (plan : Plan) (limit : ℕ) (keeps_going : Bool) (earlier : List Round) (last : Round) (end : RoundsEnd)
    : Type 0 where
  pub rounds : end.rounds ≡ length earlier + 1
  pub within : end.rounds ≤ limit
  pub found : end.found ≡ found_in plan (earlier ++ last ∷ [])
  pub ended : IsEndOf (plan_in plan last) end.last
  pub happened : end.last.desk.history ≡ last.history
  pub sums : end.sums ≡ sums_over plan (earlier ++ last ∷ [])
  pub over : end.is_over ≡ false → ends_run plan limit keeps_going last ≡ true

-- there were rounds of this plan that ended so, and they were printed
abbrev pub HasRounds : Plan → ℕ → Bool → Option (List ℕ) → Option (List ℕ) → RoundsEnd → Type 0
HasRounds plan limit keeps_going blank written end =
    (earlier : List Round) × (last : Round) × AreEarlier plan keeps_going earlier × IsLast plan earlier last
    × IsRoundsEnd plan limit keeps_going earlier last end × Appends blank written (rounds_text plan earlier last)

-- there were rounds of this plan after which another was to come, and they were printed, and their sums
abbrev pub HasBroken : Plan → Bool → Option (List ℕ) → Option (List ℕ) → Type 0
HasBroken plan keeps_going blank written =
    (rounds : List Round) × AreEarlier plan keeps_going rounds × Appends blank written (broken_text plan rounds)

-- why rounds end without the last one: where a round couldn't be run those before it are printed; of the other faults nothing is said
abbrev pub IsBreak : {E : Type 0} → Type 0 → RoundsFault E → Type 0
IsBreak broken (NoRound fault) = broken
IsBreak broken (Untold fault) = Unit {0}
IsBreak broken (Cli fault) = Unit {0}

-- the exit status of the program after rounds, of which all that was written is stored or isn't
abbrev pub status_of_rounds : RoundsEnd → Bool → ℕ
status_of_rounds end is_stored = if end.found == 0 then status_of_run_end end.last is_stored else end.found
