-- Believed: the rounds of a repeated run, and what is printed of them (of this project).
use Rattle.std.specs.Prelude.{ℕ, Bool, true, false, not, ◌||◌, List, [], ◌∷◌, ◌++◌, length, map, flat_map, codes, if◌then◌else◌}
use Rattle.std.specs.List.{list_any}
use Rattle.jr_model.specs.declared.events.Event.{Event}
use Rattle.jr_model.specs.declared.totals.Totals.{Totals}
use Rattle.jr_model.specs.Legal.{is_complete}
use Rattle.jr_model.specs.Plan.{Plan, SubJob}
use Rattle.jr_model.specs.Report.{all_totals, field, report_of, totals_line}
use Rattle.jr_cli_ends.specs.Status.{is_unclean}
use Rattle.jr_rounds.specs.Seeds.{plan_of_round, seed_offset}
use Rattle.jr_rounds.specs.Sums.{RoundSums, capped, sums_of}

-- a round: its number, from 0, and what happened in it
pub record Round : Type 0 where
  pub number : ℕ
  pub history : List Event

-- what it ran, where this is the plan of the whole
abbrev pub plan_in : Plan → Round → Plan
plan_in plan round = plan_of_round plan round.number

-- a block came back wrong in a run, or an I/O of it failed: its status is 1
abbrev pub is_bad : Plan → List Event → Bool
is_bad plan history = list_any is_unclean (all_totals plan history)

abbrev pub is_bad_round : Plan → Round → Bool
is_bad_round plan round = is_bad (plan_in plan round) round.history

abbrev pub is_whole_round : Plan → Round → Bool
is_whole_round plan round = is_complete (plan_in plan round) round.history

abbrev pub totals_in : Plan → Round → List Totals
totals_in plan round = all_totals (plan_in plan round) round.history

-- the line above the report of a round
abbrev pub round_header : ℕ → List ℕ
round_header number =
    codes "round:" ++ field (codes "number") number ++ field (codes "randseed-offset") (seed_offset number) ++ codes "\n"

-- the report of a round is printed if it is the last, was bad or was interrupted
abbrev pub is_told : Plan → List Event → Bool → Bool
is_told plan history is_last = is_last || is_bad plan history || not (is_complete plan history)

-- what is printed of a round that ran this plan
abbrev pub run_text : ℕ → Plan → List Event → Bool → List ℕ
run_text number plan history is_last =
    if is_told plan history is_last then round_header number ++ report_of plan history else []

abbrev pub round_text : Plan → Bool → Round → List ℕ
round_text plan is_last round = run_text round.number (plan_in plan round) round.history is_last

-- the line of a clone's sums over this number of rounds
abbrev pub sums_line : ℕ → SubJob → Totals → List ℕ
sums_line rounds job sum = codes "total:" ++ field (codes "rounds") rounds ++ codes " " ++ totals_line job sum

-- the lines of these clones, by their sums
abbrev pub sums_lines : ℕ → List SubJob → List Totals → List ℕ
sums_lines rounds [] sums = []
sums_lines rounds (job ∷ jobs) [] = []
sums_lines rounds (job ∷ jobs) (sum ∷ sums) = sums_line rounds job sum ++ sums_lines rounds jobs sums

abbrev pub sums_text : Plan → RoundSums → List ℕ
sums_text plan sums = sums_lines sums.rounds plan.clones sums.totals

-- the sums over these rounds
abbrev pub sums_over : Plan → List Round → RoundSums
sums_over plan rounds = record {
  rounds = capped (length rounds);
  totals = sums_of (length plan.clones) (map (totals_in plan) rounds);
}

-- what is printed of rounds after which another comes
abbrev pub earlier_text : Plan → List Round → List ℕ
earlier_text plan rounds = flat_map (round_text plan false) rounds

-- what is printed of all rounds: of those before the last, of the last, and their sums
abbrev pub rounds_text : Plan → List Round → Round → List ℕ
rounds_text plan earlier last =
    earlier_text plan earlier ++ round_text plan true last ++ sums_text plan (sums_over plan (earlier ++ last ∷ []))

-- what is printed where the round after these could not be run: they, and their sums if there are any
abbrev pub broken_text : Plan → List Round → List ℕ
broken_text plan [] = []
broken_text plan (round ∷ rounds) =
    earlier_text plan (round ∷ rounds) ++ sums_text plan (sums_over plan (round ∷ rounds))
