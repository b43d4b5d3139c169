-- Believed: the report of a run in which nothing goes wrong, from the draws alone (of this project).
use Rattle.std.specs.Prelude.{ℕ, ◌+◌, ◌-◌, not, List, [], ◌∷◌, length, map, filter, flat_map, sum, if◌then◌else◌}
use Rattle.std.specs.List.{list_any, range_with_len}
use Rattle.jr_model.specs.declared.totals.Totals.{Totals}
use Rattle.jr_model.specs.declared.workloads.Draw.{Draw}
use Rattle.jr_model.specs.Pieces.{pieces_overlap}
use Rattle.jr_model.specs.Plan.{Plan, SubJob, checks_reads}
use Rattle.jr_model.specs.Report.{totals_lines}
use Rattle.jr_model.specs.Rounds.{Pass, passes_of, is_write_draw, has_rounds, group_of, group_count}

-- how many writes of a group are checked: those that no later write of the group overlaps
abbrev pub checked_among : List Draw → ℕ
checked_among [] = 0
checked_among (draw ∷ later) =
    (if list_any (λ (other : Draw). pieces_overlap draw.piece other.piece) later then 0 else 1) + checked_among later

-- how many writes of a pass are checked
abbrev pub checks_of_pass : Pass → ℕ
checks_of_pass pass = sum (map (λ g. checked_among (group_of pass g)) (range_with_len 0 (group_count pass)))

-- the bytes of these draws
abbrev pub bytes_drawn : List Draw → ℕ
bytes_drawn draws = sum (map (λ (draw : Draw). draw.piece.len) draws)

-- each draw whole, no fault, and no bad verdict; a checked read is a check
abbrev pub quiet_totals : SubJob → Totals
quiet_totals job =
    let draws = flat_map (λ (pass : Pass). pass.draws) (passes_of job) in
    let reads = filter (λ draw. not (is_write_draw draw)) draws in
    let writes = filter is_write_draw draws in
    let rounds = if has_rounds job then sum (map checks_of_pass (passes_of job)) else 0 in
    let checks = rounds + (if checks_reads job then length reads else 0) in
    record {
      reads = length reads;
      rbytes = bytes_drawn reads;
      writes = length writes;
      wbytes = bytes_drawn writes;
      checks = checks;
      good = checks;
      bad = 0;
      skipped = if has_rounds job then length writes - rounds else 0;
      void = 0;
      faults = 0;
    }

abbrev pub quiet_report : Plan → List ℕ
quiet_report plan = totals_lines plan (map quiet_totals plan.clones)
