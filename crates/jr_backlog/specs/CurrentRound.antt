-- Believed: the current round of a clone as a history has it: the group of the write that was issued last.
use Rattle.std.specs.Prelude.{ℕ, ◌-◌, ◌==◌, nat_lt, min, Bool, not, ◌&&◌, List, length, map, filter, filter_map, slice_get, Option, Some, None, if◌then◌else◌}
use Rattle.jr_model.specs.declared.events.Event.{Event}
use Rattle.jr_model.specs.declared.events.Event.TheVariants.{Issue, Probe, Skip, End, Verdict}
use Rattle.jr_model.specs.declared.events.IssueKind.TheVariants as issue
use Rattle.jr_model.specs.declared.events.WriteId.{WriteId}
use Rattle.jr_model.specs.declared.workloads.Draw.{Draw}
use Rattle.jr_model.specs.Plan.{SubJob}
use Rattle.jr_model.specs.Rounds.{Pass, pass_of, write_id, issued_count, issued_among, all_issued, group_of, group_index, is_settled}
use Rattle.jr_backlog.specs.Rounds.{Round, new_round}

-- the clone's write that the event issues
abbrev pub write_issued : ℕ → Event → Option WriteId
write_issued c (Issue worker issue.Write write piece) = if write.clone == c then Some write else None
write_issued c (Issue worker issue.Read write piece) = None
write_issued c (Issue worker issue.ReadCheck write piece) = None
write_issued c (Probe worker write piece) = None
write_issued c (Skip worker write) = None
write_issued c (End worker io outcome) = None
write_issued c (Verdict worker io verdict) = None

-- the clone's writes, in the order in which they were issued
abbrev pub writes_issued : ℕ → List Event → List WriteId
writes_issued c history = filter_map (write_issued c) history

-- the last of them
abbrev pub last_issued : ℕ → List Event → Option WriteId
last_issued c history =
    let writes = writes_issued c history in
    slice_get writes (length writes - 1)

-- the write was issued, and is neither skipped nor checked
abbrev pub is_left : List Event → Pass → Draw → Bool
is_left history pass draw =
    nat_lt draw.number (issued_count history pass) && not (is_settled history (write_id pass draw))

-- the round whose last write this is, or of a clone that has issued none
abbrev pub round_up_to : SubJob → List Event → Option WriteId → Round
round_up_to job history None = record (new_round job.backlog) { exhausted = all_issued history (pass_of job 0) }
round_up_to job history (Some write) =
    let pass = pass_of job write.pass in
    let group = group_of pass (group_index pass write.number) in
    record {
      limit = job.backlog;
      count = min job.backlog (issued_among history pass group);
      exhausted = all_issued history pass;
      to_check = map (write_id pass) (filter (is_left history pass) group);
    }

-- the current round of a clone that isn't halted
abbrev pub current_round : SubJob → List Event → Round
current_round job history = round_up_to job history (last_issued job.clone history)
