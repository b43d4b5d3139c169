-- Believed: passes, and the rounds in which their writes are checked (fio's manual, "loops", "do_verify", "verify_backlog";
-- when a round opens and closes is of this project).
use Rattle.std.specs.Prelude.{ℕ, ◌+◌, ◌-◌, ◌*◌, ◌/◌, ◌==◌, nat_lt, Bool, true, false, not, ◌&&◌, ◌||◌, List, length, take, drop, map, filter, count_by, slice_get, Option, Some, None, if◌then◌else◌}
use Rattle.std.specs.List.{list_any, list_all, range_with_len}
use Rattle.jr_model.specs.declared.blocks.Dir.{Dir}
use Rattle.jr_model.specs.declared.blocks.Dir.TheVariants as direction
use Rattle.jr_model.specs.declared.events.Event.{Event}
use Rattle.jr_model.specs.declared.events.Event.TheVariants.{Issue, Probe, Skip, End, Verdict}
use Rattle.jr_model.specs.declared.events.WriteId.{WriteId}
use Rattle.jr_model.specs.declared.workloads.Draw.{Draw}
use Rattle.jr_model.specs.Draws.{draws_of_job}
use Rattle.jr_model.specs.History.{Started, started, in_flight_of, is_probe, same_write}
use Rattle.jr_model.specs.Plan.{SubJob, is_verified}

-- one pass of a clone, with its draws
pub record Pass : Type 0 where
  pub job : SubJob
  pub number : ℕ
  pub draws : List Draw

abbrev pub pass_of : SubJob → ℕ → Pass
pass_of job pass = record { job = job; number = pass; draws = draws_of_job job pass }

-- the passes of a clone, in order
abbrev pub passes_of : SubJob → List Pass
passes_of job = map (pass_of job) (range_with_len 0 job.passes)

-- the draw's name in the run
abbrev pub write_id : Pass → Draw → WriteId
write_id pass draw = record { clone = pass.job.clone; pass = pass.number; number = draw.number }

abbrev pub is_write_draw : Draw → Bool
is_write_draw draw = writes draw.dir
  where
    writes : Dir → Bool
    writes direction.Write = true
    writes direction.Read = false

-- the event issues a draw of the pass
abbrev pub issues_of : Pass → Event → Bool
issues_of pass (Issue worker kind write piece) = (write.clone == pass.job.clone) && (write.pass == pass.number)
issues_of pass (Probe worker write piece) = false
issues_of pass (Skip worker write) = false
issues_of pass (End worker io outcome) = false
issues_of pass (Verdict worker io verdict) = false

-- how many draws of the pass were issued: they are issued in order
abbrev pub issued_count : List Event → Pass → ℕ
issued_count history pass = count_by (issues_of pass) history

abbrev pub all_issued : List Event → Pass → Bool
all_issued history pass = issued_count history pass == length pass.draws

-- the writes of the pass, in order
abbrev pub writes_of : Pass → List Draw
writes_of pass = filter is_write_draw pass.draws

-- the writes are checked in rounds
abbrev pub has_rounds : SubJob → Bool
has_rounds job = is_verified job.method.kind && job.checks_writes

-- group g of the writes: they are cut, in order, into groups of the backlog; without a backlog there is one group
abbrev pub group_of : Pass → ℕ → List Draw
group_of pass g =
    let backlog = pass.job.backlog in
    if backlog == 0 then writes_of pass else take backlog (drop (g * backlog) (writes_of pass))

abbrev pub group_count : Pass → ℕ
group_count pass =
    let backlog = pass.job.backlog in
    if backlog == 0 then 1 else (length (writes_of pass) + backlog - 1) / backlog

-- the group of the write that is draw k
abbrev pub group_index : Pass → ℕ → ℕ
group_index pass k =
    let backlog = pass.job.backlog in
    if backlog == 0 then 0 else count_by (λ (draw : Draw). nat_lt draw.number k) (writes_of pass) / backlog

-- how many of these draws were issued
abbrev pub issued_among : List Event → Pass → List Draw → ℕ
issued_among history pass draws = count_by (λ (draw : Draw). nat_lt draw.number (issued_count history pass)) draws

-- all draws of the pass were issued, or the group has as many issued writes as the backlog
abbrev pub is_full : List Event → Pass → ℕ → Bool
is_full history pass g =
    all_issued history pass
    || (nat_lt 0 pass.job.backlog && (issued_among history pass (group_of pass g) == pass.job.backlog))

-- it is a check of this write
abbrev pub is_probe_of : WriteId → Option Started → Bool
is_probe_of write None = false
is_probe_of write (Some io) = is_probe io.kind && same_write io.write write

-- the event settles the write, where these I/Os are started: it is skipped, or its check ends
abbrev pub settles : List Started → WriteId → Event → Bool
settles ios write (Skip worker skipped) = same_write skipped write
settles ios write (End worker io outcome) = is_probe_of write (slice_get ios io)
settles ios write (Issue worker kind issued piece) = false
settles ios write (Probe worker probed piece) = false
settles ios write (Verdict worker io verdict) = false

abbrev pub is_settled : List Event → WriteId → Bool
is_settled history write =
    let ios = started history in
    list_any (settles ios write) history

-- full, and each of its writes is settled
abbrev pub is_closed : List Event → Pass → ℕ → Bool
is_closed history pass g =
    is_full history pass g && list_all (λ draw. is_settled history (write_id pass draw)) (group_of pass g)

-- no read or write of the clone is in flight
abbrev pub no_issue_flies : List Event → ℕ → Bool
no_issue_flies history c = list_all (λ (io : Started). is_probe io.kind) (in_flight_of history c)

-- full, not closed, and none of the clone's reads and writes is in flight
abbrev pub is_open : List Event → Pass → ℕ → Bool
is_open history pass g =
    is_full history pass g && not (is_closed history pass g) && no_issue_flies history pass.job.clone

-- a group of the pass is full and not closed
abbrev pub waits_for_round : List Event → Pass → Bool
waits_for_round history pass =
    has_rounds pass.job
    && list_any (λ g. is_full history pass g && not (is_closed history pass g)) (range_with_len 0 (group_count pass))

-- each group of the pass is closed
abbrev pub rounds_closed : List Event → Pass → Bool
rounds_closed history pass =
    not (has_rounds pass.job) || list_all (λ g. is_closed history pass g) (range_with_len 0 (group_count pass))

-- nothing of the clone is in flight
abbrev pub nothing_flies_of : List Event → ℕ → Bool
nothing_flies_of history c = length (in_flight_of history c) == 0

-- nothing of the pass is in flight
abbrev pub nothing_flies_in : List Event → Pass → Bool
nothing_flies_in history pass =
    not (list_any (λ (io : Started). io.write.pass == pass.number) (in_flight_of history pass.job.clone))

-- all its draws were issued, none is in flight, and its rounds are closed
abbrev pub pass_finished : List Event → Pass → Bool
pass_finished history pass =
    all_issued history pass && nothing_flies_in history pass && rounds_closed history pass

-- all passes of the clone are finished
abbrev pub clone_finished : List Event → SubJob → Bool
clone_finished history job = list_all (pass_finished history) (passes_of job)

-- it is the first pass of its clone that isn't finished
abbrev pub is_current : List Event → Pass → Bool
is_current history pass =
    nat_lt pass.number pass.job.passes
    && not (pass_finished history pass)
    && list_all (pass_finished history) (take pass.number (passes_of pass.job))
