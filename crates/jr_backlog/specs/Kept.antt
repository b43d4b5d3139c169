-- Claimed: the round that is left by the calls that a desk makes at a clone's events, one after another. A law says that it is the
-- current round, after each legal history in which the clone isn't halted.
use Rattle.std.specs.Prelude.{◌==◌, ◌&&◌, List, [], ◌∷◌, ◌++◌, slice_get, Option, Some, None, if◌then◌else◌}
use Rattle.jr_model.specs.declared.events.Event.{Event}
use Rattle.jr_model.specs.declared.events.Event.TheVariants.{Issue, Probe, Skip, End, Verdict}
use Rattle.jr_model.specs.declared.events.IssueKind.{IssueKind}
use Rattle.jr_model.specs.declared.events.IssueKind.TheVariants as issue
use Rattle.jr_model.specs.declared.events.Outcome.{Outcome}
use Rattle.jr_model.specs.declared.events.WriteId.{WriteId}
use Rattle.jr_model.specs.declared.events.Started.{Started}
use Rattle.jr_model.specs.History.{started, is_probe, ended_whole}
use Rattle.jr_model.specs.Plan.{SubJob}
use Rattle.jr_model.specs.Rounds.{pass_of, all_issued}
use Rattle.jr_backlog.specs.Rounds.{Round, new_round, with_written, with_exhausted, with_passed}

-- with the draw added, where it is a write
abbrev pub with_issued : IssueKind → Round → WriteId → Round
with_issued issue.Write round write = with_written round write
with_issued issue.Read round write = round
with_issued issue.ReadCheck round write = round

-- and exhausted, where it was the last draw of its pass: the history ends with its issue
abbrev pub after_issue : SubJob → List Event → IssueKind → WriteId → Round → Round
after_issue job history kind write round =
    let now = with_issued kind round write in
    if all_issued history (pass_of job write.pass) then with_exhausted now else now

-- without the write whose check ended whole
abbrev pub after_end : SubJob → Option Outcome → Option Started → Round → Round
after_end job outcome None round = round
after_end job outcome (Some io) round =
    if is_probe io.kind && (io.write.clone == job.clone) && ended_whole outcome then with_passed round io.write else round

-- after one event more: a write is added at its issue, and passed at its skip and at its check's end
abbrev pub round_after : SubJob → List Event → Event → Round → Round
round_after job before (Issue worker kind write piece) round =
    if write.clone == job.clone then after_issue job (before ++ Issue worker kind write piece ∷ []) kind write round else round
round_after job before (Skip worker write) round = if write.clone == job.clone then with_passed round write else round
round_after job before (End worker io outcome) round = after_end job (Some outcome) (slice_get (started before) io) round
round_after job before (Probe worker write piece) round = round
round_after job before (Verdict worker io verdict) round = round

-- after these events more
abbrev pub rounds_from : SubJob → List Event → Round → List Event → Round
rounds_from job before round [] = round
rounds_from job before round (event ∷ events) = rounds_from job (before ++ event ∷ []) (round_after job before event round) events

-- after a whole history
abbrev pub rounds_of : SubJob → List Event → Round
rounds_of job history = rounds_from job [] (new_round job.backlog) history
