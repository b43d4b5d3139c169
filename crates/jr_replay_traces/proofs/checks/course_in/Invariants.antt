use Rattle.std.proofs.Common.{◌≡◌, ◌+◌, ◌≤◌, ◌^◌, length}
use Rattle.std.specs.List.{slice_split}
use Rattle.jr_model.specs.History.{started}
use Rattle.jr_replay.specs.Courses.{IsCourse}
use Rattle.jr_replay_traces.specs.TraceChecks.{history_in, is_newline, lines_read}
use Rattle.jr_replay_traces.proofs.checks.course_in.Given as goal

-- what is read, and what is left to read, are the history of the whole text
abbrev pub invariant-loop-rest : goal.invariant-loop-rest
invariant-loop-rest l =
    (lines_read l.plan l.course.history (length l.course.history + 1) (slice_split is_newline l.rest) ≡ history_in l.plan l.text)
    × IsCourse l.plan l.course
    × (length (started l.course.history) ≤ 2 ^ 32)

abbrev pub decreases-loop-rest : goal.decreases-loop-rest
decreases-loop-rest l = length l.rest
