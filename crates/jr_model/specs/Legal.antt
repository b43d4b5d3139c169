-- Believed: which event may happen after a history (fio's manual, "iodepth", "serialize_overlap", "stonewall",
-- "verify_fatal"; the halt after a fault and the serialising over all jobs are of this project).
use Rattle.std.specs.Prelude.{ℕ, ◌/◌, max, ◌==◌, nat_lt, nat_le, Bool, true, false, not, ◌&&◌, ◌||◌, List, [], ◌∷◌, ◌++◌, length, slice_get, Option, Some, None, if◌then◌else◌}
use Rattle.std.specs.List.{list_any, list_all}
use Rattle.jr_model.specs.declared.blocks.Piece.{Piece}
use Rattle.jr_model.specs.declared.contents.VerifyKind.{VerifyKind}
use Rattle.jr_model.specs.declared.contents.VerifyKind.TheVariants as verify
use Rattle.jr_model.specs.declared.contents.Method.{Method}
use Rattle.jr_model.specs.declared.events.Event.{Event}
use Rattle.jr_model.specs.declared.events.Event.TheVariants.{Issue, Probe, Skip, End, Verdict}
use Rattle.jr_model.specs.declared.events.IssueKind.{IssueKind}
use Rattle.jr_model.specs.declared.events.IssueKind.TheVariants as issue
use Rattle.jr_model.specs.declared.events.Outcome.{Outcome}
use Rattle.jr_model.specs.declared.events.Outcome.TheVariants.{Whole, Failed, Short}
use Rattle.jr_model.specs.declared.events.Verdict.{Verdict as GivenVerdict}
use Rattle.jr_model.specs.declared.events.Verdict.TheVariants.{Good, Bad, Void}
use Rattle.jr_model.specs.declared.events.What.{What}
use Rattle.jr_model.specs.declared.events.What.TheVariants.{Header, Digest, DataArea, Byte, Chunk}
use Rattle.jr_model.specs.declared.events.WriteId.{WriteId}
use Rattle.jr_model.specs.declared.limits.TheConstants.{SECTOR}
use Rattle.jr_model.specs.declared.tickets.TicketKind.{TicketKind}
use Rattle.jr_model.specs.declared.tickets.TicketKind.TheVariants as ticket
use Rattle.jr_model.specs.declared.workloads.Draw.{Draw}
use Rattle.jr_model.specs.History.{Started, started, flies, outcome_of, in_flight, in_flight_of, awaiting, is_of_clone, is_judged, is_judged_kind, is_write, ended_whole, same_write, same_piece}
use Rattle.jr_model.specs.LastWrite.{is_intact}
use Rattle.jr_model.specs.Pieces.{pieces_overlap}
use Rattle.jr_model.specs.Plan.{Plan, SubJob, clone_of, declines_of, issued_as}
use Rattle.jr_model.specs.Races.{has_raced}
use Rattle.jr_model.specs.Rounds.{Pass, pass_of, write_id, is_write_draw, issued_count, has_rounds, group_index, is_open, waits_for_round, clone_finished, is_current, nothing_flies_of}

-- the I/O is the clone's
abbrev pub is_io_of : ℕ → Option Started → Bool
is_io_of c None = false
is_io_of c (Some io) = is_of_clone c io

-- the outcome is a fault
abbrev pub is_fault : Outcome → Bool
is_fault Whole = false
is_fault Failed = true
is_fault (Short n) = true

abbrev pub is_bad : GivenVerdict → Bool
is_bad Good = false
is_bad (Bad what) = true
is_bad Void = false

-- the event halts the clone, where these I/Os are started: a fault, or a bad verdict where that is fatal
abbrev pub halts : List Started → SubJob → Event → Bool
halts ios job (End worker io outcome) = is_io_of job.clone (slice_get ios io) && is_fault outcome
halts ios job (Verdict worker io verdict) = is_io_of job.clone (slice_get ios io) && job.is_fatal && is_bad verdict
halts ios job (Issue worker kind write piece) = false
halts ios job (Probe worker write piece) = false
halts ios job (Skip worker write) = false

-- nothing more of the clone is issued, checked or skipped
abbrev pub is_halted : List Event → SubJob → Bool
is_halted history job =
    let ios = started history in
    list_any (halts ios job) history

-- finished or halted
abbrev pub is_over : List Event → SubJob → Bool
is_over history job = is_halted history job || clone_finished history job

-- over, with nothing in flight and no verdict to come
abbrev pub is_at_rest : List Event → SubJob → Bool
is_at_rest history job =
    is_over history job && nothing_flies_of history job.clone
    && not (list_any (is_of_clone job.clone) (awaiting history))

-- all clones of earlier phases are at rest
abbrev pub phase_is_open : Plan → List Event → SubJob → Bool
phase_is_open plan history job =
    list_all (λ (other : SubJob). nat_le job.phase other.phase || is_at_rest history other) plan.clones

-- the clone has fewer in flight than its depth
abbrev pub has_room : List Event → SubJob → Bool
has_room history job = nat_lt (length (in_flight_of history job.clone)) job.depth

-- the two overlap, and one of them writes
abbrev pub conflicts : Bool → Piece → Started → Bool
conflicts writes piece io = (writes || is_write io.kind) && pieces_overlap io.piece piece

-- the clone's I/O has to wait for the other: the two overlap, one of them writes, and neither clone declines to wait
abbrev pub waits_for : Plan → SubJob → Bool → Piece → Started → Bool
waits_for plan job writes piece io =
    not (job.declines || declines_of (clone_of plan io.write.clone)) && conflicts writes piece io

-- the clone's I/O over the piece has to wait for nothing in flight
abbrev pub is_clear : Plan → List Event → SubJob → Bool → Piece → Bool
is_clear plan history job writes piece = not (list_any (waits_for plan job writes piece) (in_flight history))

-- draw k of the pass may be issued
abbrev pub may_issue : Plan → List Event → Pass → Draw → Bool
may_issue plan history pass draw =
    (draw.number == issued_count history pass)
    && not (is_halted history pass.job)
    && has_room history pass.job
    && is_clear plan history pass.job (is_write_draw draw) draw.piece
    && is_current history pass
    && not (waits_for_round history pass)
    && phase_is_open plan history pass.job

-- the event checks or skips the write
abbrev pub takes_up : WriteId → Event → Bool
takes_up write (Probe worker probed piece) = same_write probed write
takes_up write (Skip worker skipped) = same_write skipped write
takes_up write (Issue worker kind issued piece) = false
takes_up write (End worker io outcome) = false
takes_up write (Verdict worker io verdict) = false

-- the write may be checked, or skipped, now: its round is open, it was neither checked nor skipped, and there is room
abbrev pub may_take_up : Plan → List Event → Pass → Draw → Bool
may_take_up plan history pass draw =
    is_write_draw draw
    && has_rounds pass.job
    && not (list_any (takes_up (write_id pass draw)) history)
    && not (is_halted history pass.job)
    && has_room history pass.job
    && is_clear plan history pass.job false draw.piece
    && is_open history pass (group_index pass draw.number)

-- the check of a write where it is intact, else its skip
abbrev pub check_or_skip : List Event → ℕ → Pass → Draw → Event
check_or_skip history worker pass draw =
    let write = write_id pass draw in
    if is_intact history write draw.piece then Probe worker write draw.piece else Skip worker write

-- the step that may happen with a draw now, if there is one: its check or skip, or its issue
abbrev pub step_of : Plan → List Event → ℕ → Pass → Draw → Option Event
step_of plan history worker pass draw =
    if may_take_up plan history pass draw
    then Some (check_or_skip history worker pass draw)
    else (if may_issue plan history pass draw then Some (Issue worker (issued_as pass.job draw.dir) (write_id pass draw) draw.piece) else None)

-- the same for a draw that may not be there
abbrev pub step_of_draw : Plan → List Event → ℕ → Pass → Option Draw → Option Event
step_of_draw plan history worker pass None = None
step_of_draw plan history worker pass (Some draw) = step_of plan history worker pass draw

abbrev pub step_of_clone : Plan → List Event → ℕ → WriteId → Option SubJob → Option Event
step_of_clone plan history worker write None = None
step_of_clone plan history worker write (Some job) =
    let pass = pass_of job write.pass in
    step_of_draw plan history worker pass (slice_get pass.draws write.number)

-- the step that may happen with the draw of this name, if there is one
abbrev pub step_at : Plan → List Event → ℕ → WriteId → Option Event
step_at plan history worker write = step_of_clone plan history worker write (clone_of plan write.clone)

abbrev pub same_issue : IssueKind → IssueKind → Bool
same_issue issue.Read issue.Read = true
same_issue issue.Write issue.Write = true
same_issue issue.ReadCheck issue.ReadCheck = true
same_issue issue.Read issue.Write = false
same_issue issue.Read issue.ReadCheck = false
same_issue issue.Write issue.Read = false
same_issue issue.Write issue.ReadCheck = false
same_issue issue.ReadCheck issue.Read = false
same_issue issue.ReadCheck issue.Write = false

-- the step is this issue, this check, this skip
abbrev pub is_this_issue : IssueKind → WriteId → Piece → Option Event → Bool
is_this_issue kind write piece (Some (Issue worker k w p)) = same_issue k kind && same_write w write && same_piece p piece
is_this_issue kind write piece (Some (Probe worker w p)) = false
is_this_issue kind write piece (Some (Skip worker w)) = false
is_this_issue kind write piece (Some (End worker io outcome)) = false
is_this_issue kind write piece (Some (Verdict worker io verdict)) = false
is_this_issue kind write piece None = false

abbrev pub is_this_probe : WriteId → Piece → Option Event → Bool
is_this_probe write piece (Some (Probe worker w p)) = same_write w write && same_piece p piece
is_this_probe write piece (Some (Issue worker k w p)) = false
is_this_probe write piece (Some (Skip worker w)) = false
is_this_probe write piece (Some (End worker io outcome)) = false
is_this_probe write piece (Some (Verdict worker io verdict)) = false
is_this_probe write piece None = false

abbrev pub is_this_skip : WriteId → Option Event → Bool
is_this_skip write (Some (Skip worker w)) = same_write w write
is_this_skip write (Some (Issue worker k w p)) = false
is_this_skip write (Some (Probe worker w p)) = false
is_this_skip write (Some (End worker io outcome)) = false
is_this_skip write (Some (Verdict worker io verdict)) = false
is_this_skip write None = false

-- fewer bytes than the piece has, where the outcome is short
abbrev pub outcome_fits : Outcome → ℕ → Bool
outcome_fits Whole len = true
outcome_fits Failed len = true
outcome_fits (Short n) len = nat_lt n len

-- the worker's own I/O may end so
abbrev pub end_fits : ℕ → Outcome → Option Started → Bool
end_fits worker outcome None = false
end_fits worker outcome (Some io) = (io.worker == worker) && outcome_fits outcome io.piece.len

-- what may be said of a check: good, or what its kind can find
abbrev pub is_header_finding : What → Bool
is_header_finding Header = true
is_header_finding Digest = true
is_header_finding DataArea = true
is_header_finding (Byte i) = false
is_header_finding (Chunk i found) = false

abbrev pub is_byte_finding : ℕ → What → Bool
is_byte_finding len (Byte i) = nat_lt i len
is_byte_finding len Header = false
is_byte_finding len Digest = false
is_byte_finding len DataArea = false
is_byte_finding len (Chunk i found) = false

abbrev pub is_chunk_finding : ℕ → What → Bool
is_chunk_finding chunks (Chunk i found) = nat_lt i chunks
is_chunk_finding chunks Header = false
is_chunk_finding chunks Digest = false
is_chunk_finding chunks DataArea = false
is_chunk_finding chunks (Byte i) = false

-- by one header of the block, or by a header at each interval
abbrev pub digest_finds : ℕ → ℕ → What → Bool
digest_finds interval len what = if interval == 0 then is_header_finding what else is_chunk_finding (len / interval) what

abbrev pub kind_finds : VerifyKind → ℕ → ℕ → What → Bool
kind_finds verify.Plain interval len what = false
kind_finds verify.Pattern interval len what = is_byte_finding len what
kind_finds verify.Md5 interval len what = digest_finds interval len what
kind_finds verify.Sha1 interval len what = digest_finds interval len what
kind_finds verify.Sha256 interval len what = digest_finds interval len what

abbrev pub kind_says : VerifyKind → ℕ → ℕ → GivenVerdict → Bool
kind_says kind interval len Good = true
kind_says kind interval len (Bad what) = kind_finds kind interval len what
kind_says kind interval len Void = false

-- what may be said of a checked read, whose bytes say themselves how they are cut: into whole 512-byte blocks at least (a piece
-- has one or more)
abbrev pub own_digest_finds : ℕ → What → Bool
own_digest_finds len what = is_header_finding what || is_chunk_finding (max 1 (len / SECTOR)) what

abbrev pub own_finds : VerifyKind → ℕ → What → Bool
own_finds verify.Plain len what = false
own_finds verify.Pattern len what = is_byte_finding len what
own_finds verify.Md5 len what = own_digest_finds len what
own_finds verify.Sha1 len what = own_digest_finds len what
own_finds verify.Sha256 len what = own_digest_finds len what

abbrev pub own_says : VerifyKind → ℕ → GivenVerdict → Bool
own_says kind len Good = true
own_says kind len (Bad what) = own_finds kind len what
own_says kind len Void = false

-- what may be said of an I/O of this kind, where its clone verifies so
abbrev pub ticket_says : TicketKind → Method → ℕ → GivenVerdict → Bool
ticket_says ticket.Probe method len verdict = kind_says method.kind method.interval len verdict
ticket_says ticket.ReadCheck method len verdict = own_says method.kind len verdict
ticket_says ticket.Read method len verdict = false
ticket_says ticket.Write method len verdict = false

abbrev pub job_says : Option SubJob → TicketKind → ℕ → GivenVerdict → Bool
job_says None kind len verdict = false
job_says (Some job) kind len verdict = ticket_says kind job.method len verdict

-- nothing is said of the bytes
abbrev pub is_void : GivenVerdict → Bool
is_void Void = true
is_void Good = false
is_void (Bad what) = false

-- a check or checked read that may be said this of: nothing of its bytes where it raced, and else what its kind can find
abbrev pub verdict_fits : Plan → Bool → GivenVerdict → Option Started → Bool
verdict_fits plan raced verdict None = false
verdict_fits plan raced verdict (Some io) =
    is_judged_kind io.kind
    && (if raced then is_void verdict else job_says (clone_of plan io.write.clone) io.kind io.piece.len verdict)

-- the event may happen after the history
abbrev pub may_happen : Plan → List Event → Event → Bool
may_happen plan history (Issue worker kind write piece) = is_this_issue kind write piece (step_at plan history worker write)
may_happen plan history (Probe worker write piece) = is_this_probe write piece (step_at plan history worker write)
may_happen plan history (Skip worker write) = is_this_skip write (step_at plan history worker write)
may_happen plan history (End worker io outcome) =
    flies history io && end_fits worker outcome (slice_get (started history) io)
may_happen plan history (Verdict worker io verdict) =
    ended_whole (outcome_of history io) && not (is_judged history io)
    && verdict_fits plan (has_raced history io) verdict (slice_get (started history) io)

-- each of these events may happen in its turn, after those before
abbrev pub legal_after : Plan → List Event → List Event → Bool
legal_after plan before [] = true
legal_after plan before (event ∷ events) =
    may_happen plan before event && legal_after plan (before ++ event ∷ []) events

abbrev pub is_legal : Plan → List Event → Bool
is_legal plan history = legal_after plan [] history

-- nothing is in flight, each check or checked read that ended whole has its verdict, and each clone is finished or halted
abbrev pub is_complete : Plan → List Event → Bool
is_complete plan history =
    (length (in_flight history) == 0) && (length (awaiting history) == 0)
    && list_all (is_over history) plan.clones
