-- Worked runs, which come out of the definitions by computing.
use Rattle.std.specs.Prelude.{◌≡◌, ℕ, ◌-◌, ◌*◌, ◌^◌, List, [], ◌∷◌, true, false, take, drop, refl, filter_map, Option, Some, None, codes, ◌++◌}
use Rattle.std.specs.Fmt.{digits}
use Rattle.rand_core.specs.Stream.{fill_bytes}
use Rattle.rand_core.specs.Steps.{stream_of, word_bytes, u32_at}
use Rattle.jr_model.specs.declared.blocks.Piece.{Piece}
use Rattle.jr_model.specs.declared.contents.VerifyKind.TheVariants as verify
use Rattle.jr_model.specs.declared.events.Event.{Event}
use Rattle.jr_model.specs.declared.events.Event.TheVariants.{Issue, Probe, Skip, End, Verdict}
use Rattle.jr_model.specs.declared.events.IssueKind.TheVariants.{Write}
use Rattle.jr_model.specs.declared.events.Outcome.TheVariants.{Whole}
use Rattle.jr_model.specs.declared.events.Part.TheVariants as part
use Rattle.jr_model.specs.declared.events.Verdict.TheVariants.{Good, Bad}
use Rattle.jr_model.specs.declared.events.What.TheVariants.{Header, Digest, DataArea, Byte, Chunk}
use Rattle.jr_model.specs.declared.events.WriteId.{WriteId}
use Rattle.jr_model.specs.declared.replies.Reply.TheVariants as reply
use Rattle.jr_model.specs.declared.steps.DeskFault.TheVariants as fault
use Rattle.jr_model.specs.declared.steps.Step.{Step}
use Rattle.jr_model.specs.declared.steps.Step.TheVariants as step
use Rattle.jr_model.specs.declared.steps.StepReply.{StepReply}
use Rattle.jr_model.specs.declared.steps.StepReply.TheVariants as answer
use Rattle.jr_model.specs.declared.totals.Totals.{Totals}
use Rattle.jr_model.specs.Content.{header_front, block_version, chunk_version, chunk_at, chunk_seed}
use Rattle.jr_model.specs.LastWrite.{is_intact}
use Rattle.jr_model.specs.Judgement.{first_bad, in_chunk}
use Rattle.jr_model.specs.Legal.{is_legal, is_complete, kind_says}
use Rattle.jr_model.specs.Machine.{first_state, machine_run}
use Rattle.jr_model.specs.Plan.{Plan}
use Rattle.jr_model.specs.Quiet.{quiet_report}
use Rattle.jr_model.specs.Report.{report_of, all_totals}
use Rattle.jr_model.specs.Serial.{serial_history}
use Rattle.jr_model.specs.Words.{words_from}
use Rattle.jr_model.proofs.ExamplePlans.{two_checked_writes, seven_in_threes, two_at_depth_2, two_clones_one_file, two_that_decline, stonewalled}

-- write k of clone c's first pass, and a 4096-byte piece of file f
abbrev pub write : ℕ → ℕ → WriteId
write c k = record { clone = c; pass = 0; number = k }

abbrev pub cell : ℕ → ℕ → Piece
cell f x = record { file = f; offset = x * 4096; len = 4096 }

-- `[w] ioengine=memory rw=write size=8k verify=pattern verify_pattern=1`, one worker
abbrev pub two_checked_events : List Event
two_checked_events =
    Issue 0 Write (write 0 0) (cell 0 0) ∷ End 0 0 Whole
    ∷ Issue 0 Write (write 0 1) (cell 0 1) ∷ End 0 1 Whole
    ∷ Probe 0 (write 0 0) (cell 0 0) ∷ End 0 2 Whole ∷ Verdict 0 2 Good
    ∷ Probe 0 (write 0 1) (cell 0 1) ∷ End 0 3 Whole ∷ Verdict 0 3 Good
    ∷ []

pub serial_two_checked : serial_history two_checked_writes ≡ two_checked_events
unfolding words_from fill_bytes stream_of word_bytes u32_at
serial_two_checked = refl

pub legal_two_checked : is_legal two_checked_writes two_checked_events ≡ true
unfolding words_from fill_bytes stream_of word_bytes u32_at
legal_two_checked = refl

pub complete_two_checked : is_complete two_checked_writes two_checked_events ≡ true
unfolding words_from fill_bytes stream_of word_bytes u32_at
complete_two_checked = refl

-- with the first two events exchanged it isn't legal
pub illegal_exchanged :
    is_legal two_checked_writes (End 0 0 Whole ∷ Issue 0 Write (write 0 0) (cell 0 0) ∷ drop 2 two_checked_events) ≡ false
unfolding words_from fill_bytes stream_of word_bytes u32_at
illegal_exchanged = refl

-- without the last event it isn't complete
pub incomplete_cut : is_complete two_checked_writes (take 9 two_checked_events) ≡ false
unfolding words_from fill_bytes stream_of word_bytes u32_at
incomplete_cut = refl

-- its report is the quiet one, and begins so
pub report_two_checked :
    report_of two_checked_writes two_checked_events
    ≡ codes "w: clone=0 reads=0 rbytes=0 writes=2 wbytes=8192 checks=2 good=2 bad=0 skipped=0 void=0 faults=0" ++ 10 ∷ []
unfolding words_from fill_bytes stream_of word_bytes u32_at digits
report_two_checked = refl

pub quiet_two_checked : quiet_report two_checked_writes ≡ report_of two_checked_writes two_checked_events
unfolding words_from fill_bytes stream_of word_bytes u32_at digits
quiet_two_checked = refl

-- what starts something, in one letter
abbrev pub letter : Event → Option ℕ
letter (Issue worker kind write piece) = Some 73
letter (Probe worker write piece) = Some 80
letter (Skip worker write) = Some 83
letter (End worker io outcome) = None
letter (Verdict worker io verdict) = None

-- `[w] ioengine=memory rw=write size=28k verify_backlog=3 verify=md5`, one worker: rounds of three writes
pub serial_seven_in_threes : filter_map letter (serial_history seven_in_threes) ≡ codes "IIIPPPIIIPPPIP"
unfolding words_from fill_bytes stream_of word_bytes u32_at
serial_seven_in_threes = refl

-- the replies to a list of steps
abbrev pub replies_to : Plan → List Step → List StepReply
replies_to plan steps = (machine_run plan (first_state plan) steps).replies

-- the totals after it
abbrev pub totals_after : Plan → List Step → List Totals
totals_after plan steps = all_totals plan (machine_run plan (first_state plan) steps).state.history

-- `[w] ioengine=memory rw=write size=8k iodepth=2 verify=pattern verify_pattern=1`: two in flight, and a flipped read
abbrev pub depth_2_steps : List Step
depth_2_steps =
    step.Take 0 ∷ step.Take 1 ∷ step.Take 0 ∷ step.End 1 reply.Pass ∷ step.Take 1 ∷ step.End 0 reply.Pass
    ∷ step.Take 0 ∷ step.Take 1 ∷ step.End 3 (reply.Flip 0) ∷ step.Judge 1 3 ∷ step.End 2 reply.Pass ∷ step.Take 0
    ∷ step.Judge 0 2 ∷ step.Take 0 ∷ []

pub replies_at_depth_2 :
    replies_to two_at_depth_2 depth_2_steps
    ≡ answer.Io 0 ∷ answer.Io 1 ∷ answer.Wait ∷ answer.Ended ∷ answer.Wait ∷ answer.Ended
    ∷ answer.Probe 2 ∷ answer.Probe 3 ∷ answer.Ended ∷ answer.Judged ∷ answer.Ended ∷ answer.Wait
    ∷ answer.Judged ∷ answer.Finished ∷ []
unfolding words_from fill_bytes stream_of word_bytes u32_at
replies_at_depth_2 = refl

pub totals_at_depth_2 :
    totals_after two_at_depth_2 depth_2_steps
    ≡ record { reads = 0; rbytes = 0; writes = 2; wbytes = 8192; checks = 2; good = 1; bad = 1; skipped = 0; void = 0; faults = 0 } ∷ []
unfolding words_from fill_bytes stream_of word_bytes u32_at
totals_at_depth_2 = refl

-- `[w] ioengine=memory rw=write size=8k numjobs=2 filename=f verify=pattern verify_pattern=1`, two workers over one file
abbrev pub one_file_steps : List Step
one_file_steps =
    step.Take 0 ∷ step.Take 1 ∷ step.End 0 reply.Pass ∷ step.Take 0 ∷ step.Take 1 ∷ step.End 2 reply.Pass
    ∷ step.End 1 reply.Pass ∷ step.Take 0 ∷ step.Take 1 ∷ step.End 3 reply.Pass ∷ step.Judge 0 3 ∷ step.Take 1
    ∷ step.End 4 reply.Pass ∷ step.Take 0 ∷ step.End 5 reply.Pass ∷ step.Judge 1 5 ∷ step.Take 0
    ∷ step.End 6 reply.Pass ∷ step.Judge 0 6 ∷ step.Take 0 ∷ []

pub replies_on_one_file :
    replies_to two_clones_one_file one_file_steps
    ≡ answer.Io 0 ∷ answer.Wait ∷ answer.Ended ∷ answer.Io 1 ∷ answer.Io 2 ∷ answer.Ended
    ∷ answer.Ended ∷ answer.Probe 3 ∷ answer.Wait ∷ answer.Ended ∷ answer.Judged ∷ answer.Io 4
    ∷ answer.Ended ∷ answer.Probe 5 ∷ answer.Ended ∷ answer.Judged ∷ answer.Probe 6
    ∷ answer.Ended ∷ answer.Judged ∷ answer.Finished ∷ []
unfolding words_from fill_bytes stream_of word_bytes u32_at
replies_on_one_file = refl

pub totals_on_one_file :
    totals_after two_clones_one_file one_file_steps
    ≡ record { reads = 0; rbytes = 0; writes = 2; wbytes = 8192; checks = 1; good = 1; bad = 0; skipped = 1; void = 0; faults = 0 }
    ∷ record { reads = 0; rbytes = 0; writes = 2; wbytes = 8192; checks = 2; good = 2; bad = 0; skipped = 0; void = 0; faults = 0 }
    ∷ []
unfolding words_from fill_bytes stream_of word_bytes u32_at
totals_on_one_file = refl

-- the same with serialize_overlap=0: both write the first cell at once, so neither write is checked; clone 1 writes the second
-- one while clone 0 checks it, so that check is void
abbrev pub declined_steps : List Step
declined_steps =
    step.Take 0 ∷ step.Take 1 ∷ step.End 0 reply.Pass ∷ step.End 1 reply.Pass ∷ step.Take 0 ∷ step.End 2 reply.Pass
    ∷ step.Take 0 ∷ step.Take 1 ∷ step.End 3 reply.Pass ∷ step.Judge 1 3 ∷ step.End 4 reply.Pass ∷ step.Take 0
    ∷ step.End 5 reply.Pass ∷ step.Judge 0 5 ∷ step.Take 0 ∷ []

pub replies_declined :
    replies_to two_that_decline declined_steps
    ≡ answer.Io 0 ∷ answer.Io 1 ∷ answer.Ended ∷ answer.Ended ∷ answer.Io 2 ∷ answer.Ended
    ∷ answer.Probe 3 ∷ answer.Io 4 ∷ answer.Ended ∷ answer.Judged ∷ answer.Ended ∷ answer.Probe 5
    ∷ answer.Ended ∷ answer.Judged ∷ answer.Finished ∷ []
unfolding words_from fill_bytes stream_of word_bytes u32_at
replies_declined = refl

pub totals_declined :
    totals_after two_that_decline declined_steps
    ≡ record { reads = 0; rbytes = 0; writes = 2; wbytes = 8192; checks = 0; good = 0; bad = 0; skipped = 1; void = 1; faults = 0 }
    ∷ record { reads = 0; rbytes = 0; writes = 2; wbytes = 8192; checks = 1; good = 1; bad = 0; skipped = 1; void = 0; faults = 0 }
    ∷ []
unfolding words_from fill_bytes stream_of word_bytes u32_at
totals_declined = refl

-- `[a] ioengine=memory rw=write size=4k`, `[b] ioengine=memory rw=write size=4k stonewall`: the second waits
pub replies_stonewalled :
    replies_to stonewalled (step.Take 0 ∷ step.Take 1 ∷ step.End 0 reply.Pass ∷ step.Take 1 ∷ step.End 1 reply.Pass ∷ step.Take 0 ∷ [])
    ≡ answer.Io 0 ∷ answer.Wait ∷ answer.Ended ∷ answer.Io 1 ∷ answer.Ended ∷ answer.Finished ∷ []
unfolding words_from fill_bytes stream_of word_bytes u32_at
replies_stonewalled = refl

-- refusals: no such I/O, a verdict on a write, and every call but Take after Stop
pub replies_refused :
    replies_to two_checked_writes
    (step.Take 0 ∷ step.End 9 reply.Pass ∷ step.Judge 0 0 ∷ step.Stop ∷ step.Take 0 ∷ step.End 0 reply.Pass ∷ [])
    ≡ answer.Io 0 ∷ answer.Refused fault.Stranger ∷ answer.Refused fault.WrongKind ∷ answer.Stopped ∷ answer.Finished
    ∷ answer.Refused fault.Stopped ∷ []
unfolding words_from fill_bytes stream_of word_bytes u32_at
replies_refused = refl

-- the first 32 bytes of the header of a write with md5: clone 0, pass 1, number 2, offset 8192, length 4096
pub front_of_header :
    header_front block_version verify.Md5 (record { clone = 0; pass = 1; number = 2 }) (record { file = 0; offset = 8192; len = 4096 })
    ≡ 0x4a ∷ 0x52 ∷ 0x56 ∷ 0x31 ∷ 0x01 ∷ 0x10 ∷ 0x01 ∷ 0x00 ∷ 0x00 ∷ 0x10 ∷ 0x00 ∷ 0x00 ∷ 0x00 ∷ 0x00 ∷ 0x00 ∷ 0x00
    ∷ 0x00 ∷ 0x20 ∷ 0x00 ∷ 0x00 ∷ 0x00 ∷ 0x00 ∷ 0x00 ∷ 0x00 ∷ 0x02 ∷ 0x00 ∷ 0x00 ∷ 0x00 ∷ 0x00 ∷ 0x00 ∷ 0x00 ∷ 0x00 ∷ []
unfolding header_front
front_of_header = refl

-- the same write with a header each 1024 bytes: the first 32 bytes of the header of chunk 1
pub front_of_chunk :
    header_front chunk_version verify.Md5 (record { clone = 0; pass = 1; number = 2 })
    (chunk_at 1024 (record { file = 0; offset = 8192; len = 4096 }) 1)
    ≡ 0x4a ∷ 0x52 ∷ 0x56 ∷ 0x32 ∷ 0x01 ∷ 0x10 ∷ 0x01 ∷ 0x00 ∷ 0x00 ∷ 0x04 ∷ 0x00 ∷ 0x00 ∷ 0x00 ∷ 0x00 ∷ 0x00 ∷ 0x00
    ∷ 0x00 ∷ 0x24 ∷ 0x00 ∷ 0x00 ∷ 0x00 ∷ 0x00 ∷ 0x00 ∷ 0x00 ∷ 0x02 ∷ 0x00 ∷ 0x00 ∷ 0x00 ∷ 0x00 ∷ 0x00 ∷ 0x00 ∷ 0x00 ∷ []
unfolding header_front
front_of_chunk = refl

-- the seed of a chunk is taken modulo 2^64
pub wrapped_seed : chunk_seed (2 ^ 64 - 1) 2 ≡ 1
wrapped_seed = refl

-- the first chunk that isn't good is named, and only such chunks as the block has
pub first_chunk_named :
    first_bad (Good ∷ in_chunk 1 (Bad DataArea) ∷ in_chunk 2 (Bad Header) ∷ []) ∷ first_bad (Good ∷ Good ∷ []) ∷ []
    ≡ Bad (Chunk 1 part.DataArea) ∷ Good ∷ []
first_chunk_named = refl

pub chunks_that_are_found :
    kind_says verify.Md5 1024 4096 (Bad (Chunk 3 part.Digest)) ∷ kind_says verify.Md5 1024 4096 (Bad (Chunk 4 part.Digest))
    ∷ kind_says verify.Md5 1024 4096 (Bad Digest) ∷ kind_says verify.Md5 0 4096 (Bad (Chunk 0 part.Digest))
    ∷ kind_says verify.Md5 0 4096 (Bad Digest) ∷ kind_says verify.Pattern 1024 4096 (Bad (Byte 7)) ∷ []
    ≡ true ∷ false ∷ false ∷ false ∷ true ∷ true ∷ []
chunks_that_are_found = refl

-- four writes of places 2, 2, 2 and 0, ended whole in this order: only the last two are the last of their blocks
abbrev pub overwriting : List Event
overwriting =
    Issue 0 Write (write 0 0) (cell 0 2) ∷ End 0 0 Whole ∷ Issue 0 Write (write 0 1) (cell 0 2) ∷ End 0 1 Whole
    ∷ Issue 0 Write (write 0 2) (cell 0 2) ∷ End 0 2 Whole ∷ Issue 0 Write (write 0 3) (cell 0 0) ∷ End 0 3 Whole ∷ []

pub intact_overwriting :
    is_intact overwriting (write 0 0) (cell 0 2) ∷ is_intact overwriting (write 0 1) (cell 0 2)
    ∷ is_intact overwriting (write 0 2) (cell 0 2) ∷ is_intact overwriting (write 0 3) (cell 0 0) ∷ []
    ≡ false ∷ false ∷ true ∷ true ∷ []
intact_overwriting = refl
