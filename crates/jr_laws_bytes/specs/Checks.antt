-- Claimed: when a check is found bad: exactly where the bytes that it read aren't its write's.
use Rattle.std.specs.Prelude.{◌≡◌, ◌≢◌, ◌↔◌, ℕ, Bool, true, false, ◌&&◌, List, length, Option, Some, None, slice_get}
use Rattle.std.specs.List.{list_any, list_all}
use Rattle.jr_model.specs.declared.events.Event.{Event}
use Rattle.jr_model.specs.declared.events.Event.TheVariants.{Issue, Probe, Skip, End, Verdict}
use Rattle.jr_model.specs.declared.events.Started.{Started}
use Rattle.jr_model.specs.declared.events.Verdict.{Verdict as GivenVerdict}
use Rattle.jr_model.specs.declared.replies.Reply.{Reply}
use Rattle.jr_model.specs.declared.replies.Reply.TheVariants as reply
use Rattle.jr_model.specs.declared.steps.Step.{Step}
use Rattle.jr_model.specs.declared.steps.Step.TheVariants as step
use Rattle.jr_model.specs.Draws.{draws_of}
use Rattle.jr_model.specs.History.{started, flies, is_probe}
use Rattle.jr_model.specs.Honest.{IsWholeCheck, IsHonest, IsJudgedBy}
use Rattle.jr_model.specs.Judgement.{AreasToldApart}
use Rattle.jr_model.specs.LastWrite.{is_intact}
use Rattle.jr_model.specs.Legal.{is_legal, is_bad, is_void}
use Rattle.jr_model.specs.Machine.{content_of_io, seed_of_draw, first_state, machine_run}
use Rattle.jr_model.specs.Plan.{Plan, SubJob, clone_of}
use Rattle.jr_model.specs.PlanFacts.{IsPlanned}
use Rattle.jr_model.specs.Races.{has_raced}
use Rattle.jr_laws_bytes.specs.Memory.{HoldsLastWrites}

-- it is the check of a write
abbrev pub is_check : Option Started → Bool
is_check None = false
is_check (Some io) = is_probe io.kind

-- the event is a Bad verdict on the check of a write, where these I/Os are started
abbrev pub is_miscompare : List Started → Event → Bool
is_miscompare ios (Verdict worker io verdict) = is_bad verdict && is_check (slice_get ios io)
is_miscompare ios (Issue worker kind write piece) = false
is_miscompare ios (Probe worker write piece) = false
is_miscompare ios (Skip worker write) = false
is_miscompare ios (End worker io outcome) = false

-- some verdict of the history on the check of a write is Bad
abbrev pub has_miscompare : List Event → Bool
has_miscompare history =
    let ios = started history in
    list_any (is_miscompare ios) history

-- each check that ended whole gave as many bytes as its piece has
abbrev pub GivesWholePieces : List Event → (ℕ → List ℕ) → Type 0
GivesWholePieces history read = (io : ℕ) (s : Started) → IsWholeCheck history io s → length (read io) ≡ s.piece.len

-- where reads are honest, and verdicts are those of the bytes read, no verdict on the check of a write is Bad
abbrev pub HonestIsGood : Type 0
HonestIsGood =
    (plan : Plan) (history : List Event) (read : ℕ → List ℕ)
    → IsPlanned plan
    → is_legal plan history ≡ true
    → GivesWholePieces history read
    → IsJudgedBy plan history read
    → IsHonest plan history read
    → has_miscompare history ≡ false

-- the digest of the clone's kind, where it has one, tells the data areas read from those that were written
abbrev pub AreToldApart : Option SubJob → Started → ℕ → List ℕ → Type 0
AreToldApart None s seed bytes = Unit {0}
AreToldApart (Some job) s seed bytes = AreasToldApart job.method s.piece seed bytes

-- the same of the bytes of a check of the plan
abbrev pub IsToldApart : Plan → Started → List ℕ → Type 0
IsToldApart plan s bytes =
    AreToldApart (clone_of plan s.write.clone) s (seed_of_draw (slice_get (draws_of plan s.write.clone s.write.pass) s.write.number)) bytes

-- where verdicts are those of the bytes read, a verdict on a check that isn't void is Bad exactly where these bytes aren't what the write of
-- the check put there
abbrev pub MiscomparesExactly : Type 0
MiscomparesExactly =
    (plan : Plan) (history : List Event) (read : ℕ → List ℕ) (place by io : ℕ) (verdict : GivenVerdict) (s : Started)
    → IsPlanned plan
    → is_legal plan history ≡ true
    → GivesWholePieces history read
    → IsJudgedBy plan history read
    → slice_get history place ≡ Some (Verdict by io verdict)
    → slice_get (started history) io ≡ Some s
    → is_probe s.kind ≡ true
    → is_void verdict ≡ false
    → IsToldApart plan s (read io)
    → (is_bad verdict ≡ true) ↔ (read io ≢ content_of_io plan s)

-- while a check is in flight, and hasn't raced, its write is the last one of each of its blocks
abbrev pub ChecksStayIntact : Type 0
ChecksStayIntact =
    (plan : Plan) (history : List Event) (io : ℕ) (s : Started)
    → IsPlanned plan
    → is_legal plan history ≡ true
    → slice_get (started history) io ≡ Some s
    → is_probe s.kind ≡ true
    → flies history io ≡ true
    → has_raced history io ≡ false
    → is_intact history s.write s.piece ≡ true

-- the reply stores and gives no bytes but those that it is to, though it may move fewer of them or fail
abbrev pub keeps_bytes : Reply → Bool
keeps_bytes reply.Pass = true
keeps_bytes reply.Fail = true
keeps_bytes (reply.Short n) = true
keeps_bytes (reply.Torn n) = true
keeps_bytes (reply.Flip i) = false
keeps_bytes reply.Drop = false
keeps_bytes (reply.Bytes new) = false

-- the step ends no I/O, or by such a reply
abbrev pub is_quiet_step : Step → Bool
is_quiet_step (step.End io given) = keeps_bytes given
is_quiet_step (step.Take worker) = true
is_quiet_step (step.Judge by io) = true
is_quiet_step step.Stop = true

-- whatever steps are made, where no reply changes or drops bytes no verdict on the check of a write is Bad
abbrev pub QuietPlay : Type 0
QuietPlay =
    (plan : Plan) (steps : List Step)
    → IsPlanned plan
    → list_all is_quiet_step steps ≡ true
    → has_miscompare (machine_run plan (first_state plan) steps).state.history ≡ false

-- and the machine's memory holds the last write of each block
abbrev pub KeepsLastWrites : Type 0
KeepsLastWrites =
    (plan : Plan) (steps : List Step)
    → IsPlanned plan
    → list_all is_quiet_step steps ≡ true
    → HoldsLastWrites plan (machine_run plan (first_state plan) steps).state.history (machine_run plan (first_state plan) steps).state.memory
