-- The numbers in the lines of a legal history of a plan are small.
use Rattle.std.proofs.Common.{◌≡◌, ℕ, ◌+◌, ◌%◌, ◌^◌, ◌<◌, ◌≤◌, List, [], ◌∷◌, ◌++◌, length, Bool, true, false, not, ◌&&◌, refl, ap, ◌∙◌, arith}
use Rattle.std.specs.Prelude.{Option, Some, None, Bool, true, false, cond, max, ◌/◌, nat_le, nat_lt, slice_get, ◌==◌}
use Rattle.std.proofs.lemmas.Bool.{and_parts, leb-true, lt-ltb, ltb-true}
use Rattle.std.proofs.lemmas.Option.{slice_get_within}
use Rattle.jr_model.specs.declared.blocks.Piece.{Piece}
use Rattle.jr_model.specs.declared.limits.TheConstants.{SECTOR, LARGEST_BLOCK, LARGEST_END}
use Rattle.jr_model.specs.declared.events.Event.{Event}
use Rattle.jr_model.specs.declared.events.Event.TheVariants.{Issue, Probe, Skip, End, Verdict}
use Rattle.jr_model.specs.declared.events.IssueKind.{IssueKind}
use Rattle.jr_model.specs.declared.events.Outcome.{Outcome}
use Rattle.jr_model.specs.declared.events.Outcome.TheVariants.{Whole, Failed, Short}
use Rattle.jr_model.specs.declared.events.Started.{Started}
use Rattle.jr_model.specs.declared.events.Verdict.{Verdict as GivenVerdict}
use Rattle.jr_model.specs.declared.events.Verdict.TheVariants.{Good, Bad, Void}
use Rattle.jr_model.specs.declared.events.What.{What}
use Rattle.jr_model.specs.declared.events.What.TheVariants.{Header, Digest, DataArea, Byte, Chunk}
use Rattle.jr_model.specs.declared.events.WriteId.{WriteId}
use Rattle.jr_model.specs.declared.contents.VerifyKind.{VerifyKind}
use Rattle.jr_model.specs.declared.contents.VerifyKind.TheVariants as verify
use Rattle.jr_model.specs.declared.tickets.TicketKind.{TicketKind}
use Rattle.jr_model.specs.declared.tickets.TicketKind.TheVariants as ticket
use Rattle.jr_model.specs.declared.workloads.Draw.{Draw}
use Rattle.jr_model.specs.Draws.{draws_of_job}
use Rattle.jr_model.specs.History.{ended_whole, flies, is_judged, is_judged_kind, outcome_of, started}
use Rattle.std.proofs.Math.Nat.{div-le_self}
use Rattle.jr_model.specs.Legal.{digest_finds, end_fits, is_legal, is_void, job_says, kind_says, legal_after, may_happen, own_digest_finds, own_says, verdict_fits}
use Rattle.jr_model.specs.Plan.{Plan, SubJob, clone_of}
use Rattle.jr_model.specs.Races.{has_raced}
use Rattle.jr_model.specs.Rounds.{pass_of}
use Rattle.jr_model.proofs.LegalLaws.{is_legal-more}
use Rattle.jr_model.specs.PlanFacts.{IsPlanned}
use Rattle.jr_laws_steps.proofs.CountLaws.{draws_within}
use Rattle.jr_laws_steps.proofs.DrawnLaws.{current_pass, issuable, started_fit-law, taken_up_within}
use Rattle.jr_laws_steps.proofs.StepLaws.{may_issue_of, may_probe_of, may_skip_of}
use Rattle.jr_replay_traces.specs.TraceChecks.{ending_fits, entry_fits, finding_fits, is_small, name_fits, worker_of, workers_fit}
use Rattle.jr_replay_traces.specs.TraceLaws.{NumbersFit, ending_of, entry_of, finding_of, lines_fit, name_of}
use Rattle.jr_laws_steps.proofs.StartedFew.{started_small}

-- where the rest holds
both : (a b : Bool) → b ≡ true → (a && b) ≡ a
both true b h = h
both false b h = refl

all_three : (a b c : Bool) → b ≡ true → c ≡ true → (a && b && c) ≡ a
all_three a b c hb hc = both (a && b) c hc ∙ both a b hb

less : (m n : ℕ) → n ≤ 2 ^ 32 → m < n → is_small m ≡ true
less m n most below = lt-ltb m (2 ^ 32) (omega (arith, most, below))

module _ (plan : Plan) (planned : IsPlanned plan) where
  -- the numbers of a draw
  name_small : (write : WriteId) (job : SubJob) (draw : Draw) → clone_of plan write.clone ≡ Some job → write.pass < job.passes → slice_get (draws_of_job job write.pass) write.number ≡ Some draw → name_fits (name_of write) ≡ true
  name_small write job draw at pass drawn =
      let limits = planned.drafted.limited write.clone job at in
      let clone : is_small write.clone ≡ true = less write.clone (length plan.clones) (omega (arith, planned.drafted.clones_most)) (slice_get_within plan.clones write.clone job at) in
      let few : job.passes ≤ 2 ^ 32 = omega (arith, limits.passes_most) in
      let size : length (draws_of_job job write.pass) ≤ 2 ^ 32 = omega (arith, draws_within plan write.clone write.pass job planned at, limits.cells_most) in
      all_three (is_small write.clone) (is_small write.pass) (is_small write.number)
      (less write.pass job.passes few pass)
      (less write.number (length (draws_of_job job write.pass)) size (slice_get_within (draws_of_job job write.pass) write.number draw drawn))
      ∙ clone

  module _ (history : List Event) (legal : is_legal plan history ≡ true) where
    io_small : (io : ℕ) → io ≤ length (started history) → is_small io ≡ true
    io_small io most = lt-ltb io (2 ^ 32) (omega (arith, most, started_small plan history planned legal))

    issue_small : (worker : ℕ) (write : WriteId) (kind : IssueKind) (piece : Piece) → may_happen plan history (Issue worker kind write piece) ≡ true → name_fits (name_of write) ≡ true
    issue_small worker write kind piece may =
        let step = may_issue_of plan history worker kind write piece may in
        let pass = pass_of step.job write.pass in
        name_small write step.job step.draw step.named.planned
        (current_pass history pass (issuable plan history pass step.draw step.may).current)
        step.named.drawn

    probe_small : (worker : ℕ) (write : WriteId) (piece : Piece) → may_happen plan history (Probe worker write piece) ≡ true → name_fits (name_of write) ≡ true
    probe_small worker write piece may =
        let step = (may_probe_of plan history worker write piece may).0 in
        name_small write step.job step.draw step.named.planned (taken_up_within plan history write step legal) step.named.drawn

    skip_small : (worker : ℕ) (write : WriteId) → may_happen plan history (Skip worker write) ≡ true → name_fits (name_of write) ≡ true
    skip_small worker write may =
        let step = may_skip_of plan history worker write may in
        name_small write step.job step.draw step.named.planned (taken_up_within plan history write step legal) step.named.drawn

    -- what was started moves few bytes
    len_small : (id : ℕ) (io : Started) → slice_get (started history) id ≡ Some io → io.piece.len ≤ 2 ^ 32
    len_small id io at =
        let fits = (started_fit-law plan history id io planned legal at).1.fits in
        let p = io.piece in
        let first = and_parts (nat_lt 0 p.len && nat_le p.len LARGEST_BLOCK && (p.len % SECTOR == 0) && (p.offset % SECTOR == 0)) (nat_le (p.offset + p.len) LARGEST_END) fits in
        let second = and_parts (nat_lt 0 p.len && nat_le p.len LARGEST_BLOCK && (p.len % SECTOR == 0)) (p.offset % SECTOR == 0) first.0 in
        let third = and_parts (nat_lt 0 p.len && nat_le p.len LARGEST_BLOCK) (p.len % SECTOR == 0) second.0 in
        let fourth = and_parts (nat_lt 0 p.len) (nat_le p.len LARGEST_BLOCK) third.0 in
        let most : p.len ≤ LARGEST_BLOCK = leb-true p.len LARGEST_BLOCK fourth.1 in
        omega (arith, most)

    ending_small : (worker id : ℕ) (outcome : Outcome) (o : Option Started) → slice_get (started history) id ≡ o → end_fits worker outcome o ≡ true → ending_fits (ending_of outcome) ≡ true
    ending_small worker id Whole o at h = refl
    ending_small worker id Failed o at h = refl
    ending_small worker id (Short n) None at h = cc
    ending_small worker id (Short n) (Some io) at h =
        let parts = and_parts (io.worker == worker) (nat_lt n io.piece.len) h in
        less n io.piece.len (len_small id io at) (ltb-true n io.piece.len parts.1)

    -- a byte that differs is one of the piece, and a chunk is one of its chunks
    chunk_small : (interval len : ℕ) (what : What) → len ≤ 2 ^ 32 → digest_finds interval len what ≡ true → finding_fits (finding_of (Bad what)) ≡ true
    chunk_small interval len Header most h = refl
    chunk_small interval len Digest most h = refl
    chunk_small interval len DataArea most h = refl
    chunk_small interval len (Byte i) most h = by (interval == 0) h
      where
        by : (b : Bool) → cond b false false ≡ true → is_small i ≡ true
        by true none = cc
        by false none = cc
    chunk_small interval len (Chunk i found) most h = by (interval == 0) h
      where
        by : (b : Bool) → cond b false (nat_lt i (len / interval)) ≡ true → is_small i ≡ true
        by true none = cc
        by false some = less i (len / interval) (omega (arith, most, div-le_self len interval)) (ltb-true i (len / interval) some)

    byte_small : (kind : VerifyKind) (interval len : ℕ) (verdict : GivenVerdict) → len ≤ 2 ^ 32 → kind_says kind interval len verdict ≡ true → finding_fits (finding_of verdict) ≡ true
    byte_small kind interval len Good most h = refl
    byte_small kind interval len Void most h = refl
    byte_small verify.Plain interval len (Bad what) most h = cc
    byte_small verify.Pattern interval len (Bad (Byte i)) most h = less i len most (ltb-true i len h)
    byte_small verify.Pattern interval len (Bad Header) most h = refl
    byte_small verify.Pattern interval len (Bad Digest) most h = refl
    byte_small verify.Pattern interval len (Bad DataArea) most h = refl
    byte_small verify.Pattern interval len (Bad (Chunk i found)) most h = cc
    byte_small verify.Md5 interval len (Bad what) most h = chunk_small interval len what most h
    byte_small verify.Sha1 interval len (Bad what) most h = chunk_small interval len what most h
    byte_small verify.Sha256 interval len (Bad what) most h = chunk_small interval len what most h

    -- so it is of a checked read, where a chunk has a 512-byte block at least
    own_chunk_small : (len : ℕ) (what : What) → len ≤ 2 ^ 32 → own_digest_finds len what ≡ true → finding_fits (finding_of (Bad what)) ≡ true
    own_chunk_small len Header most h = refl
    own_chunk_small len Digest most h = refl
    own_chunk_small len DataArea most h = refl
    own_chunk_small len (Byte i) most h = cc
    own_chunk_small len (Chunk i found) most h =
        let chunks = max 1 (len / SECTOR) in
        less i chunks (omega (arith, most, div-le_self len SECTOR)) (ltb-true i chunks h)

    own_small : (kind : VerifyKind) (len : ℕ) (verdict : GivenVerdict) → len ≤ 2 ^ 32 → own_says kind len verdict ≡ true → finding_fits (finding_of verdict) ≡ true
    own_small kind len Good most h = refl
    own_small kind len Void most h = refl
    own_small verify.Plain len (Bad what) most h = cc
    own_small verify.Pattern len (Bad what) most h = byte_small verify.Pattern 0 len (Bad what) most h
    own_small verify.Md5 len (Bad what) most h = own_chunk_small len what most h
    own_small verify.Sha1 len (Bad what) most h = own_chunk_small len what most h
    own_small verify.Sha256 len (Bad what) most h = own_chunk_small len what most h

    says_small : (job : Option SubJob) (kind : TicketKind) (len : ℕ) (verdict : GivenVerdict) → len ≤ 2 ^ 32 → job_says job kind len verdict ≡ true → finding_fits (finding_of verdict) ≡ true
    says_small None kind len verdict most h = cc
    says_small (Some job) ticket.Probe len verdict most h = byte_small job.method.kind job.method.interval len verdict most h
    says_small (Some job) ticket.ReadCheck len verdict most h = own_small job.method.kind len verdict most h
    says_small (Some job) ticket.Read len verdict most h = cc
    says_small (Some job) ticket.Write len verdict most h = cc

    void_small : (verdict : GivenVerdict) → is_void verdict ≡ true → finding_fits (finding_of verdict) ≡ true
    void_small Void h = refl
    void_small Good h = refl
    void_small (Bad what) h = cc

    said_small : (raced : Bool) (job : Option SubJob) (kind : TicketKind) (len : ℕ) (verdict : GivenVerdict) → len ≤ 2 ^ 32 → cond raced (is_void verdict) (job_says job kind len verdict) ≡ true → finding_fits (finding_of verdict) ≡ true
    said_small true job kind len verdict most h = void_small verdict h
    said_small false job kind len verdict most h = says_small job kind len verdict most h

    record IsOnStarted (id : ℕ) (fits : Bool) : Type 0 where
      below : id < length (started history)
      small : fits ≡ true

    verdict_small : (id : ℕ) (raced : Bool) (verdict : GivenVerdict) (o : Option Started) → slice_get (started history) id ≡ o → verdict_fits plan raced verdict o ≡ true → IsOnStarted id (finding_fits (finding_of verdict))
    verdict_small id raced verdict None at h = cc
    verdict_small id raced verdict (Some io) at h =
        let parts = and_parts (is_judged_kind io.kind) (cond raced (is_void verdict) (job_says (clone_of plan io.write.clone) io.kind io.piece.len verdict)) h in
        record {
          below = slice_get_within (started history) id io at;
          small = said_small raced (clone_of plan io.write.clone) io.kind io.piece.len verdict (len_small id io at) parts.1;
        }

    -- the numbers of an event that may happen are small, but for its worker's
    event_small : (e : Event) → may_happen plan history e ≡ true → entry_fits (entry_of (length (started history)) e) ≡ is_small (worker_of e)
    event_small (Issue worker kind write piece) may =
        let io = length (started history) in
        all_three (is_small worker) (is_small io) (name_fits (name_of write)) (io_small io (omega arith)) (issue_small worker write kind piece may)
    event_small (Probe worker write piece) may =
        let io = length (started history) in
        all_three (is_small worker) (is_small io) (name_fits (name_of write)) (io_small io (omega arith)) (probe_small worker write piece may)
    event_small (Skip worker write) may =
        both (is_small worker) (name_fits (name_of write)) (skip_small worker write may)
    event_small (End worker id outcome) may =
        let parts = and_parts (flies history id) (end_fits worker outcome (slice_get (started history) id)) may in
        let flying = and_parts (nat_lt id (length (started history))) _ parts.0 in
        let below : id < length (started history) = ltb-true id (length (started history)) flying.0 in
        all_three (is_small worker) (is_small id) (ending_fits (ending_of outcome)) (io_small id (omega (arith, below)))
        (ending_small worker id outcome (slice_get (started history) id) refl parts.1)
    event_small (Verdict by id verdict) may =
        let raced = has_raced history id in
        let parts = and_parts (ended_whole (outcome_of history id) && not (is_judged history id)) (verdict_fits plan raced verdict (slice_get (started history) id)) may in
        let on = verdict_small id raced verdict (slice_get (started history) id) refl parts.1 in
        all_three (is_small by) (is_small id) (finding_fits (finding_of verdict)) (io_small id (omega (arith, on.below))) on.small

  -- the lines of what may happen after a legal history
  lines_small : (before events : List Event) → is_legal plan before ≡ true → legal_after plan before events ≡ true → lines_fit before events ≡ workers_fit events
  lines_small before [] legal more = refl
  lines_small before (e ∷ events) legal more =
      let longer = before ++ e ∷ [] in
      let parts = and_parts (may_happen plan before e) (legal_after plan longer events) more in
      ap (λ (b : Bool). b && lines_fit longer events) (event_small before legal e parts.0)
      ∙ ap (λ (b : Bool). is_small (worker_of e) && b) (lines_small longer events (is_legal-more plan before e legal parts.0) parts.1)

pub numbers_fit : NumbersFit
numbers_fit plan history planned legal = lines_small plan planned [] history refl legal
