-- What each event makes of the write log, which has the files that a clone checks.
use Rattle.std.proofs.Common.{◌≡◌, ℕ, ◌<◌, ◌*◌, List, length, get_or, Bool, true, false, cond, ◌&&◌, not, filter, arith, refl, sym, ◌∙◌, ap}
use Rattle.std.specs.Prelude.{Some, None, slice_get, ◌==◌}
use Rattle.std.specs.List.Sorted.{IsStrictlySortedBy}
use Rattle.std.specs.Map.{keys_of}
use Rattle.std.proofs.lemmas.Bool.{and_from, eq-eqb}
use Rattle.std.proofs.lemmas.List.FromFn.{get_or-map-range_with_len, length-map-range_with_len}
use Rattle.std.proofs.lemmas.Map.Entries.{option_filter}
use Rattle.jr_model.specs.declared.blocks.Piece.{Piece}
use Rattle.jr_model.specs.declared.contents.Expected.{Expected}
use Rattle.jr_model.specs.declared.events.Event.{Event}
use Rattle.jr_model.specs.declared.events.Event.TheVariants.{Issue, Probe, Skip, End, Verdict as Judged}
use Rattle.jr_model.specs.declared.events.IssueKind.{IssueKind}
use Rattle.jr_model.specs.declared.events.Outcome.{Outcome}
use Rattle.jr_model.specs.declared.events.Verdict.{Verdict}
use Rattle.jr_model.specs.declared.events.WriteId.{WriteId}
use Rattle.jr_model.specs.declared.tickets.Ticket.{Ticket}
use Rattle.jr_model.specs.declared.workloads.Draw.{Draw}
use Rattle.jr_model.specs.Draws.{draws_of_job, draws_over}
use Rattle.jr_model.specs.History.{is_write, ended_whole, write_order}
use Rattle.jr_model.specs.LastWrite.{is_intact}
use Rattle.jr_model.specs.Legal.{is_legal}
use Rattle.jr_model.specs.Plan.{Plan, SubJob, clone_of}
use Rattle.jr_model.specs.PlanFacts.{IsPlanned}
use Rattle.jr_model.specs.Races.{has_raced}
use Rattle.jr_model.specs.Rounds.{has_rounds}
use Rattle.jr_model.specs.Tickets.{piece_fits}
use Rattle.jr_model.specs.Words.{pass_words}
use Rattle.jr_header.specs.Served.{ticket_expected}
use Rattle.jr_writes.specs.declared.logs.Logged.{Logged}
use Rattle.jr_writes.specs.LoggedWrites.{logged, settled, unsettled}
use Rattle.jr_writes.specs.LogSteps.{steps_of}
use Rattle.jr_laws_draws.specs.PassLaw.{IsInRegion}
use Rattle.jr_laws_draws.proofs.TheLaw.{pass_law, drawable_of}
use Rattle.jr_laws_steps.specs.Nexts.{IsNext, grown}
use Rattle.jr_laws_steps.proofs.DrawnLaws.{started_fit-law}
use Rattle.jr_model.proofs.PlaceLemmas.{any_at}
use Rattle.jr_model.proofs.ListLemmas.{all_got}
use Rattle.jr_laws_log.specs.Intact.{log_after}
use Rattle.jr_laws_log.proofs.DrawLaws.{log_is_intact_of_draws}
use Rattle.jr_laws_log.proofs.IntactLaws.{fresh_at_end}
use Rattle.jr_laws_log.proofs.LogGrowth.{log-same, log-read, log-whole, log-failed}
use Rattle.jr_laws_log.proofs.OrderLemmas.{ordered_log}
use Rattle.jr_desk_tickets.specs.Kept.{IsOwn}
use Rattle.jr_desk_tickets.proofs.OwnTickets.{own_started}
use Rattle.jr_desk_state.specs.declared.written.CheckedLog.{CheckedLog}
use Rattle.jr_desk_state.specs.WriteLogs.{IsLog, checked_by, checks_in, is_checked_file, is_kept, log_of_run}
use Rattle.jr_desk_state.proofs.KeptEntries.{logged_kept, settled_kept, settled_dropped, unsettled_kept, unsettled_dropped}

-- the log of all files
abbrev whole_log : Plan → List Event → List (WriteId × Logged)
whole_log plan history = log_after (checked_by plan) history

-- of a log the entries of the files that a clone checks
abbrev kept_of : Plan → List (WriteId × Logged) → List (WriteId × Logged)
kept_of plan es = filter (λ (e : WriteId × Logged). is_kept plan e.1) es

-- where an event is no step of the log of all files, it is none of this one
stays : (plan : Plan) (history : List Event) (event : Event) (log : CheckedLog) → IsLog plan history log
    → whole_log plan (grown history event) ≡ whole_log plan history → IsLog plan (grown history event) log
stays plan history event log is same = record { entries = is.entries ∙ ap (kept_of plan) (sym same); files = is.files }

-- an issue is no step of the log
pub log_issue : (plan : Plan) (history : List Event) (worker : ℕ) (dir : IssueKind) (write : WriteId) (piece : Piece)
    → IsNext plan history (Issue worker dir write piece)
    → (log : CheckedLog) → IsLog plan history log → IsLog plan (grown history (Issue worker dir write piece)) log
log_issue plan history worker dir write piece next log is =
    stays plan history (Issue worker dir write piece) log is
    (log-same plan history (checked_by plan) next.legal (Issue worker dir write piece) next.may refl)

-- nor is a check
pub log_probe : (plan : Plan) (history : List Event) (worker : ℕ) (write : WriteId) (piece : Piece)
    → IsNext plan history (Probe worker write piece)
    → (log : CheckedLog) → IsLog plan history log → IsLog plan (grown history (Probe worker write piece)) log
log_probe plan history worker write piece next log is =
    stays plan history (Probe worker write piece) log is
    (log-same plan history (checked_by plan) next.legal (Probe worker write piece) next.may refl)

-- nor is a skip
pub log_skip : (plan : Plan) (history : List Event) (worker : ℕ) (write : WriteId)
    → IsNext plan history (Skip worker write)
    → (log : CheckedLog) → IsLog plan history log → IsLog plan (grown history (Skip worker write)) log
log_skip plan history worker write next log is =
    stays plan history (Skip worker write) log is
    (log-same plan history (checked_by plan) next.legal (Skip worker write) next.may refl)

-- nor is a verdict
pub log_verdict : (plan : Plan) (history : List Event) (worker id : ℕ) (verdict : Verdict)
    → IsNext plan history (Judged worker id verdict)
    → (log : CheckedLog) → IsLog plan history log → IsLog plan (grown history (Judged worker id verdict)) log
log_verdict plan history worker id verdict next log is =
    stays plan history (Judged worker id verdict) log is
    (log-same plan history (checked_by plan) next.legal (Judged worker id verdict) next.may refl)

-- a ticket of a legal history is of a piece of whole blocks
pub own_fits : (plan : Plan) (history : List Event) (ticket : Ticket)
    → IsPlanned plan
    → is_legal plan history ≡ true
    → IsOwn plan history ticket
    → piece_fits ticket.piece ≡ true
own_fits plan history ticket planned legal own =
    let out = own_started plan history ticket own in
    sym (ap (λ (t : Ticket). piece_fits t.piece) out.2)
    ∙ (started_fit-law plan history ticket.id out.0 planned legal out.1).1.fits

-- in one of the plan's files
pub file_there : (plan : Plan) (history : List Event) (ticket : Ticket) (log : CheckedLog)
    → IsPlanned plan
    → is_legal plan history ≡ true
    → IsOwn plan history ticket
    → IsLog plan history log
    → ticket.piece.file < length log.files.items
file_there plan history ticket log planned legal own is =
    let out = own_started plan history ticket own in
    let fits = (started_fit-law plan history ticket.id out.0 planned legal out.1).1 in
    let count = ap length is.files ∙ length-map-range_with_len (is_checked_file plan) 0 (length plan.files) in
    let same = ap (λ (t : Ticket). t.piece.file) out.2 in
    omega (arith, fits.file, count, same)

-- what the log says of a file is whether a clone checks it
pub flag_is : (plan : Plan) (history : List Event) (log : CheckedLog) (file : ℕ) (flag : Bool)
    → IsLog plan history log
    → file < length log.files.items
    → flag ≡ get_or log.files.items file flag
    → flag ≡ is_checked_file plan file
flag_is plan history log file flag is below read =
    let n = length plan.files in
    let count = ap length is.files ∙ length-map-range_with_len (is_checked_file plan) 0 n in
    read
    ∙ ap (λ (flags : List Bool). get_or flags file flag) is.files
    ∙ get_or-map-range_with_len (is_checked_file plan) 0 n file file flag (omega (arith, below, count)) (omega arith)

-- where a write may end, the log of all files has nothing of it yet
fresh_in_all : (plan : Plan) (history : List Event) (outcome : Outcome) (ticket : Ticket)
    → IsNext plan history (End ticket.worker ticket.id outcome)
    → IsOwn plan history ticket
    → is_write ticket.kind ≡ true
    → logged (whole_log plan history) ticket.write ≡ None
fresh_in_all plan history outcome ticket next own kind =
    let out = own_started plan history ticket own in
    sym (ap (λ (t : Ticket). logged (whole_log plan history) t.write) out.2)
    ∙ fresh_at_end plan history (checked_by plan) ticket.worker ticket.id outcome out.0 next.planned next.legal next.may out.1
    (ap (λ (t : Ticket). is_write t.kind) out.2 ∙ kind)

abbrev ordered : (plan : Plan) (history : List Event) → IsStrictlySortedBy write_order (keys_of (whole_log plan history))
ordered plan history = ordered_log (steps_of (checked_by plan) history)

-- nor has this one
pub log_fresh : (plan : Plan) (history : List Event) (outcome : Outcome) (ticket : Ticket)
    → IsNext plan history (End ticket.worker ticket.id outcome)
    → IsOwn plan history ticket
    → is_write ticket.kind ≡ true
    → logged (log_of_run plan history) ticket.write ≡ None
log_fresh plan history outcome ticket next own kind =
    logged_kept (is_checked_file plan) (whole_log plan history) (ordered plan history) ticket.write
    ∙ ap (option_filter (is_kept plan)) (fresh_in_all plan history outcome ticket next own kind)

module _ (plan : Plan) (history : List Event) (ticket : Ticket) (outcome : Outcome)
    (next : IsNext plan history (End ticket.worker ticket.id outcome)) (own : IsOwn plan history ticket) where
  abbrev all : List (WriteId × Logged)
  all = whole_log plan history

  abbrev after : List Event
  after = grown history (End ticket.worker ticket.id outcome)

  -- the log of all files after the whole end of a write that didn't race
  all_whole : is_write ticket.kind ≡ true
      → (ended_whole (Some outcome) && not (has_raced history ticket.id)) ≡ true
      → settled all ticket.write ticket.piece (ticket_expected ticket) ≡ whole_log plan after
  all_whole kind whole =
      let out = own_started plan history ticket own in
      sym (ap (λ (t : Ticket). settled all t.write t.piece (ticket_expected t)) out.2)
      ∙ sym (log-whole plan history (checked_by plan) next.legal ticket.worker ticket.id outcome out.0 next.may out.1
      (ap (λ (t : Ticket). is_write t.kind) out.2 ∙ kind) whole)

  -- and after another end of a write
  all_broken : is_write ticket.kind ≡ true
      → (ended_whole (Some outcome) && not (has_raced history ticket.id)) ≡ false
      → unsettled all ticket.piece ≡ whole_log plan after
  all_broken kind broken =
      let out = own_started plan history ticket own in
      sym (ap (λ (t : Ticket). unsettled all t.piece) out.2)
      ∙ sym (log-failed plan history (checked_by plan) next.legal ticket.worker ticket.id outcome out.0 next.may out.1
      (ap (λ (t : Ticket). is_write t.kind) out.2 ∙ kind) broken)

  module _ (log : CheckedLog) (is : IsLog plan history log) where
    -- the whole end of a write that didn't race, in a file that a clone checks
    pub log_whole : (expected : Expected)
        → is_write ticket.kind ≡ true
        → is_checked_file plan ticket.piece.file ≡ true
        → (ended_whole (Some outcome) && not (has_raced history ticket.id)) ≡ true
        → expected ≡ ticket_expected ticket
        → settled log.writes ticket.write ticket.piece expected ≡ log_of_run plan after
    log_whole expected kind mine whole right =
        ap (λ (es : List (WriteId × Logged)). settled es ticket.write ticket.piece expected) is.entries
        ∙ ap (settled (kept_of plan all) ticket.write ticket.piece) right
        ∙ sym (settled_kept (is_checked_file plan) all (ordered plan history) ticket.write ticket.piece (ticket_expected ticket)
        (fresh_in_all plan history outcome ticket next own kind) mine)
        ∙ ap (kept_of plan) (all_whole kind whole)

    -- another end of a write there
    pub log_broken : is_write ticket.kind ≡ true
        → (ended_whole (Some outcome) && not (has_raced history ticket.id)) ≡ false
        → unsettled log.writes ticket.piece ≡ log_of_run plan after
    log_broken kind broken =
        ap (λ (es : List (WriteId × Logged)). unsettled es ticket.piece) is.entries
        ∙ sym (unsettled_kept (is_checked_file plan) all ticket.piece)
        ∙ ap (kept_of plan) (all_broken kind broken)

    -- the end of a write in another file
    pub log_elsewhere : is_write ticket.kind ≡ true → is_checked_file plan ticket.piece.file ≡ false → IsLog plan after log
    log_elsewhere kind dropped = by (ended_whole (Some outcome) && not (has_raced history ticket.id)) refl
      where
        by : (b : Bool) → (ended_whole (Some outcome) && not (has_raced history ticket.id)) ≡ b → IsLog plan after log
        by true whole = record {
          entries =
              is.entries
              ∙ sym (settled_dropped (is_checked_file plan) all (ordered plan history) ticket.write ticket.piece (ticket_expected ticket)
              (fresh_in_all plan history outcome ticket next own kind) dropped)
              ∙ ap (kept_of plan) (all_whole kind whole);
          files = is.files;
        }
        by false broken = record {
          entries =
              is.entries
              ∙ sym (unsettled_dropped (is_checked_file plan) all ticket.piece dropped)
              ∙ ap (kept_of plan) (all_broken kind broken);
          files = is.files;
        }

    -- the end of a read or a check
    pub log_unwritten : is_write ticket.kind ≡ false → IsLog plan after log
    log_unwritten kind =
        let out = own_started plan history ticket own in
        stays plan history (End ticket.worker ticket.id outcome) log is
        (log-read plan history (checked_by plan) next.legal ticket.worker ticket.id outcome out.0 next.may out.1
        (ap (λ (t : Ticket). is_write t.kind) out.2 ∙ kind))

-- a draw of a clone that checks its writes lies in a file that is kept
draw_kept : (plan : Plan) (c p k : ℕ) (job : SubJob) (draw : Draw)
    → IsPlanned plan
    → clone_of plan c ≡ Some job
    → has_rounds job ≡ true
    → slice_get (draws_of_job job p) k ≡ Some draw
    → is_checked_file plan draw.piece.file ≡ true
draw_kept plan c p k job draw planned of_job rounds drawn =
    let law = pass_law job (drawable_of job (planned.drafted.limited c job of_job)) in
    let words = pass_words job p (4 * job.cells) in
    let region = all_got (λ (d : Draw). IsInRegion job d.piece) (draws_over job words) k draw (law.placed words) drawn in
    any_at (checks_in draw.piece.file) plan.clones c job of_job
    (and_from (has_rounds job) (job.file == draw.piece.file) rounds (eq-eqb job.file draw.piece.file (sym region.file)))

-- the log has a draw of such a clone just where it is intact, with what its check is judged by
pub log_intact : (plan : Plan) (history : List Event) (c p k : ℕ) (job : SubJob) (draw : Draw)
    → IsPlanned plan
    → is_legal plan history ≡ true
    → clone_of plan c ≡ Some job
    → has_rounds job ≡ true
    → p < job.passes
    → slice_get (draws_of_job job p) k ≡ Some draw
    → logged (log_of_run plan history) (record { clone = c; pass = p; number = k })
    ≡ cond (is_intact history (record { clone = c; pass = p; number = k }) draw.piece)
    (Some (record { piece = draw.piece; expected = checked_by plan (record { clone = c; pass = p; number = k }) draw.piece })) None
log_intact plan history c p k job draw planned legal of_job rounds below drawn =
    let write : WriteId = record { clone = c; pass = p; number = k } in
    let entry : Logged = record { piece = draw.piece; expected = checked_by plan write draw.piece } in
    logged_kept (is_checked_file plan) (whole_log plan history) (ordered plan history) write
    ∙ ap (option_filter (is_kept plan))
    (log_is_intact_of_draws plan history (checked_by plan) write job draw planned legal of_job below drawn)
    ∙ by entry (is_intact history write draw.piece) (draw_kept plan c p k job draw planned of_job rounds drawn)
  where
    by : (entry : Logged) (intact : Bool) → is_kept plan entry ≡ true
        → option_filter (is_kept plan) (cond intact (Some entry) None) ≡ cond intact (Some entry) None
    by entry true mine = ap (λ (b : Bool). cond b (Some entry) None) mine
    by entry false mine = refl
