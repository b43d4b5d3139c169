-- Internal: where a clone stands: the pass that it is in, the draws to come, those that it issued, and its round.
use Rattle.std.specs.Prelude.{◌≡◌, ◌<◌, ℕ, suc, true, false, if◌then◌else◌, List, [], drop, length, slice_get, Some, IfSome, is_some}
use Rattle.std.specs.Prelude.{vec_len, vec_capacity}
use Rattle.std.specs.List.{list_any}
use Rattle.jr_model.specs.declared.events.Event.{Event}
use Rattle.jr_model.specs.declared.events.IssueKind.{IssueKind}
use Rattle.jr_model.specs.declared.events.IssueKind.TheVariants as issue
use Rattle.jr_model.specs.declared.events.Started.{Started}
use Rattle.jr_model.specs.declared.events.WriteId.{WriteId}
use Rattle.jr_model.specs.Draws.{draws_of_job}
use Rattle.jr_model.specs.History.{started, is_probe}
use Rattle.jr_model.specs.Legal.{is_halted, takes_up}
use Rattle.jr_model.specs.Plan.{Plan, SubJob, clone_of}
use Rattle.jr_model.specs.Rounds.{pass_of, issued_count, has_rounds}
use Rattle.jr_backlog.specs.CurrentRound.{current_round}
use Rattle.jr_laws_rounds.specs.Standing.{IsInPass}
use Rattle.jr_backlog.specs.Deferred.{is_committed, round_now}
use Rattle.jr_desk_state.specs.declared.standings.Issued.{Issued}
use Rattle.jr_desk_state.specs.declared.standings.Standing.{Standing}

-- the name of draw k of a clone's pass
abbrev pub name_of : SubJob → ℕ → ℕ → WriteId
name_of job pass k = record { clone = job.clone; pass = pass; number = k }

-- the draw of this name was issued under this number, and was taken up (checked or skipped) or not
pub record WasIssued (history : List Event) (name : WriteId) (issued : Issued) : Type 0 where
  pub io : Started
  pub at : slice_get (started history) issued.id ≡ Some io
  pub kind : is_probe io.kind ≡ false
  pub named : io.write ≡ name
  pub taken_up : issued.is_taken_up ≡ list_any (takes_up name) history

-- where the clone stands after the history
pub record IsStanding (history : List Event) (job : SubJob) (standing : Standing) : Type 0 where
  pub in_pass : IsInPass history job standing.pass
  pub draws : standing.draws ≡ drop (issued_count history (pass_of job standing.pass)) (draws_of_job job standing.pass)
  pub later : IfSome standing.later (λ draws. draws ≡ draws_of_job job (suc standing.pass))
  pub count : length standing.issued.items ≡ issued_count history (pass_of job standing.pass)
  pub issued : (k : ℕ) (one : Issued) → slice_get standing.issued.items k ≡ Some one → WasIssued history (name_of job standing.pass k) one
  pub round : has_rounds job ≡ true → is_halted history job ≡ false → round_now standing.rounds ≡ current_round job history

-- the standings of all clones
pub record AreStanding (plan : Plan) (history : List Event) (standings : List Standing) : Type 0 where
  pub count : length standings ≡ length plan.clones
  pub each : (c : ℕ) (job : SubJob) (standing : Standing) → clone_of plan c ≡ Some job → slice_get standings c ≡ Some standing
      → IsStanding history job standing

-- the clone's writes that are still to check, once all is put in
abbrev pub left_in : Standing → ℕ
left_in standing = length (round_now standing.rounds).to_check

-- how many the issue of such a draw adds
abbrev pub added_by : SubJob → IssueKind → ℕ
added_by job issue.Write = if has_rounds job then 1 else 0
added_by job issue.Read = 0
added_by job issue.ReadCheck = 0

-- the next draw can be issued without memory: its round is settled, there is room for its number, and where all draws of the
-- pass were issued those of the next pass are made
pub record IsPrepared (job : SubJob) (standing : Standing) : Type 0 where
  pub settled : is_committed standing.rounds ≡ true
  pub room : vec_len standing.issued < vec_capacity standing.issued
  pub later : standing.draws ≡ [] → suc standing.pass < job.passes → is_some standing.later ≡ true

-- so are all clones but this one
abbrev pub AreOthersPrepared : Plan → ℕ → List Standing → Type 0
AreOthersPrepared plan one standings =
    (c : ℕ) (job : SubJob) (standing : Standing) → (c ≡ one → ⊥) → clone_of plan c ≡ Some job → slice_get standings c ≡ Some standing
    → IsPrepared job standing

-- and all clones
abbrev pub ArePrepared : Plan → List Standing → Type 0
ArePrepared plan standings =
    (c : ℕ) (job : SubJob) (standing : Standing) → clone_of plan c ≡ Some job → slice_get standings c ≡ Some standing
    → IsPrepared job standing
