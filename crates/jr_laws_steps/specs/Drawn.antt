-- Claimed: what was started is what was drawn.
use Rattle.std.specs.Prelude.{◌≡◌, ◌<◌, ◌≤◌, ℕ, Bool, true, false, not, List, length, Some, slice_get}
use Rattle.jr_model.specs.declared.blocks.Dir.{Dir}
use Rattle.jr_model.specs.declared.blocks.Dir.TheVariants as direction
use Rattle.jr_model.specs.declared.events.Event.{Event}
use Rattle.jr_model.specs.declared.events.Started.{Started}
use Rattle.jr_model.specs.declared.tickets.TicketKind.{TicketKind}
use Rattle.jr_model.specs.declared.tickets.TicketKind.TheVariants as ticket
use Rattle.jr_model.specs.declared.workloads.Draw.{Draw}
use Rattle.jr_model.specs.Draws.{draws_of_job}
use Rattle.jr_model.specs.History.{started, is_judged_kind, is_probe, same_write}
use Rattle.jr_model.specs.Legal.{is_legal}
use Rattle.jr_model.specs.Pieces.{piece_end, pieces_overlap}
use Rattle.jr_model.specs.Plan.{Plan, SubJob, FileSpec, clone_of, checks_reads, is_verified}
use Rattle.jr_model.specs.Rounds.{has_rounds}
use Rattle.jr_model.specs.Tickets.{piece_fits, has_pattern, interval_fits}
use Rattle.jr_model.specs.PlanFacts.{IsPlanned}
use Rattle.jr_laws_draws.specs.PassLaw.{is_mapped}

-- an I/O of this kind may be started for a draw of this direction; only writes of verified clones are checked, and reads are
-- where the clone checks its reads
abbrev pub is_kind_of : TicketKind → Dir → SubJob → Bool
is_kind_of ticket.Read direction.Read job = not (checks_reads job)
is_kind_of ticket.Read direction.Write job = false
is_kind_of ticket.Write direction.Write job = true
is_kind_of ticket.Write direction.Read job = false
is_kind_of ticket.Probe direction.Write job = has_rounds job
is_kind_of ticket.Probe direction.Read job = false
is_kind_of ticket.ReadCheck direction.Read job = checks_reads job
is_kind_of ticket.ReadCheck direction.Write job = false

-- it was started for this draw of a planned clone
pub record IsDrawn (plan : Plan) (io : Started) (job : SubJob) (draw : Draw) : Type 0 where
  pub planned : clone_of plan io.write.clone ≡ Some job
  pub pass : io.write.pass < job.passes
  pub drawn : slice_get (draws_of_job job io.write.pass) io.write.number ≡ Some draw
  pub piece : io.piece ≡ draw.piece
  pub kind : is_kind_of io.kind draw.dir job ≡ true

-- each I/O and check of a legal history was started for a draw of the plan
abbrev pub StartedAreDrawn : Type 0
StartedAreDrawn =
    (plan : Plan) (history : List Event) (id : ℕ) (io : Started)
    → IsPlanned plan
    → is_legal plan history ≡ true
    → slice_get (started history) id ≡ Some io
    → (job : SubJob) × (draw : Draw) × IsDrawn plan io job draw

-- it can be carried out in the plan: a piece of whole blocks within its file's bounds, of a clone whose methods have what
-- they need
pub record FitsPlan (plan : Plan) (io : Started) (job : SubJob) : Type 0 where
  pub planned : clone_of plan io.write.clone ≡ Some job
  pub fits : piece_fits io.piece ≡ true
  pub pass : io.write.pass < 1000
  pub pattern : has_pattern job.method.kind job.method.pattern ≡ true
  pub interval : interval_fits job.method.kind job.method.interval io.piece.len ≡ true
  pub verified : is_judged_kind io.kind ≡ true → is_verified job.method.kind ≡ true
  pub file : io.piece.file < length plan.files
  pub bounds : (spec : FileSpec) → slice_get plan.files io.piece.file ≡ Some spec → (spec.low ≤ io.piece.offset) × (piece_end io.piece ≤ spec.high)

-- each I/O and check of a legal history can be carried out
abbrev pub StartedFit : Type 0
StartedFit =
    (plan : Plan) (history : List Event) (id : ℕ) (io : Started)
    → IsPlanned plan
    → is_legal plan history ≡ true
    → slice_get (started history) id ≡ Some io
    → (job : SubJob) × FitsPlan plan io job

-- no draw is issued twice, and no write is checked twice
abbrev pub StartedOnce : Type 0
StartedOnce =
    (plan : Plan) (history : List Event) (i j : ℕ) (a b : Started)
    → IsPlanned plan
    → is_legal plan history ≡ true
    → slice_get (started history) i ≡ Some a
    → slice_get (started history) j ≡ Some b
    → same_write a.write b.write ≡ true
    → is_probe a.kind ≡ is_probe b.kind
    → i ≡ j

-- with a random map no block is read or written twice in a clone's pass: two I/Os that were issued share no byte
abbrev pub NoBlockTwice : Type 0
NoBlockTwice =
    (plan : Plan) (history : List Event) (i j : ℕ) (a b : Started) (job : SubJob)
    → IsPlanned plan
    → is_legal plan history ≡ true
    → slice_get (started history) i ≡ Some a
    → slice_get (started history) j ≡ Some b
    → is_probe a.kind ≡ false
    → is_probe b.kind ≡ false
    → a.write.clone ≡ b.write.clone
    → a.write.pass ≡ b.write.pass
    → clone_of plan a.write.clone ≡ Some job
    → is_mapped job ≡ true
    → ¬ (i ≡ j)
    → pieces_overlap a.piece b.piece ≡ false
