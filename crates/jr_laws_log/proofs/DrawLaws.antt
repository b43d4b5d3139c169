-- The log has a draw of the plan just where it is intact, whether it was issued or not; what the log is of unstarted writes.
use Rattle.std.proofs.Common.{◌≡◌, ℕ, ◌+◌, ◌/◌, ◌<◌, List, [], ◌∷◌, Bool, true, cond, refl, sym, ◌∙◌, ap, subst, inl, inr, not, ◌&&◌}
use Rattle.std.specs.Prelude.{Option, Some, None, slice_get, filter_map}
use Rattle.std.specs.List.{cons_option}
use Rattle.std.proofs.lemmas.Bool.{cases_Bool}
use Rattle.std.proofs.lemmas.Option.{same_Some}
use Rattle.jr_model.specs.declared.blocks.Piece.{Piece}
use Rattle.jr_model.specs.declared.limits.TheConstants.{SECTOR}
use Rattle.jr_model.specs.declared.contents.Expected.{Expected}
use Rattle.jr_model.specs.declared.events.Event.{Event}
use Rattle.jr_model.specs.declared.events.Event.TheVariants.{Issue, Probe, Skip, End, Verdict}
use Rattle.jr_model.specs.declared.events.Outcome.{Outcome}
use Rattle.jr_model.specs.declared.events.Started.{Started}
use Rattle.jr_model.specs.declared.events.WriteId.{WriteId}
use Rattle.jr_model.specs.declared.workloads.Draw.{Draw}
use Rattle.jr_model.specs.Draws.{draws_of_job}
use Rattle.jr_model.specs.History.{started, ended_whole, is_write, kind_for}
use Rattle.jr_model.specs.LastWrite.{last_write, is_intact}
use Rattle.jr_model.specs.Legal.{is_legal}
use Rattle.jr_model.specs.Plan.{Plan, SubJob, clone_of, issued_as}
use Rattle.jr_model.specs.PlanFacts.{IsPlanned}
use Rattle.jr_model.specs.Races.{has_raced}
use Rattle.jr_writes.specs.declared.logs.Logged.{Logged}
use Rattle.jr_writes.specs.LoggedWrites.{logged}
use Rattle.jr_writes.specs.LogSteps.{LogStep, settle, unsettle, log_of, step_of, step_at_end}
use Rattle.jr_laws_steps.specs.Drawn.{IsDrawn}
use Rattle.jr_laws_steps.proofs.DrawnLaws.{started_are_drawn-law, drawn_fits, kind_for_draw}
use Rattle.jr_laws_log.specs.Intact.{log_after, WasStarted}
use Rattle.jr_laws_log.proofs.LastBlocks.{HasBlocks, blocks_from_fits, intact_at, last_law}
use Rattle.jr_laws_log.proofs.IntactLaws.{kept_law, log_is_intact}

-- a step by whether the I/O is a write, and whether it ended whole
abbrev step_by : Started → Expected → Bool → Bool → Option LogStep
step_by io expected write whole =
    cond write (Some (cond whole (settle io.write io.piece expected) (unsettle io.piece))) None

-- one step by two ways to check a content
same_end : (one other : WriteId → Piece → Expected) (raced : Bool) (o : Option Started) (outcome : Outcome)
    → ((io : Started) → o ≡ Some io → is_write io.kind ≡ true → one io.write io.piece ≡ other io.write io.piece)
    → step_at_end one raced o outcome ≡ step_at_end other raced o outcome
same_end one other raced None outcome same = refl
same_end one other raced (Some io) outcome same =
    elim (cases_Bool (is_write io.kind)) [
      | inl kind ↦ ap (λ (x : Expected). step_by io x (is_write io.kind) (ended_whole (Some outcome) && not raced)) (same io refl kind)
      | inr kind ↦
          ap (λ (b : Bool). step_by io (one io.write io.piece) b (ended_whole (Some outcome) && not raced)) kind
          ∙ sym (ap (λ (b : Bool). step_by io (other io.write io.piece) b (ended_whole (Some outcome) && not raced)) kind)
    ]

module _ (one other : WriteId → Piece → Expected) (raced : ℕ → Bool) (ios : List Started)
    (same : (id : ℕ) (io : Started) → slice_get ios id ≡ Some io → is_write io.kind ≡ true
    → one io.write io.piece ≡ other io.write io.piece) where
  same_step : (e : Event) → step_of one raced ios e ≡ step_of other raced ios e
  same_step (End worker id outcome) = same_end one other (raced id) (slice_get ios id) outcome (λ io at kind. same id io at kind)
  same_step (Issue worker dir write piece) = refl
  same_step (Probe worker write piece) = refl
  same_step (Skip worker write) = refl
  same_step (Verdict worker id verdict) = refl

  same_steps : (events : List Event) → filter_map (step_of one raced ios) events ≡ filter_map (step_of other raced ios) events
  same_steps [] = refl
  same_steps (e ∷ events) =
      ap (λ (o : Option LogStep). cons_option o (filter_map (step_of one raced ios) events)) (same_step e)
      ∙ ap (cons_option (step_of other raced ios e)) (same_steps events)

-- what is said of a write that was not started makes no difference
pub log_is_by_started : (history : List Event) (one other : WriteId → Piece → Expected)
    → ((id : ℕ) (io : Started) → slice_get (started history) id ≡ Some io → is_write io.kind ≡ true
    → one io.write io.piece ≡ other io.write io.piece)
    → log_after one history ≡ log_after other history
log_is_by_started history one other same = ap log_of (same_steps one other (has_raced history) (started history) same history)

-- a draw of a pass of a planned clone has blocks
blocks_of_draw : (plan : Plan) (write : WriteId) (job : SubJob) (draw : Draw)
    → IsPlanned plan
    → clone_of plan write.clone ≡ Some job
    → write.pass < job.passes
    → slice_get (draws_of_job job write.pass) write.number ≡ Some draw
    → HasBlocks draw.piece
blocks_of_draw plan write job draw planned at pass drawn =
    let io : Started = record { worker = 0; kind = kind_for (issued_as job draw.dir); write = write; piece = draw.piece } in
    let made : IsDrawn plan io job draw =
    record { planned = at; pass = pass; drawn = drawn; piece = refl; kind = kind_for_draw draw.dir job } in
    blocks_from_fits draw.piece (drawn_fits plan io job draw planned made).fits

module _ (plan : Plan) (history : List Event) (checked_by : WriteId → Piece → Expected) (write : WriteId) (job : SubJob) (draw : Draw)
    (planned : IsPlanned plan) (legal : is_legal plan history ≡ true) (of_job : clone_of plan write.clone ≡ Some job)
    (drawn : slice_get (draws_of_job job write.pass) write.number ≡ Some draw) where
  -- what was started under its name is of its piece
  was_drawn : (id : ℕ) (io : Started)
      → slice_get (started history) id ≡ Some io
      → is_write io.kind ≡ true
      → io.write ≡ write
      → WasStarted history write draw.piece
  was_drawn id io at kind named =
      let found = started_are_drawn-law plan history id io planned legal at in
      let there = found.2 in
      let jobs : found.0 ≡ job = same_Some found.0 job (sym there.planned ∙ ap (λ (w : WriteId). clone_of plan w.clone) named ∙ of_job) in
      let here : slice_get (draws_of_job job write.pass) write.number ≡ Some found.1 =
      subst (λ (w : WriteId). slice_get (draws_of_job job w.pass) w.number ≡ Some found.1) named
      (subst (λ (j : SubJob). slice_get (draws_of_job j io.write.pass) io.write.number ≡ Some found.1) jobs there.drawn) in
      let one : found.1 ≡ draw = same_Some found.1 draw (sym here ∙ drawn) in
      record { place = id; io = io; at = at; kind = kind; named = named; there = there.piece ∙ ap (λ (d : Draw). d.piece) one }

  abbrev shown_if : Bool → Option Logged
  shown_if intact = cond intact (Some (record { piece = draw.piece; expected = checked_by write draw.piece })) None

  abbrev Shown : Type 0
  Shown = logged (log_after checked_by history) write ≡ shown_if (is_intact history write draw.piece)

  -- where the log has nothing of it
  unlogged : (pass : write.pass < job.passes) → logged (log_after checked_by history) write ≡ None → Shown
  unlogged pass none =
      elim (cases_Bool (is_intact history write draw.piece)) [
        | inl whole ↦ log_is_intact plan history checked_by write draw.piece planned legal (found whole)
        | inr broken ↦ none ∙ sym (ap shown_if broken)
      ]
    where
      found : is_intact history write draw.piece ≡ true → WasStarted history write draw.piece
      found whole =
          let blocks = blocks_of_draw plan write job draw planned of_job pass drawn in
          let b = draw.piece.offset / SECTOR + 0 in
          let last : last_write history draw.piece.file b ≡ Some write = intact_at write draw.piece blocks history 0 blocks.some whole in
          let was = last_law plan history legal draw.piece.file b write last in
          was_drawn was.id was.io was.at was.kind was.named

  shown_by : write.pass < job.passes → (o : Option Logged) → logged (log_after checked_by history) write ≡ o → Shown
  shown_by pass None is = unlogged pass is
  shown_by pass (Some entry) is =
      let was = (kept_law plan checked_by history planned legal).known write entry is in
      log_is_intact plan history checked_by write draw.piece planned legal (was_drawn was.id was.io was.at was.kind was.named)

pub log_is_intact_of_draws : (plan : Plan) (history : List Event) (checked_by : WriteId → Piece → Expected)
    (write : WriteId) (job : SubJob) (draw : Draw)
    → IsPlanned plan
    → is_legal plan history ≡ true
    → clone_of plan write.clone ≡ Some job
    → write.pass < job.passes
    → slice_get (draws_of_job job write.pass) write.number ≡ Some draw
    → logged (log_after checked_by history) write
    ≡ cond (is_intact history write draw.piece) (Some (record { piece = draw.piece; expected = checked_by write draw.piece })) None
log_is_intact_of_draws plan history checked_by write job draw planned legal of_job pass drawn =
    shown_by plan history checked_by write job draw planned legal of_job drawn pass (logged (log_after checked_by history) write) refl
