-- What an event that may happen says of the draw that it names.
use Rattle.std.proofs.Common.{◌≡◌, ℕ, List, Bool, true, false, cond, ◌&&◌, refl}
use Rattle.std.specs.Prelude.{Option, Some, None, slice_get}
use Rattle.std.proofs.lemmas.Bool.{and_parts, false≢true}
use Rattle.jr_model.specs.declared.blocks.Piece.{Piece}
use Rattle.jr_model.specs.declared.events.Event.{Event}
use Rattle.jr_model.specs.declared.events.Event.TheVariants.{Issue, Probe, Skip}
use Rattle.jr_model.specs.declared.events.IssueKind.{IssueKind}
use Rattle.jr_model.specs.declared.events.WriteId.{WriteId}
use Rattle.jr_model.specs.declared.workloads.Draw.{Draw}
use Rattle.jr_model.specs.Draws.{draws_of_job}
use Rattle.jr_model.specs.History.{same_write, same_piece}
use Rattle.jr_model.specs.LastWrite.{is_intact}
use Rattle.jr_model.specs.Legal.{may_happen, may_take_up, may_issue, step_of_draw, step_of_clone, same_issue, is_this_issue, is_this_probe, is_this_skip}
use Rattle.jr_model.specs.Plan.{Plan, SubJob, clone_of, issued_as}
use Rattle.jr_model.specs.Rounds.{pass_of, write_id}
use Rattle.jr_model.proofs.Equality.{eq_piece, eq_write, eq_issue}

-- equal by test
-- the draw of a planned clone that has this name
pub record IsNamed (plan : Plan) (write : WriteId) (job : SubJob) (draw : Draw) : Type 0 where
  pub planned : clone_of plan write.clone ≡ Some job
  pub drawn : slice_get (draws_of_job job write.pass) write.number ≡ Some draw
  pub name : write_id (pass_of job write.pass) draw ≡ write

-- the draw that is issued, and that it may be
pub record MayIssue (plan : Plan) (history : List Event) (dir : IssueKind) (write : WriteId) (piece : Piece) : Type 0 where
  pub job : SubJob
  pub draw : Draw
  pub named : IsNamed plan write job draw
  pub may : may_issue plan history (pass_of job write.pass) draw ≡ true
  pub same_way : issued_as job draw.dir ≡ dir
  pub same_place : draw.piece ≡ piece

-- the draw that is checked or skipped, and that it may be
pub record MayTakeUp (plan : Plan) (history : List Event) (write : WriteId) : Type 0 where
  pub job : SubJob
  pub draw : Draw
  pub named : IsNamed plan write job draw
  pub may : may_take_up plan history (pass_of job write.pass) draw ≡ true

issue_conds : (checks intact issues : Bool) (worker : ℕ) (d dir : IssueKind) (w write : WriteId) (p piece : Piece)
    → is_this_issue dir write piece (cond checks (Some (cond intact (Probe worker w p) (Skip worker w))) (cond issues (Some (Issue worker d w p)) None)) ≡ true
    → (issues ≡ true) × ((same_issue d dir && same_write w write && same_piece p piece) ≡ true)
issue_conds true true issues worker d dir w write p piece h = absurd (false≢true h)
issue_conds true false issues worker d dir w write p piece h = absurd (false≢true h)
issue_conds false intact true worker d dir w write p piece h = (refl, h)
issue_conds false intact false worker d dir w write p piece h = absurd (false≢true h)

probe_conds : (checks intact issues : Bool) (worker : ℕ) (d : IssueKind) (w write : WriteId) (p piece : Piece)
    → is_this_probe write piece (cond checks (Some (cond intact (Probe worker w p) (Skip worker w))) (cond issues (Some (Issue worker d w p)) None)) ≡ true
    → (checks ≡ true) × ((same_write w write && same_piece p piece) ≡ true)
probe_conds true true issues worker d w write p piece h = (refl, h)
probe_conds true false issues worker d w write p piece h = absurd (false≢true h)
probe_conds false intact true worker d w write p piece h = absurd (false≢true h)
probe_conds false intact false worker d w write p piece h = absurd (false≢true h)

skip_conds : (checks intact issues : Bool) (worker : ℕ) (d : IssueKind) (w write : WriteId) (p : Piece)
    → is_this_skip write (cond checks (Some (cond intact (Probe worker w p) (Skip worker w))) (cond issues (Some (Issue worker d w p)) None)) ≡ true
    → (checks ≡ true) × (same_write w write ≡ true)
skip_conds true true issues worker d w write p h = absurd (false≢true h)
skip_conds true false issues worker d w write p h = (refl, h)
skip_conds false intact true worker d w write p h = absurd (false≢true h)
skip_conds false intact false worker d w write p h = absurd (false≢true h)

module _ (plan : Plan) (history : List Event) (worker : ℕ) (write : WriteId) where
  issue_draw : (dir : IssueKind) (piece : Piece) (job : SubJob) (o : Option Draw)
      → clone_of plan write.clone ≡ Some job
      → slice_get (draws_of_job job write.pass) write.number ≡ o
      → is_this_issue dir write piece (step_of_draw plan history worker (pass_of job write.pass) o) ≡ true
      → MayIssue plan history dir write piece
  issue_draw dir piece job None planned drawn h = absurd (false≢true h)
  issue_draw dir piece job (Some draw) planned drawn h =
      let pass = pass_of job write.pass in
      let w = write_id pass draw in
      let found = issue_conds (may_take_up plan history pass draw) (is_intact history w draw.piece) (may_issue plan history pass draw) worker (issued_as job draw.dir) dir w write draw.piece piece h in
      let same = and_parts (same_issue (issued_as job draw.dir) dir && same_write w write) (same_piece draw.piece piece) found.1 in
      let front = and_parts (same_issue (issued_as job draw.dir) dir) (same_write w write) same.0 in
      record {
        job = job;
        draw = draw;
        named = record { planned = planned; drawn = drawn; name = eq_write w write front.1 };
        may = found.0;
        same_way = eq_issue (issued_as job draw.dir) dir front.0;
        same_place = eq_piece draw.piece piece same.1;
      }

  probe_draw : (piece : Piece) (job : SubJob) (o : Option Draw)
      → clone_of plan write.clone ≡ Some job
      → slice_get (draws_of_job job write.pass) write.number ≡ o
      → is_this_probe write piece (step_of_draw plan history worker (pass_of job write.pass) o) ≡ true
      → (step : MayTakeUp plan history write) × (step.draw.piece ≡ piece)
  probe_draw piece job None planned drawn h = absurd (false≢true h)
  probe_draw piece job (Some draw) planned drawn h =
      let pass = pass_of job write.pass in
      let w = write_id pass draw in
      let found = probe_conds (may_take_up plan history pass draw) (is_intact history w draw.piece) (may_issue plan history pass draw) worker (issued_as job draw.dir) w write draw.piece piece h in
      let same = and_parts (same_write w write) (same_piece draw.piece piece) found.1 in (
        record {
          job = job;
          draw = draw;
          named = record { planned = planned; drawn = drawn; name = eq_write w write same.0 };
          may = found.0;
        },
        eq_piece draw.piece piece same.1,
      )

  skip_draw : (job : SubJob) (o : Option Draw)
      → clone_of plan write.clone ≡ Some job
      → slice_get (draws_of_job job write.pass) write.number ≡ o
      → is_this_skip write (step_of_draw plan history worker (pass_of job write.pass) o) ≡ true
      → MayTakeUp plan history write
  skip_draw job None planned drawn h = absurd (false≢true h)
  skip_draw job (Some draw) planned drawn h =
      let pass = pass_of job write.pass in
      let w = write_id pass draw in
      let found = skip_conds (may_take_up plan history pass draw) (is_intact history w draw.piece) (may_issue plan history pass draw) worker (issued_as job draw.dir) w write draw.piece h in
      record {
        job = job;
        draw = draw;
        named = record { planned = planned; drawn = drawn; name = eq_write w write found.1 };
        may = found.0;
      }

  issue_clone : (dir : IssueKind) (piece : Piece) (o : Option SubJob)
      → clone_of plan write.clone ≡ o
      → is_this_issue dir write piece (step_of_clone plan history worker write o) ≡ true
      → MayIssue plan history dir write piece
  issue_clone dir piece None planned h = absurd (false≢true h)
  issue_clone dir piece (Some job) planned h =
      issue_draw dir piece job (slice_get (draws_of_job job write.pass) write.number) planned refl h

  probe_clone : (piece : Piece) (o : Option SubJob)
      → clone_of plan write.clone ≡ o
      → is_this_probe write piece (step_of_clone plan history worker write o) ≡ true
      → (step : MayTakeUp plan history write) × (step.draw.piece ≡ piece)
  probe_clone piece None planned h = absurd (false≢true h)
  probe_clone piece (Some job) planned h =
      probe_draw piece job (slice_get (draws_of_job job write.pass) write.number) planned refl h

  skip_clone : (o : Option SubJob)
      → clone_of plan write.clone ≡ o
      → is_this_skip write (step_of_clone plan history worker write o) ≡ true
      → MayTakeUp plan history write
  skip_clone None planned h = absurd (false≢true h)
  skip_clone (Some job) planned h =
      skip_draw job (slice_get (draws_of_job job write.pass) write.number) planned refl h

-- an issue that may happen is that of a draw that may be issued
pub may_issue_of : (plan : Plan) (history : List Event) (worker : ℕ) (dir : IssueKind) (write : WriteId) (piece : Piece) → may_happen plan history (Issue worker dir write piece) ≡ true → MayIssue plan history dir write piece
may_issue_of plan history worker dir write piece may =
    issue_clone plan history worker write dir piece (clone_of plan write.clone) refl may

-- a check that may happen is that of a write that may be taken up
pub may_probe_of : (plan : Plan) (history : List Event) (worker : ℕ) (write : WriteId) (piece : Piece) → may_happen plan history (Probe worker write piece) ≡ true → (step : MayTakeUp plan history write) × (step.draw.piece ≡ piece)
may_probe_of plan history worker write piece may =
    probe_clone plan history worker write piece (clone_of plan write.clone) refl may

-- a skip that may happen is that of a write that may be taken up
pub may_skip_of : (plan : Plan) (history : List Event) (worker : ℕ) (write : WriteId) → may_happen plan history (Skip worker write) ≡ true → MayTakeUp plan history write
may_skip_of plan history worker write may =
    skip_clone plan history worker write (clone_of plan write.clone) refl may
