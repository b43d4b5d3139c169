-- In a legal history no more draws of a pass are issued than it has.
use Rattle.std.proofs.Common.{◌≡◌, ℕ, ◌+◌, ◌*◌, ◌<◌, ◌≤◌, List, [], ◌∷◌, ◌++◌, length, Bool, true, false, cond, ◌&&◌, not, refl, sym, ◌∙◌, ap, subst, arith, inl, inr, append-nil, append_assoc}
use Rattle.std.specs.Prelude.{Option, Some, None, slice_get, ◌==◌}
use Rattle.std.proofs.lemmas.Bool.{and_parts, eqb-true, cases_Bool}
use Rattle.std.proofs.lemmas.List.Sums.{sum_by_push}
use Rattle.std.proofs.lemmas.Option.{slice_get_within}
use Rattle.jr_model.specs.declared.blocks.Piece.{Piece}
use Rattle.jr_model.specs.declared.events.Event.{Event}
use Rattle.jr_model.specs.declared.events.Event.TheVariants.{Issue, Probe, Skip, End, Verdict}
use Rattle.jr_model.specs.declared.events.IssueKind.{IssueKind}
use Rattle.jr_model.specs.declared.events.WriteId.{WriteId}
use Rattle.jr_model.specs.declared.workloads.Draw.{Draw}
use Rattle.jr_model.specs.Draws.{fresh_progress, draws_of_job}
use Rattle.jr_model.specs.LastWrite.{is_intact}
use Rattle.jr_model.specs.Legal.{is_halted, phase_is_open, has_room, is_clear, may_issue, may_take_up, step_of_draw, step_of_clone, is_this_issue, may_happen, legal_after, is_legal}
use Rattle.jr_model.specs.Plan.{Plan, SubJob, IsNumbered, clone_of, issued_as}
use Rattle.jr_model.specs.Rounds.{Pass, pass_of, write_id, is_write_draw, issues_of, issued_count, is_current, waits_for_round}
use Rattle.jr_model.specs.Words.{pass_words}
use Rattle.jr_model.proofs.LegalLaws.{number-draws_from}
use Rattle.jr_laws_steps.proofs.GroupLaws.{AreNumbered}

-- the draws of a pass are numbered from 0 on
pub numbered_draws : (job : SubJob) (p : ℕ) → AreNumbered 0 (pass_of job p).draws
numbered_draws job p k draw at = number-draws_from job (fresh_progress job) (pass_words job p (4 * job.cells)) k draw at

-- what may be issued has the number of those issued before
issued_in_order : (plan : Plan) (history : List Event) (pass : Pass) (draw : Draw) → may_issue plan history pass draw ≡ true → draw.number ≡ issued_count history pass
issued_in_order plan history pass draw h =
    let counted = draw.number == issued_count history pass in
    let going = not (is_halted history pass.job) in
    let room = has_room history pass.job in
    let clear = is_clear plan history pass.job (is_write_draw draw) draw.piece in
    let current = is_current history pass in
    let free = not (waits_for_round history pass) in
    let opened = phase_is_open plan history pass.job in
    let six = and_parts (counted && going && room && clear && current && free) opened h in
    let five = and_parts (counted && going && room && clear && current) free six.0 in
    let four = and_parts (counted && going && room && clear) current five.0 in
    let three = and_parts (counted && going && room) clear four.0 in
    let two = and_parts (counted && going) room three.0 in
    eqb-true draw.number (issued_count history pass) (and_parts counted going two.0).0

-- a step that is an issue is one that may be issued
issue_may : (takes may intact : Bool) (worker : ℕ) (d dir : IssueKind) (w write : WriteId) (p piece : Piece) → is_this_issue dir write piece (cond takes (Some (cond intact (Probe worker w p) (Skip worker w))) (cond may (Some (Issue worker d w p)) None)) ≡ true → may ≡ true
issue_may true may true worker d dir w write p piece h = cc
issue_may true may false worker d dir w write p piece h = cc
issue_may false true intact worker d dir w write p piece h = refl
issue_may false false intact worker d dir w write p piece h = cc

-- the draw that an event issues is one of the pass, so fewer were issued before
issue_within : (plan : Plan) (history : List Event) (worker k : ℕ) (dir : IssueKind) (write : WriteId) (piece : Piece) (pass : Pass) (o : Option Draw) → AreNumbered 0 pass.draws → slice_get pass.draws k ≡ o → is_this_issue dir write piece (step_of_draw plan history worker pass o) ≡ true → issued_count history pass < length pass.draws
issue_within plan history worker k dir write piece pass None numbered at h = cc
issue_within plan history worker k dir write piece pass (Some draw) numbered at h =
    let may = issue_may (may_take_up plan history pass draw) (may_issue plan history pass draw) (is_intact history (write_id pass draw) draw.piece) worker (issued_as pass.job draw.dir) dir (write_id pass draw) write draw.piece piece h in
    let next = issued_in_order plan history pass draw may in
    let number = numbered k draw at in
    let within = slice_get_within pass.draws k draw at in
    omega (arith, next, number, within)

-- one more event in the count
issued_with : (history : List Event) (e : Event) (pass : Pass) (b : Bool) → issues_of pass e ≡ b → issued_count (history ++ e ∷ []) pass ≡ issued_count history pass + cond b 1 0
issued_with history e pass b same =
    sum_by_push (λ (x : Event). cond (issues_of pass x) 1 0) history e
    ∙ ap (λ (c : Bool). issued_count history pass + cond c 1 0) same

module _ (plan : Plan) (i p : ℕ) (job : SubJob) (numbered : IsNumbered plan) (at : slice_get plan.clones i ≡ Some job) where
  -- an event that issues a draw of the pass finds one that isn't issued
  fewer_before : (history : List Event) (e : Event) → issues_of (pass_of job p) e ≡ true → may_happen plan history e ≡ true → issued_count history (pass_of job p) < length (draws_of_job job p)
  fewer_before history (Probe worker probed piece) issues may = cc
  fewer_before history (Skip worker skipped) issues may = cc
  fewer_before history (End worker io outcome) issues may = cc
  fewer_before history (Verdict worker io verdict) issues may = cc
  fewer_before history (Issue worker dir write piece) issues may =
      let names = and_parts (write.clone == job.clone) (write.pass == p) issues in
      let clone : i ≡ write.clone = sym (eqb-true write.clone job.clone names.0 ∙ numbered i job at) in
      let planned : clone_of plan write.clone ≡ Some job = subst (λ (c : ℕ). slice_get plan.clones c ≡ Some job) clone at in
      let of_job = subst (λ (o : Option SubJob). is_this_issue dir write piece (step_of_clone plan history worker write o) ≡ true) planned may in
      let of_pass = subst (λ (q : ℕ). is_this_issue dir write piece (step_of_draw plan history worker (pass_of job q) (slice_get (draws_of_job job q) write.number)) ≡ true) (eqb-true write.pass p names.1) of_job in
      issue_within plan history worker write.number dir write piece (pass_of job p) (slice_get (draws_of_job job p) write.number) (numbered_draws job p) refl of_pass

  issued_more : (history : List Event) (e : Event) → may_happen plan history e ≡ true → issued_count history (pass_of job p) ≤ length (draws_of_job job p) → issued_count (history ++ e ∷ []) (pass_of job p) ≤ length (draws_of_job job p)
  issued_more history e may few =
      let pass = pass_of job p in
      elim (cases_Bool (issues_of pass e)) [
        | inl issues ↦ omega (arith, issued_with history e pass true issues, fewer_before history e issues may)
        | inr other ↦ omega (arith, issued_with history e pass false other, few)
      ]

issued_after : (plan : Plan) (i p : ℕ) (job : SubJob) (before events : List Event) → IsNumbered plan → slice_get plan.clones i ≡ Some job → legal_after plan before events ≡ true → issued_count before (pass_of job p) ≤ length (draws_of_job job p) → issued_count (before ++ events) (pass_of job p) ≤ length (draws_of_job job p)
issued_after plan i p job before [] numbered at legal few =
    subst (λ (all : List Event). issued_count all (pass_of job p) ≤ length (draws_of_job job p)) (sym (append-nil before)) few
issued_after plan i p job before (e ∷ events) numbered at legal few =
    let parts = and_parts (may_happen plan before e) (legal_after plan (before ++ e ∷ []) events) legal in
    subst (λ (all : List Event). issued_count all (pass_of job p) ≤ length (draws_of_job job p)) (append_assoc before (e ∷ []) events)
    (issued_after plan i p job (before ++ e ∷ []) events numbered at parts.1 (issued_more plan i p job numbered at before e parts.0 few))

-- no more draws of a pass of a planned clone are issued than there are
pub issued_at_most : (plan : Plan) (history : List Event) (i p : ℕ) (job : SubJob) → IsNumbered plan → slice_get plan.clones i ≡ Some job → is_legal plan history ≡ true → issued_count history (pass_of job p) ≤ length (draws_of_job job p)
issued_at_most plan history i p job numbered at legal = issued_after plan i p job [] history numbered at legal (omega arith)
