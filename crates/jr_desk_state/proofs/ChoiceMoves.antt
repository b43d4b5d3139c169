-- A clone's step by where the clone stands.
use Rattle.std.proofs.Common.{◌≡◌, ℕ, suc, ◌<◌, List, Bool, true, false, cond, ◌&&◌, ◌||◌, not}
use Rattle.std.proofs.Common.{refl, sym, ◌∙◌, ap, subst}
use Rattle.std.specs.Prelude.{Option, Some, None, slice_get, nat_lt, ◌==◌}
use Rattle.std.specs.List.{list_any}
use Rattle.std.proofs.lemmas.Bool.{and_parts, eqb-true}
use Rattle.jr_desk_state.proofs.IssueMoves.{left_below}
use Rattle.jr_model.specs.declared.events.Event.{Event}
use Rattle.jr_model.specs.declared.events.Event.TheVariants.{Probe, Skip}
use Rattle.jr_model.specs.declared.events.WriteId.{WriteId}
use Rattle.jr_model.specs.declared.workloads.Draw.{Draw}
use Rattle.jr_model.specs.Draws.{draws_of_job}
use Rattle.jr_model.specs.History.{first_given, same_write}
use Rattle.jr_model.specs.LastWrite.{is_intact}
use Rattle.jr_model.specs.Legal.{is_halted, has_room, is_clear, phase_is_open, takes_up}
use Rattle.jr_model.specs.Plan.{Plan, SubJob}
use Rattle.jr_model.specs.Rounds.{pass_of, write_id, is_write_draw, issued_count, has_rounds, no_issue_flies, pass_finished}
use Rattle.jr_model.proofs.Equality.{eq_write}
use Rattle.jr_backlog.specs.CurrentRound.{current_round, last_issued}
use Rattle.jr_model.proofs.PlaceLemmas.{any_found}
use Rattle.jr_model.proofs.LegalLaws.{number_of_draw}
use Rattle.jr_laws_quiet.proofs.Issues.{all_at}
use Rattle.jr_laws_rounds.specs.Rounds.{HasRound}
use Rattle.jr_laws_rounds.specs.Standing.{is_under_way, issue_of, next_issue, take_up, take_up_write, step_in_pass, ChoiceByStanding}
use Rattle.jr_laws_rounds.proofs.ChoiceLaws.{choice_by_standing-law}
use Rattle.jr_laws_rounds.proofs.CurrentLaws.{waits-law, left_in_pass-law, left_unsettled-law}

when : {X : Type 0} (b : Bool) (x y : X) → b ≡ true → cond b x y ≡ x
when b x y h = ap (λ t. cond t x y) h

otherwise : {X : Type 0} (b : Bool) (x y : X) → b ≡ false → cond b x y ≡ y
otherwise b x y h = ap (λ t. cond t x y) h

pub chosen : ChoiceByStanding
chosen = choice_by_standing-law waits-law left_in_pass-law left_unsettled-law

module _ (plan : Plan) (history : List Event) (worker : ℕ) (job : SubJob) (p : ℕ) where
  -- nothing, where the clone is halted or has no room
  pub step_blocked : (is_halted history job || not (has_room history job)) ≡ true → step_in_pass plan history worker job p ≡ None
  step_blocked h = when (is_halted history job || not (has_room history job)) _ _ h

  -- nor where its round waits for what it has in flight
  pub step_barred : (is_halted history job || not (has_room history job)) ≡ false
      → (has_rounds job && is_under_way (current_round job history)) ≡ true → no_issue_flies history job.clone ≡ false
      → step_in_pass plan history worker job p ≡ None
  step_barred free checks flies =
      otherwise (is_halted history job || not (has_room history job)) _ _ free
      ∙ when (has_rounds job && is_under_way (current_round job history)) _ _ checks
      ∙ otherwise (no_issue_flies history job.clone) _ _ flies

  -- the first check or skip of its round
  pub step_checks : (is_halted history job || not (has_room history job)) ≡ false
      → (has_rounds job && is_under_way (current_round job history)) ≡ true → no_issue_flies history job.clone ≡ true
      → step_in_pass plan history worker job p ≡ first_given (take_up_write plan history worker job) (current_round job history).to_check
  step_checks free checks quiet =
      otherwise (is_halted history job || not (has_room history job)) _ _ free
      ∙ when (has_rounds job && is_under_way (current_round job history)) _ _ checks
      ∙ when (no_issue_flies history job.clone) _ _ quiet

  -- and else its next issue
  pub step_issues : (is_halted history job || not (has_room history job)) ≡ false
      → (has_rounds job && is_under_way (current_round job history)) ≡ false
      → step_in_pass plan history worker job p ≡ next_issue plan history worker job p
  step_issues free none =
      otherwise (is_halted history job || not (has_room history job)) _ _ free
      ∙ otherwise (has_rounds job && is_under_way (current_round job history)) _ _ none

  and_false : (b : Bool) → (b && false) ≡ false
  and_false true = refl
  and_false false = refl

  unopened : (q : ℕ) (draw : Option Draw) → phase_is_open plan history job ≡ false
      → issue_of plan history worker (pass_of job q) draw ≡ None
  unopened q None h = refl
  unopened q (Some draw) h =
      otherwise (is_clear plan history job (is_write_draw draw) draw.piece && phase_is_open plan history job) _ _
      (ap (λ b. is_clear plan history job (is_write_draw draw) draw.piece && b) h ∙ and_false (is_clear plan history job (is_write_draw draw) draw.piece))

  same_both : {X : Type 0} (b : Bool) (x y z : X) → x ≡ z → y ≡ z → cond b x y ≡ z
  same_both true x y z first second = first
  same_both false x y z first second = second

  -- of which there is none before its phase
  pub next_unopened : phase_is_open plan history job ≡ false → next_issue plan history worker job p ≡ None
  next_unopened h =
      same_both (pass_finished history (pass_of job p)) _ _ None
      (same_both (nat_lt (suc p) job.passes) _ _ None (unopened (suc p) (slice_get (pass_of job (suc p)).draws 0) h) refl)
      (unopened p (slice_get (pass_of job p).draws (issued_count history (pass_of job p))) h)

  -- of the pass that it is in
  pub next_here : pass_finished history (pass_of job p) ≡ false
      → next_issue plan history worker job p ≡ issue_of plan history worker (pass_of job p)
      (slice_get (draws_of_job job p) (issued_count history (pass_of job p)))
  next_here h = otherwise (pass_finished history (pass_of job p)) _ _ h

  -- or of the next, where that is finished
  pub next_later : pass_finished history (pass_of job p) ≡ true → nat_lt (suc p) job.passes ≡ true
      → next_issue plan history worker job p ≡ issue_of plan history worker (pass_of job (suc p)) (slice_get (draws_of_job job (suc p)) 0)
  next_later h g = when (pass_finished history (pass_of job p)) _ _ h ∙ when (nat_lt (suc p) job.passes) _ _ g

  pub next_none : pass_finished history (pass_of job p) ≡ true → nat_lt (suc p) job.passes ≡ false
      → next_issue plan history worker job p ≡ None
  next_none h g = when (pass_finished history (pass_of job p)) _ _ h ∙ otherwise (nat_lt (suc p) job.passes) _ _ g

-- a write that the current round still has to check is of the pass, and was issued
pub record IsLeft (history : List Event) (job : SubJob) (p : ℕ) (write : WriteId) : Type 0 where
  pub clone : write.clone ≡ job.clone
  pub pass : write.pass ≡ p
  pub issued : write.number < issued_count history (pass_of job p)

pub left_write : (plan : Plan) (history : List Event) (job : SubJob) (p : ℕ) (write : WriteId) → HasRound plan history job p
    → list_any (same_write write) (current_round job history).to_check ≡ true → IsLeft history job p write
left_write plan history job p write has left =
    let round = current_round job history in
    let found = any_found (same_write write) round.to_check left in
    let same : write ≡ found.1 = eq_write write found.1 found.3 in
    let at : slice_get round.to_check found.0
    ≡ Some write = subst (λ (w : WriteId). slice_get round.to_check found.0 ≡ Some w) (sym same) found.2 in
    let parts = and_parts (write.clone == job.clone) (write.pass == p)
    (all_at (λ (w : WriteId). (w.clone == job.clone) && (w.pass == p)) round.to_check found.0 write
    (left_in_pass-law plan history job p has) at) in
    let pass : write.pass ≡ p = eqb-true write.pass p parts.1 in
    let below = left_below history job (last_issued job.clone history) found.0 write at in
    record {
      clone = eqb-true write.clone job.clone parts.0;
      pass = pass;
      issued = subst (λ (q : ℕ). write.number < issued_count history (pass_of job q)) pass below;
    }

-- what is taken up of a draw of this name
module _ (plan : Plan) (history : List Event) (worker : ℕ) (job : SubJob) (write : WriteId) (draw : Draw) (clone : write.clone ≡ job.clone)
    (drawn : slice_get (draws_of_job job write.pass) write.number ≡ Some draw) where
  named : write_id (pass_of job write.pass) draw ≡ write
  named =
      let number : draw.number ≡ write.number = number_of_draw job write.pass write.number draw drawn in
      let made : ℕ → ℕ → WriteId = λ c n. record { clone = c; pass = write.pass; number = n } in
      ap (λ c. made c draw.number) (sym clone) ∙ ap (made write.clone) number

  value : take_up_write plan history worker job write
      ≡ cond (list_any (takes_up write) history || not (is_clear plan history job false draw.piece)) None
      (Some (cond (is_intact history write draw.piece) (Probe worker write draw.piece) (Skip worker write)))
  value =
      ap (take_up plan history worker (pass_of job write.pass)) drawn
      ∙ ap (λ (w : WriteId). cond (list_any (takes_up w) history || not (is_clear plan history job false draw.piece)) None
      (Some (cond (is_intact history w draw.piece) (Probe worker w draw.piece) (Skip worker w)))) named

  pub taken_already : list_any (takes_up write) history ≡ true → take_up_write plan history worker job write ≡ None
  taken_already taken =
      value ∙ ap (λ b. cond (b || not (is_clear plan history job false draw.piece)) None
      (Some (cond (is_intact history write draw.piece) (Probe worker write draw.piece) (Skip worker write)))) taken

  or_true : (b : Bool) → (b || true) ≡ true
  or_true true = refl
  or_true false = refl

  pub barred : is_clear plan history job false draw.piece ≡ false → take_up_write plan history worker job write ≡ None
  barred unclear =
      value
      ∙ ap (λ b. cond (list_any (takes_up write) history || not b) None
      (Some (cond (is_intact history write draw.piece) (Probe worker write draw.piece) (Skip worker write)))) unclear
      ∙ when (list_any (takes_up write) history || true) _ _ (or_true (list_any (takes_up write) history))

  pub taken_now : list_any (takes_up write) history ≡ false → is_clear plan history job false draw.piece ≡ true
      → take_up_write plan history worker job write ≡ Some
      (cond (is_intact history write draw.piece) (Probe worker write draw.piece) (Skip worker write))
  taken_now untaken clear =
      value
      ∙ ap (λ b. cond (b || not (is_clear plan history job false draw.piece)) None
      (Some (cond (is_intact history write draw.piece) (Probe worker write draw.piece) (Skip worker write)))) untaken
      ∙ ap (λ b. cond (not b) None (Some (cond (is_intact history write draw.piece) (Probe worker write draw.piece) (Skip worker write))))
      clear
