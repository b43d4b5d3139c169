-- What may happen, and how much of a plan is left after it: an issue takes a draw that was not issued, and a check or
-- skip a write that was neither checked nor skipped.
use Rattle.std.proofs.Common.{◌≡◌, ℕ, ◌+◌, ◌-◌, ◌<◌, ◌≤◌, List, [], ◌∷◌, ◌++◌, length, Bool, true, false, cond, not, ◌&&◌, ◌||◌, refl, sym, ◌∙◌, ap, subst, arith, inl, inr}
use Rattle.std.specs.Prelude.{◌⊎◌, Option, Some, None, slice_get, count_by, nat_lt, ◌==◌}
use Rattle.std.specs.List.{list_any}
use Rattle.std.proofs.lemmas.Bool.{and_parts, and_from, or_cases, or_parts, or_left, or_right, not-true, not_from_true, not_from_false, cases_cond, eqb-true, eq-eqb, ltb-true, le-ltb, cases_eq, cases_Bool}
use Rattle.std.proofs.lemmas.List.Folds.{list_any-append}
use Rattle.std.proofs.lemmas.List.Sums.{sum_by-append, sum_by-cons}
use Rattle.std.proofs.lemmas.Option.{same_Some, slice_get_within}
use Rattle.jr_model.specs.declared.blocks.Piece.{Piece}
use Rattle.jr_model.specs.declared.events.Event.{Event}
use Rattle.jr_model.specs.declared.events.Event.TheVariants.{Issue, Probe, Skip, End, Verdict}
use Rattle.jr_model.specs.declared.events.IssueKind.{IssueKind}
use Rattle.jr_model.specs.declared.events.WriteId.{WriteId}
use Rattle.jr_model.specs.declared.workloads.Draw.{Draw}
use Rattle.jr_model.specs.Draws.{draws_of_job}
use Rattle.jr_model.specs.History.{same_write, same_piece}
use Rattle.jr_model.specs.LastWrite.{is_intact}
use Rattle.jr_model.specs.Legal.{may_happen, may_take_up, may_issue, takes_up, is_halted, has_room, is_clear, phase_is_open, check_or_skip, step_of, step_of_draw, step_of_clone, step_at, same_issue, is_this_issue, is_this_probe, is_this_skip}
use Rattle.jr_model.specs.Plan.{Plan, SubJob, IsNumbered, clone_of, issued_as}
use Rattle.jr_model.specs.Rounds.{Pass, pass_of, write_id, is_write_draw, issues_of, issued_count, issued_among, all_issued, has_rounds, group_of, group_index, is_full, is_open, is_current, pass_finished, waits_for_round}
use Rattle.jr_model.proofs.HistoryLemmas.{issued_push, open_is_full}
use Rattle.jr_laws_steps.proofs.CountLemmas.{count_by_most, count_by_less, sum_of_plan, sum_of_plan_most, sum_of_plan_less}

-- one name twice, by its parts

pub record IsSame (a b : WriteId) : Type 0 where
  pub clone : a.clone ≡ b.clone
  pub pass : a.pass ≡ b.pass
  pub number : a.number ≡ b.number

pub same_parts : (a b : WriteId) → same_write a b ≡ true → IsSame a b
same_parts a b h =
    let outer = and_parts ((a.clone == b.clone) && (a.pass == b.pass)) (a.number == b.number) h in
    let inner = and_parts (a.clone == b.clone) (a.pass == b.pass) outer.0 in
    record {
      clone = eqb-true a.clone b.clone inner.0;
      pass = eqb-true a.pass b.pass inner.1;
      number = eqb-true a.number b.number outer.1;
    }

pub same_back : (a b : WriteId) → same_write a b ≡ true → same_write b a ≡ true
same_back a b h =
    let same = same_parts a b h in
    and_from ((b.clone == a.clone) && (b.pass == a.pass)) (b.number == a.number)
    (and_from (b.clone == a.clone) (b.pass == a.pass) (eq-eqb b.clone a.clone (sym same.clone)) (eq-eqb b.pass a.pass (sym same.pass)))
    (eq-eqb b.number a.number (sym same.number))

-- the step at a name is the step of a draw of a planned clone

pub record IsStepOf (plan : Plan) (history : List Event) (worker : ℕ) (write : WriteId) (e : Event) : Type 0 where
  pub job : SubJob
  pub draw : Draw
  pub planned : clone_of plan write.clone ≡ Some job
  pub drawn : slice_get (draws_of_job job write.pass) write.number ≡ Some draw
  pub step : step_of plan history worker (pass_of job write.pass) draw ≡ Some e

of_draw : (plan : Plan) (history : List Event) (worker : ℕ) (write : WriteId) (e : Event) (job : SubJob) (o : Option Draw) → clone_of plan write.clone ≡ Some job → slice_get (draws_of_job job write.pass) write.number ≡ o → step_of_draw plan history worker (pass_of job write.pass) o ≡ Some e → IsStepOf plan history worker write e
of_draw plan history worker write e job None planned drawn step = cc
of_draw plan history worker write e job (Some draw) planned drawn step =
    record { job = job; draw = draw; planned = planned; drawn = drawn; step = step }

of_clone : (plan : Plan) (history : List Event) (worker : ℕ) (write : WriteId) (e : Event) (o : Option SubJob) → clone_of plan write.clone ≡ o → step_of_clone plan history worker write o ≡ Some e → IsStepOf plan history worker write e
of_clone plan history worker write e None planned step = cc
of_clone plan history worker write e (Some job) planned step =
    of_draw plan history worker write e job (slice_get (draws_of_job job write.pass) write.number) planned refl step

pub step_at_is : (plan : Plan) (history : List Event) (worker : ℕ) (write : WriteId) (e : Event) → step_at plan history worker write ≡ Some e → IsStepOf plan history worker write e
step_at_is plan history worker write e h = of_clone plan history worker write e (clone_of plan write.clone) refl h

-- a step of a draw is its check or skip where that may be, else its issue where that may be
two_conds : (a b : Bool) (x y z : Event) → cond a (Some x) (cond b (Some y) None) ≡ Some z → ((a ≡ true) × (z ≡ x)) ⊎ ((b ≡ true) × (z ≡ y))
two_conds true b x y z h = inl (refl, sym (same_Some x z h))
two_conds false true x y z h = inr (refl, sym (same_Some y z h))
two_conds false false x y z h = cc

pub cases_of_step : (plan : Plan) (history : List Event) (worker : ℕ) (pass : Pass) (draw : Draw) (e : Event) → step_of plan history worker pass draw ≡ Some e → ((may_take_up plan history pass draw ≡ true) × ((e ≡ Probe worker (write_id pass draw) draw.piece) ⊎ (e ≡ Skip worker (write_id pass draw)))) ⊎ ((may_issue plan history pass draw ≡ true) × (e ≡ Issue worker (issued_as pass.job draw.dir) (write_id pass draw) draw.piece))
cases_of_step plan history worker pass draw e h =
    let write = write_id pass draw in
    elim (two_conds (may_take_up plan history pass draw) (may_issue plan history pass draw) (check_or_skip history worker pass draw) (Issue worker (issued_as pass.job draw.dir) write draw.piece) e h) [
      | inl taken ↦
          inl (taken.0, cases_cond (is_intact history write draw.piece) (Probe worker write draw.piece) (Skip worker write) e taken.1)
      | inr issued ↦ inr issued
    ]

-- the same of the event that it was asked for

pub record Issues (plan : Plan) (history : List Event) (write : WriteId) : Type 0 where
  pub job : SubJob
  pub draw : Draw
  pub planned : clone_of plan write.clone ≡ Some job
  pub drawn : slice_get (draws_of_job job write.pass) write.number ≡ Some draw
  pub may : may_issue plan history (pass_of job write.pass) draw ≡ true
  pub same : same_write (write_id (pass_of job write.pass) draw) write ≡ true

pub record TakesUp (plan : Plan) (history : List Event) (write : WriteId) : Type 0 where
  pub job : SubJob
  pub draw : Draw
  pub planned : clone_of plan write.clone ≡ Some job
  pub drawn : slice_get (draws_of_job job write.pass) write.number ≡ Some draw
  pub may : may_take_up plan history (pass_of job write.pass) draw ≡ true
  pub same : same_write (write_id (pass_of job write.pass) draw) write ≡ true

-- a name of an issue, of a check, of a skip
module _ (plan : Plan) (history : List Event) (worker : ℕ) (write : WriteId) where
  issue_from : (by : ℕ) (dir d : IssueKind) (piece p : Piece) (w : WriteId) → step_at plan history worker write ≡ Some (Issue by d w p) → is_this_issue dir write piece (Some (Issue by d w p)) ≡ true → Issues plan history write
  issue_from by dir d piece p w at this =
      let found = step_at_is plan history worker write (Issue by d w p) at in
      let pass = pass_of found.job write.pass in
      let same : same_write w write ≡ true =
      (and_parts (same_issue d dir) (same_write w write) (and_parts (same_issue d dir && same_write w write) (same_piece p piece) this).0).1 in
      elim (cases_of_step plan history worker pass found.draw (Issue by d w p) found.step) [
        | inl taken ↦ elim taken.1 [ inl probe ↦ cc | inr skip ↦ cc ]
        | inr issued ↦
            let named : w ≡ write_id pass found.draw = cc (issued.1) in
            record {
              job = found.job;
              draw = found.draw;
              planned = found.planned;
              drawn = found.drawn;
              may = issued.0;
              same = subst (λ (x : WriteId). same_write x write ≡ true) named same;
            }
      ]

  probe_from : (by : ℕ) (piece p : Piece) (w : WriteId) → step_at plan history worker write ≡ Some (Probe by w p) → is_this_probe write piece (Some (Probe by w p)) ≡ true → TakesUp plan history write
  probe_from by piece p w at this =
      let found = step_at_is plan history worker write (Probe by w p) at in
      let pass = pass_of found.job write.pass in
      let same : same_write w write ≡ true = (and_parts (same_write w write) (same_piece p piece) this).0 in
      elim (cases_of_step plan history worker pass found.draw (Probe by w p) found.step) [
        | inl taken ↦
            let named : w ≡ write_id pass found.draw = elim taken.1 [ inl probe ↦ cc | inr skip ↦ cc ] in
            record {
              job = found.job;
              draw = found.draw;
              planned = found.planned;
              drawn = found.drawn;
              may = taken.0;
              same = subst (λ (x : WriteId). same_write x write ≡ true) named same;
            }
        | inr issued ↦ cc (issued.1)
      ]

  skip_from : (by : ℕ) (w : WriteId) → step_at plan history worker write ≡ Some (Skip by w) → is_this_skip write (Some (Skip by w)) ≡ true → TakesUp plan history write
  skip_from by w at this =
      let found = step_at_is plan history worker write (Skip by w) at in
      let pass = pass_of found.job write.pass in
      elim (cases_of_step plan history worker pass found.draw (Skip by w) found.step) [
        | inl taken ↦
            let named : w ≡ write_id pass found.draw = elim taken.1 [ inl probe ↦ cc | inr skip ↦ cc ] in
            record {
              job = found.job;
              draw = found.draw;
              planned = found.planned;
              drawn = found.drawn;
              may = taken.0;
              same = subst (λ (x : WriteId). same_write x write ≡ true) named this;
            }
        | inr issued ↦ cc (issued.1)
      ]

  issues_at : (dir : IssueKind) (piece : Piece) (o : Option Event) → step_at plan history worker write ≡ o → is_this_issue dir write piece o ≡ true → Issues plan history write
  issues_at dir piece (Some (Issue by d w p)) at this = issue_from by dir d piece p w at this
  issues_at dir piece (Some (Probe by w p)) at this = cc
  issues_at dir piece (Some (Skip by w)) at this = cc
  issues_at dir piece (Some (End by io outcome)) at this = cc
  issues_at dir piece (Some (Verdict by io verdict)) at this = cc
  issues_at dir piece None at this = cc

  probes_at : (piece : Piece) (o : Option Event) → step_at plan history worker write ≡ o → is_this_probe write piece o ≡ true → TakesUp plan history write
  probes_at piece (Some (Probe by w p)) at this = probe_from by piece p w at this
  probes_at piece (Some (Issue by d w p)) at this = cc
  probes_at piece (Some (Skip by w)) at this = cc
  probes_at piece (Some (End by io outcome)) at this = cc
  probes_at piece (Some (Verdict by io verdict)) at this = cc
  probes_at piece None at this = cc

  skips_at : (o : Option Event) → step_at plan history worker write ≡ o → is_this_skip write o ≡ true → TakesUp plan history write
  skips_at (Some (Skip by w)) at this = skip_from by w at this
  skips_at (Some (Issue by d w p)) at this = cc
  skips_at (Some (Probe by w p)) at this = cc
  skips_at (Some (End by io outcome)) at this = cc
  skips_at (Some (Verdict by io verdict)) at this = cc
  skips_at None at this = cc

-- an issue, a check and a skip that may happen

pub may_issue_is : (plan : Plan) (history : List Event) (worker : ℕ) (dir : IssueKind) (write : WriteId) (piece : Piece) → may_happen plan history (Issue worker dir write piece) ≡ true → Issues plan history write
may_issue_is plan history worker dir write piece may =
    issues_at plan history worker write dir piece (step_at plan history worker write) refl may

pub may_probe_is : (plan : Plan) (history : List Event) (worker : ℕ) (write : WriteId) (piece : Piece) → may_happen plan history (Probe worker write piece) ≡ true → TakesUp plan history write
may_probe_is plan history worker write piece may =
    probes_at plan history worker write piece (step_at plan history worker write) refl may

pub may_skip_is : (plan : Plan) (history : List Event) (worker : ℕ) (write : WriteId) → may_happen plan history (Skip worker write) ≡ true → TakesUp plan history write
may_skip_is plan history worker write may =
    skips_at plan history worker write (step_at plan history worker write) refl may

-- what of it counts

seven_parts : (a b c d e f g : Bool) → ((((((a && b) && c) && d) && e) && f) && g) ≡ true → (a ≡ true) × (c ≡ true) × (e ≡ true) × (g ≡ true)
seven_parts a b c d e f g h =
    let at_g = and_parts (((((a && b) && c) && d) && e) && f) g h in
    let at_f = and_parts ((((a && b) && c) && d) && e) f at_g.0 in
    let at_e = and_parts (((a && b) && c) && d) e at_f.0 in
    let at_d = and_parts ((a && b) && c) d at_e.0 in
    let at_c = and_parts (a && b) c at_d.0 in
    let at_b = and_parts a b at_c.0 in (at_b.0, at_c.1, at_e.1, at_g.1)

-- the pass is one of its clone's, and the draw the next to be issued
pub issue_is_next : (plan : Plan) (history : List Event) (pass : Pass) (draw : Draw) → may_issue plan history pass draw ≡ true → (draw.number ≡ issued_count history pass) × (pass.number < pass.job.passes)
issue_is_next plan history pass draw may =
    let parts = seven_parts (draw.number == issued_count history pass) (not (is_halted history pass.job)) (has_room history pass.job) (is_clear plan history pass.job (is_write_draw draw) draw.piece) (is_current history pass) (not (waits_for_round history pass)) (phase_is_open plan history pass.job) may in
    let current = current_parts pass.number pass.job.passes (not (pass_finished history pass)) _ parts.2 in
    (eqb-true draw.number (issued_count history pass) parts.0, current)
  where
    current_parts : (p passes : ℕ) (b c : Bool) → ((nat_lt p passes && b) && c) ≡ true → p < passes
    current_parts p passes b c h =
        ltb-true p passes (and_parts (nat_lt p passes) b (and_parts (nat_lt p passes && b) c h).0).0

-- the write was neither checked nor skipped, and its round is open
pub take_up_is_new : (plan : Plan) (history : List Event) (pass : Pass) (draw : Draw) → may_take_up plan history pass draw ≡ true → (list_any (takes_up (write_id pass draw)) history ≡ false) × (is_open history pass (group_index pass draw.number) ≡ true)
take_up_is_new plan history pass draw may =
    let parts = seven_parts (is_write_draw draw) (has_rounds pass.job) (not (list_any (takes_up (write_id pass draw)) history)) (not (is_halted history pass.job)) (has_room history pass.job) (is_clear plan history pass.job false draw.piece) (is_open history pass (group_index pass draw.number)) may in
    (not-true (list_any (takes_up (write_id pass draw)) history) parts.1, parts.3)

-- none of these draws is below zero
none_below : (draws : List Draw) (n : ℕ) → n ≡ 0 → count_by (λ (draw : Draw). nat_lt draw.number n) draws ≡ 0
none_below [] n e = refl
none_below (draw ∷ draws) n e =
    let below : nat_lt draw.number n ≡ false = le-ltb draw.number n (omega (arith, e)) in
    let here = ap (λ (b : Bool). cond {A = ℕ} b 1 0) below in
    omega (arith, sum_by-cons (λ (d : Draw). cond (nat_lt d.number n) 1 0) draw draws, here, none_below draws n e)

-- where a group of a pass with draws is full, some draw was issued
pub full_is_issued : (history : List Event) (pass : Pass) (g k : ℕ) (draw : Draw) → slice_get pass.draws k ≡ Some draw → is_full history pass g ≡ true → 0 < issued_count history pass
full_is_issued history pass g k draw at full =
    let group = group_of pass g in
    elim (or_cases (all_issued history pass) (nat_lt 0 pass.job.backlog && (issued_among history pass group == pass.job.backlog)) full) [
      | inl all ↦
          omega (arith, eqb-true (issued_count history pass) (length pass.draws) all, slice_get_within pass.draws k draw at)
      | inr some ↦
          some_issued (issued_count history pass) group pass.job.backlog some
    ]
  where
    some_issued : (n : ℕ) (draws : List Draw) (backlog : ℕ) → (nat_lt 0 backlog && (count_by (λ (d : Draw). nat_lt d.number n) draws == backlog)) ≡ true → 0 < n
    some_issued n draws backlog h =
        let parts = and_parts (nat_lt 0 backlog) (count_by (λ (d : Draw). nat_lt d.number n) draws == backlog) h in
        elim (cases_eq n 0) [
          | inl none ↦
              omega (arith, none_below draws n none, ltb-true 0 backlog parts.0, eqb-true (count_by (λ (d : Draw). nat_lt d.number n) draws) backlog parts.1)
          | inr some ↦ omega arith
        ]

-- what is left

-- the draws of a pass that were not issued
abbrev pub unissued : List Event → Pass → ℕ
unissued history pass = length pass.draws - issued_count history pass

-- the write was neither checked nor skipped
abbrev pub is_untaken : List Event → Pass → Draw → Bool
is_untaken history pass draw = not (list_any (takes_up (write_id pass draw)) history)

-- the draws of a pass that were neither checked nor skipped
abbrev pub untaken : List Event → Pass → ℕ
untaken history pass = count_by (is_untaken history pass) pass.draws

abbrev pub all_unissued : Plan → List Event → ℕ
all_unissued plan history = sum_of_plan (unissued history) plan

abbrev pub all_untaken : Plan → List Event → ℕ
all_untaken plan history = sum_of_plan (untaken history) plan

-- it never grows

pub issued-append : (history more : List Event) (pass : Pass) → issued_count (history ++ more) pass ≡ issued_count history pass + issued_count more pass
issued-append history more pass = sum_by-append (λ (e : Event). cond (issues_of pass e) 1 0) history more

pub unissued_most : (history more : List Event) (pass : Pass) → unissued (history ++ more) pass ≤ unissued history pass
unissued_most history more pass = omega (arith, issued-append history more pass)

still_untaken : (history more : List Event) (pass : Pass) (draw : Draw) → is_untaken (history ++ more) pass draw ≡ true → is_untaken history pass draw ≡ true
still_untaken history more pass draw h =
    let test = takes_up (write_id pass draw) in
    let joined : (list_any test history || list_any test more) ≡ false =
    sym (list_any-append test history more) ∙ not-true (list_any test (history ++ more)) h in
    not_from_false (list_any test history) (or_parts (list_any test history) (list_any test more) joined).0

pub untaken_most : (history more : List Event) (pass : Pass) → untaken (history ++ more) pass ≤ untaken history pass
untaken_most history more pass =
    count_by_most (is_untaken (history ++ more) pass) (is_untaken history pass) pass.draws (still_untaken history more pass)

pub all_unissued_most : (plan : Plan) (history more : List Event) → all_unissued plan (history ++ more) ≤ all_unissued plan history
all_unissued_most plan history more =
    sum_of_plan_most (unissued (history ++ more)) (unissued history) plan (unissued_most history more)

pub all_untaken_most : (plan : Plan) (history more : List Event) → all_untaken plan (history ++ more) ≤ all_untaken plan history
all_untaken_most plan history more =
    sum_of_plan_most (untaken (history ++ more)) (untaken history) plan (untaken_most history more)

-- the passes of which a draw was issued are passes of their clones

abbrev pub IssuedWithin : Plan → List Event → Type 0
IssuedWithin plan history =
    (c p : ℕ) (job : SubJob) → clone_of plan c ≡ Some job → 0 < issued_count history (pass_of job p) → p < job.passes

issue_within : (plan : Plan) (history : List Event) (e : Event) (c p : ℕ) (job : SubJob) → IsNumbered plan → may_happen plan history e ≡ true → clone_of plan c ≡ Some job → issues_of (pass_of job p) e ≡ true → p < job.passes
issue_within plan history (Issue worker dir write piece) c p job numbered may at hit =
    let issued = may_issue_is plan history worker dir write piece may in
    let parts = and_parts (write.clone == job.clone) (write.pass == p) hit in
    let here : clone_of plan c ≡ Some issued.job =
    subst (λ (n : ℕ). clone_of plan n ≡ Some issued.job) (eqb-true write.clone job.clone parts.0 ∙ numbered c job at) issued.planned in
    let same : issued.job ≡ job = same_Some issued.job job (sym here ∙ at) in
    let next = issue_is_next plan history (pass_of issued.job write.pass) issued.draw issued.may in
    omega (arith, next.1, ap (λ (j : SubJob). j.passes) same, eqb-true write.pass p parts.1)
issue_within plan history (Probe worker write piece) c p job numbered may at hit = cc
issue_within plan history (Skip worker write) c p job numbered may at hit = cc
issue_within plan history (End worker io outcome) c p job numbered may at hit = cc
issue_within plan history (Verdict worker io verdict) c p job numbered may at hit = cc

pub issued_within-more : (plan : Plan) (history : List Event) (e : Event) → IsNumbered plan → IssuedWithin plan history → may_happen plan history e ≡ true → IssuedWithin plan (history ++ e ∷ [])
issued_within-more plan history e numbered within may c p job at some =
    elim (cases_Bool (issues_of (pass_of job p) e)) [
      | inl hit ↦ issue_within plan history e c p job numbered may at hit
      | inr other ↦
          let count = issued_push history e (pass_of job p) in
          let none = ap (λ (b : Bool). cond {A = ℕ} b 1 0) other in
          within c p job at (omega (arith, some, count, none))
    ]

-- what a step leaves

pub issue_falls : (plan : Plan) (history : List Event) (worker : ℕ) (dir : IssueKind) (write : WriteId) (piece : Piece) → may_happen plan history (Issue worker dir write piece) ≡ true → all_unissued plan (history ++ Issue worker dir write piece ∷ []) < all_unissued plan history
issue_falls plan history worker dir write piece may =
    let e = Issue worker dir write piece in
    let issued = may_issue_is plan history worker dir write piece may in
    let pass = pass_of issued.job write.pass in
    let next = issue_is_next plan history pass issued.draw issued.may in
    let same = same_parts (write_id pass issued.draw) write issued.same in
    let hit : issues_of pass e ≡ true =
    and_from (write.clone == issued.job.clone) (write.pass == write.pass) (eq-eqb write.clone issued.job.clone (sym same.clone)) (eq-eqb write.pass write.pass refl) in
    let one = ap (λ (b : Bool). cond {A = ℕ} b 1 0) hit in
    let within = slice_get_within pass.draws write.number issued.draw issued.drawn in
    let here : unissued (history ++ e ∷ []) pass < unissued history pass =
    omega (arith, issued_push history e pass, one, next.0, same.number, within) in
    sum_of_plan_less (unissued (history ++ e ∷ [])) (unissued history) plan write.clone write.pass issued.job
    (unissued_most history (e ∷ [])) issued.planned next.1 here

pub take_up_falls : (plan : Plan) (history : List Event) (e : Event) (write : WriteId) → IssuedWithin plan history → TakesUp plan history write → ((w : WriteId) → same_write write w ≡ true → takes_up w e ≡ true) → all_untaken plan (history ++ e ∷ []) < all_untaken plan history
take_up_falls plan history e write within taken hits =
    let pass = pass_of taken.job write.pass in
    let test = takes_up (write_id pass taken.draw) in
    let new = take_up_is_new plan history pass taken.draw taken.may in
    let g = group_index pass taken.draw.number in
    let issued = full_is_issued history pass g write.number taken.draw taken.drawn (open_is_full history pass g new.1) in
    let below = within write.clone write.pass taken.job taken.planned issued in
    let hit : test e ≡ true = hits (write_id pass taken.draw) (same_back (write_id pass taken.draw) write taken.same) in
    let now : list_any test (history ++ e ∷ []) ≡ true =
    list_any-append test history (e ∷ []) ∙ or_right (list_any test history) (test e || false) (or_left (test e) false hit) in
    let here : untaken (history ++ e ∷ []) pass < untaken history pass =
    count_by_less (is_untaken (history ++ e ∷ []) pass) (is_untaken history pass) pass.draws write.number taken.draw
    (still_untaken history (e ∷ []) pass) taken.drawn (not_from_true (list_any test (history ++ e ∷ [])) now)
    (not_from_false (list_any test history) new.0) in
    sum_of_plan_less (untaken (history ++ e ∷ [])) (untaken history) plan write.clone write.pass taken.job
    (untaken_most history (e ∷ [])) taken.planned below here

pub probe_falls : (plan : Plan) (history : List Event) (worker : ℕ) (write : WriteId) (piece : Piece) → IssuedWithin plan history → may_happen plan history (Probe worker write piece) ≡ true → all_untaken plan (history ++ Probe worker write piece ∷ []) < all_untaken plan history
probe_falls plan history worker write piece within may =
    take_up_falls plan history (Probe worker write piece) write within (may_probe_is plan history worker write piece may)
    (λ (w : WriteId) (same : same_write write w ≡ true). same)

pub skip_falls : (plan : Plan) (history : List Event) (worker : ℕ) (write : WriteId) → IssuedWithin plan history → may_happen plan history (Skip worker write) ≡ true → all_untaken plan (history ++ Skip worker write ∷ []) < all_untaken plan history
skip_falls plan history worker write within may =
    take_up_falls plan history (Skip worker write) write within (may_skip_is plan history worker write may)
    (λ (w : WriteId) (same : same_write write w ≡ true). same)
