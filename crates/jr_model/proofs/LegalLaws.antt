-- Laws of legal histories: each prefix is legal, and a choice may happen.
use Rattle.std.proofs.Common.{◌≡◌, ℕ, zero, suc, ◌+◌, ◌*◌, List, [], ◌∷◌, ◌++◌, Bool, true, false, cond, ◌&&◌, refl, sym, ◌∙◌, ap, subst, arith, inl, inr, append_assoc, append-nil, add-zero, zero-add}
use Rattle.std.specs.Prelude.{◌⊎◌, Option, Some, None, slice_get, ◌==◌, map}
use Rattle.std.specs.List.{range_with_len, cons_option}
use Rattle.std.proofs.lemmas.Bool.{and_parts, and_from, cases_cond, eq-eqb}
use Rattle.jr_model.specs.declared.blocks.Piece.{Piece}
use Rattle.jr_model.specs.declared.events.Event.{Event}
use Rattle.jr_model.specs.declared.events.Event.TheVariants.{Issue, Probe, Skip, End, Verdict}
use Rattle.jr_model.specs.declared.events.IssueKind.{IssueKind}
use Rattle.jr_model.specs.declared.events.IssueKind.TheVariants as issue
use Rattle.jr_model.specs.declared.events.Started.{Started}
use Rattle.jr_model.specs.declared.events.WriteId.{WriteId}
use Rattle.jr_model.specs.declared.workloads.Draw.{Draw}
use Rattle.jr_model.specs.Choice.{choice, choice_of_clone, choice_of_pass}
use Rattle.jr_model.specs.Draws.{PassProgress, draws_from, draws_of_job, fresh_progress, pass_over, chosen_cells, draw_at, progress_after}
use Rattle.jr_model.specs.History.{first_given, started, started_by, same_write, same_piece}
use Rattle.jr_model.specs.LastWrite.{is_intact}
use Rattle.jr_model.specs.Legal.{may_happen, may_take_up, may_issue, legal_after, is_legal, step_of, step_of_draw, step_of_clone, step_at, same_issue, is_this_issue, is_this_probe, is_this_skip}
use Rattle.jr_model.specs.Plan.{Plan, SubJob, IsNumbered, clone_of, issued_as}
use Rattle.jr_model.specs.Rounds.{Pass, pass_of, passes_of, write_id}
use Rattle.jr_model.specs.Words.{pass_words}
use Rattle.jr_model.proofs.OptionLemmas.{or_some}

-- a front of a legal history is legal
pub legal_front : (plan : Plan) (before xs ys : List Event) → legal_after plan before (xs ++ ys) ≡ true → legal_after plan before xs ≡ true
legal_front plan before [] ys h = refl
legal_front plan before (x ∷ xs) ys h =
    let parts = and_parts (may_happen plan before x) (legal_after plan (before ++ x ∷ []) (xs ++ ys)) h in
    and_from (may_happen plan before x) (legal_after plan (before ++ x ∷ []) xs) parts.0
    (legal_front plan (before ++ x ∷ []) xs ys parts.1)

-- an event that may happen makes a legal history longer
pub legal_after-more : (plan : Plan) (before xs : List Event) (e : Event) → legal_after plan before xs ≡ true → may_happen plan (before ++ xs) e ≡ true → legal_after plan before (xs ++ e ∷ []) ≡ true
legal_after-more plan before [] e h may =
    and_from (may_happen plan before e) true (rw append-nil at may) refl
legal_after-more plan before (x ∷ xs) e h may =
    let parts = and_parts (may_happen plan before x) (legal_after plan (before ++ x ∷ []) xs) h in
    and_from (may_happen plan before x) (legal_after plan (before ++ x ∷ []) (xs ++ e ∷ [])) parts.0
    (legal_after-more plan (before ++ x ∷ []) xs e parts.1
    (subst (λ (all : List Event). may_happen plan all e ≡ true) (sym (append_assoc before (x ∷ []) xs)) may))

pub is_legal-more : (plan : Plan) (history : List Event) (e : Event) → is_legal plan history ≡ true → may_happen plan history e ≡ true → is_legal plan (history ++ e ∷ []) ≡ true
is_legal-more plan history e h may = legal_after-more plan [] history e h may

-- what is given is given of some item
pub first_given-some : {X Y : Type 0} (f : X → Option Y) (xs : List X) (y : Y) → first_given f xs ≡ Some y → (k : ℕ) × (x : X) × (slice_get xs k ≡ Some x) × (f x ≡ Some y)
first_given-some f [] y h = cc
first_given-some f (x ∷ xs) y h =
    elim (or_some (f x) (first_given f xs) y h) [
      | inl e ↦ (0, x, refl, e)
      | inr e ↦ let found = first_given-some f xs y e in (suc found.0, found.1, found.2, found.3)
    ]

pub got_map : {X Y : Type 0} (f : X → Y) (xs : List X) (k : ℕ) (y : Y) → slice_get (map f xs) k ≡ Some y → (x : X) × (f x ≡ y)
got_map f [] k y h = cc
got_map f (x ∷ xs) zero y h = (x, some_same (f x) y h)
  where
    some_same : {Z : Type 0} (u v : Z) → Some u ≡ Some v → u ≡ v
    some_same u v g = cc
got_map f (x ∷ xs) (suc k) y h = got_map f xs k y h

pub from_cond : {X : Type 0} (b : Bool) (xs : List X) (k : ℕ) (x : X) → slice_get (cond b [] xs) k ≡ Some x → slice_get xs k ≡ Some x
from_cond true xs k x h = cc
from_cond false xs k x h = h

-- draws are numbered on from the draws made
pub number-draws_from : (job : SubJob) (done : PassProgress) (words : List ℕ) (k : ℕ) (d : Draw) → slice_get (draws_from job done words) k ≡ Some d → d.number ≡ done.number + k
number-draws_from job done [] k d h = cc
number-draws_from job done (a ∷ []) k d h = cc
number-draws_from job done (a ∷ b ∷ []) k d h = cc
number-draws_from job done (a ∷ b ∷ c ∷ []) k d h = cc
number-draws_from job done (a ∷ b ∷ c ∷ s ∷ words) zero d h =
    let chosen = chosen_cells job done a b c in
    let first : Some (draw_at job done chosen s) ≡ Some d =
    from_cond (pass_over job done) (draw_at job done chosen s ∷ draws_from job (progress_after done chosen) words) 0 d h in
    let same : draw_at job done chosen s ≡ d = cc in
    ap (λ (x : Draw). x.number) (sym same) ∙ sym (add-zero done.number)
number-draws_from job done (a ∷ b ∷ c ∷ s ∷ words) (suc k) d h =
    let chosen = chosen_cells job done a b c in
    let more = number-draws_from job (progress_after done chosen) words k d
    (from_cond (pass_over job done) (draw_at job done chosen s ∷ draws_from job (progress_after done chosen) words) (suc k) d h) in
    omega (arith, more)

-- the number of a draw is its place among the draws of its pass
pub number_of_draw : (job : SubJob) (p k : ℕ) (draw : Draw) → slice_get (draws_of_job job p) k ≡ Some draw → draw.number ≡ k
number_of_draw job p k draw at =
    number-draws_from job (fresh_progress job) (pass_words job p (4 * job.cells)) k draw at ∙ zero-add k

pub same_write_refl : (w : WriteId) → same_write w w ≡ true
same_write_refl w =
    and_from ((w.clone == w.clone) && (w.pass == w.pass)) (w.number == w.number)
    (and_from (w.clone == w.clone) (w.pass == w.pass) (eq-eqb w.clone w.clone refl) (eq-eqb w.pass w.pass refl))
    (eq-eqb w.number w.number refl)

pub same_piece_refl : (p : Piece) → same_piece p p ≡ true
same_piece_refl p =
    and_from ((p.file == p.file) && (p.offset == p.offset)) (p.len == p.len)
    (and_from (p.file == p.file) (p.offset == p.offset) (eq-eqb p.file p.file refl) (eq-eqb p.offset p.offset refl))
    (eq-eqb p.len p.len refl)

pub same_issue_refl : (kind : IssueKind) → same_issue kind kind ≡ true
same_issue_refl issue.Read = refl
same_issue_refl issue.Write = refl
same_issue_refl issue.ReadCheck = refl

-- a step of a draw is its check, its skip or its issue
pub cases_step_of : (plan : Plan) (history : List Event) (worker : ℕ) (pass : Pass) (draw : Draw) (e : Event) → step_of plan history worker pass draw ≡ Some e → (e ≡ Probe worker (write_id pass draw) draw.piece) ⊎ ((e ≡ Skip worker (write_id pass draw)) ⊎ (e ≡ Issue worker (issued_as pass.job draw.dir) (write_id pass draw) draw.piece))
cases_step_of plan history worker pass draw e h =
    elim (two_conds (may_take_up plan history pass draw) (may_issue plan history pass draw) _ _ e h) [
      | inl checked ↦
          elim (cases_cond (is_intact history (write_id pass draw) draw.piece) _ _ e checked) [
            | inl probe ↦ inl probe
            | inr skip ↦ inr (inl skip)
          ]
      | inr issued ↦ inr (inr issued)
    ]
  where
    two_conds : (a b : Bool) (x y z : Event) → cond a (Some x) (cond b (Some y) None) ≡ Some z → (z ≡ x) ⊎ (z ≡ y)
    two_conds true b x y z g = inl (sym (some_same x z g))
      where
        some_same : (u v : Event) → Some u ≡ Some v → u ≡ v
        some_same u v k = cc
    two_conds false true x y z g = inr (sym (some_same y z g))
      where
        some_same : (u v : Event) → Some u ≡ Some v → u ≡ v
        some_same u v k = cc
    two_conds false false x y z g = cc

-- the step of the draw that an event names may happen
pub step_may_happen : (plan : Plan) (history : List Event) (worker : ℕ) (pass : Pass) (draw : Draw) (e : Event) → step_of plan history worker pass draw ≡ Some e → step_at plan history worker (write_id pass draw) ≡ Some e → may_happen plan history e ≡ true
step_may_happen plan history worker pass draw e h here =
    let w = write_id pass draw in
    let p = draw.piece in
    elim (cases_step_of plan history worker pass draw e h) [
      | inl probe ↦
          subst (λ (x : Event). may_happen plan history x ≡ true) (sym probe)
          (subst (λ (o : Option Event). is_this_probe w p o ≡ true) (sym (here ∙ ap Some probe))
          (and_from (same_write w w) (same_piece p p) (same_write_refl w) (same_piece_refl p)))
      | inr other ↦
          elim other [
            | inl skip ↦
                subst (λ (x : Event). may_happen plan history x ≡ true) (sym skip)
                (subst (λ (o : Option Event). is_this_skip w o ≡ true) (sym (here ∙ ap Some skip)) (same_write_refl w))
            | inr issue ↦
                subst (λ (x : Event). may_happen plan history x ≡ true) (sym issue)
                (subst (λ (o : Option Event). is_this_issue (issued_as pass.job draw.dir) w p o ≡ true) (sym (here ∙ ap Some issue))
                (and_from (same_issue (issued_as pass.job draw.dir) (issued_as pass.job draw.dir) && same_write w w) (same_piece p p)
                (and_from (same_issue (issued_as pass.job draw.dir) (issued_as pass.job draw.dir)) (same_write w w) (same_issue_refl (issued_as pass.job draw.dir)) (same_write_refl w))
                (same_piece_refl p)))
          ]
    ]

-- the step of a draw of a planned clone is the step at its name
pub step_at-step_of : (plan : Plan) (history : List Event) (worker : ℕ) (i p k : ℕ) (job : SubJob) (draw : Draw) → IsNumbered plan → slice_get plan.clones i ≡ Some job → slice_get (draws_of_job job p) k ≡ Some draw → step_at plan history worker (write_id (pass_of job p) draw) ≡ step_of plan history worker (pass_of job p) draw
step_at-step_of plan history worker i p k job draw numbered at drawn =
    let place : slice_get plan.clones job.clone ≡ Some job =
    subst (λ (n : ℕ). slice_get plan.clones n ≡ Some job) (sym (numbered i job at)) at in
    let number : draw.number ≡ k = number-draws_from job (fresh_progress job) (pass_words job p (4 * job.cells)) k draw drawn ∙ zero-add k in
    let there : slice_get (draws_of_job job p) draw.number ≡ Some draw =
    subst (λ (n : ℕ). slice_get (draws_of_job job p) n ≡ Some draw) (sym number) drawn in
    ap (step_of_clone plan history worker (write_id (pass_of job p) draw)) place
    ∙ ap (step_of_draw plan history worker (pass_of job p)) there

-- what the choice is: the step of a draw of a planned clone
pub choice_is_step : (plan : Plan) (history : List Event) (worker : ℕ) (e : Event) → IsNumbered plan → choice plan history worker ≡ Some e → (job : SubJob) × (p : ℕ) × (draw : Draw) × (step_of plan history worker (pass_of job p) draw ≡ Some e) × (step_at plan history worker (write_id (pass_of job p) draw) ≡ Some e)
choice_is_step plan history worker e numbered h =
    let clone = first_given-some (choice_of_clone plan history worker) plan.clones e h in
    let job = clone.1 in
    let pass = first_given-some (choice_of_pass plan history worker) (passes_of job) e clone.3 in
    let at = got_map (pass_of job) (range_with_len 0 job.passes) pass.0 pass.1 pass.2 in
    let chosen = subst (λ (q : Pass). choice_of_pass plan history worker q ≡ Some e) (sym at.1) pass.3 in
    let draw = first_given-some (step_of plan history worker (pass_of job at.0)) (draws_of_job job at.0) e chosen in (
      job,
      at.0,
      draw.1,
      draw.3,
      step_at-step_of plan history worker clone.0 at.0 draw.0 job draw.1 numbered clone.2 draw.2 ∙ draw.3,
    )

-- the choice may happen
pub choice_may_happen : (plan : Plan) (history : List Event) (worker : ℕ) (e : Event) → IsNumbered plan → choice plan history worker ≡ Some e → may_happen plan history e ≡ true
choice_may_happen plan history worker e numbered h =
    let step = choice_is_step plan history worker e numbered h in
    step_may_happen plan history worker (pass_of step.0 step.1) step.2 e step.3 step.4

-- a step is of a clone that the plan has
pub issue_is_planned : (plan : Plan) (history : List Event) (worker : ℕ) (kind : IssueKind) (write : WriteId) (piece : Piece) (job : Option SubJob) → is_this_issue kind write piece (step_of_clone plan history worker write job) ≡ true → (found : SubJob) × (job ≡ Some found)
issue_is_planned plan history worker kind write piece None h = cc
issue_is_planned plan history worker kind write piece (Some job) h = (job, refl)

pub probe_is_planned : (plan : Plan) (history : List Event) (worker : ℕ) (write : WriteId) (piece : Piece) (job : Option SubJob) → is_this_probe write piece (step_of_clone plan history worker write job) ≡ true → (found : SubJob) × (job ≡ Some found)
probe_is_planned plan history worker write piece None h = cc
probe_is_planned plan history worker write piece (Some job) h = (job, refl)

-- what may be started is of a clone that the plan has
pub starts_planned : (plan : Plan) (history : List Event) (e : Event) (io : Started) → may_happen plan history e ≡ true → started_by e ≡ Some io → (job : SubJob) × (clone_of plan io.write.clone ≡ Some job)
starts_planned plan history (Issue worker kind write piece) io may starts =
    let found = issue_is_planned plan history worker kind write piece (clone_of plan write.clone) may in
    let same : write ≡ io.write = cc in
    (found.0, ap (λ (w : WriteId). clone_of plan w.clone) (sym same) ∙ found.1)
starts_planned plan history (Probe worker write piece) io may starts =
    let found = probe_is_planned plan history worker write piece (clone_of plan write.clone) may in
    let same : write ≡ io.write = cc in
    (found.0, ap (λ (w : WriteId). clone_of plan w.clone) (sym same) ∙ found.1)
starts_planned plan history (Skip worker write) io may starts = cc
starts_planned plan history (End worker id outcome) io may starts = cc
starts_planned plan history (Verdict worker id verdict) io may starts = cc

-- the same of what the first event starts, or the events after it
first_planned : (plan : Plan) (before events : List Event) (e : Event) (io : Started) (first : Option Started) (id : ℕ) → may_happen plan before e ≡ true → started_by e ≡ first → ((k : ℕ) → slice_get (started events) k ≡ Some io → (job : SubJob) × (clone_of plan io.write.clone ≡ Some job)) → slice_get (cons_option first (started events)) id ≡ Some io → (job : SubJob) × (clone_of plan io.write.clone ≡ Some job)
first_planned plan before events e io None id may starts rest at = rest id at
first_planned plan before events e io (Some s) zero may starts rest at = starts_planned plan before e io may (starts ∙ at)
first_planned plan before events e io (Some s) (suc k) may starts rest at = rest k at

-- each I/O and check of a legal history is of a clone that the plan has
pub started_planned : (plan : Plan) (before events : List Event) (id : ℕ) (io : Started) → legal_after plan before events ≡ true → slice_get (started events) id ≡ Some io → (job : SubJob) × (clone_of plan io.write.clone ≡ Some job)
started_planned plan before [] id io legal at = cc
started_planned plan before (e ∷ events) id io legal at =
    let parts = and_parts (may_happen plan before e) (legal_after plan (before ++ e ∷ []) events) legal in
    first_planned plan before events e io (started_by e) id parts.0 refl
    (λ k there. started_planned plan (before ++ e ∷ []) events k io parts.1 there) at
