-- What is kept of a clone's passes, and tests of all clones.
use Rattle.std.proofs.Common.{◌≡◌, ℕ, suc, ◌+◌, ◌≤◌, List, [], ◌∷◌, ◌++◌, length, take, Bool, true, false, cond, ◌&&◌, refl, sym, ◌∙◌, ap, subst, arith}
use Rattle.std.specs.Prelude.{nat_eq, ◌==◌, is_some, Option, Some, None, slice_get}
use Rattle.std.specs.HashMap.{get}
use Rattle.std.specs.List.{list_all}
use Rattle.std.proofs.lemmas.Bool.{and_from, eqb-true, eq-eqb, both_ways, false_from_ne_true}
use Rattle.std.proofs.lemmas.List.{take_all, take_more}
use Rattle.std.proofs.lemmas.List.Folds.{list_all-append}
use Rattle.std.proofs.lemmas.List.FromFn.{length-map-range_with_len}
use Rattle.std.proofs.lemmas.Option.{same_Some, slice_get_within, get_or_from_slice_get}
use Rattle.jr_model.specs.declared.events.Event.{Event}
use Rattle.jr_model.specs.Legal.{is_legal}
use Rattle.jr_model.specs.Plan.{Plan, SubJob, clone_of}
use Rattle.jr_model.specs.PlanFacts.{IsPlanned}
use Rattle.jr_model.specs.Rounds.{Pass, pass_of, passes_of, pass_finished, clone_finished}
use Rattle.jr_laws_quiet.proofs.Issues.{all_at}
use Rattle.jr_replay.specs.declared.courses.Course.{Course}
use Rattle.jr_replay.specs.declared.indexes.Indexes.{Indexes}
use Rattle.jr_replay.specs.Courses.{IsCourse, IsPassOf, numbered}
use Rattle.jr_replay.specs.Indexes.{AreIndexes}
use Rattle.jr_replay.proofs.PhaseLaws.{earlier_by_last}

-- ---- the pass that is kept of a clone
number_kept : (number : ℕ) (o : Option Pass) (pass : Pass) → numbered number o ≡ Some pass → (o ≡ Some pass) × (pass.number ≡ number)
number_kept number None pass h = cc
number_kept number (Some p) pass h = by_number (p.number == number) refl h
  where
    by_number : (b : Bool) → (p.number == number) ≡ b → cond b (Some p) None ≡ Some pass → (Some p ≡ Some pass) × (pass.number ≡ number)
    by_number true is h = (h, ap (λ (q : Pass). q.number) (sym (same_Some p pass h)) ∙ eqb-true p.number number is)
    by_number false is h = cc

module _ (plan : Plan) (job : SubJob) (there : clone_of plan job.clone ≡ Some job) where
  -- a pass that is kept under the clone's number is the clone's
  of_job : (number : ℕ) (pass : Pass) → IsPassOf plan job.clone pass → pass.number ≡ number → pass ≡ pass_of job number
  of_job number pass is same =
      let own : pass.job ≡ job = same_Some pass.job job (sym is.there ∙ there) in
      is.own ∙ ap (λ (j : SubJob). pass_of j pass.number) own ∙ ap (pass_of job) same

  pub kept_is : (course : Course) (number : ℕ) (pass : Pass) → IsCourse plan course → numbered number (get nat_eq course.passes job.clone) ≡ Some pass → pass ≡ pass_of job number
  kept_is course number pass is at =
      let kept = number_kept number (get nat_eq course.passes job.clone) pass at in
      of_job number pass (is.kept job.clone pass kept.0) kept.1

  pub kept_there : (course : Course) (number : ℕ) → IsCourse plan course → is_some (numbered number (get nat_eq course.passes job.clone)) ≡ true → get nat_eq course.passes job.clone ≡ Some (pass_of job number)
  kept_there course number is some = by_pass (get nat_eq course.passes job.clone) refl some
    where
      by_pass : (o : Option Pass) → get nat_eq course.passes job.clone ≡ o → is_some (numbered number o) ≡ true → get nat_eq course.passes job.clone ≡ Some (pass_of job number)
      by_pass None at some = cc
      by_pass (Some p) at some = by_number (p.number == number) refl some
        where
          by_number : (b : Bool) → (p.number == number) ≡ b → is_some (cond b (Some p) None) ≡ true → get nat_eq course.passes job.clone ≡ Some (pass_of job number)
          by_number true same some = at ∙ ap Some (of_job number p (is.kept job.clone p at) (eqb-true p.number number same))
          by_number false same some = cc

  -- with a pass in place of another
  pub course_with : (number : ℕ) (old new : Course) → new.history ≡ old.history → new.indexes ≡ old.indexes → ((clone : ℕ) → get nat_eq new.passes clone ≡ cond (nat_eq clone job.clone) (Some (pass_of job number)) (get nat_eq old.passes clone)) → IsCourse plan old → IsCourse plan new
  course_with number old new same indexes now was = record {
    planned = was.planned;
    legal = ap (is_legal plan) same ∙ was.legal;
    indexed =
        subst (λ (h : List Event). AreIndexes plan h new.indexes) (sym same)
        (subst (λ (x : Indexes). AreIndexes plan old.history x) (sym indexes) was.indexed);
    kept = λ clone pass at. by_clone clone pass (nat_eq clone job.clone) refl (sym (now clone) ∙ at);
  }
    where
      by_clone : (clone : ℕ) (pass : Pass) (b : Bool) → nat_eq clone job.clone ≡ b → cond (nat_eq clone job.clone) (Some (pass_of job number)) (get nat_eq old.passes clone) ≡ Some pass → IsPassOf plan clone pass
      by_clone clone pass true own at =
          let entered : cond true (Some (pass_of job number)) (get nat_eq old.passes clone) ≡ Some pass =
          subst (λ (b : Bool). cond b (Some (pass_of job number)) (get nat_eq old.passes clone) ≡ Some pass) own at in
          subst (IsPassOf plan clone) (same_Some (pass_of job number) pass entered)
          (record { there = ap (clone_of plan) (eqb-true clone job.clone own) ∙ there; own = refl })
      by_clone clone pass false other at =
          was.kept clone pass (subst (λ (b : Bool). cond b (Some (pass_of job number)) (get nat_eq old.passes clone) ≡ Some pass) other at)

  pub entered_there : (number : ℕ) (new old : Course) → ((clone : ℕ) → get nat_eq new.passes clone ≡ cond (nat_eq clone job.clone) (Some (pass_of job number)) (get nat_eq old.passes clone)) → get nat_eq new.passes job.clone ≡ Some (pass_of job number)
  entered_there number new old now =
      now job.clone ∙ ap (λ (b : Bool). cond b (Some (pass_of job number)) (get nat_eq old.passes job.clone)) (eq-eqb job.clone job.clone refl)

  -- all passes are finished where the last is
  pub finished_by_last : (h : List Event) (last : ℕ) → IsPlanned plan → is_legal plan h ≡ true → suc last ≡ job.passes → pass_finished h (pass_of job last) ≡ clone_finished h job
  finished_by_last h last planned legal is =
      earlier_by_last plan planned job there h legal last (omega (arith, is))
      ∙ ap (list_all (pass_finished h)) (take_all (suc last) (passes_of job) (omega (arith, is, length-map-range_with_len (pass_of job) 0 job.passes)))

-- ---- a test of each of a list, in turn
pub all_next : {X : Type 0} (test : X → Bool) (xs : List X) (i : ℕ) (x : X) → slice_get xs i ≡ Some x → test x ≡ true → list_all test (take i xs) ≡ true → list_all test (take (i + 1) xs) ≡ true
all_next test xs i x at here before =
    ap (list_all test) (take_more xs i x (slice_get_within xs i x at) ∙ ap (λ (y : _). take i xs ++ y ∷ []) (get_or_from_slice_get xs i x x at))
    ∙ list_all-append test (take i xs) (x ∷ [])
    ∙ and_from (list_all test (take i xs)) (test x && true) before (and_from (test x) true here refl)

pub not_all : {X : Type 0} (test : X → Bool) (xs : List X) (i : ℕ) (x : X) → slice_get xs i ≡ Some x → test x ≡ false → false ≡ list_all test xs
not_all test xs i x at fails = sym (false_from_ne_true (list_all test xs) (λ all. both_ways (test x) fails (all_at test xs i x all at)))

pub all_of : {X : Type 0} (test : X → Bool) (xs : List X) (i : ℕ) → length xs ≤ i → list_all test (take i xs) ≡ true → true ≡ list_all test xs
all_of test xs i whole all = sym (ap (list_all test) (sym (take_all i xs whole)) ∙ all)
