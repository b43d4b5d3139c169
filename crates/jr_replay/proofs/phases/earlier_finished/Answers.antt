use Rattle.std.proofs.Common.{◌≡◌, ℕ, suc, ◌-◌, Bool, IfOk, take, refl, sym, ap, subst, ◌∙◌, arith}
use Rattle.std.specs.List.{list_all}
use Rattle.std.proofs.lemmas.Bool.{eqb-false, eqb-true}
use Rattle.jr_model.specs.Rounds.{issued_count, pass_finished, pass_of, passes_of}
use Rattle.jr_model.proofs.NumberLemmas.{some_by_name}
use Rattle.jr_replay.proofs.PhaseLaws.{earlier_begun, earlier_by_last}
use Rattle.jr_replay.proofs.phases.earlier_finished.Goals as goal

pub returns-then-not-has_not_begun : goal.returns-then-not-has_not_begun
returns-then-not-has_not_begun c within =
    let h = c.args.course.now.history in
    let job = c.args.job.now in
    let pass = pass_of job c.args.number in
    earlier_begun c.args.plan.now c.requires.course.planned job c.requires.there h c.requires.course.legal pass refl refl
    (some_by_name (issued_count h pass) (eqb-false (issued_count h pass) 0 (sym c.has_not_begun.ensures ∙ c.if-not-has_not_begun.true)))

pub is_finished-requires-clause-last : goal.is_finished-requires-clause-last
is_finished-requires-clause-last c =
    let h = c.args.course.now.history in
    let job = c.args.job.now in
    let next : suc (c.args.number - 1) ≡ c.args.number = omega (arith, c.if-number-eq0.false) in
    ap (λ (n : ℕ). issued_count h (pass_of job n)) next
    ∙ eqb-true (issued_count h (pass_of job c.args.number)) 0 (sym c.has_not_begun.ensures ∙ c.if-not-has_not_begun.false)

pub returns : goal.returns
returns c within =
    let h = c.args.course.now.history in
    let job = c.args.job.now in
    let last : ℕ = c.args.number - 1 in
    let next : suc last ≡ c.args.number = omega (arith, c.if-number-eq0.false) in
    subst (λ (b : Bool). IfOk c.is_finished.result (λ yes. yes ≡ b))
    (earlier_by_last c.args.plan.now c.requires.course.planned job c.requires.there h c.requires.course.legal last (omega (arith, next, within))
    ∙ ap (λ (n : ℕ). list_all (pass_finished h) (take n (passes_of job))) next)
    c.is_finished.ensures
