use Rattle.std.proofs.Common.{◌≡◌, ◌∙◌, ◌++◌, List, ap, map, subst, sym}
use Rattle.jr_engines.specs.Answers.{AnswerParts}
use Rattle.jr_crew_threads.specs.Judging.{AreChecksOf}
use Rattle.jr_crew.specs.declared.outcomes.CarriedOut.{CarriedOut}
use Rattle.jr_crew.specs.declared.outcomes.TakenIn.{TakenIn}
use Rattle.jr_crew_threads.proofs.PartLemmas.{on_ok}
use Rattle.jr_crew.proofs.verifier.judge.Goals as goal

pub returns : goal.returns
returns g c =
    let told_of = λ (one : TakenIn). one.served.now in
    let settled_of = λ (one : CarriedOut). one.served.now in
    let same : map told_of c.deref-3.result.now ≡ c.args.served.now =
    ap (map told_of) c.deref-3.ensures.value
    ∙ c.in_ok-judge.ensures
    ∙ ap (λ (l : List TakenIn). map told_of l ++ map settled_of c.deref-2.result.now) c.in_ok-told.ensures.items
    ∙ ap (map settled_of) c.deref-2.ensures.value
    ∙ c.in_ok-rule_all.ensures
    ∙ ap (λ (l : List CarriedOut). map settled_of l ++ c.args.served.now) c.new-settled.ensures.items in
    on_ok c.note_said.result _ _
    (λ noted parcels checks old. noted parcels (subst (λ (answers : List AnswerParts). AreChecksOf parcels answers) (sym same) checks) old)
    c.note_said.ensures
