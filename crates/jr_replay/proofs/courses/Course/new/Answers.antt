use Rattle.std.proofs.Common.{◌≡◌, ℕ, List, [], true, refl, sym, ◌∙◌, ap, subst}
use Rattle.std.specs.Prelude.{nat_eq}
use Rattle.std.specs.Map.{lookup}
use Rattle.std.proofs.lemmas.Option.{none-some}
use Rattle.jr_model.specs.declared.events.Event.{Event}
use Rattle.jr_model.specs.Legal.{is_legal}
use Rattle.jr_model.specs.Rounds.{Pass}
use Rattle.jr_replay.specs.Indexes.{AreIndexes}
use Rattle.jr_replay.proofs.courses.Course.new.Goals as goal

pub returns-clause-course : goal.returns-clause-course
returns-clause-course c =
    let plan = c.args.plan.now in
    let empty : c.in_ok-history.history ≡ [] = c.in_ok-history.ensures ∙ c.new.ensures.items in
    record {
      planned = c.facts.ensures;
      legal = ap (is_legal plan) empty;
      indexed = subst (λ (history : List Event). AreIndexes plan history c.in_ok-new.field-0) (sym empty) c.in_ok-new.ensures;
      kept = λ clone pass at.
          absurd (none-some pass (sym (ap (λ (passes : List (ℕ × Pass)). lookup (nat_eq clone) passes) c.new-4.ensures.empty) ∙ at));
    }
