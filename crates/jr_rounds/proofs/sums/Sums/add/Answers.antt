use Rattle.std.proofs.Common.{◌≡◌, ℕ, ◌++◌, List, drop, length, take, arith, ap, ◌∙◌}
use Rattle.std.proofs.lemmas.List.{take-append-le, take_all}
use Rattle.jr_model.specs.declared.totals.Totals.{Totals}
use Rattle.jr_rounds.specs.Adding.{all_added}
use Rattle.jr_rounds.specs.Sums.{RoundSums}
use Rattle.jr_rounds.proofs.SumLemmas.{length-all_added, sums_more}
use Rattle.jr_rounds.proofs.sums.Sums.add.Goals as goal

-- what is written over all of a list is the list
written_over : (n : ℕ) (new old : List Totals) → length new ≡ n → take n (new ++ drop (length new) old) ≡ new
written_over n new old h = take-append-le n new (drop (length new) old) (omega arith) ∙ take_all n new (omega arith)

pub returns-clause-sums : goal.returns-clause-sums
returns-clause-sums c = λ rounds h.
    let inside = c.self.inside.totals in
    let was : inside.items ≡ c.args.self.now.totals = ap (λ (sums : RoundSums). sums.totals) c.self.view_is in
    let number : c.self.inside.rounds ≡ c.args.self.now.rounds = ap (λ (sums : RoundSums). sums.rounds) c.self.view_is in
    let made : c.add_all.new.sums ≡ all_added c.args.self.now.totals c.args.totals.now =
    c.add_all.ensures ∙ ap (λ (sums : List Totals). all_added sums c.args.totals.now) (c.as_mut_slice.ensures.value ∙ was) in
    let count = ap (λ (sums : List Totals). length sums) made ∙ length-all_added c.args.self.now.totals c.args.totals.now in
    let room = inside.ok.0 in
    sums_more rounds c.args.self.now _ c.args.totals.now c.requires (omega (arith, c.saturating_add-self-inside.ensures, number))
    (written_over inside.len c.add_all.new.sums inside.items (omega (arith, count, room, ap (λ (sums : List Totals). length sums) was))
    ∙ made) h
