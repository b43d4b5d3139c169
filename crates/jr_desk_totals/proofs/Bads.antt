-- What one event more makes of the bad verdicts, and the laws of one event more together.
use Rattle.std.proofs.Common.{◌≡◌, ℕ, List, [], ◌∷◌, ◌++◌, length, true, false, refl, ◌∙◌, ap}
use Rattle.std.specs.Prelude.{Option}
use Rattle.std.specs.List.{cons_option}
use Rattle.std.proofs.lemmas.Bool.{ltb-true}
use Rattle.jr_model.specs.declared.events.Event.{Event}
use Rattle.jr_model.specs.declared.events.Event.TheVariants.{Issue, Probe, Skip, End, Verdict}
use Rattle.jr_model.specs.declared.events.Outcome.{Outcome}
use Rattle.jr_model.specs.declared.events.Started.{Started}
use Rattle.jr_model.specs.declared.events.Verdict.{Verdict as GivenVerdict}
use Rattle.jr_model.specs.History.{started, is_probe}
use Rattle.jr_model.specs.Legal.{is_legal, may_happen}
use Rattle.jr_model.specs.Plan.{Plan, SubJob}
use Rattle.jr_model.specs.Report.{Miscompare, miscompare_on, miscompare_by, miscompares}
use Rattle.jr_model.proofs.PlaceLemmas.{got_longer}
use Rattle.jr_desk_totals.specs.Tallies.{named_in, miscompare_in}
use Rattle.jr_desk_totals.specs.After.{IsAfter, EndsCounted, JudgesCounted}
use Rattle.jr_laws_steps.proofs.Grown.{Agrees, kept-more, end_names, verdict_names}
use Rattle.jr_desk_totals.proofs.Moved.{is_halted-more, totals-more}
use Rattle.jr_desk_totals.proofs.Counted.{tally-more, end_falls-issue, end_falls-check, verdict_falls}

miscompare_agrees : Agrees miscompare_by
miscompare_agrees ios more (Verdict worker io verdict) known = ap (λ (o : Option Started). miscompare_on o verdict) (got_longer ios more io (ltb-true io (length ios) known))
miscompare_agrees ios more (Issue worker dir write piece) known = refl
miscompare_agrees ios more (Probe worker write piece) known = refl
miscompare_agrees ios more (Skip worker write) known = refl
miscompare_agrees ios more (End worker io outcome) known = refl

miscompare_is : (ios : List Started) (e : Event) → miscompare_by ios e ≡ miscompare_in (named_in ios e) e
miscompare_is ios (Verdict worker io verdict) = refl
miscompare_is ios (Issue worker dir write piece) = refl
miscompare_is ios (Probe worker write piece) = refl
miscompare_is ios (Skip worker write) = refl
miscompare_is ios (End worker io outcome) = refl

pub miscompares-more : (plan : Plan) (history : List Event) (e : Event) → is_legal plan history ≡ true → may_happen plan history e ≡ true → miscompares (history ++ e ∷ []) ≡ miscompares history ++ cons_option (miscompare_in (named_in (started history) e) e) []
miscompares-more plan history e legal may =
    kept-more plan history e legal may miscompare_by miscompare_agrees
    ∙ ap (λ (o : Option Miscompare). miscompares history ++ cons_option o []) (miscompare_is (started history) e)

pub one_event_more : (plan : Plan) (history : List Event) (e : Event) → is_legal plan history ≡ true → may_happen plan history e ≡ true → IsAfter history e
one_event_more plan history e legal may = record {
  tally = λ c. tally-more plan history e c legal may;
  totals = λ c. totals-more plan history e c legal may;
  halted = λ (job : SubJob). is_halted-more plan history e job legal may;
  bads = miscompares-more plan history e legal may;
}

pub ends_counted : (plan : Plan) (history : List Event) (worker io : ℕ) (outcome : Outcome) → is_legal plan history ≡ true → may_happen plan history (End worker io outcome) ≡ true → EndsCounted history io (End worker io outcome)
ends_counted plan history worker io outcome legal may =
    let names = end_names plan history worker io outcome may in
    record {
      ended = names.ended;
      there = names.there;
      flies = names.flies;
      issue = λ (kind : is_probe names.ended.kind ≡ false). end_falls-issue plan history worker io outcome names.ended may names.there kind;
      check = λ (kind : is_probe names.ended.kind ≡ true). end_falls-check plan history worker io outcome names.ended may names.there kind;
    }

pub verdicts_counted : (plan : Plan) (history : List Event) (worker io : ℕ) (verdict : GivenVerdict) → is_legal plan history ≡ true → may_happen plan history (Verdict worker io verdict) ≡ true → JudgesCounted history io (Verdict worker io verdict)
verdicts_counted plan history worker io verdict legal may =
    let names = verdict_names plan history worker io verdict may in
    record {
      judged = names.judged;
      there = names.there;
      check = names.check;
      ended = names.ended;
      unjudged = names.unjudged;
      verdict = verdict_falls plan history worker io verdict names.judged may names.there;
    }
