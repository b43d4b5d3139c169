use Rattle.std.proofs.Common.{◌≡◌, ℕ, Bool, true, false, cond, List, sym, ap, ◌∙◌}
use Rattle.std.specs.Prelude.{Some, None, not, ◌&&◌, slice_get}
use Rattle.std.proofs.lemmas.Option.{same_Some}
use Rattle.jr_model.specs.declared.events.Event.{Event}
use Rattle.jr_model.specs.declared.events.Event.TheVariants.{Verdict}
use Rattle.jr_model.specs.declared.events.Verdict.{Verdict as GivenVerdict}
use Rattle.jr_model.specs.History.{started, outcome_of as how_ended, is_judged, ended_whole}
use Rattle.jr_model.specs.Legal.{verdict_fits}
use Rattle.jr_model.specs.Plan.{Plan}
use Rattle.jr_model.specs.Races.{has_raced}
use Rattle.jr_replay_traces.specs.TraceChecks.{is_small, finding_fits, verdict_of}
use Rattle.jr_replay_traces.proofs.legal.judged.Goals as goal

-- the I/O of this number may have the verdict
abbrev may_have : Plan → List Event → ℕ → GivenVerdict → Bool
may_have plan h io verdict =
    ended_whole (how_ended h io) && not (is_judged h io) && verdict_fits plan (has_raced h io) verdict (slice_get (started h) io)

-- where the parts of a line are small, it is the verdict that they make, if that may be
judged_by : (may : ℕ → GivenVerdict → Bool) (a b f given : Bool) (by io worker id : ℕ) (said verdict : GivenVerdict) → Some worker ≡ cond a (Some by) None → Some id ≡ cond b (Some io) None → Some verdict ≡ cond f (Some said) None → given ≡ may id verdict → cond given (Some (Verdict worker id verdict)) None ≡ cond (((a && b) && f) && may io said) (Some (Verdict by io said)) None
judged_by may true true true given by io worker id said verdict hw hi hv is =
    ap (λ (y : Bool). cond y (Some (Verdict worker id verdict)) None) is
    ∙ ap (λ (n : ℕ). cond (may n verdict) (Some (Verdict worker n verdict)) None) (same_Some id io hi)
    ∙ ap (λ (v : GivenVerdict). cond (may io v) (Some (Verdict worker io v)) None) (same_Some verdict said hv)
    ∙ ap (λ (w : ℕ). cond (may io said) (Some (Verdict w io said)) None) (same_Some worker by hw)
judged_by may false b f given by io worker id said verdict hw hi hv is = cc
judged_by may true false f given by io worker id said verdict hw hi hv is = cc
judged_by may true true false given by io worker id said verdict hw hi hv is = cc

pub returns-then-may_be_judged : goal.returns-then-may_be_judged
returns-then-may_be_judged c =
    let finding = c.args.finding.now in
    let verdict = c.in_ok-verdict.verdict in
    ap (λ (y : Bool). cond y (Some (Verdict c.in_ok-worker.worker c.in_ok-io.io verdict)) None) (sym c.if-may_be_judged.true)
    ∙ judged_by (may_have c.args.plan.now c.args.course.now.history) (is_small c.args.by) (is_small c.args.io) (finding_fits finding) c.may_be_judged.result c.args.by c.args.io c.in_ok-worker.worker c.in_ok-io.io (verdict_of finding) verdict c.in_ok-worker.ensures c.in_ok-io.ensures c.in_ok-verdict.ensures c.may_be_judged.ensures

pub returns-else-may_be_judged : goal.returns-else-may_be_judged
returns-else-may_be_judged c =
    let finding = c.args.finding.now in
    let verdict = c.in_ok-verdict.verdict in
    ap (λ (y : Bool). cond y (Some (Verdict c.in_ok-worker.worker c.in_ok-io.io verdict)) None) (sym c.if-may_be_judged.false)
    ∙ judged_by (may_have c.args.plan.now c.args.course.now.history) (is_small c.args.by) (is_small c.args.io) (finding_fits finding) c.may_be_judged.result c.args.by c.args.io c.in_ok-worker.worker c.in_ok-io.io (verdict_of finding) verdict c.in_ok-worker.ensures c.in_ok-io.ensures c.in_ok-verdict.ensures c.may_be_judged.ensures
