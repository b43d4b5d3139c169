-- Each event may happen, so its clone and its I/O are those of the plan and of the history.
use Rattle.std.proofs.Common.{refl, sym, subst, ◌∙◌}
use Rattle.std.proofs.lemmas.Option.{slice_get_within}
use Rattle.jr_model.specs.declared.events.Event.{Event}
use Rattle.jr_model.proofs.PieceLemmas.{fitting_is_small}
use Rattle.jr_laws_steps.specs.Nexts.{IsNext, grown}
use Rattle.jr_laws_steps.proofs.DrawnLaws.{started_fit-law}
use Rattle.jr_laws_steps.proofs.StepLaws.{may_issue_of, may_probe_of, may_skip_of}
use Rattle.jr_desk_totals.specs.Tallying.{IsTallied}
use Rattle.jr_desk_totals.proofs.TallyMoves.{can_count, can_end, can_judge, tallied_same}
use Rattle.jr_replay.proofs.indexes.tally.Goals as goal

-- ---- a start, and a skip
pub issued-requires : goal.issued-requires
issued-requires c =
    let plan = c.args.plan.now in
    let h = c.args.history.now in
    let i = c.in-Issue in
    let next = subst (IsNext plan h) i.is c.requires.next in
    let step = may_issue_of plan h i.worker i.kind i.write i.piece next.may in
    can_count plan h c.args.tallies.now i.write.clone step.job next.planned next.legal c.requires.tallied step.named.planned

pub returns-in-Issue : goal.returns-in-Issue
returns-in-Issue c =
    let plan = c.args.plan.now in
    let h = c.args.history.now in
    let i = c.in-Issue in
    subst (λ (e : Event). IsTallied plan (grown h e) c.issued.new.self) (sym i.is)
    (c.issued.ensures plan h i.worker i.kind i.write i.piece refl (subst (IsNext plan h) i.is c.requires.next) c.requires.tallied)

pub probed-requires : goal.probed-requires
probed-requires c =
    let plan = c.args.plan.now in
    let h = c.args.history.now in
    let i = c.in-Probe in
    let next = subst (IsNext plan h) i.is c.requires.next in
    let step = (may_probe_of plan h i.worker i.write i.piece next.may).0 in
    can_count plan h c.args.tallies.now i.write.clone step.job next.planned next.legal c.requires.tallied step.named.planned

pub skipped-requires : goal.skipped-requires
skipped-requires c =
    let plan = c.args.plan.now in
    let h = c.args.history.now in
    let i = c.in-Skip in
    let next = subst (IsNext plan h) i.is c.requires.next in
    let step = may_skip_of plan h i.worker i.write next.may in
    can_count plan h c.args.tallies.now i.write.clone step.job next.planned next.legal c.requires.tallied step.named.planned

-- ---- an end
pub ended-requires-clause-count : goal.ended-requires-clause-count
ended-requires-clause-count c =
    let plan = c.args.plan.now in
    let h = c.args.history.now in
    let io = c.in-Some.io in
    let next = c.requires.next in
    let fit = started_fit-law plan h c.in-End.io io next.planned next.legal (sym c.started_at.ensures ∙ c.in-Some.is) in
    can_count plan h c.args.tallies.now io.write.clone fit.0 next.planned next.legal c.requires.tallied fit.1.planned

pub ended-requires-clause-block : goal.ended-requires-clause-block
ended-requires-clause-block c =
    let io = c.in-Some.io in
    let next = c.requires.next in
    fitting_is_small io.piece
    (started_fit-law c.args.plan.now c.args.history.now c.in-End.io io next.planned next.legal (sym c.started_at.ensures ∙ c.in-Some.is)).1.fits

pub ended-requires-clause-flying : goal.ended-requires-clause-flying
ended-requires-clause-flying c =
    let plan = c.args.plan.now in
    let h = c.args.history.now in
    let io = c.in-Some.io in
    let i = c.in-End in
    can_end plan h i.worker i.io i.outcome io c.args.tallies.now io.write.clone io.kind (sym c.started_at.ensures ∙ c.in-Some.is) refl refl
    (subst (IsNext plan h) i.is c.requires.next) c.requires.tallied

pub returns-in-Some : goal.returns-in-Some
returns-in-Some c =
    let plan = c.args.plan.now in
    let h = c.args.history.now in
    let i = c.in-End in
    subst (λ (e : Event). IsTallied plan (grown h e) c.ended.new.self) (sym i.is)
    (c.ended.ensures plan h i.worker i.io c.in-Some.io (sym c.started_at.ensures ∙ c.in-Some.is) refl refl refl
    (subst (IsNext plan h) i.is c.requires.next) c.requires.tallied)

-- ---- a verdict
pub clone_at-requires : goal.clone_at-requires
clone_at-requires c =
    let plan = c.args.plan.now in
    let io = c.in-Some-started_at.io in
    let next = c.requires.next in
    let fit = started_fit-law plan c.args.history.now c.in-Verdict.io io next.planned next.legal (sym c.started_at-in-Verdict.ensures ∙ c.in-Some-started_at.is) in
    slice_get_within plan.clones io.write.clone fit.0 fit.1.planned

pub judged-requires-clause-count : goal.judged-requires-clause-count
judged-requires-clause-count c =
    let plan = c.args.plan.now in
    let h = c.args.history.now in
    let next = c.requires.next in
    let kept = c.reserve.ensures in
    can_count plan h c.reserve.new.self c.in-Some-started_at.io.write.clone c.clone_at.result.now next.planned next.legal
    (tallied_same plan h c.args.tallies.now c.reserve.new.self c.requires.tallied kept.counts kept.totals kept.bads) c.clone_at.ensures.value

pub judged-requires-clause-awaited : goal.judged-requires-clause-awaited
judged-requires-clause-awaited c =
    let plan = c.args.plan.now in
    let h = c.args.history.now in
    let i = c.in-Verdict in
    let io = c.in-Some-started_at.io in
    let kept = c.reserve.ensures in
    can_judge plan h i.worker i.io i.verdict io c.reserve.new.self io.write.clone (sym c.started_at-in-Verdict.ensures ∙ c.in-Some-started_at.is) refl
    (subst (IsNext plan h) i.is c.requires.next)
    (tallied_same plan h c.args.tallies.now c.reserve.new.self c.requires.tallied kept.counts kept.totals kept.bads)

pub returns-in_ok-reserve-in-Verdict : goal.returns-in_ok-reserve-in-Verdict
returns-in_ok-reserve-in-Verdict c =
    let plan = c.args.plan.now in
    let h = c.args.history.now in
    let i = c.in-Verdict in
    let kept = c.reserve.ensures in
    subst (λ (e : Event). IsTallied plan (grown h e) c.judged.new.self) (sym i.is)
    (c.judged.ensures plan h i.worker i.io c.in-Some-started_at.io c.clone_at.result.now
    (sym c.started_at-in-Verdict.ensures ∙ c.in-Some-started_at.is) refl refl c.clone_at.ensures.value (sym c.is_fatal-is_fatal.ensures)
    (subst (IsNext plan h) i.is c.requires.next)
    (tallied_same plan h c.args.tallies.now c.reserve.new.self c.requires.tallied kept.counts kept.totals kept.bads))
