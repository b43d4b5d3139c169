use Rattle.std.proofs.Common.{◌≡◌, ℕ, suc, ◌+◌, ◌<◌, ◌≤◌, List, None, sym, ◌∙◌, ap, subst, arith}
use Rattle.std.specs.Prelude.{Option, slice_get}
use Rattle.std.specs.Option.{option_map}
use Rattle.std.proofs.lemmas.Bool.{lt-ltb, le-ltb}
use Rattle.std.proofs.lemmas.Option.{same_Some}
use Rattle.jr_model.specs.declared.events.Event.{Event}
use Rattle.jr_model.specs.declared.workloads.Draw.{Draw}
use Rattle.jr_model.specs.Plan.{SubJob}
use Rattle.jr_model.specs.Rounds.{pass_of}
use Rattle.jr_laws_rounds.specs.Standing.{issue_of, next_issue}
use Rattle.jr_model.proofs.PlaceLemmas.{item_at}
use Rattle.jr_desk_state.specs.declared.choosing.Chosen.{Chosen}
use Rattle.jr_desk_state.specs.declared.standings.Standing.{Standing}
use Rattle.jr_desk_state.proofs.ChoiceMoves.{next_here, next_later, next_none}
use Rattle.jr_desk_state.proofs.ChoiceCounts.{draw_here, fits_here, pass_below, later_is, fits_later, later_made}
use Rattle.jr_desk_state.proofs.StandingHere.{prepared, stands_here}
use Rattle.jr_desk_state.proofs.choosing.next_issue.Goals as goal

pub issue_of-requires-clause-fits : goal.issue_of-requires-clause-fits
issue_of-requires-clause-fits c =
    let first = item_at c.args.plan.now.clones c.args.clone c.requires.there in
    let here = stands_here c.args.clone c.requires.board first.1 c.index-standing.ensures in
    fits_here here c.next.result c.next.ensures

pub returns-then-not-pass_is_finished-clause-step : goal.returns-then-not-pass_is_finished-clause-step
returns-then-not-pass_is_finished-clause-step c job standing there at =
    let plan = c.args.plan.now in
    let board = c.args.board.now in
    let stood = c.index-standing.result.now in
    let here = stands_here c.args.clone c.requires.board there c.index-standing.ensures in
    let same : stood ≡ standing = same_Some stood standing (sym here.at ∙ at) in
    let unfinished = sym (c.pass_is_finished.ensures job stood there here.at) ∙ c.if-not-pass_is_finished.true in
    let step = option_map (λ (chosen : Chosen). chosen.event) c.issue_of.result in
    subst (λ (s : Standing). step ≡ next_issue plan board.history.items c.args.worker job s.pass) same
    (c.issue_of.ensures.step job there (c.requires.opened job there)
    ∙ ap (issue_of plan board.history.items c.args.worker (pass_of job stood.pass))
    (c.next.ensures ∙ draw_here here)
    ∙ sym (next_here plan board.history.items c.args.worker job stood.pass unfinished))

pub overflow_add-next : goal.overflow_add-next
overflow_add-next c =
    let first = item_at c.args.plan.now.clones c.args.clone c.requires.there in
    let here = stands_here c.args.clone c.requires.board first.1 c.index-standing.ensures in
    omega (arith, pass_below here)

pub returns-then-next-passes-clause-step : goal.returns-then-next-passes-clause-step
returns-then-next-passes-clause-step c job standing there at =
    let plan = c.args.plan.now in
    let board = c.args.board.now in
    let stood = c.index-standing.result.now in
    let here = stands_here c.args.clone c.requires.board there c.index-standing.ensures in
    let same : stood ≡ standing = same_Some stood standing (sym here.at ∙ at) in
    let finished = sym (c.pass_is_finished.ensures job stood there here.at) ∙ c.if-not-pass_is_finished.false in
    let same_job : c.clone_at.result.now ≡ job = same_Some c.clone_at.result.now job (sym c.clone_at.ensures.value ∙ there) in
    let last : job.passes ≤ suc stood.pass = subst (λ (j : SubJob). j.passes ≤ suc stood.pass) same_job
    (omega (arith, c.if-next-passes.true, c.passes.ensures)) in
    subst (λ (s : Standing). ◌≡◌ {A = Option Event} None (next_issue plan board.history.items c.args.worker job s.pass)) same
    (sym (next_none plan board.history.items c.args.worker job stood.pass finished (le-ltb (suc stood.pass) job.passes last)))

pub issue_of-requires-in-Some-clause-fits : goal.issue_of-requires-in-Some-clause-fits
issue_of-requires-in-Some-clause-fits c =
    let first = item_at c.args.plan.now.clones c.args.clone c.requires.there in
    let here = stands_here c.args.clone c.requires.board first.1 c.index-standing.ensures in
    fits_later here c.in-Some.draws c.next-in-Some.result c.in-Some.is
    c.next-in-Some.ensures

pub returns-in-Some-clause-step : goal.returns-in-Some-clause-step
returns-in-Some-clause-step c job standing there at =
    let plan = c.args.plan.now in
    let board = c.args.board.now in
    let stood = c.index-standing.result.now in
    let here = stands_here c.args.clone c.requires.board there c.index-standing.ensures in
    let same : stood ≡ standing = same_Some stood standing (sym here.at ∙ at) in
    let finished = sym (c.pass_is_finished.ensures job stood there here.at) ∙ c.if-not-pass_is_finished.false in
    let same_job : c.clone_at.result.now ≡ job = same_Some c.clone_at.result.now job (sym c.clone_at.ensures.value ∙ there) in
    let follows : suc stood.pass < job.passes = subst (λ (j : SubJob). suc stood.pass < j.passes) same_job
    (omega (arith, c.if-next-passes.false, c.passes.ensures)) in
    let more : stood.pass + 1 ≡ suc stood.pass = omega arith in
    let step = option_map (λ (chosen : Chosen). chosen.event) c.issue_of-in-Some.result in
    subst (λ (s : Standing). step ≡ next_issue plan board.history.items c.args.worker job s.pass) same
    (c.issue_of-in-Some.ensures.step job there (c.requires.opened job there)
    ∙ ap (λ (p : ℕ). issue_of plan board.history.items c.args.worker (pass_of job p) c.next-in-Some.result) more
    ∙ ap (issue_of plan board.history.items c.args.worker (pass_of job (suc stood.pass)))
    (c.next-in-Some.ensures ∙ ap (λ (draws : List Draw). slice_get draws 0)
    (later_is here c.in-Some.draws c.in-Some.is))
    ∙ sym (next_later plan board.history.items c.args.worker job stood.pass finished (lt-ltb (suc stood.pass) job.passes follows)))

pub returns-in-None-clause-step : goal.returns-in-None-clause-step
returns-in-None-clause-step c job standing there at =
    let stood = c.index-standing.result.now in
    let here = stands_here c.args.clone c.requires.board there c.index-standing.ensures in
    let finished = sym (c.pass_is_finished.ensures job stood there here.at) ∙ c.if-not-pass_is_finished.false in
    let same_job : c.clone_at.result.now ≡ job = same_Some c.clone_at.result.now job (sym c.clone_at.ensures.value ∙ there) in
    let follows : suc stood.pass < job.passes = subst (λ (j : SubJob). suc stood.pass < j.passes) same_job
    (omega (arith, c.if-next-passes.false, c.passes.ensures)) in
    absurd (later_made here
    (prepared here c.requires.ready) finished follows c.in-None.is)
