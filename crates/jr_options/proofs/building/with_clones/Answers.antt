use Rattle.std.proofs.Common.{◌≤◌, ◌+◌, ◌-◌, ◌*◌, fold, string_bytes, unwrap_or, ap, ◌∙◌, subst, arith}
use Rattle.std.proofs.Math.Nat.{mul-le-mul_left}
use Rattle.jr_options.specs.declared.planned.PlannedJob.{PlannedJob}
use Rattle.jr_plan.specs.Drafts.{with_clone, clone_fault}
use Rattle.jr_options.specs.PlanOf.{HasRoom, clones_asked, default_name, path_in, with_asked}
use Rattle.jr_options.specs.Sections.{asked_job}
use Rattle.std.specs.Option.{option_copied}
use Rattle.jr_options.specs.Surveys.{start_of}
use Rattle.jr_options.proofs.CloneLemmas.{adding-first, adding-room, adding-next, adding-done, asked_as}
use Rattle.jr_options.proofs.LimitLemmas.{start_sectors, none_against}
use Rattle.jr_options.proofs.building.with_clones.Goals as goal

pub loop-index-init : goal.loop-index-init
loop-index-init c =
    let p = asked_job c.args.job.now c.args.section.now (option_copied c.args.names.now.file_name) (option_copied c.args.names.now.directory) in
    adding-first p c.args.draft (subst (HasRoom c.args.draft) c.requires.job c.requires.room)

pub overflow_cast-start : goal.overflow_cast-start
overflow_cast-start c =
    let o = c.args.job.now.options in
    let steps = mul-le-mul_left o.offset_step (let e : c.loop-index.index ≤ o.clones - 1 = omega arith in e) in
    omega (arith, c.start_of-start.ensures.value, steps, c.requires.room.region)

pub only_memory-requires : goal.only_memory-requires
only_memory-requires c =
    let job = c.args.job.now in
    let o = job.options in
    let p = asked_job job c.args.section.now (option_copied c.args.names.now.file_name) (option_copied c.args.names.now.directory) in
    let count = ap (λ (j : PlannedJob). j.options.clones) c.requires.job in
    let visits = ap (λ (j : PlannedJob). j.shape.cells * j.options.passes) c.requires.job in
    let steps = mul-le-mul_left o.offset_step (let e : c.loop-index.index ≤ o.clones - 1 = omega arith in e) in
    let place = start_sectors o job.shape c.loop-index.index c.start_of-start.result c.requires.shape c.start_of-start.ensures.value in
    let region : c.start_of-start.result + job.shape.size ≤ 1125899906842624 = omega (arith, c.start_of-start.ensures.value, steps, c.requires.room.region) in
    let room = adding-room p c.loop-index.index c.loop-index.draft (fold with_asked c.args.draft (clones_asked p)) c.loop-index.invariant (omega (arith, count)) in
    let none = none_against c.loop-index.draft job c.start_of-start.result c.requires.range c.requires.shape place region c.requires.room.cells room.0 (omega (arith, visits, room.1)) in
    c.in-Err.ensures.memory (ap (λ w. clone_fault c.loop-index.draft w c.start_of-start.result) c.workload-workload.ensures ∙ none)

pub loop-index-preserved : goal.loop-index-preserved
loop-index-preserved c =
    let job = c.args.job.now in
    let index = c.loop-index.index in
    let p = asked_job job c.args.section.now (option_copied c.args.names.now.file_name) (option_copied c.args.names.now.directory) in
    let count = ap (λ (j : PlannedJob). j.options.clones) c.requires.job in
    let start = c.start_of-start.ensures.value ∙ ap (λ (j : PlannedJob). start_of j.options index) c.requires.job in
    let added = c.in-Ok.ensures.added ∙ ap (λ w. with_clone c.loop-index.draft w c.name-in-loop-index.result.now (string_bytes c.in_ok-file.file) c.start_of-start.result) c.workload-workload.ensures in
    let file = c.in_ok-file.ensures ∙ ap (λ n. path_in p.job.directory (unwrap_or p.job.file_name (default_name n index))) c.name.ensures in
    adding-next p index c.loop-index.draft c.add.new.self (fold with_asked c.args.draft (clones_asked p)) c.loop-index.invariant (omega (arith, count))
    (asked_as c.loop-index.draft c.add.new.self job p c.name-in-loop-index.result.now (string_bytes c.in_ok-file.file) c.start_of-start.result index added c.requires.job c.name-in-loop-index.ensures file start)

pub returns-clause-ok : goal.returns-clause-ok
returns-clause-ok c =
    let p = asked_job c.args.job.now c.args.section.now (option_copied c.args.names.now.file_name) (option_copied c.args.names.now.directory) in
    let count = ap (λ (j : PlannedJob). j.options.clones) c.requires.job in
    adding-done p c.loop-index.index c.loop-index.draft (fold with_asked c.args.draft (clones_asked p)) c.loop-index.invariant (omega (arith, count))
