use Rattle.std.proofs.Common.{◌≡◌, ℕ, ◌≤◌, ◌<◌, [], Ok, Err, length, take, drop, fold, unwrap_or, subst, sym, ap, ◌∙◌, arith, refl, codes}
use Rattle.std.specs.Prelude.{IfOk}
use Rattle.std.specs.Option.{option_copied}
use Rattle.jr_model.specs.declared.workloads.EngineKind.{EngineKind}
use Rattle.jr_model.specs.declared.workloads.EngineKind.TheVariants as engine
use Rattle.jr_model.specs.Plan.{Plan}
use Rattle.jr_plan.specs.Drafts.{Clones}
use Rattle.jr_job_options.specs.Lookups.{value_from}
use Rattle.jr_job_options.specs.Options.{AreInRange}
use Rattle.jr_options.specs.declared.names.Names.{Names}
use Rattle.jr_options.specs.declared.sections.Reading.TheVariants as reading
use Rattle.jr_options.specs.declared.tallies.Tally.{Tally}
use Rattle.jr_options.specs.PlanOf.{clones_asked, clones_of, engine_of, jobs_below, plan_of, with_asked}
use Rattle.jr_options.specs.Sections.{IsInRange, asked_job, reading_of}
use Rattle.jr_options.proofs.BuildLemmas.{left-none, left-phase, stands-first, stands-as, stands-at, stands-on, stands-global, stands-skip, stands-read, stands-shaped, stands-room, stands-asked, stands-job}
use Rattle.jr_options.proofs.SoundLemmas.{engine_is, verifiers_are}
use Rattle.jr_options.proofs.SurveyLemmas.{surveyed}
use Rattle.jr_options.proofs.building.build.Goals as goal
use Rattle.jr_options.proofs.building.build.Goals.{in-Ok-Globals, in-Ok-Job+in-Ok+in_ok-draft-in-Ok, in-Ok-Skipped}

pub loop-section-init : goal.loop-section-init
loop-section-init c =
    let start = stands-first (option_copied c.args.only) c.args.sections.now c.args.tally c.requires.planned c.requires.surveyed c.requires.sound in
    (stands-as start c.new-draft.ensures refl c.new-globals.ensures.value c.new-names.ensures.file_name c.new-names.ensures.directory, c.new-globals.ensures.range)

pub planned_job-requires-clause-phase : goal.planned_job-requires-clause-phase
planned_job-requires-clause-phase c =
    let only = option_copied c.args.only in
    let sections = c.args.sections.now in
    let i = c.loop-section.section-index in
    left-phase only (take i sections) (drop i sections) c.loop-section.draft c.loop-section.phase (clones_of (jobs_below only [] sections)) c.loop-section.invariant.0.left

pub returns-in-Err-clause-err : goal.returns-in-Err-clause-err
returns-in-Err-clause-err c =
    let only = option_copied c.args.only in
    let sections = c.args.sections.now in
    let i = c.loop-section.section-index in
    let section = c.section-item.result in
    let within : i < length sections = omega arith in
    let left = stands-at sections i section within c.section-item.is c.loop-section.invariant.0 in
    let says : Err c.in-Err.fault ≡ reading_of only c.loop-section.globals section = cc (c.in-Err.ensures.value) in
    absurd (stands-read left c.in-Err.fault says)

pub returns-in-Err-planned_job-clause-err : goal.returns-in-Err-planned_job-clause-err
returns-in-Err-planned_job-clause-err c =
    let only = option_copied c.args.only in
    let sections = c.args.sections.now in
    let i = c.loop-section.section-index in
    let section = c.section-item.result in
    let within : i < length sections = omega arith in
    let left = stands-at sections i section within c.section-item.is c.loop-section.invariant.0 in
    let says : Ok (reading.Job c.in-Ok-Job.options) ≡ reading_of only c.loop-section.globals section = cc (c.in-Ok-Job.ensures.value) in
    absurd (stands-shaped left c.in-Ok-Job.options c.in-Err-planned_job.fault says c.in-Err-planned_job.ensures.value)

pub with_clones-requires-clause-job : goal.with_clones-requires-clause-job
with_clones-requires-clause-job c =
    let only = option_copied c.args.only in
    let sections = c.args.sections.now in
    let i = c.loop-section.section-index in
    let section = c.section-item.result in
    let within : i < length sections = omega arith in
    let left = stands-at sections i section within c.section-item.is c.loop-section.invariant.0 in
    let says : Ok (reading.Job c.in-Ok-Job.options) ≡ reading_of only c.loop-section.globals section = cc (c.in-Ok-Job.ensures.value) in
    let named = c.with_lines-own.ensures.file_name ∙ ap (value_from (option_copied c.loop-section.names.file_name) (codes "filename")) c.lines-in-Ok.ensures in
    let placed = c.with_lines-own.ensures.directory ∙ ap (value_from (option_copied c.loop-section.names.directory) (codes "directory")) c.lines-in-Ok.ensures in
    stands-asked left c.in-Ok-Job.options c.in-Ok.job says c.in-Ok.ensures.value (option_copied c.with_lines-own.result.file_name) (option_copied c.with_lines-own.result.directory) named placed

pub with_clones-requires-clause-room : goal.with_clones-requires-clause-room
with_clones-requires-clause-room c =
    let only = option_copied c.args.only in
    let sections = c.args.sections.now in
    let i = c.loop-section.section-index in
    let section = c.section-item.result in
    let within : i < length sections = omega arith in
    let left = stands-at sections i section within c.section-item.is c.loop-section.invariant.0 in
    let says : Ok (reading.Job c.in-Ok-Job.options) ≡ reading_of only c.loop-section.globals section = cc (c.in-Ok-Job.ensures.value) in
    stands-room left c.in-Ok-Job.options c.in-Ok.job says c.in-Ok.ensures.value

pub loop-section-preserved : goal.loop-section-preserved
loop-section-preserved c =
    let only = option_copied c.args.only in
    let sections = c.args.sections.now in
    let i = c.loop-section.section-index in
    let section = c.section-item.result in
    let globals = c.loop-section.globals in
    let file = option_copied c.loop-section.names.file_name in
    let directory = option_copied c.loop-section.names.directory in
    let within : i < length sections = omega arith in
    let left = stands-at sections i section within c.section-item.is c.loop-section.invariant.0 in
    let next = c.match-read_section-2 in
    elim next.branch [
      | in-Ok-Globals w ↦
          let is : c.read_section.result ≡ Ok (reading.Globals next.globals) = cc (w.globals-is) in
          let done = stands-global left next.globals (sym is ∙ c.read_section.ensures.value) in
          let named = ap (λ (n : Names). option_copied n.file_name) w.names-is ∙ w.with_lines-names.ensures.file_name ∙ ap (value_from file (codes "filename")) w.lines.ensures in
          let placed = ap (λ (n : Names). option_copied n.directory) w.names-is ∙ w.with_lines-names.ensures.directory ∙ ap (value_from directory (codes "directory")) w.lines.ensures in
          (stands-on sections i section within c.section-item.is (stands-as done w.draft-is w.phase-is refl named placed), subst (λ r. IfOk r IsInRange) is c.read_section.ensures.range)
      | in-Ok-Job+in-Ok+in_ok-draft-in-Ok w ↦
          let job = w.in-Ok.job in
          let same : job.options ≡ _ = w.in-Ok.ensures.options in
          let is : c.read_section.result ≡ Ok (reading.Job job.options) = cc (same) in
          let file_name = option_copied w.with_lines-own.result.file_name in
          let its_directory = option_copied w.with_lines-own.result.directory in
          let named : file_name ≡ value_from file (codes "filename") section.lines = w.with_lines-own.ensures.file_name ∙ ap (value_from file (codes "filename")) w.lines-in-Ok.ensures in
          let placed : its_directory ≡ value_from directory (codes "directory") section.lines = w.with_lines-own.ensures.directory ∙ ap (value_from directory (codes "directory")) w.lines-in-Ok.ensures in
          let made : w.in_ok-draft-in-Ok.draft ≡ fold with_asked c.loop-section.draft (clones_asked (asked_job job section file_name its_directory)) = w.in_ok-draft-in-Ok.ensures.ok in
          let done = stands-job left job.options job (sym is ∙ c.read_section.ensures.value) w.in-Ok.ensures.planned w.in_ok-draft-in-Ok.draft file_name its_directory named placed w.in-Ok.ensures.range.clones_least made in
          (stands-on sections i section within c.section-item.is (stands-as done w.draft-is w.phase-is w.globals-is (ap (λ (n : Names). option_copied n.file_name) w.names-is) (ap (λ (n : Names). option_copied n.directory) w.names-is)), subst AreInRange (sym w.globals-is) c.loop-section.invariant.1)
      | in-Ok-Skipped w ↦
          let is : c.read_section.result ≡ Ok reading.Skipped = cc in
          let done = stands-skip left (sym is ∙ c.read_section.ensures.value) in
          (stands-on sections i section within c.section-item.is (stands-as done w.draft-is w.phase-is w.globals-is (ap (λ (n : Names). option_copied n.file_name) w.names-is) (ap (λ (n : Names). option_copied n.directory) w.names-is)), subst AreInRange (sym w.globals-is) c.loop-section.invariant.1)
    ]

pub returns-clause-ok : goal.returns-clause-ok
unfolding plan_of
returns-clause-ok c =
    let only = option_copied c.args.only in
    let sections = c.args.sections.now in
    let jobs = jobs_below only [] sections in
    let past : length sections ≤ c.loop-section.section-index = omega arith in
    let done = left-none only sections c.loop-section.section-index c.loop-section.draft c.loop-section.phase (clones_of jobs) past c.loop-section.invariant.0.left in
    let found = surveyed only sections c.args.tally c.requires.surveyed in
    let made : Clones → EngineKind → ℕ → Plan = λ (d : Clones) (e : EngineKind) (v : ℕ). record { clones = d.clones; files = d.files; engine = e; verifiers = v } in
    let kind : c.unwrap_or-engine.result ≡ unwrap_or c.args.tally.engine engine.File = c.unwrap_or-engine.ensures in
    c.finish.ensures
    ∙ ap (λ d. made d c.unwrap_or-engine.result c.args.tally.verifiers) done.0
    ∙ ap (λ e. made (clones_of jobs) e c.args.tally.verifiers) (kind ∙ ap (λ (t : Tally). unwrap_or t.engine engine.File) (sym found.0) ∙ engine_is jobs)
    ∙ ap (made (clones_of jobs) (engine_of jobs)) (ap (λ (t : Tally). t.verifiers) (sym found.0) ∙ verifiers_are jobs)
