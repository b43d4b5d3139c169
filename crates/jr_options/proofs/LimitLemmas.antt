-- What the shape of a job gives its clones.
use Rattle.std.proofs.Common.{◌≡◌, ℕ, ◌+◌, ◌*◌, ◌/◌, ◌%◌, ◌<◌, ◌≤◌, true, false, not, ◌||◌, leb, ltb, eqb, length, None, ap, arith, refl, ◌⊎◌, inl, inr}
use Rattle.std.proofs.lemmas.Bool.{and_parts, and_from, le-ltb, le-leb, lt-leb, leb-true, eq-eqb, eqb-true}
use Rattle.jr_model.specs.declared.workloads.IoType.{IoType}
use Rattle.jr_model.specs.declared.workloads.IoType.TheVariants as io
use Rattle.jr_model.specs.Tickets.{interval_fits}
use Rattle.jr_job_options.specs.declared.options.JobOptions.{JobOptions}
use Rattle.jr_job_options.specs.declared.shapes.Shape.{Shape}
use Rattle.jr_job_options.specs.Options.{AreInRange}
use Rattle.jr_job_options.specs.Shapes.{HasShape}
use Rattle.jr_plan.specs.Drafts.{Clones, clone_fault}
use Rattle.jr_model.specs.PlanFacts.{SizesFit, has_reads, has_writes, work_of}
use Rattle.jr_plan.specs.Sizes.{split_fits}
use Rattle.jr_plan.specs.Workloads.{is_cut, numbers_fit}
use Rattle.jr_plan.proofs.LimitLemmas.{sizes_fit, if_needed}
use Rattle.jr_options.specs.declared.planned.PlannedJob.{PlannedJob}
use Rattle.jr_options.specs.Planned.{workload_of}

-- each type reads or writes
some_direction : (t : IoType) → (has_reads t ≡ true) ⊎ (has_writes t ≡ true)
some_direction io.Read = inl refl
some_direction io.RandRead = inl refl
some_direction io.ReadWrite = inl refl
some_direction io.RandRw = inl refl
some_direction io.Write = inr refl
some_direction io.RandWrite = inr refl

-- what the tests of a job's options mean
pub record Fit (o : JobOptions) (shape : Shape) : Type 0 where
  pub cell_least : 512 ≤ shape.cell
  pub cell_sectors : shape.cell % 512 ≡ 0
  pub offset : o.offset % 512 ≡ 0
  pub step : o.offset_step % 512 ≡ 0
  pub reads : has_reads o.io_type ≡ true → SizesFit shape.cell shape.reads
  pub writes : has_writes o.io_type ≡ true → SizesFit shape.cell shape.writes

tests_of : (o : JobOptions) (shape : Shape) → HasShape o shape → ((not (has_reads o.io_type) || split_fits shape.cell shape.reads) ≡ true) × (((not (has_writes o.io_type) || split_fits shape.cell shape.writes) ≡ true) × (interval_fits o.kind o.interval shape.cell ≡ true))
tests_of o shape h =
    let p6 = and_parts _ (interval_fits o.kind o.interval shape.cell) h.fits in
    let p5 = and_parts _ (not (has_writes o.io_type) || split_fits shape.cell shape.writes) p6.0 in
    let p4 = and_parts _ (not (has_reads o.io_type) || split_fits shape.cell shape.reads) p5.0 in
    (p4.1, (p5.1, p6.1))

pub fit_of : (o : JobOptions) (shape : Shape) → HasShape o shape → Fit o shape
fit_of o shape h =
    let reads_ok = not (has_reads o.io_type) || split_fits shape.cell shape.reads in
    let writes_ok = not (has_writes o.io_type) || split_fits shape.cell shape.writes in
    let p6 = and_parts _ (interval_fits o.kind o.interval shape.cell) h.fits in
    let p5 = and_parts _ writes_ok p6.0 in
    let p4 = and_parts _ reads_ok p5.0 in
    let p3 = and_parts _ (eqb (o.offset_step % 512) 0) p4.0 in
    let p2 = and_parts _ (eqb (o.offset % 512) 0) p3.0 in
    let p1 = and_parts (leb 512 shape.cell) (eqb (shape.cell % 512) 0) p2.0 in
    record {
      cell_least = leb-true _ _ p1.0;
      cell_sectors = eqb-true _ _ p1.1;
      offset = eqb-true _ _ p2.1;
      step = eqb-true _ _ p3.1;
      reads = λ e. sizes_fit shape.cell shape.reads (if_needed _ _ p4.1 e) h.reads_total;
      writes = λ e. sizes_fit shape.cell shape.writes (if_needed _ _ p5.1 e) h.writes_total;
    }

cell_most : (o : JobOptions) (shape : Shape) → Fit o shape → shape.cell ≤ 16777216
cell_most o shape fit =
    elim (some_direction o.io_type) [
      | inl e ↦ let s = fit.reads e in omega (arith, s.least 0 (omega arith), s.most 0 (omega arith))
      | inr e ↦ let s = fit.writes e in omega (arith, s.least 0 (omega arith), s.most 0 (omega arith))
    ]

pub cells_within : (o : JobOptions) (shape : Shape) → HasShape o shape → shape.cells * shape.cell ≤ shape.size
cells_within o shape h =
    let fit = fit_of o shape h in
    let some : 0 < shape.cell = omega (arith, fit.cell_least) in
    rw h.cells (omega arith)

-- nothing speaks against a clone of a sound job, where there is room for it
pub none_against : (d : Clones) (job : PlannedJob) (start : ℕ) → AreInRange job.options → HasShape job.options job.shape → start % 512 ≡ 0 → start + job.shape.size ≤ 1125899906842624 → job.shape.cells ≤ 16777216 → length d.clones < 64 → work_of d.clones + job.shape.cells * job.options.passes ≤ 1073741824 → clone_fault d (workload_of job) start ≡ None
none_against d job start range h place region cells room work =
    let o = job.options in
    let w = workload_of job in
    let fit = fit_of o job.shape h in
    let tests = tests_of o job.shape h in
    let within = cells_within o job.shape h in
    let cut : is_cut w start ≡ true =
    and_from _ _ (and_from _ _ (and_from _ _ (and_from _ _ (and_from _ _ (and_from _ _ (and_from _ _ (le-leb 512 w.cell fit.cell_least) (le-leb w.cell 16777216 (cell_most o job.shape fit))) (eq-eqb (w.cell % 512) 0 fit.cell_sectors)) (eq-eqb (start % 512) 0 place)) (le-leb 1 w.cells h.cells_least)) tests.0) tests.1.0) tests.1.1 in
    let numbers : numbers_fit w ≡ true =
    and_from _ _ (and_from _ _ (and_from _ _ (and_from _ _ (le-leb w.read_percent 100 range.percent) (le-leb 1 w.depth range.depth_least)) (le-leb w.depth 256 range.depth_most)) (le-leb 1 w.passes range.passes_least)) (le-leb w.passes 1000 range.passes_most) in
    let few : leb 64 (length d.clones) ≡ false = lt-leb 64 (length d.clones) room in
    let near : ltb 1125899906842624 (start + w.cells * w.cell) ≡ false = le-ltb 1125899906842624 (start + w.cells * w.cell) (omega (arith, within, region)) in
    let short : ltb 16777216 w.cells ≡ false = le-ltb 16777216 w.cells cells in
    let little : ltb 1073741824 (work_of d.clones + w.cells * w.passes) ≡ false = le-ltb 1073741824 (work_of d.clones + w.cells * w.passes) work in
    rw (cut, numbers, h.pattern, few, near, short, little) refl

-- clones of a sound job begin at whole blocks
pub start_sectors : (o : JobOptions) (shape : Shape) (index start : ℕ) → HasShape o shape → start ≡ o.offset + o.offset_step * index → start % 512 ≡ 0
start_sectors o shape index start h is =
    let fit = fit_of o shape h in
    let step : o.offset_step ≡ 512 * (o.offset_step / 512) = omega (arith, fit.step) in
    let steps : o.offset_step * index ≡ 512 * (o.offset_step / 512) * index = ap (λ n. n * index) step in
    let offset : o.offset ≡ 512 * (o.offset / 512) = omega (arith, fit.offset) in
    omega (arith, is, steps, offset)
