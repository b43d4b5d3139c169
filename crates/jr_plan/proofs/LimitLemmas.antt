-- What a workload that is taken keeps.
use Rattle.std.proofs.Common.{◌≡◌, ℕ, ◌+◌, ◌-◌, ◌*◌, ◌%◌, ◌<◌, ◌≤◌, Bool, true, false, not, ◌||◌, leb, ltb, eqb, List, [], ◌∷◌, length, None, arith, refl, inl, inr}
use Rattle.std.proofs.lemmas.Bool.{and_parts, or_cases, cases_lt, lt-ltb, le-ltb, leb-true, leb-false, ltb-false, eqb-true, not-false}
use Rattle.std.proofs.lemmas.List.Sums.{sum_by-append}
use Rattle.jr_model.specs.Directions.{has_reads, has_writes}
use Rattle.jr_model.specs.Draws.{size_at}
use Rattle.jr_model.specs.Tickets.{has_pattern, interval_fits}
use Rattle.jr_plan.specs.declared.faults.PlanFault.TheVariants as fault
use Rattle.jr_plan.specs.declared.workloads.Workload.{Workload}
use Rattle.jr_plan.specs.Clones.{planned_clone}
use Rattle.jr_plan.specs.Drafts.{Clones, clone_fault, limit_fault}
use Rattle.jr_model.specs.PlanFacts.{SizesFit, KeepsLimits, work_of}
use Rattle.jr_model.proofs.OptionLemmas.{none_chosen, neither}
use Rattle.jr_plan.specs.Sizes.{entry_fits, split_fits}
use Rattle.jr_plan.specs.SplitEntries.{percents_total}
use Rattle.jr_plan.specs.Workloads.{is_cut, numbers_fit, workload_fault}

-- what an entry's size keeps
abbrev Fitting : ℕ → ℕ → Type 0
Fitting cell size = (size % cell ≡ 0) × (cell ≤ size) × (size ≤ 16777216)

entry-fitting : (cell size percent : ℕ) → entry_fits cell (size, percent) ≡ true → 0 < percent → Fitting cell size
entry-fitting cell size percent fits some =
    elim (or_cases (eqb percent 0) _ fits) [
      | inl none ↦ absurd (omega (arith, eqb-true percent 0 none))
      | inr all ↦
          let parts = and_parts _ (leb size 16777216) all in
          let front = and_parts (leb cell size) (eqb (size % cell) 0) parts.0 in
          (eqb-true _ _ front.1, leb-true _ _ front.0, leb-true _ _ parts.1)
    ]

-- each size that a fitting split gives fits
size_at-fitting : (cell : ℕ) (split : List (ℕ × ℕ)) (t : ℕ) → split_fits cell split ≡ true → t < percents_total split → Fitting cell (size_at split t)
size_at-fitting cell [] t fits within = absurd (omega arith)
size_at-fitting cell (entry ∷ split) t fits within =
    let parts = and_parts (entry_fits cell entry) (split_fits cell split) fits in
    let total = sum_by-append (λ (e : ℕ × ℕ). e.1) (entry ∷ []) split in
    let first : percents_total (entry ∷ []) ≡ 0 + entry.1 = refl in
    elim (cases_lt t entry.1) [
      | inl below ↦ rw (lt-ltb t entry.1 below) (entry-fitting cell entry.0 entry.1 parts.0 (omega arith))
      | inr above ↦ rw (le-ltb t entry.1 above) (size_at-fitting cell split (t - entry.1) parts.1 (omega arith))
    ]

pub sizes_fit : (cell : ℕ) (split : List (ℕ × ℕ)) → split_fits cell split ≡ true → percents_total split ≡ 100 → SizesFit cell split
sizes_fit cell split fits total = record {
  multiple = λ t h. (size_at-fitting cell split t fits (omega arith)).0;
  least = λ t h. (size_at-fitting cell split t fits (omega arith)).1;
  most = λ t h. (size_at-fitting cell split t fits (omega arith)).2;
}

pub if_needed : (needed fits : Bool) → (not needed || fits) ≡ true → needed ≡ true → fits ≡ true
if_needed true fits h e = h
if_needed false fits h e = absurd (cc)

-- what is known of a clone that nothing speaks against
pub record IsTaken (d : Clones) (w : Workload) (start : ℕ) : Type 0 where
  pub cut : is_cut w start ≡ true
  pub numbers : numbers_fit w ≡ true
  pub pattern : has_pattern w.method.kind w.method.pattern ≡ true
  pub room : length d.clones < 64
  pub region : start + w.cells * w.cell ≤ 1125899906842624
  pub cells : w.cells ≤ 16777216
  pub work : work_of d.clones + w.cells * w.passes ≤ 1073741824

pub taken_of : (d : Clones) (w : Workload) (start : ℕ) → clone_fault d w start ≡ None → IsTaken d w start
taken_of d w start none =
    let both = neither (workload_fault w start) (limit_fault d w start) none in
    let a1 = none_chosen (not (is_cut w start)) fault.Block _ both.0 in
    let a2 = none_chosen (not (numbers_fit w)) fault.Number _ a1.1 in
    let a3 = none_chosen (not (has_pattern w.method.kind w.method.pattern)) fault.NoPattern None a2.1 in
    let b1 = none_chosen (leb 64 (length d.clones)) _ _ both.1 in
    let b2 = none_chosen (ltb 1125899906842624 (start + w.cells * w.cell)) _ _ b1.1 in
    let b3 = none_chosen (ltb 16777216 w.cells) _ _ b2.1 in
    let b4 = none_chosen (ltb 1073741824 (work_of d.clones + w.cells * w.passes)) _ None b3.1 in
    record {
      cut = not-false _ a1.0;
      numbers = not-false _ a2.0;
      pattern = not-false _ a3.0;
      room = leb-false _ _ b1.0;
      region = ltb-false _ _ b2.0;
      cells = ltb-false _ _ b3.0;
      work = ltb-false _ _ b4.0;
    }

-- its clone keeps the limits
pub limits_kept : (d : Clones) (w : Workload) (job : List ℕ) (number file start : ℕ) → clone_fault d w start ≡ None → percents_total w.reads ≡ 100 → percents_total w.writes ≡ 100 → KeepsLimits (planned_clone w job number file start)
limits_kept d w job number file start none reads writes =
    let t = taken_of d w start none in
    let reads_ok = not (has_reads w.io_type) || split_fits w.cell w.reads in
    let writes_ok = not (has_writes w.io_type) || split_fits w.cell w.writes in
    let c7 = and_parts _ (interval_fits w.method.kind w.method.interval w.cell) t.cut in
    let c6 = and_parts _ writes_ok c7.0 in
    let c5 = and_parts _ reads_ok c6.0 in
    let c4 = and_parts _ (leb 1 w.cells) c5.0 in
    let c3 = and_parts _ (eqb (start % 512) 0) c4.0 in
    let c2 = and_parts _ (eqb (w.cell % 512) 0) c3.0 in
    let c1 = and_parts (leb 512 w.cell) (leb w.cell 16777216) c2.0 in
    let n4 = and_parts _ (leb w.passes 1000) t.numbers in
    let n3 = and_parts _ (leb 1 w.passes) n4.0 in
    let n2 = and_parts _ (leb w.depth 256) n3.0 in
    let n1 = and_parts (leb w.read_percent 100) (leb 1 w.depth) n2.0 in
    record {
      cell_sectors = eqb-true _ _ c2.1;
      cell_least = leb-true _ _ c1.0;
      cell_most = leb-true _ _ c1.1;
      cells_least = leb-true _ _ c4.1;
      cells_most = t.cells;
      start_sectors = eqb-true _ _ c3.1;
      region = t.region;
      percent = leb-true _ _ n1.0;
      depth_least = leb-true _ _ n1.1;
      depth_most = leb-true _ _ n2.1;
      passes_least = leb-true _ _ n3.1;
      passes_most = leb-true _ _ n4.1;
      reads = λ e. sizes_fit w.cell w.reads (if_needed _ _ c5.1 e) reads;
      writes = λ e. sizes_fit w.cell w.writes (if_needed _ _ c6.1 e) writes;
      pattern = t.pattern;
      interval = c7.1;
    }
