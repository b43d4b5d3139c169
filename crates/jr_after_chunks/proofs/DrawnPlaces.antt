-- Where a planned write lies in the region of its clone.
use Rattle.std.proofs.Common.{◌≡◌, ◌⊎◌, ℕ, ◌+◌, ◌-◌, ◌*◌, ◌/◌, ◌%◌, ◌<◌, ◌≤◌, List, [], ◌∷◌, slice_get, true, false, refl, ap, sym, ◌∙◌, subst, inl, inr, arith}
use Rattle.std.specs.Prelude.{All, Some, ◌==◌, ◌||◌}
use Rattle.std.specs.List.{range_with_len}
use Rattle.std.proofs.lemmas.Bool.{and_parts, or_cases, cases_Bool, cases_lt, lt-ltb, le-ltb, eqb-true}
use Rattle.std.proofs.lemmas.List.Elements.{All-nil, All-cons, All-weaker}
use Rattle.std.proofs.Math.Nat.{div_self}
use Rattle.jr_model.specs.declared.blocks.Dir.{Dir}
use Rattle.jr_model.specs.declared.blocks.Dir.TheVariants as direction
use Rattle.jr_model.specs.declared.workloads.Draw.{Draw}
use Rattle.jr_model.specs.declared.workloads.IoType.{IoType}
use Rattle.jr_model.specs.declared.workloads.IoType.TheVariants as io
use Rattle.jr_model.specs.Directions.{has_writes}
use Rattle.jr_model.specs.Draws.{PassProgress, by_direction, cell_piece, chosen_cells, direction_of, draw_at, draws_from, draws_of_job, fresh_progress, pass_over, progress_after, size_at}
use Rattle.jr_model.specs.Plan.{SubJob, Plan}
use Rattle.jr_model.specs.PlanFacts.{IsPlanned, KeepsLimits}
use Rattle.jr_model.specs.Words.{pass_words}
use Rattle.jr_laws_draws.specs.DrawFacts.{IsSound}
use Rattle.jr_laws_draws.proofs.DrawLaws.{draws_from-over, draws_from-next}
use Rattle.jr_laws_draws.proofs.DrawnCellsLaws.{cells_fit, direction-le, drawn_cells_fit, sizes_fit, sound_after, wanted-some}
use Rattle.jr_laws_draws.proofs.PassLaws.{sound_start}
use Rattle.jr_laws_draws.proofs.TheLaw.{drawable_of}
use Rattle.jr_after.specs.declared.writes.PlannedWrite.{PlannedWrite}
use Rattle.jr_after.specs.Writes.{write_in, write_of_draw, writes_of, writes_of_clone, writes_of_pass}
use Rattle.jr_after_plans.specs.Taken.{has_one_size}
use Rattle.jr_after_plans.proofs.Fitting.{all_given, all_kept}

-- a draw is some cells of its clone's region; a write of one where there is only one size
record IsDrawn (job : SubJob) (d : Draw) : Type 0 where
  first : ℕ
  count : ℕ
  some : 1 ≤ count
  within : first + count ≤ job.cells
  piece : d.piece ≡ cell_piece job first count
  writes : d.dir ≡ direction.Write → has_writes job.io_type ≡ true
  one : d.dir ≡ direction.Write → has_one_size job.cell job.write_split ≡ true → count ≡ 1

-- and so is a planned write
pub record IsWriteOf (job : SubJob) (planned : PlannedWrite) : Type 0 where
  pub method : planned.method ≡ job.method
  pub writes : has_writes job.io_type ≡ true
  pub first : ℕ
  pub count : ℕ
  pub some : 1 ≤ count
  pub within : first + count ≤ job.cells
  pub piece : planned.piece ≡ cell_piece job first count
  pub one : has_one_size job.cell job.write_split ≡ true → count ≡ 1

-- of one of these clones
pub record IsPlannedIn (clones : List SubJob) (planned : PlannedWrite) : Type 0 where
  pub place : ℕ
  pub job : SubJob
  pub at : slice_get clones place ≡ Some job
  pub write : IsWriteOf job planned

-- the size of a split with one size, or none
single_size : (size : ℕ) (split : List (ℕ × ℕ)) (t : ℕ) → has_one_size size split ≡ true → (size_at split t ≡ size) ⊎ (size_at split t ≡ 0)
single_size size [] t single = inr refl
single_size size (entry ∷ split) t single =
    let parts = and_parts ((entry.1 == 0) || (entry.0 == size)) (has_one_size size split) single in
    elim (cases_lt t entry.1) [
      | inl below ↦
          elim (or_cases (entry.1 == 0) (entry.0 == size) parts.0) [
            | inl none ↦ absurd (omega (arith, eqb-true entry.1 0 none, below))
            | inr same ↦ inl (rw (lt-ltb t entry.1 below) (eqb-true entry.0 size same))
          ]
      | inr above ↦ rw (le-ltb t entry.1 above) (single_size size split (t - entry.1) parts.1)
    ]

dir_writes : (kind : IoType) (percent t : ℕ) → direction_of kind percent t ≡ direction.Write → has_writes kind ≡ true
dir_writes io.Read percent t e = absurd (cc)
dir_writes io.RandRead percent t e = absurd (cc)
dir_writes io.Write percent t e = refl
dir_writes io.RandWrite percent t e = refl
dir_writes io.ReadWrite percent t e = refl
dir_writes io.RandRw percent t e = refl

-- no more than one of something is wanted where a size is the cell
one_cell : (m size cell : ℕ) → 1 ≤ cell → 1 ≤ m → m ≤ size / cell → cell ≤ size → (size ≡ cell) ⊎ (size ≡ 0) → m ≡ 1
one_cell m size cell some least wanted fits (inr none) = absurd (omega (arith, fits, none, some))
one_cell m size cell some least wanted fits (inl same) =
    let one : size / cell ≡ 1 = ap (λ n. n / cell) same ∙ div_self some in
    omega (arith, one, least, wanted)

drawn_one : (job : SubJob) (done : PassProgress) (a b c seed : ℕ) → IsSound job done → pass_over job done ≡ false → IsDrawn job (draw_at job done (chosen_cells job done a b c) seed)
drawn_one job done a b c seed sound unfinished =
    let choice = chosen_cells job done a b c in
    let fits = drawn_cells_fit job done a b c sound unfinished in
    let dir = direction_of job.io_type job.read_percent (a % 100) in
    let bytes = size_at (by_direction dir job.read_split job.write_split) (b % 100) in
    let sizes = sizes_fit job (a % 100) sound.drawable in
    let t : b % 100 < 100 = omega arith in
    let least : job.cell ≤ bytes = sizes.least (b % 100) t in
    let wanted = wanted-some bytes job.cell sound.drawable.cell_least least in
    let fit = cells_fit done.places job.cells (done.reads + done.writes) (by_direction dir done.reads done.writes) (bytes / job.cell) c sound.drawable.cells_least wanted (direction-le dir done.reads done.writes) sound.places unfinished in
    record {
      first = choice.first;
      count = choice.count;
      some = fits.some;
      within = fits.within;
      piece = refl;
      writes = λ w. dir_writes job.io_type job.read_percent (a % 100) w;
      one = λ w single.
          let is : bytes ≡ size_at job.write_split (b % 100) = ap (λ (d : Dir). size_at (by_direction d job.read_split job.write_split) (b % 100)) w in
          one_cell choice.count bytes job.cell sound.drawable.cell_least fits.some fit.wanted least (subst (λ (n : ℕ). (n ≡ job.cell) ⊎ (n ≡ 0)) (sym is) (single_size job.cell job.write_split (b % 100) single));
    }

each_drawn : (job : SubJob) (words : List ℕ) (done : PassProgress) → IsSound job done → All (IsDrawn job) (draws_from job done words)
each_drawn job [] done sound = All-nil (IsDrawn job)
each_drawn job (a ∷ []) done sound = All-nil (IsDrawn job)
each_drawn job (a ∷ b ∷ []) done sound = All-nil (IsDrawn job)
each_drawn job (a ∷ b ∷ c ∷ []) done sound = All-nil (IsDrawn job)
each_drawn job (a ∷ b ∷ c ∷ seed ∷ words) done sound =
    let choice = chosen_cells job done a b c in
    elim (cases_Bool (pass_over job done)) [
      | inl over ↦ subst (All (IsDrawn job)) (sym (draws_from-over job done (a ∷ b ∷ c ∷ seed ∷ words) over)) (All-nil (IsDrawn job))
      | inr unfinished ↦
          let fits = drawn_cells_fit job done a b c sound unfinished in
          subst (All (IsDrawn job)) (sym (draws_from-next job done a b c seed words unfinished))
          (All-cons (IsDrawn job) (draw_at job done choice seed) (draws_from job (progress_after done choice) words) (drawn_one job done a b c seed sound unfinished) (each_drawn job words (progress_after done choice) (sound_after job done choice sound fits)))
    ]

write_one : (job : SubJob) (pass : ℕ) (d : Draw) (dir : Dir) (planned : PlannedWrite) → d.dir ≡ dir → IsDrawn job d → write_in job pass d dir ≡ Some planned → IsWriteOf job planned
write_one job pass d direction.Read planned way drawn is = absurd (cc)
write_one job pass d direction.Write planned way drawn is =
    let made : PlannedWrite = record {
      write = record { clone = job.clone; pass = pass; number = d.number };
      piece = d.piece;
      seed = d.seed;
      method = job.method;
    } in
    let same : made ≡ planned = cc in
    subst (IsWriteOf job) same (record {
      method = refl;
      writes = drawn.writes way;
      first = drawn.first;
      count = drawn.count;
      some = drawn.some;
      within = drawn.within;
      piece = drawn.piece;
      one = drawn.one way;
    })

pass_drawn : (job : SubJob) (pass : ℕ) → KeepsLimits job → All (IsWriteOf job) (writes_of_pass job pass)
pass_drawn job pass limits =
    let drawn = each_drawn job (pass_words job pass (4 * job.cells)) (fresh_progress job) (sound_start job (drawable_of job limits)) in
    all_kept (IsDrawn job) (IsDrawn job) (IsWriteOf job) (write_of_draw job pass) (λ d planned one other is. write_one job pass d d.dir planned refl one is) (draws_of_job job pass) drawn drawn

pub writes_drawn : (plan : Plan) → IsPlanned plan → All (IsPlannedIn plan.clones) (writes_of plan)
writes_drawn plan planned =
    all_given (IsPlannedIn plan.clones) writes_of_clone plan.clones (λ k job at.
    all_given (IsPlannedIn plan.clones) (writes_of_pass job) (range_with_len 0 job.passes) (λ n pass there.
    All-weaker (IsWriteOf job) (IsPlannedIn plan.clones) (λ write is. record { place = k; job = job; at = at; write = is }) (writes_of_pass job pass) (pass_drawn job pass (planned.drafted.limited k job at))))
