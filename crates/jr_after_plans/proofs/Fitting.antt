-- Each write of a plan can be carried out.
use Rattle.std.proofs.Common.{◌≡◌, ℕ, zero, suc, ◌+◌, ◌*◌, ◌<◌, List, [], ◌∷◌, slice_get, filter_map, flat_map, true, refl, subst, arith}
use Rattle.std.specs.Prelude.{All, Option, Some, None, nat_lt, ◌&&◌}
use Rattle.std.specs.List.{cons_option, range_with_len}
use Rattle.std.proofs.lemmas.Bool.{and_from, lt-ltb}
use Rattle.std.proofs.lemmas.List.Elements.{All-nil, All-cons, All-append, All-head, All-tail}
use Rattle.jr_model.specs.declared.blocks.Dir.{Dir}
use Rattle.jr_model.specs.declared.blocks.Dir.TheVariants as direction
use Rattle.jr_model.specs.declared.contents.VerifyKind.TheVariants as verify
use Rattle.jr_model.specs.declared.workloads.Draw.{Draw}
use Rattle.jr_model.specs.Draws.{draws_of_job}
use Rattle.jr_model.specs.Plan.{SubJob}
use Rattle.jr_model.specs.PlanFacts.{KeepsLimits}
use Rattle.jr_model.specs.Tickets.{piece_fits, has_pattern, interval_fits}
use Rattle.jr_model.specs.Words.{pass_words}
use Rattle.jr_model.proofs.PieceLemmas.{interval_of_cells}
use Rattle.jr_laws_draws.specs.PassLaw.{IsInRegion}
use Rattle.jr_laws_draws.proofs.TheLaw.{drawable_of, pass_law}
use Rattle.jr_after.specs.declared.writes.PlannedWrite.{PlannedWrite}
use Rattle.jr_after.specs.Writes.{write_in, write_of_draw, writes_of_clone, writes_of_pass}
use Rattle.jr_after_plans.specs.Fits.{CanBeWritten, WritesFit}

-- what holds of all that each element gives holds of all
pub all_given : {X Y : Type 0} (P : Y → Type 0) (f : X → List Y) (xs : List X) → ((k : ℕ) (x : X) → slice_get xs k ≡ Some x → All P (f x)) → All P (flat_map f xs)
all_given P f [] each = All-nil P
all_given P f (x ∷ xs) each = All-append P (f x) (flat_map f xs) (each 0 x refl) (all_given P f xs (λ k y at. each (suc k) y at))

-- what holds of each element that is kept holds of all
pub all_kept : {X Y : Type 0} (A B : X → Type 0) (P : Y → Type 0) (h : X → Option Y) → ((x : X) (y : Y) → A x → B x → h x ≡ Some y → P y) → (xs : List X) → All A xs → All B xs → All P (filter_map h xs)
all_kept A B P h each [] a b = All-nil P
all_kept {X = X} {Y = Y} A B P h each (x ∷ xs) a b = by (h x) refl (all_kept A B P h each xs (All-tail A x xs a) (All-tail B x xs b))
  where
    by : (kept : Option Y) → h x ≡ kept → All P (filter_map h xs) → All P (cons_option kept (filter_map h xs))
    by None is rest = rest
    by (Some y) is rest = All-cons P y (filter_map h xs) (each x y (All-head A x xs a) (All-head B x xs b) is) rest

-- a number of a range lies below its end
pub in_range : (a n k p : ℕ) → slice_get (range_with_len a n) k ≡ Some p → p < a + n
in_range a zero k p at = cc
in_range a (suc n) zero p at = let e : a ≡ p = cc in omega (arith, e)
in_range a (suc n) (suc k) p at = let h : p < a + 1 + n = in_range (a + 1) n k p at in omega (arith, h)

abbrev Fits : Draw → Type 0
Fits d = piece_fits d.piece ≡ true

abbrev Placed : SubJob → Draw → Type 0
Placed job d = IsInRegion job d.piece

-- a draw that fits is a write that can be carried out
draw_can : (job : SubJob) (pass : ℕ) (d : Draw) (dir : Dir) (planned : PlannedWrite) → KeepsLimits job → pass < job.passes → Fits d → Placed job d → write_in job pass d dir ≡ Some planned → CanBeWritten planned
draw_can job pass d direction.Read planned limits within fits placed is = absurd (cc)
draw_can job pass d direction.Write planned limits within fits placed is =
    let few : pass < 1000 = omega (arith, within, limits.passes_most) in
    let made : PlannedWrite = record {
      write = record { clone = job.clone; pass = pass; number = d.number };
      piece = d.piece;
      seed = d.seed;
      method = job.method;
    } in
    let same : made ≡ planned = cc in
    let cut = interval_of_cells job.method.kind job.method.interval job.cell d.piece.len placed.cells limits.interval in
    let front = and_from (piece_fits d.piece) (nat_lt pass 1000) fits (lt-ltb pass 1000 few) in
    let patterned = and_from (piece_fits d.piece && nat_lt pass 1000) (has_pattern job.method.kind job.method.pattern) front limits.pattern in
    let all = and_from (piece_fits d.piece && nat_lt pass 1000 && has_pattern job.method.kind job.method.pattern) (interval_fits job.method.kind job.method.interval d.piece.len) patterned cut in
    subst CanBeWritten same (and_from (piece_fits d.piece && nat_lt pass 1000 && has_pattern job.method.kind job.method.pattern && interval_fits job.method.kind job.method.interval d.piece.len) true all refl)

pass_can : (job : SubJob) (pass : ℕ) → KeepsLimits job → pass < job.passes → All CanBeWritten (writes_of_pass job pass)
pass_can job pass limits within =
    let law = pass_law job (drawable_of job limits) in
    let words = pass_words job pass (4 * job.cells) in
    all_kept Fits (Placed job) CanBeWritten (write_of_draw job pass) (λ d planned fits placed is. draw_can job pass d d.dir planned limits within fits placed is) (draws_of_job job pass) (law.fits words) (law.placed words)

clone_can : (job : SubJob) → KeepsLimits job → All CanBeWritten (writes_of_clone job)
clone_can job limits =
    all_given CanBeWritten (writes_of_pass job) (range_with_len 0 job.passes) (λ k pass at.
    pass_can job pass limits (let h : pass < 0 + job.passes = in_range 0 job.passes k pass at in omega (arith, h)))

pub writes_fit : WritesFit
writes_fit plan planned = all_given CanBeWritten writes_of_clone plan.clones (λ k job at. clone_can job (planned.drafted.limited k job at))
