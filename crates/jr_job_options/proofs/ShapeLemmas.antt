-- The shape of a sound job is the one that its options say.
use Rattle.std.proofs.Common.{◌≡◌, ℕ, ◌/◌, Bool, true, false, not, ◌||◌, cond, Option, Some, None, Result, Ok, Err, ap, ◌∙◌, sym, refl}
use Rattle.std.specs.Prelude.{◌==◌, unwrap_or, IfOk}
use Rattle.jr_model.specs.Tickets.{has_pattern}
use Rattle.jr_job_options.specs.declared.faults.JobFault.{JobFault}
use Rattle.jr_job_options.specs.declared.faults.JobFault.TheVariants as fault
use Rattle.jr_job_options.specs.declared.options.JobOptions.{JobOptions}
use Rattle.jr_job_options.specs.declared.shapes.Shape.{Shape}
use Rattle.jr_job_options.specs.Shapes.{shape_of, shape_with, shape_in, options_fit, cell_of, reads_of, writes_of}

-- a job of some shape has the one that its options say
unfaulted : (b1 b2 : Bool) (f1 f2 : JobFault) (cut shape : Shape) → cond b1 (Err f1) (cond b2 (Err f2) (Ok cut)) ≡ Ok shape → shape ≡ cut
unfaulted true b2 f1 f2 cut shape is = absurd (cc)
unfaulted false true f1 f2 cut shape is = absurd (cc)
unfaulted false false f1 f2 cut shape is = cc

cut_as : (o : JobOptions) (line : ℕ) (size : Option ℕ) (shape : Shape) → o.size ≡ size → shape_with o line size ≡ Ok shape → shape ≡ shape_in o
cut_as o line None shape sized is = absurd (cc)
cut_as o line (Some n) shape sized is =
    let cell = cell_of o (reads_of o) (writes_of o) in
    let cut : ℕ → Shape = λ (size : ℕ). record { size = size; cell = cell; cells = size / cell; reads = reads_of o; writes = writes_of o } in
    unfaulted (not (options_fit o cell (reads_of o) (writes_of o)) || (n / cell == 0)) (not (has_pattern o.kind o.pattern)) (fault.BadBlock line) (fault.NoPattern line) (cut n) shape is
    ∙ ap (λ s. cut (unwrap_or s 0)) (sym sized)

pub shaped_as : (o : JobOptions) (line : ℕ) (shape : Shape) → shape_of o line ≡ Ok shape → shape ≡ shape_in o
unfolding shape_of
shaped_as o line shape is = cut_as o line o.size shape refl is

pub cut_if : (o : JobOptions) (line size : ℕ) (read : Result Shape JobFault) → o.size ≡ Some size → read ≡ shape_with o line (Some size) → IfOk read (λ shape. shape ≡ shape_in o)
cut_if o line size (Err f) sized is = tt
cut_if o line size (Ok shape) sized is = cut_as o line (Some size) shape sized (sym is)
