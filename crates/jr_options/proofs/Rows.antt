-- The plans of worked job files, by computing.
use Rattle.std.specs.Fmt.{digits}
use Rattle.std.proofs.Common.{◌≡◌, ℕ, List, [], ◌∷◌, map, Some, None, refl, codes}
use Rattle.jr_model.specs.Plan.{SubJob}
use Rattle.jr_text.specs.Number.{number_of}
use Rattle.jr_text.specs.Records.{LineText, SectionText}
use Rattle.jr_job_options.specs.declared.faults.JobFault.TheVariants as fault
use Rattle.jr_options.specs.PlanOf.{default_name, plan_of}
use Rattle.jr_plan.specs.PlanText.{plan_text, place_text, size_text, work_text}
use Rattle.jr_options.specs.Refusals.{refusal_of}
use Rattle.jr_job_options.specs.Settings.{setting_of}
use Rattle.jr_job_options.specs.Shapes.{shape_of}

-- the option `key=value` on a line, and one without a value
setting : ℕ → List ℕ → List ℕ → LineText
setting line key value = record { line = line; key = key; value = Some value }

bare : ℕ → List ℕ → LineText
bare line key = record { line = line; key = key; value = None }

section : ℕ → List ℕ → List LineText → SectionText
section line name lines = record { name = name; line = line; lines = lines }

-- `[global] rw=write size=32k bs=8k`, `[a]`, `[global] bs=16k`, `[b]`
two_globals : List SectionText
two_globals =
    section 1 (codes "global") (setting 2 (codes "rw") (codes "write") ∷ setting 3 (codes "size") (codes "32k") ∷ setting 4 (codes "bs") (codes "8k") ∷ [])
    ∷ section 5 (codes "a") []
    ∷ section 6 (codes "global") (setting 7 (codes "bs") (codes "16k") ∷ [])
    ∷ section 8 (codes "b") []
    ∷ []

-- the second global section counts for the job below it alone
globals_row : plan_text (plan_of two_globals None) ≡ codes "a: clone=0 phase=0 file=a.0.0 start=0 size=32768 cell=8192 cells=4 rw=write iodepth=1 loops=1 verify=none\nb: clone=1 phase=0 file=b.0.0 start=0 size=32768 cell=16384 cells=2 rw=write iodepth=1 loops=1 verify=none\n"
unfolding setting bare section two_globals plan_of setting_of number_of default_name place_text size_text work_text digits
globals_row = refl

-- one job alone is numbered from 0
one_job_row : plan_text (plan_of two_globals (Some (codes "b"))) ≡ codes "b: clone=0 phase=0 file=b.0.0 start=0 size=32768 cell=16384 cells=2 rw=write iodepth=1 loops=1 verify=none\n"
unfolding setting bare section two_globals plan_of setting_of number_of default_name place_text size_text work_text digits
one_job_row = refl

no_section_row : refusal_of two_globals (Some (codes "c")) ≡ Some fault.NoSection
unfolding setting bare section two_globals refusal_of
no_section_row = refl

-- `[a] rw=write size=8k offset=4k offset_increment=8k numjobs=2`, `[b] rw=write size=4k stonewall`
two_phases : List SectionText
two_phases =
    section 1 (codes "a") (setting 2 (codes "rw") (codes "write") ∷ setting 3 (codes "size") (codes "8k") ∷ setting 4 (codes "offset") (codes "4k") ∷ setting 5 (codes "offset_increment") (codes "8k") ∷ setting 6 (codes "numjobs") (codes "2") ∷ [])
    ∷ section 7 (codes "b") (setting 8 (codes "rw") (codes "write") ∷ setting 9 (codes "size") (codes "4k") ∷ bare 10 (codes "stonewall") ∷ [])
    ∷ []

phases_row : plan_text (plan_of two_phases None) ≡ codes "a: clone=0 phase=0 file=a.0.0 start=4096 size=8192 cell=4096 cells=2 rw=write iodepth=1 loops=1 verify=none\na: clone=1 phase=0 file=a.1.0 start=12288 size=8192 cell=4096 cells=2 rw=write iodepth=1 loops=1 verify=none\nb: clone=2 phase=1 file=b.0.0 start=0 size=4096 cell=4096 cells=1 rw=write iodepth=1 loops=1 verify=none\n"
unfolding setting bare section two_phases plan_of setting_of number_of default_name place_text size_text work_text digits
phases_row = refl

phases_sound : refusal_of two_phases None ≡ None
unfolding setting bare section two_phases refusal_of setting_of number_of shape_of
phases_sound = refl

-- `[a] size=8k numjobs=2 offset_increment=4k filename=f directory=/tmp`
one_file : List SectionText
one_file =
    section 1 (codes "a") (setting 2 (codes "size") (codes "8k") ∷ setting 3 (codes "numjobs") (codes "2") ∷ setting 4 (codes "offset_increment") (codes "4k") ∷ setting 5 (codes "filename") (codes "f") ∷ setting 6 (codes "directory") (codes "/tmp") ∷ [])
    ∷ []

one_file_row : (plan_of one_file None).files ≡ (record { name = codes "/tmp/f"; low = 0; high = 12288 }) ∷ []
unfolding setting section one_file plan_of setting_of number_of
one_file_row = refl

-- `[a] size=4k`, `[b] size=4k stonewall=0`, `[c] size=4k stonewall`: a job that doesn't wait begins no phase
three_jobs : List SectionText
three_jobs =
    section 1 (codes "a") (setting 2 (codes "size") (codes "4k") ∷ [])
    ∷ section 3 (codes "b") (setting 4 (codes "size") (codes "4k") ∷ setting 5 (codes "stonewall") (codes "0") ∷ [])
    ∷ section 6 (codes "c") (setting 7 (codes "size") (codes "4k") ∷ bare 8 (codes "stonewall") ∷ [])
    ∷ []

three_jobs_row : map (λ (job : SubJob). job.phase) (plan_of three_jobs None).clones ≡ 0 ∷ 0 ∷ 1 ∷ []
unfolding setting bare section three_jobs plan_of setting_of number_of
three_jobs_row = refl

-- `[a]`, `[b] size=4k ioengine=null`, `[c] size=4k sise=4k`: a faulty line comes before a job without a size, and that one before
-- engines of several kinds; what is not asked for is not looked at
several_faults : List SectionText
several_faults =
    section 1 (codes "a") []
    ∷ section 2 (codes "b") (setting 3 (codes "size") (codes "4k") ∷ setting 4 (codes "ioengine") (codes "null") ∷ [])
    ∷ section 5 (codes "c") (setting 6 (codes "size") (codes "4k") ∷ setting 7 (codes "sise") (codes "4k") ∷ [])
    ∷ []

line_first_row : refusal_of several_faults None ≡ Some (fault.Unknown 7)
unfolding setting section several_faults refusal_of setting_of number_of shape_of
line_first_row = refl

job_alone_row : refusal_of several_faults (Some (codes "a")) ≡ Some (fault.MissingSize 1)
unfolding setting section several_faults refusal_of setting_of number_of shape_of
job_alone_row = refl

not_asked_row : refusal_of several_faults (Some (codes "b")) ≡ None
unfolding setting section several_faults refusal_of setting_of number_of shape_of
not_asked_row = refl
