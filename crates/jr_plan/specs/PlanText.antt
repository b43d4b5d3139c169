-- Believed: what a plan prints, a line for each clone (of this project).
use Rattle.std.specs.Prelude.{ℕ, ◌*◌, List, [], ◌++◌, flat_map, slice_get, Option, Some, None, codes, decimal}
use Rattle.jr_model.specs.declared.contents.VerifyKind.{VerifyKind}
use Rattle.jr_model.specs.declared.contents.VerifyKind.TheVariants as verify
use Rattle.jr_model.specs.declared.workloads.IoType.{IoType}
use Rattle.jr_model.specs.declared.workloads.IoType.TheVariants as io
use Rattle.jr_model.specs.Plan.{SubJob, FileSpec, Plan}

abbrev pub io_type_word : IoType → List ℕ
io_type_word io.Read = codes "read"
io_type_word io.Write = codes "write"
io_type_word io.RandRead = codes "randread"
io_type_word io.RandWrite = codes "randwrite"
io_type_word io.ReadWrite = codes "rw"
io_type_word io.RandRw = codes "randrw"

abbrev pub verify_word : VerifyKind → List ℕ
verify_word verify.Plain = codes "none"
verify_word verify.Pattern = codes "pattern"
verify_word verify.Md5 = codes "md5"
verify_word verify.Sha1 = codes "sha1"
verify_word verify.Sha256 = codes "sha256"

-- the name of a file; nothing where there is none
abbrev pub name_of : Option FileSpec → List ℕ
name_of None = []
name_of (Some file) = file.name

-- who the clone is, and where it works
unfoldable pub place_text : List ℕ → SubJob → List ℕ
place_text file job =
    job.job ++ codes ": clone=" ++ decimal job.clone ++ codes " phase=" ++ decimal job.phase
    ++ codes " file=" ++ file ++ codes " start=" ++ decimal job.start

-- how much of it there is
unfoldable pub size_text : SubJob → List ℕ
size_text job =
    codes " size=" ++ decimal (job.cells * job.cell) ++ codes " cell=" ++ decimal job.cell
    ++ codes " cells=" ++ decimal job.cells

-- what the clone does there
unfoldable pub work_text : SubJob → List ℕ
work_text job =
    codes " rw=" ++ io_type_word job.io_type ++ codes " iodepth=" ++ decimal job.depth
    ++ codes " loops=" ++ decimal job.passes ++ codes " verify=" ++ verify_word job.method.kind ++ codes "\n"

abbrev pub clone_line : List FileSpec → SubJob → List ℕ
clone_line files job = place_text (name_of (slice_get files job.file)) job ++ size_text job ++ work_text job

abbrev pub plan_text : Plan → List ℕ
plan_text plan = flat_map (clone_line plan.files) plan.clones
