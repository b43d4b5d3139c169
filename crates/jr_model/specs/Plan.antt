-- Believed: what a job file asks for, as the other definitions read it (fio's manual, "Job file format" and "Parameters").
-- Names are lists of bytes; offsets and sizes are in bytes.
use Rattle.std.specs.Prelude.{◌≡◌, ℕ, Bool, true, false, not, ◌&&◌, List, Option, Some, None, slice_get, if◌then◌else◌}
use Rattle.jr_model.specs.declared.blocks.Dir.{Dir}
use Rattle.jr_model.specs.declared.blocks.Dir.TheVariants as direction
use Rattle.jr_model.specs.declared.contents.Method.{Method}
use Rattle.jr_model.specs.declared.contents.VerifyKind.{VerifyKind}
use Rattle.jr_model.specs.declared.contents.VerifyKind.TheVariants as verify
use Rattle.jr_model.specs.declared.events.IssueKind.{IssueKind}
use Rattle.jr_model.specs.declared.events.IssueKind.TheVariants as issue
use Rattle.jr_model.specs.declared.workloads.EngineKind.{EngineKind}
use Rattle.jr_model.specs.declared.workloads.IoType.{IoType}
use Rattle.jr_model.specs.Directions.{has_writes}

-- one planned clone: one of the `numjobs` threads of a job
pub record SubJob : Type 0 where
  pub job : List ℕ
  pub clone : ℕ
  pub phase : ℕ
  pub file : ℕ
  pub start : ℕ
  pub cell : ℕ
  pub cells : ℕ
  pub io_type : IoType
  pub read_percent : ℕ
  pub read_split : List (ℕ × ℕ)
  pub write_split : List (ℕ × ℕ)
  pub has_map : Bool
  pub seed : ℕ
  pub depth : ℕ
  pub passes : ℕ
  pub method : Method
  pub checks_writes : Bool
  pub backlog : ℕ
  pub is_fatal : Bool
  pub declines : Bool
  pub direct : Bool

-- one file of a run: its name, the least start in it, and the greatest end of a region
pub record FileSpec : Type 0 where
  pub name : List ℕ
  pub low : ℕ
  pub high : ℕ

-- the clones in file order, their files, and how the run is carried out
pub record Plan : Type 0 where
  pub clones : List SubJob
  pub files : List FileSpec
  pub engine : EngineKind
  pub verifiers : ℕ

-- clone c of the plan
abbrev pub clone_of : Plan → ℕ → Option SubJob
clone_of plan c = slice_get plan.clones c

-- each clone's number is its place
abbrev pub IsNumbered : Plan → Type 0
IsNumbered plan = (i : ℕ) (job : SubJob) → slice_get plan.clones i ≡ Some job → job.clone ≡ i

-- the clone, if it is there, declines that its I/Os wait for those that they overlap
abbrev pub declines_of : Option SubJob → Bool
declines_of None = false
declines_of (Some job) = job.declines

-- whether blocks are verified at all
abbrev pub is_verified : VerifyKind → Bool
is_verified verify.Plain = false
is_verified verify.Pattern = true
is_verified verify.Md5 = true
is_verified verify.Sha1 = true
is_verified verify.Sha256 = true

-- the clone checks what it reads: it writes nothing, and its blocks are verified
abbrev pub checks_reads : SubJob → Bool
checks_reads job = is_verified job.method.kind && job.checks_writes && not (has_writes job.io_type)

-- what a draw of this direction is issued as
abbrev pub issued_as : SubJob → Dir → IssueKind
issued_as job direction.Write = issue.Write
issued_as job direction.Read = if checks_reads job then issue.ReadCheck else issue.Read
