-- Believed: the words of a job file and what they mean (fio's manual, "Parameters"; which of them are read is of this
-- project).
use Rattle.std.specs.Prelude.{ℕ, Bool, true, false, List, [], ◌∷◌, Option, Some, None, if◌then◌else◌, codes}
use Rattle.std.specs.Borrow.{Bor}
use Rattle.jr_model.specs.declared.contents.VerifyKind.{VerifyKind}
use Rattle.jr_model.specs.declared.contents.VerifyKind.TheVariants as verify
use Rattle.jr_model.specs.declared.workloads.EngineKind.{EngineKind}
use Rattle.jr_model.specs.declared.workloads.EngineKind.TheVariants as engine
use Rattle.jr_model.specs.declared.workloads.IoType.{IoType}
use Rattle.jr_model.specs.declared.workloads.IoType.TheVariants as io
use Rattle.jr_job_options.specs.declared.keys.Key.{Key}
use Rattle.jr_job_options.specs.declared.keys.Key.TheVariants.{Choice, Number, Flag, Text}
use Rattle.jr_job_options.specs.declared.keys.ChoiceKey.TheVariants as choice
use Rattle.jr_job_options.specs.declared.keys.NumberKey.TheVariants as number
use Rattle.jr_job_options.specs.declared.keys.FlagKey.TheVariants as flag
use Rattle.jr_job_options.specs.declared.keys.TextKey.TheVariants as text
pub use Rattle.jr_plan.specs.Files.{same_text}

-- what the first entry for a word says
abbrev pub meaning_of : {X : Type 0} → List (List ℕ × X) → List ℕ → Option X
meaning_of [] word = None
meaning_of (entry ∷ entries) word = if same_text entry.0 word then Some entry.1 else meaning_of entries word

-- a table of the code as a list of words
abbrev pub shown_words : {X : Type 0} → List (Bor (List ℕ) × X) → List (List ℕ × X)
shown_words [] = []
shown_words (entry ∷ entries) = (entry.0.now, entry.1) ∷ shown_words entries

-- the keys, with their aliases
abbrev pub keys : List (List ℕ × Key)
keys =
    (codes "rw", Choice choice.IoType)
    ∷ (codes "readwrite", Choice choice.IoType)
    ∷ (codes "rwmixread", Number number.ReadPercent)
    ∷ (codes "rwmixwrite", Number number.WritePercent)
    ∷ (codes "bs", Text text.BlockSizes)
    ∷ (codes "blocksize", Text text.BlockSizes)
    ∷ (codes "bssplit", Text text.Splits)
    ∷ (codes "size", Number number.Size)
    ∷ (codes "offset", Number number.Offset)
    ∷ (codes "offset_increment", Number number.OffsetStep)
    ∷ (codes "numjobs", Number number.Clones)
    ∷ (codes "loops", Number number.Passes)
    ∷ (codes "iodepth", Number number.Depth)
    ∷ (codes "norandommap", Flag flag.NoMap)
    ∷ (codes "randseed", Number number.Seed)
    ∷ (codes "filename", Text text.FileName)
    ∷ (codes "directory", Text text.Directory)
    ∷ (codes "stonewall", Flag flag.Stonewall)
    ∷ (codes "wait_for_previous", Flag flag.Stonewall)
    ∷ (codes "serialize_overlap", Flag flag.Serialize)
    ∷ (codes "ioengine", Choice choice.Engine)
    ∷ (codes "verify", Choice choice.Verify)
    ∷ (codes "verify_pattern", Text text.Pattern)
    ∷ (codes "verify_interval", Text text.Interval)
    ∷ (codes "verify_backlog", Number number.Backlog)
    ∷ (codes "verify_async", Number number.Verifiers)
    ∷ (codes "verify_fatal", Flag flag.Fatal)
    ∷ (codes "do_verify", Flag flag.Checks)
    ∷ (codes "direct", Flag flag.Direct)
    ∷ (codes "buffered", Flag flag.Unused)
    ∷ (codes "thread", Flag flag.Unused)
    ∷ (codes "invalidate", Flag flag.Unused)
    ∷ (codes "randrepeat", Flag flag.Unused)
    ∷ (codes "group_reporting", Flag flag.Unused)
    ∷ (codes "io_submit_mode", Choice choice.SubmitMode)
    ∷ (codes "description", Text text.Description)
    ∷ []

-- the values of `rw`
abbrev pub io_types : List (List ℕ × IoType)
io_types =
    (codes "read", io.Read)
    ∷ (codes "write", io.Write)
    ∷ (codes "randread", io.RandRead)
    ∷ (codes "randwrite", io.RandWrite)
    ∷ (codes "rw", io.ReadWrite)
    ∷ (codes "readwrite", io.ReadWrite)
    ∷ (codes "randrw", io.RandRw)
    ∷ []

-- the values of `ioengine`; all that do their I/O through the system are the file engine
abbrev pub engines : List (List ℕ × EngineKind)
engines =
    (codes "sync", engine.File)
    ∷ (codes "psync", engine.File)
    ∷ (codes "libaio", engine.File)
    ∷ (codes "io_uring", engine.File)
    ∷ (codes "posixaio", engine.File)
    ∷ (codes "memory", engine.Memory)
    ∷ (codes "null", engine.Null)
    ∷ []

-- the values of `verify`
abbrev pub verify_kinds : List (List ℕ × VerifyKind)
verify_kinds =
    (codes "0", verify.Plain)
    ∷ (codes "pattern", verify.Pattern)
    ∷ (codes "md5", verify.Md5)
    ∷ (codes "sha1", verify.Sha1)
    ∷ (codes "sha256", verify.Sha256)
    ∷ []

-- the values of `io_submit_mode`, which has no effect
abbrev pub submit_modes : List (List ℕ × Bool)
submit_modes =
    (codes "inline", false)
    ∷ (codes "offload", true)
    ∷ []
