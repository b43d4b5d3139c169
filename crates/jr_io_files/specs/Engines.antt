-- Believed: what contracts see of an engine over files of the system, and of files that couldn't be opened.
use Rattle.std.specs.Prelude.{◌≡◌, ℕ, ◌+◌, ◌<◌, ◌≤◌, ◌^◌, nat_lt, IsTrue, Bool, false, ◌&&◌, List, [], length, map, slice_get, slice_set, Some, Result, Ok, IsOk}
use Rattle.jr_model.specs.Plan.{FileSpec}
use Rattle.jr_model.specs.Replies.{EngineState}
use Rattle.jr_engines.specs.declared.faults.EngineFault.{EngineFault}
use Rattle.jr_io_files.specs.declared.faults.FileFault.{FileFault}
use Rattle.jr_io_files.specs.declared.faults.FileFault.TheVariants as fault
use Rattle.jr_io_blocks.specs.Moves.{GetsAll, Stores}
use Rattle.jr_io_blocks.specs.Parts.{FileView, named_view}

-- its calls so far, how many of them failed, and what is known of each of its files
pub record FilesState : Type 0 where
  pub calls : ℕ
  pub failures : ℕ
  pub files : List FileView

-- an engine that has had no call, over files of which this is known
pub record IsFresh (engine : FilesState) (known : List FileView) : Type 0 where
  pub calls : engine.calls ≡ 0
  pub failures : engine.failures ≡ 0
  pub files : engine.files ≡ known

-- what is known of a file of a plan once it is open: that it was opened by its name
abbrev pub opened_view : FileSpec → FileView
opened_view spec = named_view spec.name

-- the same of all of them, in their order
abbrev pub opened_views : List FileSpec → List FileView
opened_views specs = map opened_view specs

-- a file may refuse any call, so of a run the calls alone are known
abbrev pub files_state : FilesState → EngineState
files_state engine =
    record { calls = engine.calls; failures = engine.failures; is_known = false; memory = []; script = [] }

-- n bytes from offset on have offsets that the system can name, which are below 2^63
abbrev pub is_addressable : ℕ → ℕ → Bool
is_addressable offset n = nat_lt (offset + n) (2 ^ 63)

-- one of so many files, and bytes of it that the system can name
abbrev pub has_place : ℕ → ℕ → ℕ → ℕ → Bool
has_place files file offset n = nat_lt file files && is_addressable offset n

-- a read of a file of which so much is known
pub record ReadsFile (known : FileView) (offset : ℕ) (before : List ℕ) (answer : Result ℕ EngineFault) (after : List ℕ) : Type 0 where
  pub sound : IsTrue known.is_sound → IsOk answer
  pub gets : IsTrue known.is_known → GetsAll known.bytes offset before answer after

-- a read of one of these files
abbrev pub ReadsKnown : List FileView → ℕ → ℕ → List ℕ → Result ℕ EngineFault → List ℕ → Type 0
ReadsKnown files file offset before answer after =
    (known : FileView) → slice_get files file ≡ Some known → ReadsFile known offset before answer after

-- a write to a file of which so much is known
pub record WritesFile (old : FileView) (offset : ℕ) (buffer : List ℕ) (answer : Result ℕ EngineFault) (new : FileView) : Type 0 where
  pub known : new.is_known ≡ old.is_known
  pub stays : new.is_sound ≡ old.is_sound
  pub named : new.name ≡ old.name
  pub sound : IsTrue old.is_sound → answer ≡ Ok (length buffer)
  pub stores : IsTrue old.is_known → offset + length buffer ≤ length old.bytes → Stores old.bytes offset buffer answer new.bytes

-- a write to one of these files, which changes no other
pub record WritesKnown (old : List FileView) (file offset : ℕ) (buffer : List ℕ) (answer : Result ℕ EngineFault) (new : List FileView) : Type 0 where
  pub after : FileView
  pub files : new ≡ slice_set old file after
  pub writes : (before : FileView) → slice_get old file ≡ Some before → WritesFile before offset buffer answer after

-- the fault names one of so many files
abbrev pub NamesFile : FileFault → ℕ → Type 0
NamesFile (fault.File index) files = index < files
NamesFile fault.Memory files = ⊥

-- the fault names one of so many files, or is want of memory
abbrev pub IsOpenFault : FileFault → ℕ → Type 0
IsOpenFault (fault.File index) files = index < files
IsOpenFault fault.Memory files = Unit {0}
