-- Internal: what a history says of the bytes of each file, looked up once for the maps of all files.
use Rattle.std.specs.Prelude.{fold, ◌≡◌, ℕ, ◌<◌, ◌==◌, List, length, map, slice_index_or, Option, Some, None, if◌then◌else◌}
use Rattle.std.specs.List.{filter_map}
use Rattle.jr_model.specs.declared.events.Event.{Event}
use Rattle.jr_model.specs.Plan.{Plan}
use Rattle.jr_report_maps.specs.declared.files.FileMarks.{FileMarks}
use Rattle.jr_report_maps.specs.declared.files.ByteMarks.{ByteMarks}
use Rattle.jr_report_maps.specs.Maps.{marked, Said, said_of}
use Rattle.jr_report_maps.specs.declared.fates.Fate.{Fate}
use Rattle.jr_report_maps.specs.declared.fates.Fate.TheVariants.{Untouched}
use Rattle.jr_report_maps.specs.Spans.{said_by}

-- what is said, where it is of the file's bytes
abbrev pub on_file : ℕ → Option Said → Option Said
on_file file None = None
on_file file (Some said) = if said.piece.file == file then Some said else None

-- what these events of a history say of a file's bytes, in their order
abbrev pub said_in : Plan → List Event → ℕ → List Event → List Said
said_in plan history file events = filter_map (λ event. on_file file (said_of plan history event)) events

abbrev pub saids_of : ByteMarks → List Said
saids_of marks = map said_by marks.items.items

-- so many events of a history are looked up, for so many files
pub record AreMarksIn (plan : Plan) (history : List Event) (n : ℕ) (events : List Event) (files : List ByteMarks) : Type 0 where
  pub count : length files ≡ n
  pub each : (file : ℕ) (d : ByteMarks) → file < n → saids_of (slice_index_or files file d) ≡ said_in plan history file events

-- all of them, for the files of the plan
abbrev pub AreMarksOf : Plan → List Event → FileMarks → Type 0
AreMarksOf plan history marks = AreMarksIn plan history (length plan.files) history marks.files.items

-- the worst of what is said of a byte of the cell
abbrev pub fate_by : ℕ → ℕ → ℕ → List Said → Fate
fate_by file size cell saids = fold (λ fate said. marked file size cell fate (Some said)) Untouched saids
