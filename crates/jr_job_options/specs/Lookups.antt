-- Believed: what the lines that count for a job say (fio's manual, "Job file format"), looked up by their keys: of the lines
-- of a key the last one counts. Aliases are one key, and so are `rwmixread` and `rwmixwrite`.
use Rattle.std.specs.Prelude.{ℕ, Bool, List, [], ◌∷◌, reverse, Option, Some, None, Result, Ok, Err, if◌then◌else◌, codes}
use Rattle.std.specs.List.{list_any, find}
use Rattle.jr_text.specs.Records.{LineText}
use Rattle.jr_job_options.specs.declared.faults.JobFault.{JobFault}
use Rattle.jr_job_options.specs.declared.options.JobOptions.{JobOptions}
use Rattle.jr_job_options.specs.declared.settings.Setting.{Setting}
use Rattle.jr_job_options.specs.declared.settings.Setting.TheVariants as setting
use Rattle.jr_plan.specs.Files.{same_text}
use Rattle.jr_job_options.specs.Options.{default_options, with_setting}
use Rattle.jr_job_options.specs.Settings.{setting_of}

-- the line has one of these keys
abbrev pub is_keyed : List (List ℕ) → LineText → Bool
is_keyed words line = list_any (same_text line.key) words

-- the last of the lines with one of these keys
abbrev pub last_line : List (List ℕ) → List LineText → Option LineText
last_line words lines = find (is_keyed words) (reverse lines)

-- the value of the last line with this key
abbrev pub value_of : Option LineText → Option (List ℕ)
value_of None = None
value_of (Some line) = line.value

abbrev pub last_value : List ℕ → List LineText → Option (List ℕ)
last_value word lines = value_of (last_line (word ∷ []) lines)

-- that value, line after line: a value found before counts until there is such a line
abbrev pub value_from : Option (List ℕ) → List ℕ → List LineText → Option (List ℕ)
value_from found word [] = found
value_from found word (line ∷ lines) = value_from (if same_text line.key word then line.value else found) word lines

-- what a line says, if there is one
abbrev pub said : Result Setting JobFault → Setting
said (Ok s) = s
said (Err fault) = setting.Nothing

abbrev pub said_by : Option LineText → Setting
said_by None = setting.Nothing
said_by (Some line) = said (setting_of line)

-- the options where one line alone counts
abbrev pub alone : Setting → JobOptions
alone s = with_setting default_options s

-- each option as the one line says that counts for its keys
abbrev pub options_by : (List (List ℕ) → Setting) → JobOptions
options_by saying = record {
  io_type = (alone (saying (codes "rw" ∷ codes "readwrite" ∷ []))).io_type;
  read_percent = (alone (saying (codes "rwmixread" ∷ codes "rwmixwrite" ∷ []))).read_percent;
  read_size = (alone (saying (codes "bs" ∷ codes "blocksize" ∷ []))).read_size;
  write_size = (alone (saying (codes "bs" ∷ codes "blocksize" ∷ []))).write_size;
  read_split = (alone (saying (codes "bssplit" ∷ []))).read_split;
  write_split = (alone (saying (codes "bssplit" ∷ []))).write_split;
  size = (alone (saying (codes "size" ∷ []))).size;
  offset = (alone (saying (codes "offset" ∷ []))).offset;
  offset_step = (alone (saying (codes "offset_increment" ∷ []))).offset_step;
  clones = (alone (saying (codes "numjobs" ∷ []))).clones;
  passes = (alone (saying (codes "loops" ∷ []))).passes;
  depth = (alone (saying (codes "iodepth" ∷ []))).depth;
  has_map = (alone (saying (codes "norandommap" ∷ []))).has_map;
  seed = (alone (saying (codes "randseed" ∷ []))).seed;
  stonewall = (alone (saying (codes "stonewall" ∷ codes "wait_for_previous" ∷ []))).stonewall;
  engine = (alone (saying (codes "ioengine" ∷ []))).engine;
  kind = (alone (saying (codes "verify" ∷ []))).kind;
  pattern = (alone (saying (codes "verify_pattern" ∷ []))).pattern;
  interval = (alone (saying (codes "verify_interval" ∷ []))).interval;
  backlog = (alone (saying (codes "verify_backlog" ∷ []))).backlog;
  verifiers = (alone (saying (codes "verify_async" ∷ []))).verifiers;
  is_fatal = (alone (saying (codes "verify_fatal" ∷ []))).is_fatal;
  checks_writes = (alone (saying (codes "do_verify" ∷ []))).checks_writes;
  declines = (alone (saying (codes "serialize_overlap" ∷ []))).declines;
  direct = (alone (saying (codes "direct" ∷ []))).direct;
}

-- the options that lines say: of each option the last line counts
abbrev pub options_in : List LineText → JobOptions
options_in lines = options_by (λ words. said_by (last_line words lines))
