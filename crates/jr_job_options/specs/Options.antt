-- Believed: what a job's option lines say together: of each option the last line counts (fio's manual, "Job file format").
use Rattle.std.specs.Prelude.{◌≤◌, true, false, List, [], ◌∷◌, Some, None, Result, Ok, Err}
use Rattle.jr_model.specs.declared.contents.VerifyKind.TheVariants as verify
use Rattle.jr_model.specs.declared.workloads.EngineKind.TheVariants as engine
use Rattle.jr_model.specs.declared.workloads.IoType.TheVariants as io
use Rattle.jr_model.specs.declared.limits.TheConstants.{MOST_CLONES, MOST_DEPTH, MOST_PASSES, MOST_VERIFIERS}
use Rattle.jr_text.specs.Records.{LineText}
use Rattle.jr_job_options.specs.declared.faults.JobFault.{JobFault}
use Rattle.jr_job_options.specs.declared.options.JobOptions.{JobOptions}
use Rattle.jr_job_options.specs.declared.settings.Setting.{Setting}
use Rattle.jr_job_options.specs.declared.settings.Setting.TheVariants as setting
use Rattle.jr_job_options.specs.Settings.{setting_of}

-- what counts where no line says otherwise
abbrev pub default_options : JobOptions
default_options = record {
  io_type = io.Read;
  read_percent = 50;
  read_size = 4096;
  write_size = 4096;
  read_split = None;
  write_split = None;
  size = None;
  offset = 0;
  offset_step = 0;
  clones = 1;
  passes = 1;
  depth = 1;
  has_map = true;
  seed = 1;
  stonewall = false;
  engine = engine.File;
  kind = verify.Plain;
  pattern = None;
  interval = 0;
  backlog = 0;
  verifiers = 0;
  is_fatal = false;
  checks_writes = true;
  declines = false;
  direct = false;
}

-- the options once one more line says this
abbrev pub with_setting : JobOptions → Setting → JobOptions
with_setting o (setting.IoType v) = record o { io_type = v }
with_setting o (setting.ReadPercent v) = record o { read_percent = v }
with_setting o (setting.BlockSizes r w) = record o { read_size = r; write_size = w }
with_setting o (setting.Splits r w) = record o { read_split = r; write_split = w }
with_setting o (setting.Size v) = record o { size = Some v }
with_setting o (setting.Offset v) = record o { offset = v }
with_setting o (setting.OffsetStep v) = record o { offset_step = v }
with_setting o (setting.Clones v) = record o { clones = v }
with_setting o (setting.Passes v) = record o { passes = v }
with_setting o (setting.Depth v) = record o { depth = v }
with_setting o (setting.HasMap v) = record o { has_map = v }
with_setting o (setting.Seed v) = record o { seed = v }
with_setting o (setting.Stonewall v) = record o { stonewall = v }
with_setting o (setting.Engine v) = record o { engine = v }
with_setting o (setting.Verify v) = record o { kind = v }
with_setting o (setting.Pattern v) = record o { pattern = Some v }
with_setting o (setting.Interval v) = record o { interval = v }
with_setting o (setting.Backlog v) = record o { backlog = v }
with_setting o (setting.Verifiers v) = record o { verifiers = v }
with_setting o (setting.Fatal v) = record o { is_fatal = v }
with_setting o (setting.Checks v) = record o { checks_writes = v }
with_setting o (setting.Declines v) = record o { declines = v }
with_setting o (setting.Direct v) = record o { direct = v }
with_setting o setting.Nothing = o

-- the numbers of a job's options are ones that they may have
pub record AreInRange (o : JobOptions) : Type 0 where
  pub percent : o.read_percent ≤ 100
  pub clones_least : 1 ≤ o.clones
  pub clones_most : o.clones ≤ MOST_CLONES
  pub passes_least : 1 ≤ o.passes
  pub passes_most : o.passes ≤ MOST_PASSES
  pub depth_least : 1 ≤ o.depth
  pub depth_most : o.depth ≤ MOST_DEPTH
  pub verifiers : o.verifiers ≤ MOST_VERIFIERS

-- the options once a line says something; a fault stays
abbrev pub and_setting : JobOptions → Result Setting JobFault → Result JobOptions JobFault
and_setting o (Err fault) = Err fault
and_setting o (Ok s) = Ok (with_setting o s)

abbrev pub with_line : Result JobOptions JobFault → LineText → Result JobOptions JobFault
with_line (Err fault) line = Err fault
with_line (Ok o) line = and_setting o (setting_of line)

-- the options once these lines are read, or the first fault in them
abbrev pub options_from : Result JobOptions JobFault → List LineText → Result JobOptions JobFault
options_from read [] = read
options_from read (line ∷ lines) = options_from (with_line read line) lines
