-- Internal: a pass on its way, as its clone and how far it has come.
use Rattle.std.specs.Prelude.{false, [], None}
use Rattle.jr_model.specs.declared.contents.VerifyKind.TheVariants as verify
use Rattle.jr_model.specs.Draws.{PassProgress}
use Rattle.jr_model.specs.Plan.{SubJob}
use Rattle.jr_draw.specs.declared.course.Course.TheInside.{Inside}
use Rattle.jr_draw.specs.PlacesSeen.{places_of}
use Rattle.jr_laws_draws.specs.DrawFacts.{CourseRecord, IsSound}

abbrev pub job_of : Inside → SubJob
job_of a = record {
  job = [];
  clone = 0;
  phase = 0;
  file = a.file;
  start = a.start;
  cell = a.cell;
  cells = a.cells;
  io_type = a.io_type;
  read_percent = a.read_percent;
  read_split = a.read_split;
  write_split = a.write_split;
  has_map = false;
  seed = 0;
  depth = 0;
  passes = 0;
  method = record { kind = verify.Plain; pattern = None; interval = 0 };
  checks_writes = false;
  backlog = 0;
  is_fatal = false;
  declines = false;
  direct = false;
}

abbrev pub progress_of : Inside → PassProgress
progress_of a = record { number = a.number; places = places_of a.places; reads = a.reads; writes = a.writes }

abbrev pub course_of : Inside → CourseRecord
course_of a = record { job = job_of a; done = progress_of a }

abbrev pub IsOnCourse : Inside → Type 0
IsOnCourse a = IsSound (job_of a) (progress_of a)
