-- Internal: the parts that the text of a fault is put together from.
use Rattle.std.specs.Prelude.{ℕ, List, ◌++◌, codes, decimal}
use Rattle.jr_job_options.specs.declared.faults.Wording.{Wording}
use Rattle.jr_job_options.specs.declared.faults.Wording.TheVariants as wording
use Rattle.jr_plan.specs.FaultTexts.{bound_text}

abbrev pub wording_text : Wording → List ℕ
wording_text (wording.Alone text) = text.now
wording_text (wording.Limit bound) = codes "job file: limit of " ++ bound_text bound
wording_text (wording.Line line what) = codes "job file: line " ++ decimal line ++ (codes ": " ++ what.now)
wording_text (wording.Job line what) = codes "job at line " ++ decimal line ++ (codes ": " ++ what.now)
