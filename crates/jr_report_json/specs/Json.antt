-- Believed: the report of a run as a JSON value (RFC 8259; the names are of this project). An object has its members in the order of
-- their names.
use Rattle.std.specs.Prelude.{ℕ, ◌-◌, ◌*◌, Bool, false, not, List, [], ◌∷◌, length, map, filter, take, Option, Some, None, unwrap_or, codes}
use Rattle.std.specs.Option.{option_map}
use Rattle.serde_json.specs.Data.{Data, null, boolean, number, string, array, object, unsigned, member, no_members}
use Rattle.serde_json.specs.View.{items_of}
use Rattle.jr_model.specs.declared.events.Event.{Event}
use Rattle.jr_model.specs.declared.events.Outcome.{Outcome}
use Rattle.jr_model.specs.declared.events.Outcome.TheVariants.{Whole, Failed, Short}
use Rattle.jr_model.specs.declared.totals.Totals.{Totals}
use Rattle.jr_model.specs.Plan.{Plan, SubJob, checks_reads, clone_of}
use Rattle.jr_plan.specs.PlanText.{io_type_word, verify_word}
use Rattle.jr_model.specs.Report.{Miscompare, all_totals, file_name, in_order, miscompares, what_text}
use Rattle.jr_diagnosis.specs.Rulings.{Told}
use Rattle.jr_diagnosis.specs.Texts.{told_of_write, told_text}
use Rattle.jr_report_faults.specs.declared.faults.TheConstants.{MOST_NAMED}
use Rattle.jr_report_faults.specs.Faults.{NamedFault, faults_of, kind_word, named_by}

abbrev pub natural : ℕ → Data
natural n = number (unsigned n)

-- the writes that ended whole and have no verdict, not even a void one, and that weren't skipped. (A clone that has reads checked has no
-- writes.)
abbrev pub unchecked : Totals → ℕ
unchecked t = t.writes - t.checks - t.void - t.skipped

-- what the report's line of a clone says, and how many of its writes it leaves open
abbrev pub clone_json : SubJob → Totals → Data
clone_json job t = object
    (member (codes "bad") (natural t.bad)
    (member (codes "checks") (natural t.checks)
    (member (codes "clone") (natural job.clone)
    (member (codes "faults") (natural t.faults)
    (member (codes "good") (natural t.good)
    (member (codes "job") (string job.job)
    (member (codes "rbytes") (natural t.rbytes)
    (member (codes "reads") (natural t.reads)
    (member (codes "skipped") (natural t.skipped)
    (member (codes "unchecked") (natural (unchecked t))
    (member (codes "void") (natural t.void)
    (member (codes "wbytes") (natural t.wbytes)
    (member (codes "writes") (natural t.writes) no_members)))))))))))))

-- the options of a clone that its line of the plan doesn't have
abbrev pub options_json : SubJob → Data
options_json job = object
    (member (codes "do_verify") (boolean job.checks_writes)
    (member (codes "norandommap") (boolean (not job.has_map))
    (member (codes "rwmixread") (natural job.read_percent)
    (member (codes "seed") (natural job.seed)
    (member (codes "serialize_overlap") (boolean (not job.declines))
    (member (codes "verify_backlog") (natural job.backlog)
    (member (codes "verify_fatal") (boolean job.is_fatal)
    (member (codes "verify_interval") (natural job.method.interval) no_members))))))))

-- what a clone is to do: what its line of the plan says, and its other options
abbrev pub asked_json : Plan → SubJob → Data
asked_json plan job = object
    (member (codes "cell") (natural job.cell)
    (member (codes "clone") (natural job.clone)
    (member (codes "file") (string (file_name plan job.file))
    (member (codes "iodepth") (natural job.depth)
    (member (codes "job") (string job.job)
    (member (codes "loops") (natural job.passes)
    (member (codes "options") (options_json job)
    (member (codes "phase") (natural job.phase)
    (member (codes "rw") (string (io_type_word job.io_type))
    (member (codes "size") (natural (job.cells * job.cell))
    (member (codes "start") (natural job.start)
    (member (codes "verify") (string (verify_word job.method.kind)) no_members))))))))))))

-- the clones, by their totals
abbrev pub clones_json : List SubJob → List Totals → List Data
clones_json [] totals = []
clones_json (job ∷ jobs) [] = []
clones_json (job ∷ jobs) (t ∷ totals) = clone_json job t ∷ clones_json jobs totals

-- a text, where there is one
abbrev pub text_json : Option (List ℕ) → Data
text_json None = null
text_json (Some text) = string text

-- what the report's line of a bad verdict says, and what stands in the block, where that was looked into
abbrev pub miscompare_json : Plan → List Told → Miscompare → Data
miscompare_json plan told m = object
    (member (codes "clone") (natural m.write.clone)
    (member (codes "file") (string (file_name plan m.piece.file))
    (member (codes "found") (text_json (option_map told_text (told_of_write told m.write)))
    (member (codes "length") (natural m.piece.len)
    (member (codes "number") (natural m.write.number)
    (member (codes "offset") (natural m.piece.offset)
    (member (codes "pass") (natural m.write.pass)
    (member (codes "what") (string (what_text m.what)) no_members))))))))

-- it is on a read that was checked, which the report calls `badread:` (`found_word`): its clone checks its reads
abbrev pub is_bad_read : Plan → Miscompare → Bool
is_bad_read plan m = unwrap_or (option_map checks_reads (clone_of plan m.write.clone)) false

abbrev pub outcome_word : Outcome → List ℕ
outcome_word Whole = codes "whole"
outcome_word Failed = codes "failed"
outcome_word (Short n) = codes "short"

-- after how many bytes it ended, where it ended short
abbrev pub moved_json : Outcome → Data
moved_json Whole = null
moved_json Failed = null
moved_json (Short n) = natural n

-- a fault: which I/O it was, where, and how it ended, with the system's reason, where there is one
abbrev pub fault_json : NamedFault → Option (List ℕ) → Data
fault_json of reason = object
    (member (codes "clone") (natural of.fault.write.clone)
    (member (codes "file") (string of.name)
    (member (codes "kind") (string (kind_word of.fault.kind))
    (member (codes "length") (natural of.fault.piece.len)
    (member (codes "moved") (moved_json of.fault.outcome)
    (member (codes "number") (natural of.fault.write.number)
    (member (codes "offset") (natural of.fault.piece.offset)
    (member (codes "outcome") (string (outcome_word of.fault.outcome))
    (member (codes "pass") (natural of.fault.write.pass)
    (member (codes "reason") (text_json reason) no_members))))))))))

-- the faults, of which these have reasons of the system
abbrev pub faults_json : List NamedFault → List (Option (List ℕ)) → List Data
faults_json [] reasons = []
faults_json (fault ∷ faults) [] = fault_json fault None ∷ faults_json faults []
faults_json (fault ∷ faults) (reason ∷ reasons) = fault_json fault reason ∷ faults_json faults reasons

-- a number, where there is one
abbrev pub count_json : Option ℕ → Data
count_json None = null
count_json (Some n) = natural n

-- what is known of a file: its name, and of its device the model, the serial number and the size in bytes
pub record FileFacts : Type 0 where
  pub name : List ℕ
  pub model : Option (List ℕ)
  pub serial : Option (List ℕ)
  pub size : Option ℕ

abbrev pub file_json : FileFacts → Data
file_json file = object
    (member (codes "device_size") (count_json file.size)
    (member (codes "model") (text_json file.model)
    (member (codes "name") (string file.name)
    (member (codes "serial") (text_json file.serial) no_members))))

-- when a run was, how many milliseconds it took, on which host, and the text of its job
pub record Setting : Type 0 where
  pub began : Option (List ℕ)
  pub ended : Option (List ℕ)
  pub milliseconds : Option ℕ
  pub host : Option (List ℕ)
  pub job : Option (List ℕ)

abbrev pub setting_json : Setting → Data
setting_json setting = object
    (member (codes "began") (text_json setting.began)
    (member (codes "ended") (text_json setting.ended)
    (member (codes "host") (text_json setting.host)
    (member (codes "job") (text_json setting.job)
    (member (codes "milliseconds") (count_json setting.milliseconds) no_members)))))

-- what is known of a run beside its history: the system's reasons of its first faults, what stands in the first bad blocks, its setting,
-- and its files
pub record Notes : Type 0 where
  pub reasons : List (Option (List ℕ))
  pub told : List Told
  pub setting : Setting
  pub files : List FileFacts

-- how a run ended: the versions of the program and of the logic in which it is proved, its status, whether it was interrupted, how many reads of files that are checked the
-- system's cache may have answered, where it was over files, whether all direct I/O that its jobs want was had, where they want any, and
-- whether all that it wrote is stored
pub record RunEnd : Type 0 where
  pub version : List ℕ
  pub logic : List ℕ
  pub status : ℕ
  pub is_interrupted : Bool
  pub cached : Option ℕ
  pub direct : Option Bool
  pub is_stored : Bool

-- a flag, where there is one
abbrev pub flag_json : Option Bool → Data
flag_json None = null
flag_json (Some flag) = boolean flag

-- the report that these totals, bad verdicts and faults give, where there are so many faults more
abbrev pub report_json : RunEnd → Plan → List Totals → List Miscompare → List NamedFault → Notes → ℕ → Data
report_json ending plan totals found faults notes more = object
    (member (codes "badreads") (array (items_of (map (miscompare_json plan notes.told) (filter (is_bad_read plan) found))))
    (member (codes "cached") (count_json ending.cached)
    (member (codes "direct") (flag_json ending.direct)
    (member (codes "faults") (array (items_of (faults_json faults notes.reasons)))
    (member (codes "files") (array (items_of (map file_json notes.files)))
    (member (codes "fiorun") (string ending.version)
    (member (codes "interrupted") (boolean ending.is_interrupted)
    (member (codes "jobs") (array (items_of (clones_json plan.clones totals)))
    (member (codes "logic") (string ending.logic)
    (member (codes "miscompares") (array (items_of (map (miscompare_json plan notes.told) (filter (λ m. not (is_bad_read plan m)) found))))
    (member (codes "more_faults") (natural more)
    (member (codes "plan") (array (items_of (map (asked_json plan) plan.clones)))
    (member (codes "run") (setting_json notes.setting)
    (member (codes "status") (natural ending.status)
    (member (codes "stored") (boolean ending.is_stored) no_members)))))))))))))))

-- the report of a history: the totals and the bad verdicts of its text, and the first of its faults
abbrev pub json_of : RunEnd → Plan → List Event → Notes → Data
json_of ending plan history notes =
    report_json ending plan (all_totals plan history) (in_order plan (miscompares history))
    (map (named_by plan) (take MOST_NAMED (faults_of history))) notes (length (faults_of history) - MOST_NAMED)
