-- Internal: a report that is written item by item: what is written of each part, and what is left of an array.
use Rattle.std.specs.Prelude.{ℕ, zero, suc, Bool, false, true, not, List, [], ◌∷◌, ◌++◌, map, filter, Option, Some, None}
use Rattle.std.specs.Prelude.{String, string_bytes, codes}
use Rattle.std.specs.Borrow.{Bor}
use Rattle.std.specs.Option.{option_map}
use Rattle.std.specs.declared.alloc.Global.{Global}
use Rattle.json.specs.Print.{quoted}
use Rattle.serde_json.specs.Data.{Data, null, boolean, string, array, object, Members, member, no_members, put}
use Rattle.serde_json.specs.View.{items_of}
use Rattle.serde_json.specs.Written.{comma_if, compact_text, items_text}
use Rattle.jr_model.specs.declared.totals.Totals.{Totals}
use Rattle.jr_model.specs.Plan.{Plan}
use Rattle.jr_model.specs.Report.{Miscompare, file_name}
use Rattle.jr_diagnosis.specs.Rulings.{Told, told}
use Rattle.jr_report_faults.specs.Faults.{NamedFault}
use Rattle.jr_report_json.specs.declared.endings.KnownFile.{KnownFile}
use Rattle.jr_report_json.specs.declared.endings.RunNotes.{RunNotes}
use Rattle.jr_report_json.specs.declared.endings.RunSetting.{RunSetting}
use Rattle.jr_report_json.specs.declared.endings.RunStatus.{RunStatus}
use Rattle.jr_report_json.specs.declared.objects.Scalar.{Scalar}
use Rattle.jr_report_json.specs.declared.objects.Scalar.TheVariants.{Null, Flag, Count, Text}
use Rattle.jr_report_json.specs.Json.{FileFacts, Notes, RunEnd, Setting, asked_json, clones_json, count_json, faults_json, file_json, flag_json, is_bad_read, miscompare_json, natural, setting_json, text_json}

abbrev pub scalar_json : Scalar → Data
scalar_json Null = null
scalar_json (Flag flag) = boolean flag
scalar_json (Count n) = natural n
scalar_json (Text text) = string text.now

-- the members of an object, with those of a table
abbrev pub with_members : List (Bor (List ℕ) × Scalar) → Members → Members
with_members [] before = before
with_members (first ∷ rest) before = with_members rest (put first.0.now (scalar_json first.1) before)

-- the object that has the members of a table
abbrev pub object_of : List (Bor (List ℕ) × Scalar) → Data
object_of members = object (with_members members no_members)

abbrev pub text_of : Option (Bor (String Global)) → Option (List ℕ)
text_of None = None
text_of (Some s) = Some (string_bytes s.now)

-- the texts of the reasons
abbrev pub texts_of : List (Option (String Global)) → List (Option (List ℕ))
texts_of reasons = map (option_map string_bytes) reasons

-- the reason at this place, if there is one
abbrev pub reason_at : List (Option (List ℕ)) → ℕ → Option (List ℕ)
reason_at [] place = None
reason_at (reason ∷ reasons) zero = reason
reason_at (reason ∷ reasons) (suc place) = reason_at reasons place

-- an item of this place stands behind others
abbrev pub is_later : ℕ → Bool
is_later zero = false
is_later (suc place) = true

-- the text of the reason that was looked up
abbrev pub told_by : Option (Option (String Global)) → Option (List ℕ)
told_by None = None
told_by (Some None) = None
told_by (Some (Some reason)) = Some (string_bytes reason)

-- what is written of the item of this place
abbrev pub item_text : ℕ → Data → List ℕ
item_text place d = comma_if (is_later place) ++ compact_text d

-- the items that are left from this place on, with the closing bracket
abbrev pub rest_text : ℕ → List Data → List ℕ
rest_text place ds = items_text (is_later place) (items_of ds)

-- an array
abbrev pub array_text : List Data → List ℕ
array_text ds = compact_text (array (items_of ds))

-- it is a bad read, or it isn't, as is wanted
abbrev pub is_wanted : Plan → Bool → Miscompare → Bool
is_wanted plan true m = is_bad_read plan m
is_wanted plan false m = not (is_bad_read plan m)

-- the object of a bad verdict, with the text of what stands there, and of what was refused
abbrev pub bad_json : Plan → Miscompare → Option (List ℕ) → List ℕ → Data
bad_json plan m found what = object
    (member (codes "clone") (natural m.write.clone)
    (member (codes "file") (string (file_name plan m.piece.file))
    (member (codes "found") (text_json found)
    (member (codes "length") (natural m.piece.len)
    (member (codes "number") (natural m.write.number)
    (member (codes "offset") (natural m.piece.offset)
    (member (codes "pass") (natural m.write.pass)
    (member (codes "what") (string what) no_members))))))))

-- the bad reads, or the other bad verdicts
abbrev pub bads_json : Plan → List Told → Bool → List Miscompare → List Data
bads_json plan told of_reads found = map (miscompare_json plan told) (filter (is_wanted plan of_reads) found)

-- a member of this name, with what stands before it
abbrev pub member_text : List ℕ → List ℕ → Data → List ℕ
member_text before name d = before ++ (quoted name ++ 58 ∷ compact_text d)

-- how the run ended
abbrev pub ending_of : RunStatus → RunEnd
ending_of ending = record {
  version = ending.version.now;
  logic = ending.logic.now;
  status = ending.status;
  is_interrupted = ending.is_interrupted;
  cached = ending.cached;
  direct = ending.direct;
  is_stored = ending.is_stored;
}

abbrev pub facts_of : KnownFile → FileFacts
facts_of file = record {
  name = string_bytes file.name;
  model = option_map string_bytes file.model;
  serial = option_map string_bytes file.serial;
  size = file.size;
}

abbrev pub setting_of : RunSetting → Setting
setting_of setting = record {
  began = option_map string_bytes setting.began;
  ended = option_map string_bytes setting.ended;
  milliseconds = setting.milliseconds;
  host = option_map string_bytes setting.host;
  job = option_map string_bytes setting.job;
}

-- what is known of a run beside its history
abbrev pub notes_of : RunNotes → Notes
notes_of notes = record {
  reasons = texts_of notes.reasons.now;
  told = map told notes.found.now;
  setting = setting_of notes.setting.now;
  files = map facts_of notes.files.now;
}

abbrev pub reads_text : Plan → List Told → List Miscompare → List ℕ
reads_text plan told found = member_text (codes "{") (codes "badreads") (array (items_of (bads_json plan told true found)))

abbrev pub cache_text : RunEnd → List ℕ
cache_text ending =
    member_text (codes ",") (codes "cached") (count_json ending.cached)
    ++ member_text (codes ",") (codes "direct") (flag_json ending.direct)

abbrev pub head_text : RunEnd → List NamedFault → Notes → List ℕ
head_text ending faults notes =
    cache_text ending
    ++ member_text (codes ",") (codes "faults") (array (items_of (faults_json faults notes.reasons)))
    ++ member_text (codes ",") (codes "files") (array (items_of (map file_json notes.files)))
    ++ member_text (codes ",") (codes "fiorun") (string ending.version)
    ++ member_text (codes ",") (codes "interrupted") (boolean ending.is_interrupted)

abbrev pub found_text : RunEnd → Plan → List Totals → List Told → List Miscompare → List ℕ
found_text ending plan totals told found =
    member_text (codes ",") (codes "jobs") (array (items_of (clones_json plan.clones totals)))
    ++ member_text (codes ",") (codes "logic") (string ending.logic)
    ++ member_text (codes ",") (codes "miscompares") (array (items_of (bads_json plan told false found)))

abbrev pub plan_text : Plan → Setting → ℕ → List ℕ
plan_text plan setting more =
    member_text (codes ",") (codes "more_faults") (natural more)
    ++ member_text (codes ",") (codes "plan") (array (items_of (map (asked_json plan) plan.clones)))
    ++ member_text (codes ",") (codes "run") (setting_json setting)

abbrev pub end_text : RunEnd → List ℕ
end_text ending =
    member_text (codes ",") (codes "status") (natural ending.status)
    ++ member_text (codes ",") (codes "stored") (boolean ending.is_stored) ++ codes "}"
