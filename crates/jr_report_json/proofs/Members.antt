-- The members of a report, one behind another.
use Rattle.std.proofs.Common.{◌≡◌, ℕ, List, [], ◌∷◌, ◌++◌, map, codes, refl, ap, ◌∙◌, append_assoc}
use Rattle.std.specs.Prelude.{false, true}
use Rattle.jr_plan.proofs.ListLemmas.{added-four}
use Rattle.json.specs.Print.{escape_byte, quoted}
use Rattle.serde_json.specs.Data.{array, boolean, string}
use Rattle.serde_json.specs.View.{items_of}
use Rattle.serde_json.specs.Written.{compact_text}
use Rattle.jr_model.specs.declared.totals.Totals.{Totals}
use Rattle.jr_model.specs.Plan.{Plan}
use Rattle.jr_model.specs.Report.{Miscompare}
use Rattle.jr_report_faults.specs.Faults.{NamedFault}
use Rattle.jr_report_json.specs.Json.{Notes, RunEnd, asked_json, clones_json, count_json, faults_json, file_json, flag_json, natural, report_json, setting_json}
use Rattle.jr_report_json.specs.Rows.{bads_json, end_text, found_text, head_text, plan_text, reads_text}

-- the names, as they are written

pub badreads_name : codes "{\"badreads\":" ≡ codes "{" ++ (quoted (codes "badreads") ++ 58 ∷ [])
unfolding escape_byte
badreads_name = refl

pub cached_name : codes ",\"cached\":" ≡ codes "," ++ (quoted (codes "cached") ++ 58 ∷ [])
unfolding escape_byte
cached_name = refl

pub direct_name : codes ",\"direct\":" ≡ codes "," ++ (quoted (codes "direct") ++ 58 ∷ [])
unfolding escape_byte
direct_name = refl

pub faults_name : codes ",\"faults\":" ≡ codes "," ++ (quoted (codes "faults") ++ 58 ∷ [])
unfolding escape_byte
faults_name = refl

pub files_name : codes ",\"files\":" ≡ codes "," ++ (quoted (codes "files") ++ 58 ∷ [])
unfolding escape_byte
files_name = refl

pub fiorun_name : codes ",\"fiorun\":" ≡ codes "," ++ (quoted (codes "fiorun") ++ 58 ∷ [])
unfolding escape_byte
fiorun_name = refl

pub interrupted_name : codes ",\"interrupted\":" ≡ codes "," ++ (quoted (codes "interrupted") ++ 58 ∷ [])
unfolding escape_byte
interrupted_name = refl

pub jobs_name : codes ",\"jobs\":" ≡ codes "," ++ (quoted (codes "jobs") ++ 58 ∷ [])
unfolding escape_byte
jobs_name = refl

pub logic_name : codes ",\"logic\":" ≡ codes "," ++ (quoted (codes "logic") ++ 58 ∷ [])
unfolding escape_byte
logic_name = refl

pub miscompares_name : codes ",\"miscompares\":" ≡ codes "," ++ (quoted (codes "miscompares") ++ 58 ∷ [])
unfolding escape_byte
miscompares_name = refl

pub more_faults_name : codes ",\"more_faults\":" ≡ codes "," ++ (quoted (codes "more_faults") ++ 58 ∷ [])
unfolding escape_byte
more_faults_name = refl

pub plan_name : codes ",\"plan\":" ≡ codes "," ++ (quoted (codes "plan") ++ 58 ∷ [])
unfolding escape_byte
plan_name = refl

pub run_name : codes ",\"run\":" ≡ codes "," ++ (quoted (codes "run") ++ 58 ∷ [])
unfolding escape_byte
run_name = refl

pub status_name : codes ",\"status\":" ≡ codes "," ++ (quoted (codes "status") ++ 58 ∷ [])
unfolding escape_byte
status_name = refl

pub stored_name : codes ",\"stored\":" ≡ codes "," ++ (quoted (codes "stored") ++ 58 ∷ [])
unfolding escape_byte
stored_name = refl

-- a name and its value were written
pub member_more : (start named after literal before name value : List ℕ) → literal ≡ before ++ (name ++ 58 ∷ []) → named ≡ start ++ literal
    → after ≡ named ++ value → after ≡ start ++ (before ++ (name ++ 58 ∷ value))
member_more start named after literal before name value is first second =
    second
    ∙ ap (λ (t : List ℕ). t ++ value) (first ∙ ap (λ (t : List ℕ). start ++ t) is)
    ∙ regrouped start before name value
  where
    regrouped : (s b n v : List ℕ) → (s ++ (b ++ (n ++ 58 ∷ []))) ++ v ≡ s ++ (b ++ (n ++ 58 ∷ v))
    regrouped s b n v = simp append_assoc

-- two parts were written, or three, or four
pub two_more : (t0 t1 t2 a b : List ℕ) → t1 ≡ t0 ++ a → t2 ≡ t1 ++ b → t2 ≡ t0 ++ (a ++ b)
two_more t0 t1 t2 a b first second = second ∙ ap (λ (t : List ℕ). t ++ b) first ∙ append_assoc t0 a b

pub three_more : (t0 t1 t2 t3 a b c : List ℕ) → t1 ≡ t0 ++ a → t2 ≡ t1 ++ b → t3 ≡ t2 ++ c → t3 ≡ t0 ++ (a ++ b ++ c)
three_more t0 t1 t2 t3 a b c first second third = two_more t0 t2 t3 (a ++ b) c (two_more t0 t1 t2 a b first second) third

pub five_more : (t0 t1 t2 t3 t4 t5 a b c d e : List ℕ)
    → t1 ≡ t0 ++ a → t2 ≡ t1 ++ b → t3 ≡ t2 ++ c → t4 ≡ t3 ++ d → t5 ≡ t4 ++ e → t5 ≡ t0 ++ (a ++ b ++ c ++ d ++ e)
five_more t0 t1 t2 t3 t4 t5 a b c d e first second third fourth fifth =
    two_more t0 t4 t5 (a ++ b ++ c ++ d) e (added-four t0 t1 t2 t3 t4 a b c d first second third fourth) fifth

-- fifteen members with their braces are an object
all_members : (b m e k q1 q2 q3 q4 q5 q6 q7 q8 q9 q10 q11 q12 q13 q14 q15 v1 v2 v3 v4 v5 v6 v7 v8 v9 v10 v11 v12 v13 v14 v15 : List ℕ)
    → (b ++ (q1 ++ (k ++ v1)))
    ++ (((m ++ (q2 ++ (k ++ v2))) ++ (m ++ (q3 ++ (k ++ v3)))) ++ (m ++ (q4 ++ (k ++ v4))) ++ (m ++ (q5 ++ (k ++ v5))) ++ (m ++ (q6 ++ (k ++ v6))) ++ (m ++ (q7 ++ (k ++ v7))))
    ++ ((m ++ (q8 ++ (k ++ v8))) ++ (m ++ (q9 ++ (k ++ v9))) ++ (m ++ (q10 ++ (k ++ v10))))
    ++ ((m ++ (q11 ++ (k ++ v11))) ++ (m ++ (q12 ++ (k ++ v12))) ++ (m ++ (q13 ++ (k ++ v13))))
    ++ ((m ++ (q14 ++ (k ++ v14))) ++ (m ++ (q15 ++ (k ++ v15))) ++ e)
    ≡ b ++ (q1 ++ (k ++ (v1 ++ (m ++ (q2 ++ (k ++ (v2 ++ (m ++ (q3 ++ (k ++ (v3 ++ (m ++ (q4 ++ (k ++ (v4 ++ (m ++ (q5 ++ (k ++ (v5 ++
    (m ++ (q6 ++ (k ++ (v6 ++ (m ++ (q7 ++ (k ++ (v7 ++ (m ++ (q8 ++ (k ++ (v8 ++ (m ++ (q9 ++ (k ++ (v9 ++ (m ++ (q10 ++ (k ++ (v10
    ++ (m ++ (q11 ++ (k ++ (v11 ++ (m ++ (q12 ++ (k ++ (v12 ++ (m ++ (q13 ++ (k ++ (v13 ++ (m ++ (q14 ++ (k ++ (v14 ++ (m ++ (q15 ++
    (k ++ (v15 ++ e)))))))))))))))))))))))))))))))))))))))))))))))))))))))))))
all_members b m e k q1 q2 q3 q4 q5 q6 q7 q8 q9 q10 q11 q12 q13 q14 q15 v1 v2 v3 v4 v5 v6 v7 v8 v9 v10 v11 v12 v13 v14 v15 = simp append_assoc

pub report_text : (ending : RunEnd) (plan : Plan) (totals : List Totals) (found : List Miscompare) (faults : List NamedFault) (notes : Notes) (more : ℕ)
    → reads_text plan notes.told found ++ head_text ending faults notes ++ found_text ending plan totals notes.told found
    ++ plan_text plan notes.setting more ++ end_text ending
    ≡ compact_text (report_json ending plan totals found faults notes more)
report_text ending plan totals found faults notes more =
    all_members (codes "{") (codes ",") (codes "}") (58 ∷ [])
    (quoted (codes "badreads")) (quoted (codes "cached")) (quoted (codes "direct")) (quoted (codes "faults")) (quoted (codes "files"))
    (quoted (codes "fiorun")) (quoted (codes "interrupted")) (quoted (codes "jobs")) (quoted (codes "logic")) (quoted (codes "miscompares"))
    (quoted (codes "more_faults")) (quoted (codes "plan")) (quoted (codes "run")) (quoted (codes "status")) (quoted (codes "stored"))
    (compact_text (array (items_of (bads_json plan notes.told true found)))) (compact_text (count_json ending.cached)) (compact_text (flag_json ending.direct))
    (compact_text (array (items_of (faults_json faults notes.reasons)))) (compact_text (array (items_of (map file_json notes.files))))
    (compact_text (string ending.version)) (compact_text (boolean ending.is_interrupted))
    (compact_text (array (items_of (clones_json plan.clones totals)))) (compact_text (string ending.logic))
    (compact_text (array (items_of (bads_json plan notes.told false found))))
    (compact_text (natural more)) (compact_text (array (items_of (map (asked_json plan) plan.clones)))) (compact_text (setting_json notes.setting))
    (compact_text (natural ending.status)) (compact_text (boolean ending.is_stored))
