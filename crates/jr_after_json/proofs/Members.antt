-- The members of a judgement, one behind another.
use Rattle.std.proofs.Common.{◌≡◌, ℕ, List, [], ◌∷◌, ◌++◌, map, flat_map, codes, refl, append_assoc}
use Rattle.json.specs.Print.{escape_byte, quoted}
use Rattle.serde_json.specs.Data.{array, string}
use Rattle.serde_json.specs.View.{items_of}
use Rattle.serde_json.specs.Written.{compact_text}
use Rattle.jr_model.specs.declared.blocks.Piece.{Piece}
use Rattle.jr_model.specs.Plan.{Plan}
use Rattle.jr_report_json.specs.Json.{natural}
use Rattle.jr_after_report.specs.Reports.{FileState}
use Rattle.jr_after_json.specs.Json.{About, file_json, judgement_json, told_in, told_json, unread_json}
use Rattle.jr_after_json.specs.Written.{back_text, front_text, middle_text}

pub after_name : codes "{\"after\":" ≡ codes "{" ++ (quoted (codes "after") ++ 58 ∷ [])
unfolding escape_byte
after_name = refl

pub unread_name : codes ",\"unread\":" ≡ codes "," ++ (quoted (codes "unread") ++ 58 ∷ [])
unfolding escape_byte
unread_name = refl

-- seven members with their braces are an object
all_members : (b m e k q1 q2 q3 q4 q5 q6 q7 v1 v2 v3 v4 v5 v6 v7 : List ℕ)
    → ((b ++ (q1 ++ (k ++ v1))) ++ (m ++ (q2 ++ (k ++ v2))))
    ++ ((m ++ (q3 ++ (k ++ v3))) ++ (m ++ (q4 ++ (k ++ v4))) ++ (m ++ (q5 ++ (k ++ v5))))
    ++ ((m ++ (q6 ++ (k ++ v6))) ++ (m ++ (q7 ++ (k ++ v7))) ++ e)
    ≡ b ++ (q1 ++ (k ++ (v1 ++ (m ++ (q2 ++ (k ++ (v2 ++ (m ++ (q3 ++ (k ++ (v3 ++ (m ++ (q4 ++ (k ++ (v4 ++ (m ++ (q5 ++ (k ++ (v5 ++ (m ++ (q6 ++ (k ++ (v6 ++ (m ++ (q7 ++ (k ++ (v7 ++ e)))))))))))))))))))))))))))
all_members b m e k q1 q2 q3 q4 q5 q6 q7 v1 v2 v3 v4 v5 v6 v7 = simp append_assoc

pub judgement_is : (about : About) (plan : Plan) (found : List FileState) (unread : List Piece)
    → front_text about plan found ++ middle_text about plan found unread ++ back_text about plan unread
    ≡ compact_text (judgement_json about plan found unread)
judgement_is about plan found unread =
    all_members (codes "{") (codes ",") (codes "}") (58 ∷ [])
    (quoted (codes "after")) (quoted (codes "cached")) (quoted (codes "files")) (quoted (codes "fiorun")) (quoted (codes "logic"))
    (quoted (codes "status")) (quoted (codes "unread"))
    (compact_text (array (items_of (map (told_json plan) (flat_map told_in found))))) (compact_text (natural about.cached))
    (compact_text (array (items_of (map (file_json plan unread) found)))) (compact_text (string about.version)) (compact_text (string about.logic))
    (compact_text (natural about.status)) (compact_text (array (items_of (map (unread_json plan) unread))))
