-- Internal: the parts of a JSON value that are written one behind another.
use Rattle.std.specs.Prelude.{ℕ, List, ◌++◌, codes, flat_map, map}
use Rattle.serde_json.specs.Data.{array, string}
use Rattle.serde_json.specs.View.{items_of}
use Rattle.jr_model.specs.declared.blocks.Piece.{Piece}
use Rattle.jr_model.specs.Plan.{Plan}
use Rattle.jr_report_json.specs.Json.{natural}
use Rattle.jr_report_json.specs.Rows.{member_text}
use Rattle.jr_after_report.specs.Reports.{FileState}
use Rattle.jr_after_json.specs.declared.texts.Judgement.{Judgement}
use Rattle.jr_after_json.specs.Json.{About, file_json, told_in, told_json, unread_json}

abbrev pub about_of : Judgement → About
about_of judgement = record {
  version = judgement.version.now;
  logic = judgement.logic.now;
  cached = judgement.cached;
  status = judgement.status;
}

abbrev pub front_text : About → Plan → List FileState → List ℕ
front_text about plan found =
    member_text (codes "{") (codes "after") (array (items_of (map (told_json plan) (flat_map told_in found))))
    ++ member_text (codes ",") (codes "cached") (natural about.cached)

abbrev pub middle_text : About → Plan → List FileState → List Piece → List ℕ
middle_text about plan found unread =
    member_text (codes ",") (codes "files") (array (items_of (map (file_json plan unread) found)))
    ++ member_text (codes ",") (codes "fiorun") (string about.version)
    ++ member_text (codes ",") (codes "logic") (string about.logic)

abbrev pub back_text : About → Plan → List Piece → List ℕ
back_text about plan unread =
    member_text (codes ",") (codes "status") (natural about.status)
    ++ member_text (codes ",") (codes "unread") (array (items_of (map (unread_json plan) unread))) ++ codes "}"
