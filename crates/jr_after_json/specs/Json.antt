-- Believed: what is found after a cut as a JSON value (RFC 8259; the names are of this project). An object has its members in the order of
-- their names.
use Rattle.std.specs.Prelude.{ℕ, Bool, ◌==◌, List, codes, count_by, flat_map, map}
use Rattle.serde_json.specs.Data.{Data, null, string, array, object, member, no_members}
use Rattle.serde_json.specs.View.{items_of}
use Rattle.jr_model.specs.declared.blocks.Piece.{Piece}
use Rattle.jr_model.specs.declared.events.WriteId.{WriteId}
use Rattle.jr_model.specs.Plan.{Plan}
use Rattle.jr_model.specs.Report.{file_name}
use Rattle.jr_report_json.specs.Json.{natural}
use Rattle.jr_after.specs.declared.findings.Finding.{Finding}
use Rattle.jr_after.specs.declared.findings.Finding.TheVariants as finding
use Rattle.jr_after_report.specs.declared.lines.Judged.{Judged}
use Rattle.jr_after_report.specs.Reports.{FileState}

-- which write it is
abbrev pub write_json : WriteId → Data
write_json write = object
    (member (codes "clone") (natural write.clone)
    (member (codes "number") (natural write.number)
    (member (codes "pass") (natural write.pass) no_members)))

-- the write that is kept, and the one that is found in its place
abbrev pub kept_json : Finding → Data
kept_json finding.Open = null
kept_json finding.Kept = null
kept_json (finding.Lost kept found) = write_json kept
kept_json (finding.Torn kept) = write_json kept
kept_json (finding.Broken kept) = write_json kept

abbrev pub found_json : Finding → Data
found_json finding.Open = null
found_json finding.Kept = null
found_json (finding.Lost kept found) = write_json found
found_json (finding.Torn kept) = null
found_json (finding.Broken kept) = null

abbrev pub word_of : Finding → List ℕ
word_of finding.Open = codes "open"
word_of finding.Kept = codes "kept"
word_of (finding.Lost kept found) = codes "lost"
word_of (finding.Torn kept) = codes "torn"
word_of (finding.Broken kept) = codes "broken"

-- a chunk of which something is told
abbrev pub told_json : Plan → Judged → Data
told_json plan one = object
    (member (codes "file") (string (file_name plan one.chunk.file))
    (member (codes "found") (found_json one.finding)
    (member (codes "kept") (kept_json one.finding)
    (member (codes "length") (natural one.chunk.len)
    (member (codes "offset") (natural one.chunk.offset)
    (member (codes "word") (string (word_of one.finding)) no_members))))))

abbrev pub is_of : ℕ → Piece → Bool
is_of file chunk = chunk.file == file

-- how many chunks of a file there are of each finding, and how many of it couldn't be read
abbrev pub file_json : Plan → List Piece → FileState → Data
file_json plan unread state = object
    (member (codes "broken") (natural state.counts.broken)
    (member (codes "kept") (natural state.counts.kept)
    (member (codes "lost") (natural state.counts.lost)
    (member (codes "name") (string (file_name plan state.file))
    (member (codes "open") (natural state.counts.unpromised)
    (member (codes "torn") (natural state.counts.torn)
    (member (codes "unread") (natural (count_by (is_of state.file) unread)) no_members)))))))

-- a chunk that couldn't be read
abbrev pub unread_json : Plan → Piece → Data
unread_json plan chunk = object
    (member (codes "file") (string (file_name plan chunk.file))
    (member (codes "length") (natural chunk.len)
    (member (codes "offset") (natural chunk.offset) no_members)))

abbrev pub told_in : FileState → List Judged
told_in state = state.told

-- what the program says of itself and of the files: how many reads the system's cache may have answered, and its exit status
pub record About : Type 0 where
  pub version : List ℕ
  pub logic : List ℕ
  pub cached : ℕ
  pub status : ℕ

-- what is found in these files: the chunks of which something is told, the totals of the files, and the chunks that couldn't be read
abbrev pub judgement_json : About → Plan → List FileState → List Piece → Data
judgement_json about plan found unread = object
    (member (codes "after") (array (items_of (map (told_json plan) (flat_map told_in found))))
    (member (codes "cached") (natural about.cached)
    (member (codes "files") (array (items_of (map (file_json plan unread) found)))
    (member (codes "fiorun") (string about.version)
    (member (codes "logic") (string about.logic)
    (member (codes "status") (natural about.status)
    (member (codes "unread") (array (items_of (map (unread_json plan) unread))) no_members)))))))
