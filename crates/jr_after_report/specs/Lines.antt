-- Believed: the line of a chunk of which something is told (of this project).
use Rattle.std.specs.Prelude.{ℕ, List, [], ◌++◌, codes}
use Rattle.std.specs.Fmt.{decimal}
use Rattle.jr_model.specs.declared.blocks.Piece.{Piece}
use Rattle.jr_model.specs.declared.events.WriteId.{WriteId}
use Rattle.jr_model.specs.Plan.{Plan}
use Rattle.jr_model.specs.Report.{field, file_name}
use Rattle.jr_after.specs.declared.findings.Finding.{Finding}
use Rattle.jr_after.specs.declared.findings.Finding.TheVariants as finding
use Rattle.jr_after_report.specs.declared.lines.Judged.{Judged}

-- which write it is: its clone, pass and number
abbrev pub write_name : WriteId → List ℕ
write_name write = decimal write.clone ++ codes "/" ++ decimal write.pass ++ codes "/" ++ decimal write.number

-- where the chunk is, and which write is kept there
abbrev pub place_text : Plan → Piece → WriteId → List ℕ
place_text plan chunk kept =
    codes " file=" ++ file_name plan chunk.file ++ field (codes "offset") chunk.offset ++ field (codes "length") chunk.len
    ++ codes " kept=" ++ write_name kept

-- nothing is told of a chunk that is kept or open
abbrev pub told_text : Plan → Piece → Finding → List ℕ
told_text plan chunk finding.Open = []
told_text plan chunk finding.Kept = []
told_text plan chunk (finding.Lost kept found) =
    codes "lost:" ++ place_text plan chunk kept ++ codes " found=" ++ write_name found ++ codes "\n"
told_text plan chunk (finding.Torn kept) = codes "torn:" ++ place_text plan chunk kept ++ codes "\n"
told_text plan chunk (finding.Broken kept) = codes "broken:" ++ place_text plan chunk kept ++ codes "\n"

abbrev pub line_of : Plan → Judged → List ℕ
line_of plan one = told_text plan one.chunk one.finding
