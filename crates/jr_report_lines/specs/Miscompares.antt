-- Internal: the line of a bad verdict that a desk keeps, and two parts of it: which write it is, and where it is.
use Rattle.std.specs.Prelude.{◌≡◌, ℕ, true, List, ◌++◌, codes}
use Rattle.jr_model.specs.declared.blocks.Piece.{Piece}
use Rattle.jr_model.specs.declared.events.WriteId.{WriteId}
use Rattle.jr_model.specs.declared.events.Event.{Event}
use Rattle.jr_model.specs.Legal.{is_legal}
use Rattle.jr_model.specs.Plan.{Plan}
use Rattle.jr_model.specs.Report.{Miscompare, field, file_name, miscompare_line, miscompares}
use Rattle.jr_desk_totals.specs.declared.tallies.Bad.{Bad}
use Rattle.jr_desk_totals.specs.Bads.{miscompare_of}

abbrev pub bad_line : Plan → Bad → List ℕ
bad_line plan bad = miscompare_line plan (miscompare_of bad)

abbrev pub named_fields : WriteId → List ℕ
named_fields write =
    field (codes "clone") write.clone ++ field (codes "pass") write.pass ++ field (codes "number") write.number

abbrev pub place_fields : Plan → Piece → List ℕ
place_fields plan piece =
    codes " file=" ++ file_name plan piece.file ++ field (codes "offset") piece.offset
    ++ field (codes "length") piece.len

-- these are the bad verdicts of a legal history of the plan
abbrev pub AreOfRun : Plan → List Miscompare → Type 0
AreOfRun plan found = (history : List Event) × (is_legal plan history ≡ true) × (found ≡ miscompares history)
