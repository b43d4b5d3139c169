use Rattle.std.proofs.Common.{◌≡◌, ◌++◌, take, flat_map, string_bytes}
use Rattle.jr_diagnosis.specs.Texts.{sector_text}
use Rattle.jr_cli_notes.proofs.found.push_sectors.Given as goal

-- the sectors so far were added
abbrev pub invariant-loop-is_right : goal.invariant-loop-is_right
invariant-loop-is_right l =
    string_bytes l.text ≡ string_bytes l.fn.text ++ flat_map sector_text (take l.is_right-index l.sectors)
