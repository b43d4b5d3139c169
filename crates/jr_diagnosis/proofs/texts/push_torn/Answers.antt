use Rattle.std.proofs.Common.{string_bytes, codes, flat_map}
use Rattle.jr_diagnosis.specs.Texts.{number_text, sector_text}
use Rattle.jr_diagnosis.proofs.Joined.{number_more, three_more}
use Rattle.jr_diagnosis.proofs.texts.push_torn.Goals as goal

pub returns : goal.returns
returns c =
    three_more (string_bytes c.args.text.now) (number_text (codes "torn right=") c.args.right) (codes " sectors=")
    (flat_map sector_text c.args.sectors.now)
    (string_bytes c.push_number.new.text) (string_bytes c.push_str.new.self) (string_bytes c.push_sectors.new.text)
    (number_more (codes "torn right=") _ _ c.from.result c.args.right c.from.ensures c.in_ok-push_number.ensures)
    c.in_ok-push_str.ensures.bytes c.in_ok-push_sectors.ensures
