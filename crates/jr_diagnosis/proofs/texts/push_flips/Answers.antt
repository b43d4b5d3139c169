use Rattle.std.proofs.Common.{string_bytes, codes}
use Rattle.jr_diagnosis.specs.Texts.{number_text}
use Rattle.jr_diagnosis.proofs.Joined.{number_more, three_more}
use Rattle.jr_diagnosis.proofs.texts.push_flips.Goals as goal

pub returns : goal.returns
returns c =
    let flips = c.args.flips.now in
    three_more (string_bytes c.args.text.now) (number_text (codes "bits raised=") flips.raised) (number_text (codes " cleared=") flips.cleared)
    (number_text (codes " first=") flips.first)
    (string_bytes c.push_number.new.text) (string_bytes c.push_number-2.new.text) (string_bytes c.push_number-3.new.text)
    (number_more (codes "bits raised=") _ _ c.from.result flips.raised c.from.ensures c.in_ok-push_number.ensures)
    (number_more (codes " cleared=") _ _ c.from-2.result flips.cleared c.from-2.ensures c.in_ok-push_number-2.ensures)
    (number_more (codes " first=") _ _ c.from-3.result flips.first c.from-3.ensures c.in_ok-push_number-3.ensures)
