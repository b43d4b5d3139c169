use Rattle.std.proofs.Common.{arith, ◌∙◌, drop}
use Rattle.std.proofs.lemmas.List.{length-drop, take_all}
use Rattle.jr_desk_tickets.proofs.table.second_half.Goals as goal

pub returns : goal.returns
returns c =
    let header = c.args.header.now in
    c.copy_from_slice.ensures.after
    ∙ take_all 32 (drop 32 header) (omega (arith, length-drop 32 header, c.told-header))
