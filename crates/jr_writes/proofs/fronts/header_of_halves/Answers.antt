use Rattle.jr_writes.proofs.fronts.header_of_halves.Goals as goal
use Rattle.jr_model.proofs.Halves.{over_halves}

pub returns : goal.returns
returns c =
    over_halves c.copy_from_slice.new.self c.copy_from_slice-2.new.self c.args.front.now c.args.back.now
    c.copy_from_slice.ensures.after c.copy_from_slice-2.ensures.after c.told-front c.told-back
