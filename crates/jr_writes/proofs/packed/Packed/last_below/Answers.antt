use Rattle.std.proofs.lemmas.Nat.{one_shl}
use Rattle.jr_writes.proofs.SlotFacts.{last_of}
use Rattle.jr_writes.proofs.packed.Packed.last_below.Goals as goal

pub returns : goal.returns
returns g c =
    let slots = c.args.self.now in
    last_of slots.taken c.args.end slots.items.items slots.fits slots.counted c.last_bit.result
    (rw (one_shl c.args.end 64 c.requires) at c.last_bit.ensures)
