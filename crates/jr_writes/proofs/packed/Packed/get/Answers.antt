use Rattle.std.proofs.Common.{arith, sym, ◌∙◌}
use Rattle.std.proofs.lemmas.Bool.{eqb-true}
use Rattle.jr_writes.proofs.SlotFacts.{clear_bit, free_slot, rank_within, read_slot}
use Rattle.jr_writes.proofs.packed.Packed.get.Goals as goal

pub returns-then-not-is_taken : goal.returns-then-not-is_taken
returns-then-not-is_taken g c =
    sym (free_slot c.args.self.now.taken c.args.self.now.items.items c.args.slot
    (clear_bit c.args.self.now.taken c.args.slot (sym c.is_taken.ensures ∙ c.if-not-is_taken.true)))

pub index-requires : goal.index-requires
index-requires g c =
    let slots = c.args.self.now in
    omega (arith, c.rank-rank.ensures, rank_within slots.taken slots.items.items slots.fits slots.counted c.args.slot (eqb-true _ _ (sym c.is_taken.ensures ∙ c.if-not-is_taken.false)))

pub returns : goal.returns
returns g c =
    let slots = c.args.self.now in
    read_slot slots.taken slots.items.items slots.fits slots.counted c.args.slot c.rank-rank.result c.index.result.now (eqb-true _ _ (sym c.is_taken.ensures ∙ c.if-not-is_taken.false)) c.rank-rank.ensures c.index.ensures
