use Rattle.std.proofs.Common.{arith, ap, set, sym, ◌∙◌, Some}
use Rattle.jr_writes.specs.Slots.{slot_at}
use Rattle.std.proofs.lemmas.Bool.{eqb-true}
use Rattle.jr_writes.proofs.SlotFacts.{clear_bit, free_slot, rank_within, read_slot, slots_set}
use Rattle.jr_writes.proofs.packed.Packed.put.Goals as goal

pub insert-requires-clause-free : goal.insert-requires-clause-free
insert-requires-clause-free g c = free_slot c.args.self.now.taken c.args.self.now.items.items c.args.slot (clear_bit c.args.self.now.taken c.args.slot (sym c.is_taken.ensures ∙ c.if-is_taken.false))

pub index_mut-requires : goal.index_mut-requires
index_mut-requires g c =
    let slots = c.args.self.now in
    omega (arith, c.rank-rank.ensures, rank_within slots.taken slots.items.items slots.fits slots.counted c.args.slot (eqb-true _ _ (sym c.is_taken.ensures ∙ c.if-is_taken.true)))

pub returns-then-is_taken-clause-old : goal.returns-then-is_taken-clause-old
returns-then-is_taken-clause-old g c =
    let slots = c.args.self.now in
    ap Some c.replace-older.ensures.value
    ∙ read_slot slots.taken slots.items.items slots.fits slots.counted c.args.slot c.rank-rank.result c.index_mut.result.now (eqb-true _ _ (sym c.is_taken.ensures ∙ c.if-is_taken.true)) c.rank-rank.ensures c.index_mut.ensures.value

pub returns-then-is_taken-clause-ok : goal.returns-then-is_taken-clause-ok
returns-then-is_taken-clause-ok g c = λ k.
    let slots = c.args.self.now in
    let one = eqb-true _ _ (sym c.is_taken.ensures ∙ c.if-is_taken.true) in
    (λ i. slot_at slots.taken (set slots.items.items (c.rank-rank.ensures i) (c.replace-older.ensures.after i)) k)
    ∙ slots_set slots.taken c.args.slot slots.items.items c.args.value one (rank_within slots.taken slots.items.items slots.fits slots.counted c.args.slot one) k

pub returns-clause-old : goal.returns-clause-old
returns-clause-old g c = sym (free_slot c.args.self.now.taken c.args.self.now.items.items c.args.slot (clear_bit c.args.self.now.taken c.args.slot (sym c.is_taken.ensures ∙ c.if-is_taken.false)))
