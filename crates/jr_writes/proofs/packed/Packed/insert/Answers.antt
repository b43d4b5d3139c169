use Rattle.std.proofs.Common.{ℕ, arith, ap, sym, ◌∙◌, length}
use Rattle.std.specs.List.{insert}
use Rattle.std.proofs.lemmas.List.Edits.{length-insert}
use Rattle.jr_writes.specs.Slots.{slot_at}
use Rattle.jr_writes.proofs.SlotFacts.{counted_with, rank_at_most, slots_with, with_bit, with_fits}
use Rattle.jr_writes.proofs.packed.Packed.insert.Goals as goal

pub insert-requires : goal.insert-requires
insert-requires g c =
    let slots = c.args.self.now in
    omega (arith, c.rank-rank.ensures, rank_at_most slots.taken slots.items.items slots.fits slots.counted c.args.slot (omega arith))

pub invariant_of-self-2 : goal.invariant_of-self-2
invariant_of-self-2 g c =
    let slots = c.args.self.now in
    record {
      fits = with_fits slots.taken c.args.slot slots.fits c.requires.within;
      counted = counted_with slots.taken c.args.slot slots.fits c.requires.within slots.items.items slots.counted c.requires.free ∙ sym (ap length c.in_ok-insert.ensures.items ∙ length-insert slots.items.items c.rank-rank.result c.args.value
          (omega (arith, c.rank-rank.ensures, rank_at_most slots.taken slots.items.items slots.fits slots.counted c.args.slot (omega arith))));
    }

pub returns-clause-ok : goal.returns-clause-ok
returns-clause-ok g c = λ k.
    let slots = c.args.self.now in
    ap (λ items. slot_at (with_bit slots.taken c.args.slot) items k) (c.in_ok-insert.ensures.items ∙ ap (λ (r : ℕ). insert slots.items.items r c.args.value) c.rank-rank.ensures)
    ∙ slots_with slots.taken c.args.slot slots.fits c.requires.within slots.items.items slots.counted c.args.value c.requires.free k
