use Rattle.std.proofs.Common.{arith, ap, sym, ◌∙◌, length}
use Rattle.std.specs.List.{remove}
use Rattle.std.proofs.lemmas.Bool.{eqb-true}
use Rattle.std.proofs.lemmas.List.Edits.{length-remove}
use Rattle.jr_writes.specs.Slots.{slot_at}
use Rattle.jr_writes.proofs.SlotFacts.{clear_bit, counted_without, free_slot, none_out, rank_within, read_slot, slots_without, without_bit, without_fits}
use Rattle.jr_writes.proofs.packed.Packed.remove.Goals as goal

pub returns-then-not-is_taken-clause-value : goal.returns-then-not-is_taken-clause-value
returns-then-not-is_taken-clause-value g c =
    sym (free_slot c.args.self.now.taken c.args.self.now.items.items c.args.slot
    (clear_bit c.args.self.now.taken c.args.slot (sym c.is_taken.ensures ∙ c.if-not-is_taken.true)))

pub returns-then-not-is_taken-clause-slots : goal.returns-then-not-is_taken-clause-slots
returns-then-not-is_taken-clause-slots g c = λ k.
    none_out c.args.self.now.taken c.args.self.now.items.items c.args.slot (sym (returns-then-not-is_taken-clause-value g c)) k

pub remove-value-requires : goal.remove-value-requires
remove-value-requires g c =
    let slots = c.args.self.now in
    omega (arith, c.rank-rank.ensures, rank_within slots.taken slots.items.items slots.fits slots.counted c.args.slot (eqb-true _ _ (sym c.is_taken.ensures ∙ c.if-not-is_taken.false)))

pub invariant_of-self : goal.invariant_of-self
invariant_of-self g c =
    let slots = c.args.self.now in
    record {
      fits = without_fits slots.taken c.args.slot slots.fits c.requires;
      counted =
          let one = counted_without slots.taken c.args.slot slots.fits c.requires slots.items.items slots.counted (eqb-true _ _ (sym c.is_taken.ensures ∙ c.if-not-is_taken.false)) in
          let left = length-remove slots.items.items c.rank-rank.result
          (omega (arith, c.rank-rank.ensures, rank_within slots.taken slots.items.items slots.fits slots.counted c.args.slot (eqb-true _ _ (sym c.is_taken.ensures ∙ c.if-not-is_taken.false)))) in
          let same = ap length c.remove-value.ensures.items in
          omega (arith, one, left, same);
    }

pub returns-clause-value : goal.returns-clause-value
returns-clause-value g c =
    let slots = c.args.self.now in
    read_slot slots.taken slots.items.items slots.fits slots.counted c.args.slot c.rank-rank.result c.remove-value.result (eqb-true _ _ (sym c.is_taken.ensures ∙ c.if-not-is_taken.false)) c.rank-rank.ensures c.remove-value.ensures.value

pub returns-clause-slots : goal.returns-clause-slots
returns-clause-slots g c = λ k.
    let slots = c.args.self.now in
    ap (λ items. slot_at (without_bit slots.taken c.args.slot) items k) (c.remove-value.ensures.items ∙ ap (remove slots.items.items) c.rank-rank.ensures)
    ∙ slots_without slots.taken c.args.slot slots.fits c.requires slots.items.items slots.counted (eqb-true _ _ (sym c.is_taken.ensures ∙ c.if-not-is_taken.false)) k
