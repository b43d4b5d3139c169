use Rattle.std.proofs.Common.{ap, ◌∙◌, cond, Some}
use Rattle.std.specs.Prelude.{◌==◌}
use Rattle.std.proofs.lemmas.Nat.Bits.{bit_at-zero}
use Rattle.jr_writes.proofs.SlotFacts.{free_slot}
use Rattle.jr_writes.proofs.packed.Packed.of_one.Goals as goal

pub insert-requires-clause-free : goal.insert-requires-clause-free
insert-requires-clause-free g c = free_slot 0 c.in_ok-with_capacity.field-0.items c.args.slot (bit_at-zero c.args.slot)

pub returns : goal.returns
returns g c = λ k.
    c.in_ok-insert.ensures.ok k
    ∙ ap (λ o. cond (k == c.args.slot) (Some c.args.value) o) (free_slot 0 c.in_ok-with_capacity.field-0.items k (bit_at-zero k))
