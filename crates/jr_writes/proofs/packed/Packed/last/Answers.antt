use Rattle.std.proofs.Common.{◌≡◌, ℕ, ◌^◌, ◌/◌, subst, sym}
use Rattle.std.specs.Prelude.{MatchOption}
use Rattle.std.proofs.Math.Nat.{mod-eq_of_lt}
use Rattle.jr_writes.proofs.SlotFacts.{last_of}
use Rattle.jr_writes.proofs.packed.Packed.last.Goals as goal

pub returns : goal.returns
returns g c =
    let slots = c.args.self.now in
    last_of slots.taken 64 slots.items.items slots.fits slots.counted c.last_bit.result
    (subst (λ (w : ℕ). MatchOption c.last_bit.result (w ≡ 0) (λ b. w / 2 ^ b ≡ 1)) (sym (mod-eq_of_lt slots.fits)) c.last_bit.ensures)
