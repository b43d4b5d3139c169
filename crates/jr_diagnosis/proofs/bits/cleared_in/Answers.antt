use Rattle.std.proofs.Common.{arith, bit_and}
use Rattle.std.specs.Int.Bits.{and_le_l, bit_xor}
use Rattle.std.proofs.lemmas.Nat.{ones-le}
use Rattle.jr_diagnosis.proofs.bits.cleared_in.Goals as goal

pub returns-clause-most : goal.returns-clause-most
returns-clause-most c =
    let changed = bit_xor c.args.written c.args.read in
    ones-le 8 (bit_and c.args.written changed) (omega (arith, and_le_l c.args.written changed, c.ranges.written.fits))
