use Rattle.std.proofs.Common.{sym, arith}
use Rattle.jr_header.proofs.Differences.{first_difference_at}
use Rattle.jr_diagnosis.proofs.Differences.{none_differs}
use Rattle.jr_diagnosis.proofs.bits.first_difference.Goals as goal

pub returns-then-byte-written : goal.returns-then-byte-written
returns-then-byte-written c =
    sym (first_difference_at c.args.read.now c.args.written.now c.loop-i.i c.loop-i-test.true (sym c.requires.same) c.loop-i.invariant c.if-byte-written.true)

pub returns : goal.returns
returns c =
    sym (none_differs c.args.read.now c.args.written.now (sym c.requires.same) (λ k below. c.loop-i.invariant k (omega (arith, below, c.loop-i-test.false))))
