use Rattle.std.proofs.Common.{sym, arith, refl}
use Rattle.jr_header.proofs.Patterns.{repeats}
use Rattle.jr_header.proofs.Differences.{none_differs, differs_at}
use Rattle.jr_header.proofs.judgement.first_difference.Goals as goal

pub returns-then-follows : goal.returns-then-follows
returns-then-follows c = sym (none_differs c.args.pattern.now c.args.bytes.now (c.if-follows.ensures refl))

pub returns-then-byte-pattern : goal.returns-then-byte-pattern
returns-then-byte-pattern c =
    sym (differs_at c.args.pattern.now c.args.bytes.now c.loop-i.i c.loop-i-test.true c.loop-i.invariant c.if-byte-pattern.true)

pub returns : goal.returns
returns c =
    sym (none_differs c.args.pattern.now c.args.bytes.now
    (repeats c.args.pattern.now c.args.bytes.now _ refl (λ k below. c.loop-i.invariant k (omega arith))))
