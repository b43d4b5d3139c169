use Rattle.std.proofs.Common.{arith}
use Rattle.jr_desk_state.proofs.WaitingBits.{marked_before, released_here}
use Rattle.jr_desk_state.proofs.waiting.Waiting.release.Goals as goal

pub returns-then-place-len-clause-free : goal.returns-then-place-len-clause-free
returns-then-place-len-clause-free c =
    released_here c.args.self.now.words.items c.args.clone c.index_mut.result.now (omega (arith, c.if-place-len.true, c.len.ensures))

pub returns-then-place-len-clause-others : goal.returns-then-place-len-clause-others
returns-then-place-len-clause-others c other =
    marked_before c.args.self.now.words.items c.args.clone c.index_mut.result.now other (omega (arith, c.if-place-len.true, c.len.ensures)) c.index_mut.ensures.value
