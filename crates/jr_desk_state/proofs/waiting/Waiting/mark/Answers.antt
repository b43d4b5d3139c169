use Rattle.std.proofs.Common.{arith}
use Rattle.jr_desk_state.proofs.WaitingBits.{marked_more}
use Rattle.jr_desk_state.proofs.waiting.Waiting.mark.Goals as goal

pub returns-then-place-len-clause-others : goal.returns-then-place-len-clause-others
returns-then-place-len-clause-others c other =
    marked_more c.args.self.now.words.items c.args.clone c.index_mut.result.now other (omega (arith, c.if-place-len.true, c.len.ensures)) c.index_mut.ensures.value
