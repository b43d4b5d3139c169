use Rattle.std.proofs.Common.{arith}
use Rattle.jr_desk_state.proofs.WaitingBits.{all_set, run_to_clear}
use Rattle.jr_desk_state.proofs.waiting.marked_run.Goals as goal

pub returns-then-clear-eq0-clause-set : goal.returns-then-clear-eq0-clause-set
returns-then-clear-eq0-clause-set c k from before =
    all_set c.args.word c.args.bit c.ranges.word.fits c.if-clear-eq0.true k from (omega (arith, before, c.requires))

pub returns-clause-within : goal.returns-clause-within
returns-clause-within c =
    let run = run_to_clear c.args.word c.args.bit c.ranges.word.fits c.if-clear-eq0.false in
    omega (arith, run.within)

pub returns-clause-set : goal.returns-clause-set
returns-clause-set c = (run_to_clear c.args.word c.args.bit c.ranges.word.fits c.if-clear-eq0.false).set
