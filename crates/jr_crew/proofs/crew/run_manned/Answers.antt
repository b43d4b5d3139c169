use Rattle.std.proofs.Common.{length, rules}
use Rattle.jr_crew.proofs.crew.run_manned.Goals as goal

pub returns-clause-each : goal.returns-clause-each
returns-clause-each g c = rw c.judges_inline-inline.ensures at c.in_ok-ended.ensures.each

-- what halted it says nothing of threads
pub returns-in_err-desk-clause-failed : goal.returns-in_err-desk-clause-failed
returns-in_err-desk-clause-failed g c =
    let halted = c.in_err-desk.ensures.halted (length c.args.verifiers.all.items) in search (rules, halted)
