use Rattle.jr_replay.proofs.Halts.{halted_by}
use Rattle.jr_replay.proofs.legal.is_halted.Goals as goal

pub returns : goal.returns
returns c =
    halted_by c.args.past.now c.ledger-ledger.result.now c.args.job.now c.clone_number-clone.result c.is_faulty-faulty.result c.is_fatal.result c.is_condemned-condemned.result c.halts.result c.halts.ensures c.is_faulty-faulty.ensures c.is_condemned-condemned.ensures c.is_fatal.ensures c.clone_number-clone.ensures c.ledger-ledger.ensures
