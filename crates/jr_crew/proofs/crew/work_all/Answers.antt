use Rattle.std.proofs.Common.{sym, subst}
use Rattle.std.specs.Prelude.{IfOk, slice_index_or}
use Rattle.jr_crew_channel.specs.Passes.{pass_state}
use Rattle.jr_crew.specs.Working.{IsWork}
use Rattle.jr_crew_threads.specs.Parts.{one_part}
use Rattle.jr_crew.proofs.crew.work_all.Goals as goal

pub returns-clause-each : goal.returns-clause-each
returns-clause-each g c = record {
  each = λ i worker one below.
      let gave = (c.in_ok-ended.ensures.each i one below).1 in
      let ended = slice_index_or c.in_ok-ended.ended.items i one in
      subst (λ job. IfOk ended.1.book (λ book. IsWork c.args.inline ((g.dyn-1.0.entry job.0.vtable).1.state job.0.value) one_part book
      ((g.dyn-1.0.entry ended.0.vtable).1.state ended.0.value) (pass_state ended.1.part.pass)))
      (sym (gave.job_is worker)) gave.call.met;
}
