use Rattle.std.proofs.Common.{ℕ, sym, subst}
use Rattle.jr_run_faults.specs.declared.runs.RunFault.{RunFault}
use Rattle.jr_crew_threads.specs.declared.halts.Halt.{Halt}
use Rattle.jr_crew_threads.specs.declared.halts.Halt.TheVariants as halt
use Rattle.jr_run_faults.specs.Faults.{IsRefusal}
use Rattle.jr_crew_threads.specs.Halts.{fault_of}
use Rattle.jr_crew.proofs.crew.desk_of.Goals as goal

-- a run that was halted is refused for nothing else than memory or books
halt_refuses : (verifiers : ℕ) (halted : Halt) → IsRefusal verifiers (fault_of halted)
halt_refuses verifiers halt.Memory = tt
halt_refuses verifiers halt.Books = tt

pub returns-in-Some-clause-halted : goal.returns-in-Some-clause-halted
returns-in-Some-clause-halted g c verifiers =
    subst (λ (fault : RunFault). IsRefusal verifiers fault) (sym c.from.ensures) (halt_refuses verifiers c.in-Some.halt)
