-- Believed: whose number each event of a run has: workers are numbered from 0, verifiers on from them (of this project).
use Rattle.std.specs.Prelude.{ℕ, ◌+◌, nat_lt, nat_le, ◌==◌, ◌&&◌, Bool, true, false, List, slice_get, Option, Some, None, if◌then◌else◌}
use Rattle.jr_model.specs.declared.events.Event.{Event}
use Rattle.jr_model.specs.declared.events.Event.TheVariants.{Issue, Probe, Skip, End, Verdict}
use Rattle.jr_model.specs.declared.tickets.Ticket.{Ticket}
use Rattle.jr_model.specs.Plan.{Plan}

-- the workers judge their own checks where a plan wants no verifiers
abbrev pub judges_inline : Plan → Bool
judges_inline plan = plan.verifiers == 0

-- it was handed out to this worker
abbrev pub is_workers : ℕ → Option Ticket → Bool
is_workers worker None = false
is_workers worker (Some ticket) = ticket.worker == worker

-- where the event is a verdict, it is that of the worker that the check was handed out to
abbrev pub is_own_verdict : List Ticket → Event → Bool
is_own_verdict tickets (Verdict worker io verdict) = is_workers worker (slice_get tickets io)
is_own_verdict tickets (Issue worker dir write piece) = true
is_own_verdict tickets (Probe worker write piece) = true
is_own_verdict tickets (Skip worker write) = true
is_own_verdict tickets (End worker io outcome) = true

-- it is the number of one of the workers, which are numbered from 0
abbrev pub is_worker_number : ℕ → ℕ → Bool
is_worker_number workers number = nat_lt number workers

-- it is the number of one of the verifiers, which are numbered on from the workers
abbrev pub is_verifier_number : ℕ → ℕ → ℕ → Bool
is_verifier_number workers verifiers number = nat_le workers number && nat_lt number (workers + verifiers)

-- a verdict is of a verifier, where there are any; all else is of a worker
abbrev pub is_numbered : ℕ → ℕ → Event → Bool
is_numbered workers verifiers (Verdict worker io verdict) =
    if verifiers == 0 then is_worker_number workers worker else is_verifier_number workers verifiers worker
is_numbered workers verifiers (Issue worker dir write piece) = is_worker_number workers worker
is_numbered workers verifiers (Probe worker write piece) = is_worker_number workers worker
is_numbered workers verifiers (Skip worker write) = is_worker_number workers worker
is_numbered workers verifiers (End worker io outcome) = is_worker_number workers worker
