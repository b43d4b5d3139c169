-- Believed: what each worker completed, and what verifiers said, as a history has it (of this project).
use Rattle.std.specs.Prelude.{◌≡◌, ℕ, ◌==◌, Bool, List, Option, Some, None, filter_map, slice_get, Contains, ⊤, if◌then◌else◌}
use Rattle.jr_model.specs.declared.events.Event.{Event}
use Rattle.jr_model.specs.declared.events.Event.TheVariants.{Issue, Probe, Skip, End, Verdict}
use Rattle.jr_model.specs.declared.events.Outcome.{Outcome}
use Rattle.jr_model.specs.declared.events.Verdict.{Verdict as GivenVerdict}
use Rattle.jr_model.specs.declared.tickets.Ticket.{Ticket}
use Rattle.jr_model.specs.History.{first_given}
use Rattle.jr_model.specs.Plan.{Plan}
use Rattle.jr_crew_books.specs.declared.books.Done.{Done}
use Rattle.jr_crew_books.specs.declared.books.Said.{Said}
use Rattle.jr_desk_tickets.specs.Kept.{tickets_of}

-- the verdict on check io, where this event is one
abbrev pub verdict_by : ℕ → Event → Option GivenVerdict
verdict_by io (Verdict worker id verdict) = if id == io then Some verdict else None
verdict_by io (Issue worker dir write piece) = None
verdict_by io (Probe worker write piece) = None
verdict_by io (Skip worker write) = None
verdict_by io (End worker id outcome) = None

-- the verdict on check io, if it has one
abbrev pub verdict_in : List Event → ℕ → Option GivenVerdict
verdict_in history io = first_given (verdict_by io) history

-- what was completed, where it was handed out by this ticket
abbrev pub done_with : Outcome → Option GivenVerdict → Option Ticket → Option Done
done_with outcome said None = None
done_with outcome said (Some ticket) = Some (record { ticket = ticket; outcome = outcome; verdict = said })

-- what the worker completed by this event of the history, with its verdict where workers judge their own checks
abbrev pub done_by : Plan → Bool → List Event → ℕ → Event → Option Done
done_by plan inline history worker (End w io outcome) =
    if w == worker
    then done_with outcome (if inline then verdict_in history io else None) (slice_get (tickets_of plan history) io)
    else None
done_by plan inline history worker (Issue w dir write piece) = None
done_by plan inline history worker (Probe w write piece) = None
done_by plan inline history worker (Skip w write) = None
done_by plan inline history worker (Verdict w io verdict) = None

-- the worker's book: all that it completed, in the order of its ends
abbrev pub dones_of : Plan → Bool → List Event → ℕ → List Done
dones_of plan inline history worker = filter_map (done_by plan inline history worker) history

-- one of these books says this of a check
pub record IsSaidIn {B : Type 0} (books : List B) (items : B → List Said) (said : Said) : Type 0 where
  pub at : ℕ
  pub book : B
  pub there : slice_get books at ≡ Some book
  pub among : Contains (items book) said

-- where the event is a verdict, one of these books says it
abbrev pub IsVerdictIn : {B : Type 0} → List B → (B → List Said) → Event → Type 0
IsVerdictIn {B = B} books items (Verdict worker io verdict) = IsSaidIn books items (record { io = io; verdict = verdict })
IsVerdictIn {B = B} books items (Issue worker dir write piece) = ⊤
IsVerdictIn {B = B} books items (Probe worker write piece) = ⊤
IsVerdictIn {B = B} books items (Skip worker write) = ⊤
IsVerdictIn {B = B} books items (End worker io outcome) = ⊤
