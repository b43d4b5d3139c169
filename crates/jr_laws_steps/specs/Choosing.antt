-- Claimed: what a choice leaves out. Where there is none nothing may be started, and what may be started doesn't stand before it.
use Rattle.std.specs.Prelude.{◌≡◌, ℕ, nat_lt, ◌==◌, Bool, true, false, ◌&&◌, ◌||◌, List, Option, Some, None}
use Rattle.jr_model.specs.declared.events.Event.{Event}
use Rattle.jr_model.specs.declared.events.Event.TheVariants.{Issue, Probe, Skip, End, Verdict}
use Rattle.jr_model.specs.declared.events.WriteId.{WriteId}
use Rattle.jr_model.specs.Choice.{choice}
use Rattle.jr_model.specs.Legal.{is_legal, may_happen}
use Rattle.jr_model.specs.Plan.{Plan}
use Rattle.jr_model.specs.PlanFacts.{IsPlanned}

-- the draw that the event issues, or the write that it checks or skips
abbrev pub named_by : Event → Option WriteId
named_by (Issue worker dir write piece) = Some write
named_by (Probe worker write piece) = Some write
named_by (Skip worker write) = Some write
named_by (End worker io outcome) = None
named_by (Verdict worker io verdict) = None

-- by clone, then pass, then number
abbrev pub stands_before : WriteId → WriteId → Bool
stands_before a b =
    nat_lt a.clone b.clone
    || ((a.clone == b.clone) && (nat_lt a.pass b.pass || ((a.pass == b.pass) && nat_lt a.number b.number)))

-- where there is no choice no read or write may be issued, and no write checked or skipped, by any worker
abbrev pub NothingWithoutChoice : Type 0
NothingWithoutChoice =
    (plan : Plan) (history : List Event) (worker : ℕ) (event : Event) (write : WriteId)
    → IsPlanned plan
    → is_legal plan history ≡ true
    → choice plan history worker ≡ None
    → named_by event ≡ Some write
    → may_happen plan history event ≡ false

-- and none that stands before the choice may be
abbrev pub ChoiceIsLeast : Type 0
ChoiceIsLeast =
    (plan : Plan) (history : List Event) (worker : ℕ) (chosen event : Event) (first write : WriteId)
    → IsPlanned plan
    → is_legal plan history ≡ true
    → choice plan history worker ≡ Some chosen
    → named_by chosen ≡ Some first
    → named_by event ≡ Some write
    → stands_before write first ≡ true
    → may_happen plan history event ≡ false
