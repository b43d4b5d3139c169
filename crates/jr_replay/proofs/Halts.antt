-- A clone is halted by a fault, or by a bad verdict where that is fatal.
use Rattle.std.proofs.Common.{◌≡◌, ℕ, List, [], ◌∷◌, Bool, true, false, refl, ap, ◌∙◌}
use Rattle.std.specs.Prelude.{◌&&◌, ◌||◌, slice_get}
use Rattle.std.specs.List.{list_any}
use Rattle.std.proofs.Math.Bool.{and-false}
use Rattle.jr_model.specs.declared.events.Event.{Event}
use Rattle.jr_model.specs.declared.events.Event.TheVariants.{Issue, Probe, Skip, End, Verdict}
use Rattle.jr_model.specs.declared.events.Started.{Started}
use Rattle.jr_model.specs.History.{started}
use Rattle.jr_model.specs.Legal.{is_io_of, is_fault, is_bad, halts, is_halted}
use Rattle.jr_model.specs.Plan.{SubJob}
use Rattle.jr_model.specs.Totals.{is_fault_of, is_verdict_of}

-- an event by its fault and its bad verdict
by_parts : (ios : List Started) (job : SubJob) (e : Event) → (is_fault_of ios job.clone e || (job.is_fatal && is_verdict_of ios is_bad job.clone e)) ≡ halts ios job e
by_parts ios job (Issue worker kind write piece) = and-false job.is_fatal
by_parts ios job (Probe worker write piece) = and-false job.is_fatal
by_parts ios job (Skip worker write) = and-false job.is_fatal
by_parts ios job (End worker io outcome) = or_never (is_io_of job.clone (slice_get ios io) && is_fault outcome) (job.is_fatal && false) (and-false job.is_fatal)
  where
    or_never : (a b : Bool) → b ≡ false → (a || b) ≡ a
    or_never true b h = refl
    or_never false b h = h
by_parts ios job (Verdict worker io verdict) = and_middle (is_io_of job.clone (slice_get ios io)) job.is_fatal (is_bad verdict)
  where
    and_middle : (a f b : Bool) → (f && (a && b)) ≡ (a && f && b)
    and_middle true true b = refl
    and_middle true false b = refl
    and_middle false true b = refl
    and_middle false false b = refl

one_more : (fatal x y a b : Bool) → ((x || a) || (fatal && (y || b))) ≡ ((x || (fatal && y)) || (a || (fatal && b)))
one_more fatal true y a b = refl
one_more true false true true b = refl
one_more true false true false b = refl
one_more true false false true b = refl
one_more true false false false b = refl
one_more false false y true b = refl
one_more false false y false b = refl

all_halts : (ios : List Started) (job : SubJob) (events : List Event) → (list_any (is_fault_of ios job.clone) events || (job.is_fatal && list_any (is_verdict_of ios is_bad job.clone) events)) ≡ list_any (halts ios job) events
all_halts ios job [] = and-false job.is_fatal
all_halts ios job (e ∷ events) =
    let fault : Bool = is_fault_of ios job.clone e in
    let bad : Bool = is_verdict_of ios is_bad job.clone e in
    let faults : Bool = list_any (is_fault_of ios job.clone) events in
    let bads : Bool = list_any (is_verdict_of ios is_bad job.clone) events in
    one_more job.is_fatal fault bad faults bads
    ∙ ap (λ (b : Bool). b || (faults || (job.is_fatal && bads))) (by_parts ios job e)
    ∙ ap (λ (b : Bool). halts ios job e || b) (all_halts ios job events)

pub halted_is : (history : List Event) (job : SubJob) → (list_any (is_fault_of (started history) job.clone) history || (job.is_fatal && list_any (is_verdict_of (started history) is_bad job.clone) history)) ≡ is_halted history job
halted_is history job = all_halts (started history) job history

-- by what is known of the clone
pub halted_by : (history ledger : List Event) (job : SubJob) (clone : ℕ) (faulty fatal condemned halted : Bool) → halted ≡ (faulty || (fatal && condemned)) → faulty ≡ list_any (is_fault_of (started ledger) clone) ledger → condemned ≡ list_any (is_verdict_of (started ledger) is_bad clone) ledger → fatal ≡ job.is_fatal → clone ≡ job.clone → ledger ≡ history → halted ≡ is_halted history job
halted_by history ledger job clone faulty fatal condemned halted by fault verdict grave same all =
    by
    ∙ ap (λ (b : Bool). b || (fatal && condemned)) fault
    ∙ ap (λ (b : Bool). list_any (is_fault_of (started ledger) clone) ledger || (fatal && b)) verdict
    ∙ ap (λ (b : Bool). list_any (is_fault_of (started ledger) clone) ledger || (b && list_any (is_verdict_of (started ledger) is_bad clone) ledger)) grave
    ∙ ap (λ (k : ℕ). list_any (is_fault_of (started ledger) k) ledger || (job.is_fatal && list_any (is_verdict_of (started ledger) is_bad k) ledger)) same
    ∙ halted_is ledger job
    ∙ ap (λ (h : List Event). is_halted h job) all
