-- What starts is put into flight, what ends taken out, and whatever else happens changes nothing of it.
use Rattle.std.proofs.Common.{◌≡◌, ◌&&◌, ◌||◌, ℕ, List, length, sym, ap, subst, ◌∙◌, arith}
use Rattle.std.specs.Prelude.{nat_eq}
use Rattle.std.specs.BTreeMap.{is_at}
use Rattle.std.specs.HashSet.{contains}
use Rattle.std.specs.Map.{remove_entry}
use Rattle.std.specs.Ordering.{nat_cmp}
use Rattle.std.proofs.lemmas.Result.{on_ok_weaker}
use Rattle.jr_model.specs.declared.events.Event.{Event}
use Rattle.jr_model.specs.declared.events.Started.{Started}
use Rattle.jr_model.specs.History.{started}
use Rattle.jr_flight.specs.declared.ios.Ended.{Ended}
use Rattle.jr_flight.specs.Flights.{flying_io, raced_so_far}
use Rattle.jr_laws_steps.specs.Nexts.{IsNext, grown}
use Rattle.jr_laws_steps.proofs.StartedFew.{started_small}
use Rattle.jr_laws_steps.proofs.DrawnLaws.{start_fits}
use Rattle.jr_laws_log.specs.Flying.{begun, flight_of, io_of}
use Rattle.jr_laws_log.proofs.FlyingLaws.{ended_flies_no_more, next_flies, next_is_free}
use Rattle.jr_replay.specs.Indexes.{AreRacedEnds}
use Rattle.jr_replay.proofs.IndexLaws.{flies_on, raced_end, raced_other_event, raced_start}
use Rattle.jr_replay.proofs.indexes.fly.Goals as goal

-- ---- a start
pub overflow_cast-started : goal.overflow_cast-started
overflow_cast-started c =
    let next = c.requires.next in
    omega (arith, ap (λ (ios : List Started). length ios) c.started.ensures, started_small c.args.plan.now c.args.history.now next.planned next.legal)

pub begin-requires-clause-fits : goal.begin-requires-clause-fits
begin-requires-clause-fits c =
    start_fits c.args.plan.now c.args.history.now c.args.event.now c.in-Some.io c.requires.next (sym c.started_by.ensures ∙ c.in-Some.is)

pub begin-requires-clause-new : goal.begin-requires-clause-new
begin-requires-clause-new c =
    ap (λ (ios : List Started). flying_io (length ios) c.args.flight.now) c.started.ensures
    ∙ ap (flying_io (length (started c.args.history.now))) c.requires.flight
    ∙ next_is_free c.args.plan.now c.args.history.now

pub returns-in-Some-clause-flight : goal.returns-in-Some-clause-flight
returns-in-Some-clause-flight c =
    let plan = c.args.plan.now in
    let h = c.args.history.now in
    let io = c.in-Some.io in
    on_ok_weaker c.begin.result
    (λ now.
    now
    ∙ ap (λ (ios : List Started). begun (io_of plan (length ios) io) c.args.flight.now) c.started.ensures
    ∙ ap (begun (io_of plan (length (started h)) io)) c.requires.flight
    ∙ sym (next_flies plan h c.args.event.now io c.requires.next.legal (sym c.started_by.ensures ∙ c.in-Some.is)))
    c.begin.ensures

pub returns-in-Some-clause-raced : goal.returns-in-Some-clause-raced
returns-in-Some-clause-raced c =
    on_ok_weaker c.begin.result
    (λ now.
    raced_start c.args.plan.now c.args.history.now c.args.event.now c.in-Some.io c.args.raced.now c.requires.next
    (sym c.started_by.ensures ∙ c.in-Some.is) c.requires.raced)
    c.begin.ensures

-- ---- an end
pub returns-in-End-clause-flight : goal.returns-in-End-clause-flight
returns-in-End-clause-flight c =
    let plan = c.args.plan.now in
    let h = c.args.history.now in
    let i = c.in-End in
    on_ok_weaker c.end.result
    (λ kept.
    subst (λ (e : Event). c.end.new.flight ≡ flight_of plan (grown h e)) (sym i.is)
    (c.end.ensures.flight
    ∙ ap (remove_entry (is_at (nat_cmp i.io))) c.requires.flight
    ∙ sym (ended_flies_no_more plan h i.worker i.io i.outcome)))
    c.end.ensures.raced

pub returns-in-End-clause-raced : goal.returns-in-End-clause-raced
returns-in-End-clause-raced c =
    let plan = c.args.plan.now in
    let h = c.args.history.now in
    let i = c.in-End in
    let old = c.args.raced.now in
    on_ok_weaker c.end.result
    (λ kept.
    subst (λ (e : Event). AreRacedEnds (grown h e) c.end.new.raced) (sym i.is)
    (raced_end plan h i.worker i.io i.outcome old c.end.new.raced (subst (IsNext plan h) i.is c.requires.next)
    (λ io.
    kept io
    ∙ ap (λ (flying : List (ℕ × Ended)). contains nat_eq old io || (nat_eq i.io io && raced_so_far (flying_io i.io flying))) c.requires.flight)
    c.requires.raced))
    c.end.ensures.raced

-- ---- another event
pub returns-in_default-event : goal.returns-in_default-event
returns-in_default-event c =
    let plan = c.args.plan.now in
    let h = c.args.history.now in
    let e = c.args.event.now in
    record {
      flight = c.requires.flight ∙ flies_on plan h e (sym c.started_by.ensures ∙ c.in_default.is) c.in_default-event.not-End;
      raced = raced_other_event plan h e c.args.raced.now c.requires.next c.in_default-event.not-End c.requires.raced;
    }
