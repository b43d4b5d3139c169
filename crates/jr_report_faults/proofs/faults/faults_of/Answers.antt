use Rattle.std.proofs.Common.{List, map, refl, ap, subst, arith}
use Rattle.std.specs.Prelude.{filter_map}
use Rattle.std.proofs.lemmas.List.{take_all}
use Rattle.jr_model.specs.declared.events.Event.{Event}
use Rattle.jr_model.specs.History.{started}
use Rattle.jr_report_faults.specs.Faults.{AreFirst, fault_by, named}
use Rattle.jr_report_faults.proofs.FaultLemmas.{event_added, kept_more}
use Rattle.jr_report_faults.proofs.faults.faults_of.Goals as goal

pub loop-event-init : goal.loop-event-init
loop-event-init c = record {
  kept = record { first = ap (map named) c.new.ensures.items; more = refl };
  few = omega arith;
}

pub loop-event-preserved : goal.loop-event-preserved
loop-event-preserved c =
    let history = c.args.history.now in
    record {
      kept =
          kept_more c.args.plan.now (fault_by (started history)) history c.loop-event.event-index _ c.add_if.new.self c.loop-event-test.true
          (event_added c.args.plan.now _ c.fault_by.result _ c.add_if.new.self (c.fault_by.ensures history c.requires)
          (c.in_ok-add_if.ensures.added _ c.loop-event.invariant.kept));
      few = omega (arith, c.add_if.ensures.more, c.loop-event.invariant.few);
    }

pub returns : goal.returns
returns c =
    let history = c.args.history.now in
    subst (λ (events : List Event). AreFirst c.args.plan.now (filter_map (fault_by (started history)) events) c.loop-event.faults)
    (take_all c.loop-event.event-index history (omega arith))
    c.loop-event.invariant.kept
