use Rattle.std.proofs.Common.{◌≡◌, false, refl, sym, ◌∙◌, ap, subst}
use Rattle.std.specs.Prelude.{Some}
use Rattle.jr_model.specs.Plan.{Plan}
use Rattle.jr_model.specs.Legal.{is_complete}
use Rattle.jr_desk.specs.DeskState.{DeskState}
use Rattle.jr_crew_threads.proofs.Asking.{complete_unasked}
use Rattle.jr_crew.proofs.Running.{first_sofar, between, few_calls, goes_on, leaves_less, comes_to_end, ended_run, whole_run, left_incomplete}
use Rattle.jr_crew.proofs.Serially.{serial_first, serial_turn, serial_last}
use Rattle.jr_crew.proofs.Serials.{first_called, goes_called, ends_called}
use Rattle.jr_crew.proofs.serial.run_serial_asked.Goals as goal

pub turns-init : goal.turns-init
turns-init g c =
    let is = c.in_ok-desk.ensures.ok in record {
      planned = c.facts.ensures;
      plan = ap (λ (d : DeskState). d.plan) is;
      going = ap (λ (d : DeskState). d.is_stopped) is;
      sofar = first_sofar c.args.plan c.in_ok-desk.desk.history _ (ap (λ (d : DeskState). d.history) is);
      called = first_called c.args.plan c.in_ok-desk.desk.history _ (ap (λ (d : DeskState). d.history) is);
      serial = λ fresh. serial_first c.args.plan c.in_ok-desk.desk.history _ c.facts.ensures (ap (λ (d : DeskState). d.history) is) fresh;
    }

pub turn-requires-clause-between : goal.turn-requires-clause-between
turn-requires-clause-between g c =
    let kept = c.turns.invariant in
    between c.turns.desk c.args.plan _ _ kept.planned kept.plan kept.going kept.sofar

pub turn-requires-clause-calls : goal.turn-requires-clause-calls
turn-requires-clause-calls g c =
    let kept = c.turns.invariant in
    few_calls c.args.plan c.turns.desk.history _ _ kept.planned c.requires kept.sofar

pub turns-smaller : goal.turns-smaller
turns-smaller g c =
    let kept = c.turns.invariant in
    let turn = rw c.if-not-branch.false at c.in_ok-turn.ensures.turn in
    leaves_less c.args.plan c.turns.desk.plan c.turns.desk.history c.turn.new.desk.history _ _ _ kept.planned kept.plan kept.sofar turn

pub turns-preserved : goal.turns-preserved
turns-preserved g c =
    let kept = c.turns.invariant in
    let turn = rw c.if-not-branch.false at c.in_ok-turn.ensures.turn in record {
      planned = kept.planned;
      plan = c.in_ok-turn.ensures.plan ∙ kept.plan;
      going = c.in_ok-turn.ensures.stop ∙ kept.going;
      sofar = goes_on c.args.plan c.turns.desk.plan c.turns.desk.history c.turn.new.desk.history _ _ _ kept.planned kept.plan kept.sofar turn;
      called = goes_called c.args.plan c.turns.desk.plan c.turns.desk.history c.turn.new.desk.history _ _ _ kept.planned kept.plan kept.sofar.legal turn kept.called;
      serial = λ fresh. serial_turn c.args.plan c.turns.desk.plan c.turns.desk.history c.turn.new.desk.history _ _ kept.planned kept.plan kept.sofar.legal turn (kept.serial fresh) kept.sofar.settled;
    }

pub returns-then-not-branch-clause-plan : goal.returns-then-not-branch-clause-plan
returns-then-not-branch-clause-plan g c = c.in_ok-turn.ensures.plan ∙ c.turns.invariant.plan

pub returns-then-not-branch-clause-going : goal.returns-then-not-branch-clause-going
returns-then-not-branch-clause-going g c = c.in_ok-turn.ensures.stop ∙ c.turns.invariant.going

pub returns-then-not-branch-clause-ended : goal.returns-then-not-branch-clause-ended
returns-then-not-branch-clause-ended g c =
    let kept = c.turns.invariant in
    let last = rw c.if-not-branch.true at c.in_ok-turn.ensures.turn in
    ended_run c.args.plan c.turn.new.desk.history _ _
    (comes_to_end c.args.plan c.turns.desk.plan c.turns.desk.history c.turn.new.desk.history _ _ _ kept.planned kept.plan kept.sofar last)
    (ends_called c.args.plan c.turns.desk.plan c.turns.desk.history c.turn.new.desk.history _ _ _ kept.planned kept.plan kept.sofar.legal last kept.called)

pub returns-then-not-branch-clause-run : goal.returns-then-not-branch-clause-run
returns-then-not-branch-clause-run g c complete =
    whole_run c.args.plan c.turn.new.desk.history _ _ (returns-then-not-branch-clause-ended g c) complete

pub returns-then-not-branch-clause-asked : goal.returns-then-not-branch-clause-asked
returns-then-not-branch-clause-asked g c =
    let last = rw c.if-not-branch.true at c.in_ok-turn.ensures.turn in
    ap (λ (p : Plan). is_complete p c.turn.new.desk.history) (sym c.turns.invariant.plan) ∙ last.complete

pub returns-then-not-branch-clause-unasked : goal.returns-then-not-branch-clause-unasked
returns-then-not-branch-clause-unasked g c unasked = returns-then-not-branch-clause-asked g c

pub returns-then-not-branch-clause-serial : goal.returns-then-not-branch-clause-serial
returns-then-not-branch-clause-serial g c fresh complete =
    let kept = c.turns.invariant in
    let last = rw c.if-not-branch.true at c.in_ok-turn.ensures.turn in
    serial_last c.args.plan c.turns.desk.plan c.turns.desk.history c.turn.new.desk.history _ _ kept.planned kept.plan last (kept.serial fresh)

-- asked to stop before it is complete

pub returns-in-Some-clause-plan : goal.returns-in-Some-clause-plan
returns-in-Some-clause-plan g c = c.turns.invariant.plan

pub returns-in-Some-clause-going : goal.returns-in-Some-clause-going
returns-in-Some-clause-going g c = c.turns.invariant.going

pub returns-in-Some-clause-ended : goal.returns-in-Some-clause-ended
returns-in-Some-clause-ended g c = ended_run c.args.plan c.turns.desk.history _ _ c.turns.invariant.sofar c.turns.invariant.called

pub returns-in-Some-clause-run : goal.returns-in-Some-clause-run
returns-in-Some-clause-run g c complete =
    left_incomplete c.args.plan c.turns.desk.plan c.turns.desk.history c.turns.invariant.plan (c.in-Some.ensures.left refl) complete

pub returns-in-Some-clause-serial : goal.returns-in-Some-clause-serial
returns-in-Some-clause-serial g c fresh complete =
    left_incomplete c.args.plan c.turns.desk.plan c.turns.desk.history c.turns.invariant.plan (c.in-Some.ensures.left refl) complete

pub returns-in-Some-clause-asked : goal.returns-in-Some-clause-asked
returns-in-Some-clause-asked g c =
    (subst (λ (p : Plan). is_complete p c.turns.desk.history ≡ false) c.turns.invariant.plan (c.in-Some.ensures.left refl), c.in-Some.ensures.asked)

pub returns-in-Some-clause-unasked : goal.returns-in-Some-clause-unasked
returns-in-Some-clause-unasked g c unasked =
    complete_unasked c.args.watch.stop (is_complete c.args.plan c.turns.desk.history) (Some c.in-Some.request) (returns-in-Some-clause-asked g c) unasked
