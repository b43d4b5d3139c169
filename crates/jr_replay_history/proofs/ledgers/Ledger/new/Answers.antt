use Rattle.std.proofs.Common.{◌≡◌, List, ◌∙◌, ap, subst}
use Rattle.jr_model.specs.declared.events.Event.{Event}
use Rattle.jr_model.specs.declared.events.Started.{Started}
use Rattle.jr_model.specs.History.{started}
use Rattle.jr_replay_history.specs.Marks.{IsMarked}
use Rattle.jr_replay_history.proofs.ledgers.Ledger.new.Goals as goal

pub invariant_of-result : goal.invariant_of-result
invariant_of-result c =
    let events : List Event = c.args.events.items in
    let marks = c.in_ok-marks.marks in
    let all : c.in_ok-ios.ios.items ≡ started events = c.in_ok-ios.ensures ∙ ap started c.as_slice.ensures.value in
    let of_all : IsMarked c.in_ok-ios.ios.items c.as_slice-3.result.now marks =
    subst (λ (ios : List Started). IsMarked ios c.as_slice-3.result.now marks) c.as_slice-2.ensures.value c.in_ok-marks.ensures in
    record {
      all_started = all;
      all_marked =
          subst (λ (ios : List Started). IsMarked ios events marks) all
          (subst (λ (said : List Event). IsMarked c.in_ok-ios.ios.items said marks) c.as_slice-3.ensures.value of_all);
    }
