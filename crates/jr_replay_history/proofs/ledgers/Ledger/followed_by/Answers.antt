use Rattle.std.proofs.Common.{◌≡◌, List, length, false, sym, ap, subst, ◌∙◌, arith}
use Rattle.jr_model.specs.declared.events.Started.{Started}
use Rattle.jr_model.specs.History.{started}
use Rattle.jr_replay_history.specs.Ledgers.{IsLedger}
use Rattle.jr_replay_history.specs.Marks.{IsMarkedBy, is_named}
use Rattle.jr_replay_history.proofs.MarkLemmas.{few_issued, ledger_more, ready_same, ready_more}
use Rattle.jr_replay_history.proofs.ledgers.Ledger.followed_by.Goals as goal
use Rattle.jr_replay_history.proofs.ledgers.Ledger.followed_by.Goals.{in-Some+else-is_named+in_ok-push-in-Some, in-None}

pub mark-requires : goal.mark-requires
mark-requires c = λ key.
    let history = c.self.inside.events.items in
    let few = few_issued (started history) history c.self.inside.marks key c.self.invariant.all_marked in
    omega (arith, few, c.self.inside.events.ok.0, c.self.inside.events.ok.1, c.self.inside.events.small)

pub invariant_of-result : goal.invariant_of-result
invariant_of-result c =
    let history = c.self.inside.events.items in
    let marks = c.self.inside.marks in
    let ios = c.match-started_by.ios.items in
    let by : IsMarkedBy ios c.args.event marks c.mark.new.marks =
    subst (λ (xs : List Started). IsMarkedBy xs c.args.event marks c.mark.new.marks) c.as_slice.ensures.value c.in_ok-mark.ensures in
    elim c.match-started_by.branch [
      | in-Some+else-is_named+in_ok-push-in-Some w ↦
          let old = c.self.inside.ios.items in
          let place : w.len.result ≡ length old = w.len.ensures ∙ c.self.inside.ios.ok.0 in
          let unnamed : is_named marks (length old) ≡ false = ap (is_named marks) (sym place) ∙ sym w.is_named.ensures ∙ w.if-is_named.false in
          let more = ap (λ (v : _). v.items) w.ios-is ∙ w.in_ok-push-in-Some.ensures.items in
          ledger_more history c.push.new.self.items c.args.event ios marks c.mark.new.marks c.in_ok-push.ensures.items
          (ready_more history c.args.event w.in-Some.io old ios marks c.self.invariant (sym w.in-Some.ensures) unnamed more)
          by
      | in-None w ↦
          let same = ap (λ (v : _). v.items) (sym w.ios-is) in
          let ledger : IsLedger history ios marks = subst (λ (xs : List Started). IsLedger history xs marks) same c.self.invariant in
          ledger_more history c.push.new.self.items c.args.event ios marks c.mark.new.marks c.in_ok-push.ensures.items
          (ready_same history c.args.event ios marks ledger (sym w.in-None.ensures))
          by
    ]
