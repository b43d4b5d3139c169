use Rattle.std.proofs.Common.{◌≡◌, List, [], ◌∷◌, ◌++◌, length, sym, ap, subst, ◌∙◌}
use Rattle.std.specs.Prelude.{Option, IfOk, nat_eq, ◌||◌}
use Rattle.std.specs.HashSet.{contains}
use Rattle.jr_model.specs.declared.events.Event.{Event}
use Rattle.jr_model.specs.declared.events.Started.{Started}
use Rattle.jr_model.specs.Races.{races_by}
use Rattle.jr_replay_history.proofs.RaceLemmas.{raced_more}
use Rattle.jr_replay_history.proofs.UnfinishedLemmas.{followed_same, followed_more}
use Rattle.jr_replay_history.proofs.histories.Past.followed_by.Goals as goal
use Rattle.jr_replay_history.proofs.histories.Past.followed_by.Goals.{in-Some+in_ok-push-in-Some, in-None}

pub over-requires-clause-unfinished : goal.over-requires-clause-unfinished
over-requires-clause-unfinished c =
    let history = c.self.inside.ledger in
    let pending = c.self.inside.pending.items in
    let now = c.as_slice-3.result.now in
    elim c.match-new.branch [
      | in-Some+in_ok-push-in-Some w ↦
          let more = c.as_slice-3.ensures.value ∙ ap (λ (v : _). v.items) w.pending-is ∙ w.in_ok-push-in-Some.ensures.items in
          let some = sym c.started_by-new.ensures ∙ w.in-Some.is in
          followed_more history c.in_ok-ledger.ledger c.args.event w.in-Some.io (length w.started.result.now) pending now c.self.invariant.all_pending more c.in_ok-ledger.ensures some (ap length w.started.ensures)
      | in-None w ↦
          let same = c.as_slice-3.ensures.value ∙ ap (λ (v : _). v.items) w.pending-is in
          let none = sym c.started_by-new.ensures ∙ w.in-None.is in
          followed_same history c.in_ok-ledger.ledger c.args.event pending now c.self.invariant.all_pending same c.in_ok-ledger.ensures none
    ]

pub over-requires-clause-raced : goal.over-requires-clause-raced
over-requires-clause-raced c =
    let history = c.self.inside.ledger in
    raced_more history c.in_ok-ledger.ledger c.args.event c.self.inside.raced c.mark_raced.new.raced c.self.invariant.all_raced c.in_ok-ledger.ensures
    (λ io. c.in_ok-mark_raced.ensures io
    ∙ ap (λ (o : Option Started). contains nat_eq c.self.inside.raced io || races_by history io o) c.started_by-new.ensures)

pub returns : goal.returns
returns c =
    let is : c.in_ok-ledger.ledger ≡ c.args.self ++ c.args.event ∷ [] =
    c.in_ok-ledger.ensures ∙ ap (λ (history : List Event). history ++ c.args.event ∷ []) c.self.view_is in
    subst (λ (history : List Event). IfOk c.over.result (λ past. past ≡ history)) is c.over.ensures
