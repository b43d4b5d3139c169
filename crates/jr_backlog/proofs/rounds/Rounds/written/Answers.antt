use Rattle.std.proofs.Common.{true, false, sym, ◌∙◌, arith}
use Rattle.jr_backlog.proofs.RoundFacts.{added, added_in_order, counted, counted_out}
use Rattle.jr_backlog.proofs.rounds.Rounds.written.Goals as goal
use Rattle.jr_backlog.proofs.rounds.Rounds.written.Goals.{then-begins, else-begins}

pub returns-then-self-clause-ok : goal.returns-then-self-clause-ok
returns-then-self-clause-ok c = elim c.if-begins.branch [
  | then-begins w ↦
      let more = rw w.self-inside-is at c.if-self.true in
      rw w.self-inside-is (added _ _ c.args.write true _ _ c.self.view_is (sym w.if-begins.true ∙ c.closed-begins.ensures) c.in_ok-push_back.ensures.items (counted c.self.inside.limit 0 more))
  | else-begins w ↦
      let more = rw w.self-inside-is at c.if-self.true in
      rw w.self-inside-is (added _ _ c.args.write false _ _ c.self.view_is (sym w.if-begins.false ∙ c.closed-begins.ensures) c.in_ok-push_back.ensures.items (counted c.self.inside.limit c.self.inside.count more))
]

pub returns-else-self-clause-ok : goal.returns-else-self-clause-ok
returns-else-self-clause-ok c = elim c.if-begins.branch [
  | then-begins w ↦
      let full = rw w.self-inside-is at c.if-self.false in
      rw w.self-inside-is (added _ _ c.args.write true _ _ c.self.view_is (sym w.if-begins.true ∙ c.closed-begins.ensures) c.in_ok-push_back.ensures.items (counted_out c.self.inside.limit 0 (omega arith) full))
  | else-begins w ↦
      let full = rw w.self-inside-is at c.if-self.false in
      rw w.self-inside-is (added _ _ c.args.write false _ _ c.self.view_is (sym w.if-begins.false ∙ c.closed-begins.ensures) c.in_ok-push_back.ensures.items (counted_out c.self.inside.limit c.self.inside.count c.self.invariant.0 full))
]

pub invariant_of-self-then-self : goal.invariant_of-self-then-self
invariant_of-self-then-self c =
    let in_order = added_in_order _ _ c.args.write _ c.self.view_is c.self.invariant.1 c.requires.last c.in_ok-push_back.ensures.items in
    elim c.if-begins.branch [
      | then-begins w ↦ let more = rw w.self-inside-is at c.if-self.true in rw w.self-inside-is (omega arith, in_order)
      | else-begins w ↦ let more = rw w.self-inside-is at c.if-self.true in rw w.self-inside-is (omega arith, in_order)
    ]

pub invariant_of-self-else-self : goal.invariant_of-self-else-self
invariant_of-self-else-self c =
    let in_order = added_in_order _ _ c.args.write _ c.self.view_is c.self.invariant.1 c.requires.last c.in_ok-push_back.ensures.items in
    elim c.if-begins.branch [
      | then-begins w ↦ rw w.self-inside-is (omega arith, in_order)
      | else-begins w ↦ rw w.self-inside-is (c.self.invariant.0, in_order)
    ]
