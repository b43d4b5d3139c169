use Rattle.std.proofs.Common.{◌+◌, ◌≤◌, Bool, length, refl, sym, ap, subst, ◌∙◌, arith, inl, inr}
use Rattle.std.specs.Prelude.{Option}
use Rattle.std.proofs.lemmas.Bool.{false≢true}
use Rattle.jr_model.specs.declared.events.WriteId.{WriteId}
use Rattle.jr_model.specs.Machine.{seed_of_draw}
use Rattle.jr_backlog.specs.Deferred.{Deferred, round_now, with_draw}
use Rattle.jr_desk_state.specs.Standings.{added_by}
use Rattle.jr_desk_state.proofs.StartingStandings.{left_drawn}
use Rattle.jr_desk_state.proofs.IssueMoves.{IsReady, ready_rounds, at_draw, seed_at, stands_after, written, written_is}
use Rattle.jr_desk_state.proofs.standings.Standing.issue.Goals.{then-is_over, else-is_over}
use Rattle.jr_desk_state.proofs.standings.Standing.issue.Goals as goal

-- after the step into the next pass, if there was one
ready_then : (c : goal.After-issued) → IsReady c.args.self.now c.if-is_over.self
ready_then c =
    elim c.if-is_over.branch [
      | then-is_over w ↦
          subst (IsReady c.args.self.now) (sym w.self-is)
          (inr (record {
            over = sym c.is_over.ensures ∙ w.if-is_over.true;
            pass = w.begin_next_pass.ensures.pass;
            draws = w.begin_next_pass.ensures.draws;
            later = w.begin_next_pass.ensures.later;
            issued = w.begin_next_pass.ensures.issued;
            rounds = w.begin_next_pass.ensures.rounds;
          }))
      | else-is_over w ↦ inl (sym c.is_over.ensures ∙ w.if-is_over.false, w.self-is)
    ]

ready_else : (c : goal.Else-has_rounds) → IsReady c.args.self.now c.if-is_over.self
ready_else c =
    elim c.if-is_over.branch [
      | then-is_over w ↦
          subst (IsReady c.args.self.now) (sym w.self-is)
          (inr (record {
            over = sym c.is_over.ensures ∙ w.if-is_over.true;
            pass = w.begin_next_pass.ensures.pass;
            draws = w.begin_next_pass.ensures.draws;
            later = w.begin_next_pass.ensures.later;
            issued = w.begin_next_pass.ensures.issued;
            rounds = w.begin_next_pass.ensures.rounds;
          }))
      | else-is_over w ↦ inl (sym c.is_over.ensures ∙ w.if-is_over.false, w.self-is)
    ]

pub returns-then-has_rounds-clause-seed : goal.returns-then-has_rounds-clause-seed
returns-then-has_rounds-clause-seed c =
    λ plan history worker piece next there is.
    let here = at_draw plan history worker c.args.kind c.args.write piece c.args.job.now next there c.args.self.now is c.requires.prepared.later c.if-is_over.self (ready_then c) in
    c.next_seed-seed.ensures ∙ ap seed_of_draw (seed_at history c.args.job.now c.args.write c.if-is_over.self here)

pub returns-else-has_rounds-clause-seed : goal.returns-else-has_rounds-clause-seed
returns-else-has_rounds-clause-seed c =
    λ plan history worker piece next there is.
    let here = at_draw plan history worker c.args.kind c.args.write piece c.args.job.now next there c.args.self.now is c.requires.prepared.later c.if-is_over.self (ready_else c) in
    c.next_seed-seed.ensures ∙ ap seed_of_draw (seed_at history c.args.job.now c.args.write c.if-is_over.self here)

pub returns-then-has_rounds-clause-kept : goal.returns-then-has_rounds-clause-kept
returns-then-has_rounds-clause-kept c =
    λ plan history worker piece next there place is.
    let ready = ready_then c in
    let here = at_draw plan history worker c.args.kind c.args.write piece c.args.job.now next there c.args.self.now is c.requires.prepared.later c.if-is_over.self ready in
    stands_after plan history worker c.args.kind c.args.write piece c.args.job.now next there
    c.args.self.now c.if-is_over.self _ c.args.id is c.requires.prepared.settled here place
    refl c.skip_next.ensures refl c.push_reserved.ensures.items
    (λ has.
    c.issued.ensures
    ∙ ap (λ (d : Deferred). with_draw d c.written.result c.is_over-then-has_rounds.result) (ready_rounds c.args.self.now c.if-is_over.self ready)
    ∙ ap (λ (o : Option WriteId). with_draw c.args.self.now.rounds o c.is_over-then-has_rounds.result) (written_is c.args.kind c.args.write c.written.result c.written.ensures.write c.written.ensures.read c.written.ensures.checked)
    ∙ ap (λ (b : Bool). with_draw c.args.self.now.rounds (written c.args.kind c.args.write) b) c.is_over-then-has_rounds.ensures)

pub returns-else-has_rounds-clause-kept : goal.returns-else-has_rounds-clause-kept
returns-else-has_rounds-clause-kept c =
    λ plan history worker piece next there place is.
    let here = at_draw plan history worker c.args.kind c.args.write piece c.args.job.now next there c.args.self.now is c.requires.prepared.later c.if-is_over.self (ready_else c) in
    stands_after plan history worker c.args.kind c.args.write piece c.args.job.now next there
    c.args.self.now c.if-is_over.self _ c.args.id is c.requires.prepared.settled here place
    refl c.skip_next.ensures refl c.push_reserved.ensures.items
    (λ has. absurd (false≢true (sym c.if-has_rounds.false ∙ c.has_rounds.ensures ∙ has)))

pub returns-then-has_rounds-clause-left : goal.returns-then-has_rounds-clause-left
returns-then-has_rounds-clause-left c =
    let rounds = c.args.self.now.rounds in
    let drawn = c.issued.ensures
    ∙ ap (λ (d : Deferred). with_draw d c.written.result c.is_over-then-has_rounds.result)
    (ready_rounds c.args.self.now c.if-is_over.self (ready_then c)) in
    subst (λ (d : Deferred). length (round_now d).to_check ≤ length (round_now rounds).to_check + added_by c.args.job.now c.args.kind)
    (sym drawn)
    (left_drawn c.args.job.now c.args.kind c.args.write rounds c.written.result c.is_over-then-has_rounds.result
    (sym c.has_rounds.ensures ∙ c.if-has_rounds.true) c.requires.prepared.settled c.written.ensures.write c.written.ensures.read
    c.written.ensures.checked)

pub returns-else-has_rounds-clause-left : goal.returns-else-has_rounds-clause-left
returns-else-has_rounds-clause-left c =
    let same = ap (λ (d : Deferred). length (round_now d).to_check)
    (ready_rounds c.args.self.now c.if-is_over.self (ready_else c)) in
    omega (arith, same)
