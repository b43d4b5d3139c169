use Rattle.std.proofs.Common.{ℕ, ◌&&◌, not, ap, refl, subst, ◌∙◌}
use Rattle.jr_model.specs.Rounds.{writes_of, has_rounds, is_full, is_closed}
use Rattle.jr_replay_passes.specs.Passes.{IsLastBelow, NoneBelow}
use Rattle.jr_replay.proofs.PhaseLaws.{waits_after, waits_never}
use Rattle.jr_replay.proofs.phases.waits_for_round.Goals as goal

pub returns-in-None : goal.returns-in-None
returns-in-None c =
    let pass = c.args.pass.now in
    waits_never c.args.plan.now c.facts.ensures c.args.pass.now.job c.requires.there c.args.ledger.now c.requires.legal pass c.facts-2.ensures refl
    (subst (λ (n : ℕ). NoneBelow (writes_of pass) n) c.issued_count-issued.ensures c.in-None.ensures)

pub returns-in-Some : goal.returns-in-Some
returns-in-Some c =
    let pass = c.args.pass.now in
    let h = c.args.ledger.now in
    c.is_waiting.ensures
    ∙ ap (λ (g : ℕ). has_rounds pass.job && (is_full h pass g && not (is_closed h pass g))) c.group_index.ensures
    ∙ waits_after c.args.plan.now c.facts.ensures c.args.pass.now.job c.requires.there h c.requires.legal pass c.in-Some.last c.facts-2.ensures refl
    (subst (λ (n : ℕ). IsLastBelow (writes_of pass) n c.in-Some.last) c.issued_count-issued.ensures c.in-Some.ensures)
