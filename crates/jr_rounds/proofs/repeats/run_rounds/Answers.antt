use Rattle.std.proofs.Common.{ℕ, ◌+◌, List, [], ◌∷◌, ◌++◌, arith, ap, subst, sym, ◌∙◌}
use Rattle.jr_model.specs.Plan.{Plan}
use Rattle.jr_rounds.specs.Repeats.{HasBroken}
use Rattle.jr_rounds.specs.Rounds.{Round, is_bad}
use Rattle.jr_rounds.specs.Turns.{BreaksWith, found_after}
use Rattle.jr_rounds.proofs.RoundLemmas.{IsSoFar, another, break_by, broken_after, none_so_far, one_more, the_end, turn_of}
use Rattle.jr_rounds.proofs.repeats.run_rounds.Goals as goal

pub loop-round-init : goal.loop-round-init
loop-round-init g c = record {
  within = omega arith;
  so_far = (
    [],
    none_so_far c.args.plan.now c.args.is_keeping_going c.in_ok-sums.sums
        (g.V.Write.contents c.args.out.now) c.in_ok-sums.ensures.none c.in_ok-sums.ensures.clones,
  );
}

pub returns-in-Err-clause-broken : goal.returns-in-Err-clause-broken
returns-in-Err-clause-broken g c =
    let plan = c.args.plan.now in
    let goes_on = c.args.is_keeping_going in
    let blank = g.V.Write.contents c.args.out.now in
    let between = g.V.Write.contents c.loop-round.out in
    let written = g.V.Write.contents c.tell_broken_off.new.out in
    let s = c.loop-round.invariant.so_far in
    break_by (BreaksWith plan c.loop-round.sums between written) (HasBroken plan goes_on blank written)
    (λ h. broken_after plan goes_on c.loop-round.round c.loop-round.sums c.loop-round.found blank between written s.0 s.1 h)
    c.tell_broken_off.result c.tell_broken_off.ensures

pub returns-then-turn-clause-ran : goal.returns-then-turn-clause-ran
returns-then-turn-clause-ran g c =
    let plan = c.args.plan.now in
    let limit = c.args.limit in
    let goes_on = c.args.is_keeping_going in
    let round = c.loop-round.round in
    let ended = c.in-Ok.ended in
    let turn = c.in_ok-turn.turn in
    let blank = g.V.Write.contents c.args.out.now in
    let between = g.V.Write.contents c.loop-round.out in
    let written = g.V.Write.contents c.end_round.new.out in
    let last = g.V.Write.contents c.tell_sums.new.out in
    let s = c.loop-round.invariant.so_far in
    let t = turn_of limit goes_on round plan c.in_ok-made.made ended turn.is_over turn.is_last c.loop-round.sums c.end_round.new.sums
    between written
    c.in_ok-made.ensures c.in-Ok.ensures c.in_ok-turn.ensures.last c.in_ok-turn.ensures.told c.in_ok-turn.ensures.sums
    c.in_ok-turn.ensures.clones c.in_ok-turn.ensures.legal in
    the_end plan limit goes_on round c.in_ok-made.made ended turn.is_over turn.is_last c.loop-round.sums c.end_round.new.sums
    c.loop-round.found c.found_with-found.result blank between written last s.0 s.1 c.in_ok-made.ensures c.in-Ok.ensures t
    c.if-turn.true c.found_with-found.ensures c.loop-round.invariant.within c.in_ok-tell_sums.ensures

pub loop-round-preserved : goal.loop-round-preserved
loop-round-preserved g c =
    let plan = c.args.plan.now in
    let limit = c.args.limit in
    let goes_on = c.args.is_keeping_going in
    let round = c.loop-round.round in
    let ended = c.in-Ok.ended in
    let turn = c.in_ok-turn.turn in
    let blank = g.V.Write.contents c.args.out.now in
    let between = g.V.Write.contents c.loop-round.out in
    let written = g.V.Write.contents c.end_round.new.out in
    let s = c.loop-round.invariant.so_far in
    let t = turn_of limit goes_on round plan c.in_ok-made.made ended turn.is_over turn.is_last c.loop-round.sums c.end_round.new.sums
    between written
    c.in_ok-made.ensures c.in-Ok.ensures c.in_ok-turn.ensures.last c.in_ok-turn.ensures.told c.in_ok-turn.ensures.sums
    c.in_ok-turn.ensures.clones c.in_ok-turn.ensures.legal in
    let next : Round = record { number = round; history = ended.desk.history } in
    let rounds : List Round = s.0 ++ next ∷ [] in
    let bad = c.found_with-found.ensures
    ∙ ap (λ (ran : Plan). found_after (is_bad ran ended.desk.history) c.loop-round.found)
    (c.in-Ok.ensures.planned ∙ c.in_ok-made.ensures) in
    record {
      within = another limit goes_on round _ ended.desk.history _ turn.is_over turn.is_last c.loop-round.sums c.end_round.new.sums
          between written t c.if-turn.false c.loop-round.invariant.within;
      so_far = (
        rounds,
        subst (λ (n : ℕ). IsSoFar plan goes_on (round + 1) c.end_round.new.sums n blank written rounds) (sym bad)
            (one_more plan limit goes_on round ended.desk.history _ turn.is_over turn.is_last c.loop-round.sums c.end_round.new.sums
            c.loop-round.found blank between written s.0 s.1 t c.if-turn.false),
      );
    }
