use Rattle.std.proofs.Common.{◌≡◌, ℕ, zero, suc, ◌+◌, ◌-◌, ◌<◌, List, [], ◌∷◌, ◌++◌, ap, sym, ◌∙◌, arith, append_assoc, append-nil}
use Rattle.jr_draw.specs.Drawing.{draws_left}
use Rattle.jr_draw.proofs.WordLaws.{none_of_no_words}
use Rattle.jr_model.specs.declared.workloads.Draw.{Draw}
use Rattle.jr_model.specs.Words.{words_from}
use Rattle.jr_replay_passes.proofs.draws.draws_left.Goals as goal

-- where nothing is left, what was given is all
given_all : (given left all : List Draw) → given ++ left ≡ all → left ≡ [] → given ≡ all
given_all given left all so_far none = sym (append-nil given) ∙ ap (λ (ds : List Draw). given ++ ds) (sym none) ∙ so_far

-- nothing is left of one draw or more, so nothing is left
none_left : (left : ℕ → List Draw) (k : ℕ) → 0 < k → ((n : ℕ) → left (suc n) ≡ []) → left k ≡ []
none_left left zero h none = absurd (omega arith)
none_left left (suc n) h none = none n

-- one more is given
given_more : (left after : ℕ → List Draw) (most i : ℕ) (draw : Draw) (given more all : List Draw) → i < most → ((n : ℕ) → left (suc n) ≡ draw ∷ after n) → more ≡ given ++ draw ∷ [] → given ++ left (most - i) ≡ all → more ++ after (most - (i + 1)) ≡ all
given_more left after most i draw given more all within next pushed so_far =
    let n : ℕ = most - (i + 1) in
    let one : suc n ≡ most - i = omega arith in
    ap (λ (ds : List Draw). ds ++ after n) pushed
    ∙ append_assoc given (draw ∷ []) (after n)
    ∙ ap (λ (ds : List Draw). given ++ ds) (sym (next n) ∙ ap left one)
    ∙ so_far

pub returns-in-None : goal.returns-in-None
returns-in-None c =
    let left : ℕ → List Draw = draws_left words_from c.loop.drawer in
    let some : 0 < c.args.most - c.loop.counter = omega arith in
    given_all c.loop.draws.items (left (c.args.most - c.loop.counter)) (draws_left words_from c.args.drawer c.args.most) c.loop.invariant
    (none_left left (c.args.most - c.loop.counter) some c.in-None.ensures.draws)

pub loop-preserved : goal.loop-preserved
loop-preserved c =
    given_more (draws_left words_from c.loop.drawer) (draws_left words_from c.next.new.self) c.args.most c.loop.counter c.in-Some.draw c.loop.draws.items c.push.new.self.items (draws_left words_from c.args.drawer c.args.most) c.loop-test.true c.in-Some.ensures.draws c.in_ok-push-in-Some.ensures.items c.loop.invariant

pub returns : goal.returns
returns c =
    let left : ℕ → List Draw = draws_left words_from c.loop.drawer in
    let none : c.args.most - c.loop.counter ≡ 0 = omega arith in
    given_all c.loop.draws.items (left (c.args.most - c.loop.counter)) (draws_left words_from c.args.drawer c.args.most) c.loop.invariant
    (ap left none ∙ none_of_no_words c.loop.drawer)
