use Rattle.std.proofs.Common.{ℕ, ◌≡◌, ◌+◌, ◌<◌, List, [], ◌∷◌, ◌++◌, length, get_or, take, sym, ◌∙◌, ap, arith}
use Rattle.std.proofs.lemmas.List.{take_all, take_more}
use Rattle.jr_replay_history.proofs.histories.Past.new.Goals as goal

-- a list that had the first i elements and got the next one has one more of them
one_more : {X : Type 0} (xs : List X) (i : ℕ) (d : X) (before after : List X) → i < length xs
    → before ≡ take i xs
    → after ≡ before ++ get_or xs i d ∷ []
    → after ≡ take (i + 1) xs
one_more {X} xs i d before after below first more =
    more ∙ ap (λ (ys : List X). ys ++ get_or xs i d ∷ []) first ∙ sym (take_more xs i d below)

pub loop-event-preserved : goal.loop-event-preserved
loop-event-preserved c =
    one_more c.args.events.now c.loop-event.event-index _ c.loop-event.past c.in_ok-past-2.past c.loop-event-test.true
    c.loop-event.invariant c.in_ok-past-2.ensures

pub returns : goal.returns
returns c = c.loop-event.invariant ∙ take_all c.loop-event.event-index c.args.events.now (omega arith)
