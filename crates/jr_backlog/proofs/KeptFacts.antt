-- What one event more does to the round that is kept.
use Rattle.std.proofs.Common.{◌≡◌, List, [], ◌∷◌, ◌++◌, ap, sym, ◌∙◌, append_assoc, append-nil}
use Rattle.jr_model.specs.declared.events.Event.{Event}
use Rattle.jr_model.specs.Plan.{SubJob}
use Rattle.jr_backlog.specs.Rounds.{Round, new_round}
use Rattle.jr_backlog.specs.Kept.{round_after, rounds_from, rounds_of}

-- more events after others
pub rounds_from-append : (job : SubJob) (before : List Event) (round : Round) (first more : List Event) → rounds_from job before round (first ++ more) ≡ rounds_from job (before ++ first) (rounds_from job before round first) more
rounds_from-append job before round [] more = ap (λ (b : List Event). rounds_from job b round more) (sym (append-nil before))
rounds_from-append job before round (event ∷ first) more =
    rounds_from-append job (before ++ event ∷ []) (round_after job before event round) first more
    ∙ ap (λ (b : List Event). rounds_from job b (rounds_from job (before ++ event ∷ []) (round_after job before event round) first) more) (append_assoc before (event ∷ []) first)

-- one event more
pub rounds_of-more : (job : SubJob) (history : List Event) (event : Event) → rounds_of job (history ++ event ∷ []) ≡ round_after job history event (rounds_of job history)
rounds_of-more job history event = rounds_from-append job [] (new_round job.backlog) history (event ∷ [])
