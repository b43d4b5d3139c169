-- What is left of a clone that isn't there.
use Rattle.std.proofs.Common.{◌≡◌, ℕ, List, [], Bool, true, false, None, refl, ap}
use Rattle.std.specs.Prelude.{if◌then◌else◌}
use Rattle.jr_model.specs.declared.events.Event.{Event}
use Rattle.jr_model.specs.Plan.{Plan, clone_of}
use Rattle.jr_rounds_rest.specs.declared.tasks.Task.{Task}
use Rattle.jr_rounds_rest.specs.Left.{goes_on_at, left_at, left_of}

by_test : (b : Bool) (tasks : List Task) → tasks ≡ [] → (if b then tasks else []) ≡ []
by_test true tasks none = none
by_test false tasks none = refl

pub none_left : (plan round : Plan) (history : List Event) (i : ℕ) (task : Task) → clone_of round i ≡ None → left_at plan round history i task ≡ []
none_left plan round history i task none =
    by_test (goes_on_at plan (clone_of plan task.original)) (left_of history task (clone_of round i)) (ap (left_of history task) none)
