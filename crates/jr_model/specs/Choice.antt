-- Believed: what is started next (of this project): the least step that may happen, by clone, then pass, then number.
use Rattle.std.specs.Prelude.{ℕ, List, Option}
use Rattle.jr_model.specs.declared.events.Event.{Event}
pub use Rattle.jr_model.specs.History.{first_given}
use Rattle.jr_model.specs.Legal.{step_of}
use Rattle.jr_model.specs.Plan.{Plan, SubJob}
use Rattle.jr_model.specs.Rounds.{Pass, passes_of}

-- the least step of a pass, by number
abbrev pub choice_of_pass : Plan → List Event → ℕ → Pass → Option Event
choice_of_pass plan history worker pass = first_given (step_of plan history worker pass) pass.draws

-- the least step of a clone
abbrev pub choice_of_clone : Plan → List Event → ℕ → SubJob → Option Event
choice_of_clone plan history worker job = first_given (choice_of_pass plan history worker) (passes_of job)

-- the least step of all; none where none may happen
abbrev pub choice : Plan → List Event → ℕ → Option Event
choice plan history worker = first_given (choice_of_clone plan history worker) plan.clones
