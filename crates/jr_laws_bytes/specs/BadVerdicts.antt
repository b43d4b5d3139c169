-- Believed: whether a verdict of a history is Bad.
use Rattle.std.specs.Prelude.{Bool, false, List}
use Rattle.std.specs.List.{list_any}
use Rattle.jr_model.specs.declared.events.Event.{Event}
use Rattle.jr_model.specs.declared.events.Event.TheVariants.{Issue, Probe, Skip, End, Verdict}
use Rattle.jr_model.specs.Legal.{is_bad}

-- the event is a Bad verdict, on the check of a write or on a checked read
abbrev pub is_bad_verdict : Event → Bool
is_bad_verdict (Verdict worker io verdict) = is_bad verdict
is_bad_verdict (Issue worker kind write piece) = false
is_bad_verdict (Probe worker write piece) = false
is_bad_verdict (Skip worker write) = false
is_bad_verdict (End worker io outcome) = false

-- some verdict of the history is Bad
abbrev pub has_bad : List Event → Bool
has_bad history = list_any is_bad_verdict history
