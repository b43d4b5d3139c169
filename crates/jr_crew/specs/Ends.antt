-- Believed: how many I/Os and checks of a history ended, and how many of them failed (of this project).
use Rattle.std.specs.Prelude.{ℕ, Bool, true, false, List, count_by}
use Rattle.jr_model.specs.declared.events.Event.{Event}
use Rattle.jr_model.specs.declared.events.Event.TheVariants.{Issue, Probe, Skip, End, Verdict}
use Rattle.jr_engines.specs.Answers.{is_failed}

abbrev pub is_end : Event → Bool
is_end (End worker io outcome) = true
is_end (Issue worker dir write piece) = false
is_end (Probe worker write piece) = false
is_end (Skip worker write) = false
is_end (Verdict worker io verdict) = false

abbrev pub is_failed_end : Event → Bool
is_failed_end (End worker io outcome) = is_failed outcome
is_failed_end (Issue worker dir write piece) = false
is_failed_end (Probe worker write piece) = false
is_failed_end (Skip worker write) = false
is_failed_end (Verdict worker io verdict) = false

-- how many ended
abbrev pub ends_of : List Event → ℕ
ends_of history = count_by is_end history

-- how many of them failed
abbrev pub failed_ends_of : List Event → ℕ
failed_ends_of history = count_by is_failed_end history
