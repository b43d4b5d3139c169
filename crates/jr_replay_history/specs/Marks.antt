-- Internal: what is kept of events beside themselves: what they say of I/Os, writes and clones, to be looked up.
use Rattle.std.specs.Prelude.{◌≡◌, ℕ, ◌+◌, nat_eq, Bool, false, ◌&&◌, ◌||◌, List, [], ◌++◌, Option, Some, None, is_some, filter, filter_map, count_by, unwrap_or, if◌then◌else◌}
use Rattle.std.specs.HashMap.{HashMap, get}
use Rattle.std.specs.HashSet.{contains}
use Rattle.std.specs.List.{list_any, cons_option}
use Rattle.std.specs.Option.{option_or}
use Rattle.jr_model.specs.declared.events.Event.{Event}
use Rattle.jr_model.specs.declared.events.Event.TheVariants.{Issue, Probe, Skip, End, Verdict}
use Rattle.jr_model.specs.declared.events.Started.{Started}
use Rattle.jr_model.specs.declared.events.WriteId.{WriteId}
use Rattle.jr_model.specs.History.{end_of, outcome_of, is_verdict_on, is_judged}
use Rattle.jr_model.specs.Legal.{is_bad, takes_up}
use Rattle.jr_model.specs.Rounds.{settles}
use Rattle.jr_model.specs.Totals.{is_fault_of, is_verdict_of}
use Rattle.jr_replay_history.specs.declared.marks.Marks.{Marks}
use Rattle.jr_replay_history.specs.Parts.{ends_at, is_over_part}
use Rattle.jr_replay_history.specs.WriteEnds.{write_end}

-- one pass of one clone
abbrev pub same_pass : ℕ × ℕ → ℕ × ℕ → Bool
same_pass a b = nat_eq a.0 b.0 && nat_eq a.1 b.1

-- one write, as the tables of writes compare it
abbrev pub same_name : WriteId → WriteId → Bool
same_name a b = nat_eq a.clone b.clone && (nat_eq a.pass b.pass && nat_eq a.number b.number)

-- it is this one
abbrev pub is_given : {K : Type 0} → (K → K → Bool) → Option K → K → Bool
is_given eq None q = false
is_given eq (Some k) q = eq k q

-- the event issues a draw of this clone's pass
abbrev pub is_issue_in : ℕ × ℕ → Event → Bool
is_issue_in key (Issue worker kind write piece) = same_pass (write.clone, write.pass) key
is_issue_in key (Probe worker write piece) = false
is_issue_in key (Skip worker write) = false
is_issue_in key (End worker io outcome) = false
is_issue_in key (Verdict worker io verdict) = false

-- how many draws of a clone's pass are counted
abbrev pub counted : {S : Type 0} → HashMap (ℕ × ℕ) ℕ S → ℕ × ℕ → ℕ
counted counts key = unwrap_or (get same_pass counts key) 0

-- an end or a verdict names the I/O
abbrev pub is_named : Marks → ℕ → Bool
is_named marks io = is_some (get nat_eq marks.outcomes io) || contains nat_eq marks.judged io

-- the marks say what the events do, where these I/Os are started
pub record IsMarked (ios : List Started) (events : List Event) (marks : Marks) : Type 0 where
  pub outcomes : (io : ℕ) → get nat_eq marks.outcomes io ≡ outcome_of events io
  pub judged : (io : ℕ) → contains nat_eq marks.judged io ≡ is_judged events io
  pub issued : (key : ℕ × ℕ) → counted marks.issued key ≡ count_by (is_issue_in key) events
  pub taken_up : (write : WriteId) → contains same_name marks.taken_up write ≡ list_any (takes_up write) events
  pub settled : (write : WriteId) → contains same_name marks.settled write ≡ list_any (settles ios write) events
  pub faulty : (clone : ℕ) → contains nat_eq marks.faulty clone ≡ list_any (is_fault_of ios clone) events
  pub condemned : (clone : ℕ) → contains nat_eq marks.condemned clone ≡ list_any (is_verdict_of ios is_bad clone) events
  pub written : marks.written.items ≡ filter_map (write_end ios) events
  pub parts : (file part : ℕ) → ends_at marks.parts (file, part) ≡ filter (is_over_part file part) (filter_map (write_end ios) events)

-- the new marks are the old ones and what one event says
pub record IsMarkedBy (ios : List Started) (event : Event) (old new : Marks) : Type 0 where
  pub outcomes : (io : ℕ) → get nat_eq new.outcomes io ≡ option_or (get nat_eq old.outcomes io) (end_of io event)
  pub judged : (io : ℕ) → contains nat_eq new.judged io ≡ (contains nat_eq old.judged io || is_verdict_on io event)
  pub issued : (key : ℕ × ℕ) → counted new.issued key ≡ counted old.issued key + (if is_issue_in key event then 1 else 0)
  pub taken_up : (write : WriteId) → contains same_name new.taken_up write ≡ (contains same_name old.taken_up write || takes_up write event)
  pub settled : (write : WriteId) → contains same_name new.settled write ≡ (contains same_name old.settled write || settles ios write event)
  pub faulty : (clone : ℕ) → contains nat_eq new.faulty clone ≡ (contains nat_eq old.faulty clone || is_fault_of ios clone event)
  pub condemned : (clone : ℕ) → contains nat_eq new.condemned clone ≡ (contains nat_eq old.condemned clone || is_verdict_of ios is_bad clone event)
  pub written : new.written.items ≡ old.written.items ++ cons_option (write_end ios event) []
  pub parts : (file part : ℕ) → ends_at new.parts (file, part) ≡ ends_at old.parts (file, part) ++ filter (is_over_part file part) (cons_option (write_end ios event) [])
