-- Believed: a clone's running counts and totals, and what one event more makes of them (the counts are of this project).
use Rattle.std.specs.Prelude.{ℕ, ◌+◌, ◌-◌, ◌==◌, Bool, false, not, ◌&&◌, List, Option, Some, None, slice_get, count_by, if◌then◌else◌}
use Rattle.jr_model.specs.declared.events.Event.{Event}
use Rattle.jr_model.specs.declared.events.Event.TheVariants.{Issue, Probe, Skip, End, Verdict}
use Rattle.jr_model.specs.declared.events.Outcome.{Outcome}
use Rattle.jr_model.specs.declared.events.Outcome.TheVariants.{Whole, Failed, Short}
use Rattle.jr_model.specs.declared.events.Started.{Started}
use Rattle.jr_model.specs.declared.events.Verdict.{Verdict as GivenVerdict}
use Rattle.jr_model.specs.declared.events.Verdict.TheVariants.{Good, Bad, Void}
use Rattle.jr_model.specs.declared.tickets.TicketKind.{TicketKind}
use Rattle.jr_model.specs.declared.tickets.TicketKind.TheVariants as ticket
use Rattle.jr_model.specs.declared.totals.Totals.{Totals}
use Rattle.jr_model.specs.History.{in_flight_of, awaiting, is_of_clone, is_probe}
use Rattle.jr_model.specs.Legal.{is_io_of, is_fault, is_bad}
use Rattle.jr_model.specs.Plan.{SubJob}
use Rattle.jr_model.specs.Report.{Miscompare, miscompare_on}

-- the reads and writes of clone c in flight
abbrev pub flying_issues : List Event → ℕ → ℕ
flying_issues history c = count_by (λ (io : Started). not (is_probe io.kind)) (in_flight_of history c)

-- its checks in flight
abbrev pub flying_checks : List Event → ℕ → ℕ
flying_checks history c = count_by (λ (io : Started). is_probe io.kind) (in_flight_of history c)

-- its verdicts to come
abbrev pub awaited : List Event → ℕ → ℕ
awaited history c = count_by (is_of_clone c) (awaiting history)

-- the three
pub record Tally : Type 0 where
  pub issues : ℕ
  pub checks : ℕ
  pub verdicts : ℕ

abbrev pub tally_of : List Event → ℕ → Tally
tally_of history c = record {
  issues = flying_issues history c;
  checks = flying_checks history c;
  verdicts = awaited history c;
}

-- the I/O or check that the event ends or judges, of those that were started
abbrev pub named_in : List Started → Event → Option Started
named_in ios (End worker io outcome) = slice_get ios io
named_in ios (Verdict worker io verdict) = slice_get ios io
named_in ios (Issue worker dir write piece) = None
named_in ios (Probe worker write piece) = None
named_in ios (Skip worker write) = None

-- the event, which names this I/O, is about clone c
abbrev pub concerns : ℕ → Option Started → Event → Bool
concerns c io (Issue worker dir write piece) = write.clone == c
concerns c io (Probe worker write piece) = write.clone == c
concerns c io (Skip worker write) = write.clone == c
concerns c io (End worker id outcome) = is_io_of c io
concerns c io (Verdict worker id verdict) = is_io_of c io

-- the counts of a clone after one event more, from those before and the I/O that the event names

-- an I/O of the clone ended
abbrev pub tally_ended : TicketKind → Outcome → Tally → Tally
tally_ended ticket.Read outcome t = record t { issues = t.issues - 1 }
tally_ended ticket.Write outcome t = record t { issues = t.issues - 1 }
tally_ended ticket.Probe Whole t = record t { checks = t.checks - 1; verdicts = t.verdicts + 1 }
tally_ended ticket.Probe Failed t = record t { checks = t.checks - 1 }
tally_ended ticket.Probe (Short n) t = record t { checks = t.checks - 1 }
tally_ended ticket.ReadCheck Whole t = record t { issues = t.issues - 1; verdicts = t.verdicts + 1 }
tally_ended ticket.ReadCheck Failed t = record t { issues = t.issues - 1 }
tally_ended ticket.ReadCheck (Short n) t = record t { issues = t.issues - 1 }

-- its I/O, if it is the clone's, ended
abbrev pub tally_after_end : ℕ → Option Started → Outcome → Tally → Tally
tally_after_end c None outcome t = t
tally_after_end c (Some io) outcome t = if is_of_clone c io then tally_ended io.kind outcome t else t

abbrev pub tally_after : ℕ → Option Started → Event → Tally → Tally
tally_after c io (Issue worker dir write piece) t = if write.clone == c then record t { issues = t.issues + 1 } else t
tally_after c io (Probe worker write piece) t = if write.clone == c then record t { checks = t.checks + 1 } else t
tally_after c io (Skip worker write) t = t
tally_after c io (End worker id outcome) t = tally_after_end c io outcome t
tally_after c io (Verdict worker id verdict) t = if is_io_of c io then record t { verdicts = t.verdicts - 1 } else t

-- the totals of a clone after one event more

-- so many bytes were read, or written
abbrev pub totals_moved : TicketKind → ℕ → Totals → Totals
totals_moved ticket.Read len t = record t { reads = t.reads + 1; rbytes = t.rbytes + len }
totals_moved ticket.Write len t = record t { writes = t.writes + 1; wbytes = t.wbytes + len }
totals_moved ticket.ReadCheck len t = record t { reads = t.reads + 1; rbytes = t.rbytes + len }
totals_moved ticket.Probe len t = t

abbrev pub totals_ended : TicketKind → ℕ → Outcome → Totals → Totals
totals_ended kind len Whole t = totals_moved kind len t
totals_ended kind len Failed t = record t { faults = t.faults + 1 }
totals_ended kind len (Short n) t = record t { faults = t.faults + 1 }

abbrev pub totals_judged : GivenVerdict → Totals → Totals
totals_judged Good t = record t { checks = t.checks + 1; good = t.good + 1 }
totals_judged (Bad what) t = record t { checks = t.checks + 1; bad = t.bad + 1 }
totals_judged Void t = record t { void = t.void + 1 }

abbrev pub totals_after_end : ℕ → Option Started → Outcome → Totals → Totals
totals_after_end c None outcome t = t
totals_after_end c (Some io) outcome t = if is_of_clone c io then totals_ended io.kind io.piece.len outcome t else t

abbrev pub totals_after : ℕ → Option Started → Event → Totals → Totals
totals_after c io (Issue worker dir write piece) t = t
totals_after c io (Probe worker write piece) t = t
totals_after c io (Skip worker write) t = if write.clone == c then record t { skipped = t.skipped + 1 } else t
totals_after c io (End worker id outcome) t = totals_after_end c io outcome t
totals_after c io (Verdict worker id verdict) t = if is_io_of c io then totals_judged verdict t else t

-- the event, which names this I/O, halts the clone
abbrev pub halted_by : SubJob → Option Started → Event → Bool
halted_by job io (End worker id outcome) = is_io_of job.clone io && is_fault outcome
halted_by job io (Verdict worker id verdict) = is_io_of job.clone io && job.is_fatal && is_bad verdict
halted_by job io (Issue worker dir write piece) = false
halted_by job io (Probe worker write piece) = false
halted_by job io (Skip worker write) = false

-- the bad verdict that the event is, if it is one
abbrev pub miscompare_in : Option Started → Event → Option Miscompare
miscompare_in io (Verdict worker id verdict) = miscompare_on io verdict
miscompare_in io (Issue worker dir write piece) = None
miscompare_in io (Probe worker write piece) = None
miscompare_in io (Skip worker write) = None
miscompare_in io (End worker id outcome) = None
