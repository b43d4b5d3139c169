-- Internal: the running counts and totals of the clones of a run, and its bad verdicts.
use Rattle.std.specs.Prelude.{◌≡◌, ◌<◌, ◌^◌, ◌+◌, ◌-◌, ℕ, Bool, List, length, map, slice_get, Some}
use Rattle.jr_model.specs.declared.events.Event.{Event}
use Rattle.jr_model.specs.declared.tickets.TicketKind.{TicketKind}
use Rattle.jr_model.specs.declared.tickets.TicketKind.TheVariants as ticket
use Rattle.jr_model.specs.declared.totals.Totals.{Totals}
use Rattle.jr_model.specs.Legal.{is_halted}
use Rattle.jr_model.specs.Plan.{Plan, SubJob}
use Rattle.jr_model.specs.Report.{miscompares, all_totals}
use Rattle.jr_desk_totals.specs.Bads.{miscompare_of}
use Rattle.jr_desk_totals.specs.Tallies.{Tally, flying_issues, flying_checks, awaited}
use Rattle.jr_desk_totals.specs.declared.tallies.Counts.{Counts}
use Rattle.jr_desk_totals.specs.declared.tallies.Tallies.{Tallies}

-- what a clone has in flight, its verdicts to come, and whether it is halted
abbrev pub counts_of : List Event → SubJob → Counts
counts_of history job = record {
  issues = flying_issues history job.clone;
  checks = flying_checks history job.clone;
  verdicts = awaited history job.clone;
  is_halted = is_halted history job;
}

-- the tally in the counts of a clone
abbrev pub tally_in : Counts → Tally
tally_in counts = record { issues = counts.issues; checks = counts.checks; verdicts = counts.verdicts }

-- the counts of a clone of this tally, halted or not
abbrev pub counts_with : Tally → Bool → Counts
counts_with tally is_halted = record {
  issues = tally.issues;
  checks = tally.checks;
  verdicts = tally.verdicts;
  is_halted = is_halted;
}

-- one verdict fewer is to come
abbrev pub tally_judged : Tally → Tally
tally_judged tally = record tally { verdicts = tally.verdicts - 1 }

-- those of this kind in flight: reads and writes, or checks
abbrev pub flying_in : TicketKind → Counts → ℕ
flying_in ticket.Read counts = counts.issues
flying_in ticket.Write counts = counts.issues
flying_in ticket.ReadCheck counts = counts.issues
flying_in ticket.Probe counts = counts.checks

-- these are the counts, the totals and the bad verdicts of the history
pub record IsTallied (plan : Plan) (history : List Event) (tallies : Tallies) : Type 0 where
  pub counts : tallies.counts.items ≡ map (counts_of history) plan.clones
  pub totals : tallies.totals.items ≡ all_totals plan history
  pub bads : map miscompare_of tallies.bads.items ≡ miscompares history

-- each count of a clone is far from its bound
pub record AreLow (counts : Counts) : Type 0 where
  pub issues : counts.issues + 1 < 2 ^ 32
  pub checks : counts.checks + 1 < 2 ^ 32
  pub verdicts : counts.verdicts + 1 < 2 ^ 32

-- so is each total; a block has fewer than 2^24 bytes
pub record AreSmall (totals : Totals) : Type 0 where
  pub reads : totals.reads + 1 < 2 ^ 64
  pub rbytes : totals.rbytes + 2 ^ 24 < 2 ^ 64
  pub writes : totals.writes + 1 < 2 ^ 64
  pub wbytes : totals.wbytes + 2 ^ 24 < 2 ^ 64
  pub checks : totals.checks + 1 < 2 ^ 64
  pub good : totals.good + 1 < 2 ^ 64
  pub bad : totals.bad + 1 < 2 ^ 64
  pub skipped : totals.skipped + 1 < 2 ^ 64
  pub void : totals.void + 1 < 2 ^ 64
  pub faults : totals.faults + 1 < 2 ^ 64

-- the clone is there, and what is kept of it can be counted on
pub record CanCount (tallies : Tallies) (clone : ℕ) : Type 0 where
  pub counts : clone < length tallies.counts.items
  pub totals : clone < length tallies.totals.items
  pub low : (counts : Counts) → slice_get tallies.counts.items clone ≡ Some counts → AreLow counts
  pub small : (totals : Totals) → slice_get tallies.totals.items clone ≡ Some totals → AreSmall totals
