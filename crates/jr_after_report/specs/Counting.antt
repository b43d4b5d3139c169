-- Believed: how many chunks of a file there are of each finding (of this project).
use Rattle.std.specs.Prelude.{ℕ, ◌+◌, Bool, true, false, ◌||◌, List, count_by}
use Rattle.jr_after.specs.declared.findings.Finding.{Finding}
use Rattle.jr_after.specs.declared.findings.Finding.TheVariants as finding
use Rattle.jr_after_report.specs.declared.counts.Counts.{Counts}
use Rattle.jr_after_report.specs.declared.lines.Judged.{Judged}

abbrev pub is_kept : Finding → Bool
is_kept finding.Kept = true
is_kept finding.Open = false
is_kept (finding.Lost kept found) = false
is_kept (finding.Torn kept) = false
is_kept (finding.Broken kept) = false

abbrev pub is_lost : Finding → Bool
is_lost (finding.Lost kept found) = true
is_lost finding.Open = false
is_lost finding.Kept = false
is_lost (finding.Torn kept) = false
is_lost (finding.Broken kept) = false

abbrev pub is_broken : Finding → Bool
is_broken (finding.Broken kept) = true
is_broken finding.Open = false
is_broken finding.Kept = false
is_broken (finding.Lost kept found) = false
is_broken (finding.Torn kept) = false

abbrev pub is_torn : Finding → Bool
is_torn (finding.Torn kept) = true
is_torn finding.Open = false
is_torn finding.Kept = false
is_torn (finding.Lost kept found) = false
is_torn (finding.Broken kept) = false

abbrev pub is_open : Finding → Bool
is_open finding.Open = true
is_open finding.Kept = false
is_open (finding.Lost kept found) = false
is_open (finding.Torn kept) = false
is_open (finding.Broken kept) = false

-- something is told of the chunk
abbrev pub is_told : Judged → Bool
is_told one = is_lost one.finding || is_broken one.finding || is_torn one.finding

-- how many of these chunks there are of each finding
abbrev pub counts_of : List Judged → Counts
counts_of found = record {
  kept = count_by (λ (one : Judged). is_kept one.finding) found;
  lost = count_by (λ (one : Judged). is_lost one.finding) found;
  broken = count_by (λ (one : Judged). is_broken one.finding) found;
  torn = count_by (λ (one : Judged). is_torn one.finding) found;
  unpromised = count_by (λ (one : Judged). is_open one.finding) found;
}

-- all of them
abbrev pub total_of : Counts → ℕ
total_of counts = counts.kept + counts.lost + counts.broken + counts.torn + counts.unpromised

-- the chunk isn't as the storage promised
abbrev pub is_fault : Judged → Bool
is_fault one = is_lost one.finding || is_broken one.finding

-- the counts once there is one chunk more, with this finding
abbrev pub counted : Counts → Finding → Counts
counted counts finding.Kept = record counts { kept = counts.kept + 1 }
counted counts finding.Open = record counts { unpromised = counts.unpromised + 1 }
counted counts (finding.Lost kept found) = record counts { lost = counts.lost + 1 }
counted counts (finding.Torn kept) = record counts { torn = counts.torn + 1 }
counted counts (finding.Broken kept) = record counts { broken = counts.broken + 1 }
