-- Believed: how a run ended, as a page's title begins with it (of this project).
use Rattle.std.specs.Prelude.{ℕ, ◌-◌, ◌^◌, ◌==◌, ◌&&◌, min, Bool, List, [], ◌++◌, sum_by, codes, decimal, if◌then◌else◌}
use Rattle.jr_model.specs.declared.totals.Totals.{Totals}
use Rattle.jr_report_page.specs.declared.status.Count.{Count}
use Rattle.jr_report_page.specs.declared.status.Count.TheVariants.{Checks, Bad, Faults}
use Rattle.jr_report_page.specs.declared.status.Status.{Status}

abbrev pub count_of : Count → Totals → ℕ
count_of Checks t = t.checks
count_of Bad t = t.bad
count_of Faults t = t.faults

-- over all clones; no number is above the greatest of 64 bits
abbrev pub sum_of : Count → List Totals → ℕ
sum_of what totals = min (2 ^ 64 - 1) (sum_by (count_of what) totals)

abbrev pub status_of : List Totals → Bool → Status
status_of totals is_interrupted = record {
  checks = sum_of Checks totals;
  bad = sum_of Bad totals;
  faults = sum_of Faults totals;
  is_interrupted = is_interrupted;
}

-- of a run that found nothing
abbrev pub clean_text : Status → List ℕ
clean_text s =
    if s.is_interrupted then codes "INTERRUPTED: " ++ decimal s.checks ++ codes " checks, none bad"
    else (if s.checks == 0 then codes "NOTHING CHECKED" else codes "GOOD: " ++ decimal s.checks ++ codes " checks")

-- of one that found something
abbrev pub unclean_text : ℕ → ℕ → ℕ → List ℕ
unclean_text bad checks faults =
    if bad == 0 then codes "FAULTS: " ++ decimal faults
    else (if faults == 0 then codes "BAD: " ++ decimal bad ++ codes " of " ++ decimal checks ++ codes " checks"
    else codes "BAD: " ++ decimal bad ++ codes " of " ++ decimal checks ++ codes " checks, FAULTS: " ++ decimal faults)

abbrev pub ending_text : Bool → List ℕ
ending_text is_interrupted = if is_interrupted then codes ", INTERRUPTED" else []

abbrev pub status_text : Status → List ℕ
status_text s =
    if (s.bad == 0) && (s.faults == 0) then clean_text s
    else unclean_text s.bad s.checks s.faults ++ ending_text s.is_interrupted
