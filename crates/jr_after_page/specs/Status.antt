-- Believed: what is found of all files after a cut, in numbers, as the title of its page says it (of this project).
use Rattle.std.specs.Prelude.{ℕ, ◌-◌, ◌^◌, ◌==◌, ◌&&◌, Bool, not, min, List, ◌++◌, sum_by, length}
use Rattle.std.specs.Prelude.{codes, decimal, if◌then◌else◌}
use Rattle.jr_model.specs.declared.blocks.Piece.{Piece}
use Rattle.jr_after_report.specs.Reports.{FileState}
use Rattle.jr_after_page.specs.declared.status.Count.{Count}
use Rattle.jr_after_page.specs.declared.status.Count.TheVariants.{Kept, Lost, Broken, Torn}
use Rattle.jr_after_page.specs.declared.status.Status.{Status}

abbrev pub count_of : Count → FileState → ℕ
count_of Kept state = state.counts.kept
count_of Lost state = state.counts.lost
count_of Broken state = state.counts.broken
count_of Torn state = state.counts.torn

-- over all files; no number is above the greatest of 64 bits
abbrev pub sum_of : Count → List FileState → ℕ
sum_of what found = min (2 ^ 64 - 1) (sum_by (count_of what) found)

abbrev pub status_of : List FileState → List Piece → Status
status_of found unread = record {
  kept = sum_of Kept found;
  lost = sum_of Lost found;
  broken = sum_of Broken found;
  torn = sum_of Torn found;
  unread = length unread;
}

-- a chunk isn't as the storage promised
abbrev pub has_loss : Status → Bool
has_loss s = not ((s.lost == 0) && (s.broken == 0))

-- that, or a chunk couldn't be read: torn chunks are no fault
abbrev pub has_fault : Status → Bool
has_fault s = not ((s.lost == 0) && (s.broken == 0) && (s.unread == 0))

abbrev pub verdict_word : Status → List ℕ
verdict_word s =
    if has_loss s then codes "BAD"
    else (if has_fault s then codes "FAULTS"
    else (if (s.kept == 0) && (s.torn == 0) then codes "NOTHING PROMISED" else codes "GOOD"))

-- a number behind a text
abbrev pub counted : List ℕ → ℕ → List ℕ
counted before n = before ++ decimal n

unfoldable pub status_text : Status → List ℕ
status_text s =
    verdict_word s ++ counted (codes ": ") s.kept ++ counted (codes " kept, ") s.lost ++ counted (codes " lost, ") s.broken
    ++ counted (codes " broken, ") s.torn ++ counted (codes " torn, ") s.unread ++ codes " unread"
