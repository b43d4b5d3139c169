-- The pass that looks for the first fault finds that of the definition.
use Rattle.std.proofs.Common.{◌≡◌, ℕ, ◌+◌, List, [], ◌∷◌, ◌++◌, drop, Bool, true, false, cond, Option, Some, None, Result, Ok, Err, refl, sym, ap, ◌∙◌}
use Rattle.std.specs.Result.{result_err}
use Rattle.jr_text.specs.declared.faults.TextFault.{TextFault}
use Rattle.jr_text.specs.Records.{LineText, SectionText}
use Rattle.jr_text.specs.JobText.{content_of, is_opening, is_skipped, lines_from, name_fault, option_of, read_lines}
use Rattle.jr_text.specs.Reading.{and_line, and_option, and_section, open_below, open_for_option, open_unless, opened_unless, with_last_option}
use Rattle.jr_text.proofs.Grouping.{pass_is}
use Rattle.jr_text.proofs.Pass.{after, check, pass}

-- the last of these sections is open, if there is one
abbrev is_open : List SectionText → Bool
is_open [] = false
is_open (s ∷ more) = true

abbrev open_in : Result (List SectionText) TextFault → Result Bool TextFault
open_in (Ok found) = Ok (is_open found)
open_in (Err fault) = Err fault

open_after_section : (found : List SectionText) (s : SectionText) → is_open (found ++ s ∷ []) ≡ true
open_after_section [] s = refl
open_after_section (x ∷ found) s = refl

section_by : (fault : Option TextFault) (found : List SectionText) (line : ℕ) (rest : List ℕ) → open_in (and_section found (opened_unless fault line rest)) ≡ open_unless fault
section_by (Some fault) found line rest = refl
section_by None found line rest = ap Ok (open_after_section found _)

open_after_option : (found : List SectionText) (o : LineText) → is_open (with_last_option found o) ≡ is_open found
open_after_option [] o = refl
open_after_option (s ∷ []) o = refl
open_after_option (s ∷ t ∷ more) o = refl

option_by : (found : List SectionText) (l : ℕ × List ℕ) → open_in (and_option found l) ≡ open_for_option (is_open found) l.0
option_by [] l = refl
option_by (s ∷ more) l = ap Ok (open_after_option (s ∷ more) (option_of l))

by_line : (skipped opening : Bool) (found : List SectionText) (l : ℕ × List ℕ) → open_in (cond skipped (Ok found) (cond opening (and_section found (opened_unless (name_fault l.0 (drop 1 l.1)) l.0 (drop 1 l.1))) (and_option found l))) ≡ cond skipped (Ok (is_open found)) (cond opening (open_unless (name_fault l.0 (drop 1 l.1))) (open_for_option (is_open found) l.0))
by_line true opening found l = refl
by_line false true found l = section_by (name_fault l.0 (drop 1 l.1)) found l.0 (drop 1 l.1)
by_line false false found l = option_by found l

step : (found : List SectionText) (l : ℕ × List ℕ) → open_in (and_line found l) ≡ open_below (is_open found) l
step found l = by_line (is_skipped l.1) (is_opening l.1) found l

rest_by : (r : Result (List SectionText) TextFault) (go : List SectionText → Result (List SectionText) TextFault) (look : Bool → Result Bool TextFault) → ((found : List SectionText) → look (is_open found) ≡ open_in (go found)) → after (open_in r) look ≡ open_in (after r go)
rest_by (Ok found) go look h = h found
rest_by (Err fault) go look h = refl

check_of_pass : (lines : List (List ℕ)) (found : List SectionText) (first : ℕ) → check (is_open found) first lines ≡ open_in (pass found first lines)
check_of_pass [] found first = refl
check_of_pass (line ∷ lines) found first =
    ap (λ r. after r (λ next. check next (first + 1) lines)) (sym (step found (first, content_of line)))
    ∙ rest_by (and_line found (first, content_of line)) (λ next. pass next (first + 1) lines) (λ next. check next (first + 1) lines) (λ next. check_of_pass lines next (first + 1))

fault_in : (r : Result (List SectionText) TextFault) → result_err (open_in r) ≡ result_err r
fault_in (Ok found) = refl
fault_in (Err fault) = refl

-- the first fault of the check is that of the reader
pub check_is : (lines : List (List ℕ)) → result_err (check false 1 lines) ≡ result_err (read_lines (lines_from 1 lines))
check_is lines =
    ap result_err (check_of_pass lines [] 1) ∙ fault_in (pass [] 1 lines) ∙ ap result_err (pass_is lines)
