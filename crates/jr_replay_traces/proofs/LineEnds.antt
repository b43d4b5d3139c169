-- The line of an event has no line feed but its last byte.
use Rattle.std.proofs.Common.{◌≡◌, ℕ, suc, List, [], ◌∷◌, ◌++◌, get_or, Bool, true, false, not, ◌&&◌, All, refl, ap, ◌∙◌, lit<, arith}
use Rattle.std.specs.Prelude.{codes, ◌==◌}
use Rattle.std.specs.Fmt.{decimal}
use Rattle.std.specs.List.{list_all}
use Rattle.std.proofs.lemmas.Bool.{and_from, and_parts, not-true}
use Rattle.std.proofs.lemmas.List.Folds.{list_all-append}
use Rattle.jr_model.specs.declared.events.Event.{Event}
use Rattle.jr_model.specs.declared.events.Event.TheVariants.{Issue, Probe, Skip, End, Verdict}
use Rattle.jr_model.specs.declared.events.Outcome.{Outcome}
use Rattle.jr_model.specs.declared.events.Outcome.TheVariants.{Whole, Failed, Short}
use Rattle.jr_model.specs.declared.events.Verdict.{Verdict as GivenVerdict}
use Rattle.jr_model.specs.declared.events.Verdict.TheVariants.{Good, Bad, Void}
use Rattle.jr_model.specs.declared.events.Part.TheVariants as part
use Rattle.jr_model.specs.declared.events.What.TheVariants.{Header, Digest, DataArea, Byte, Chunk}
use Rattle.jr_model.specs.declared.events.WriteId.{WriteId}
use Rattle.jr_model.proofs.ListLemmas.{All-from_test}
use Rattle.jr_replay_traces.specs.TraceChecks.{ending_fits, entry_fits, finding_fits, is_newline, is_small, name_fits}
use Rattle.jr_replay_traces.specs.TraceLaws.{ending_of, entry_of, finding_of, name_of}
use Rattle.jr_replay_traces.specs.Traces.{draw_fields, event_text, outcome_fields, spaced, verdict_fields}
use Rattle.jr_replay_traces.proofs.EntryReading.{small}
use Rattle.jr_replay_traces.proofs.LineReading.{decimal_else}

-- a text without a line feed
is_line : List ℕ → Bool
is_line text = list_all (λ b. not (is_newline b)) text

two_lines : (a b : List ℕ) → is_line a ≡ true → is_line b ≡ true → is_line (a ++ b) ≡ true
unfolding is_line
two_lines a b ha hb = list_all-append (λ x. not (is_newline x)) a b ∙ and_from _ _ ha hb

from_All : (text : List ℕ) → All (λ b. (b == 10) ≡ false) text → is_line text ≡ true
unfolding is_line
from_All [] h = refl
from_All (x ∷ text) h =
    and_from (not (x == 10)) _ (ap not (h 0 0 (omega arith)))
    (from_All text (λ k d l. h (suc k) d (omega arith)))

number_line : (n : ℕ) → is_small n ≡ true → is_line (spaced n) ≡ true
unfolding is_line
number_line n fits = from_All (decimal n) (decimal_else 10 n (lit< tt) (small n fits))

draw_line : (write : WriteId) → name_fits (name_of write) ≡ true → is_line (draw_fields write) ≡ true
draw_line write fits =
    let parts = and_parts (is_small write.clone && is_small write.pass) (is_small write.number) fits in
    let two = and_parts (is_small write.clone) (is_small write.pass) parts.0 in
    two_lines (spaced write.clone ++ spaced write.pass) (spaced write.number)
    (two_lines (spaced write.clone) (spaced write.pass) (number_line write.clone two.0) (number_line write.pass two.1))
    (number_line write.number parts.1)

outcome_line : (outcome : Outcome) → ending_fits (ending_of outcome) ≡ true → is_line (outcome_fields outcome) ≡ true
unfolding is_line
outcome_line Whole fits = refl
outcome_line Failed fits = refl
outcome_line (Short n) fits = two_lines (codes " short") (spaced n) refl (number_line n fits)

verdict_line : (verdict : GivenVerdict) → finding_fits (finding_of verdict) ≡ true → is_line (verdict_fields verdict) ≡ true
unfolding is_line
verdict_line Good fits = refl
verdict_line Void fits = refl
verdict_line (Bad Header) fits = refl
verdict_line (Bad Digest) fits = refl
verdict_line (Bad DataArea) fits = refl
verdict_line (Bad (Byte i)) fits = two_lines (codes " byte") (spaced i) refl (number_line i fits)
verdict_line (Bad (Chunk i part.Header)) fits = two_lines (codes " header") (spaced i) refl (number_line i fits)
verdict_line (Bad (Chunk i part.Digest)) fits = two_lines (codes " digest") (spaced i) refl (number_line i fits)
verdict_line (Bad (Chunk i part.DataArea)) fits = two_lines (codes " data") (spaced i) refl (number_line i fits)

-- a letter and two numbers
head_line : (tag : List ℕ) (a b : ℕ) → is_line tag ≡ true → is_small a ≡ true → is_small b ≡ true → is_line ((tag ++ spaced a) ++ spaced b) ≡ true
head_line tag a b h fits_a fits_b =
    two_lines (tag ++ spaced a) (spaced b) (two_lines tag (spaced a) h (number_line a fits_a)) (number_line b fits_b)

event_one_line : (io : ℕ) (e : Event) → entry_fits (entry_of io e) ≡ true → is_line (event_text io e) ≡ true
unfolding is_line
event_one_line io (Issue worker kind write piece) fits =
    let parts = and_parts (is_small worker && is_small io) (name_fits (name_of write)) fits in
    let numbers = and_parts (is_small worker) (is_small io) parts.0 in
    two_lines ((codes "I" ++ spaced worker) ++ spaced io) (draw_fields write) (head_line (codes "I") worker io refl numbers.0 numbers.1) (draw_line write parts.1)
event_one_line io (Probe worker write piece) fits =
    let parts = and_parts (is_small worker && is_small io) (name_fits (name_of write)) fits in
    let numbers = and_parts (is_small worker) (is_small io) parts.0 in
    two_lines ((codes "P" ++ spaced worker) ++ spaced io) (draw_fields write) (head_line (codes "P") worker io refl numbers.0 numbers.1) (draw_line write parts.1)
event_one_line io (Skip worker write) fits =
    let parts = and_parts (is_small worker) (name_fits (name_of write)) fits in
    two_lines (codes "S" ++ spaced worker) (draw_fields write) (two_lines (codes "S") (spaced worker) refl (number_line worker parts.0)) (draw_line write parts.1)
event_one_line io (End worker id outcome) fits =
    let parts = and_parts (is_small worker && is_small id) (ending_fits (ending_of outcome)) fits in
    let numbers = and_parts (is_small worker) (is_small id) parts.0 in
    two_lines ((codes "E" ++ spaced worker) ++ spaced id) (outcome_fields outcome) (head_line (codes "E") worker id refl numbers.0 numbers.1) (outcome_line outcome parts.1)
event_one_line io (Verdict worker id verdict) fits =
    let parts = and_parts (is_small worker && is_small id) (finding_fits (finding_of verdict)) fits in
    let numbers = and_parts (is_small worker) (is_small id) parts.0 in
    two_lines ((codes "V" ++ spaced worker) ++ spaced id) (verdict_fields verdict) (head_line (codes "V") worker id refl numbers.0 numbers.1) (verdict_line verdict parts.1)

pub no_newline : (io : ℕ) (e : Event) → entry_fits (entry_of io e) ≡ true → All (λ b. is_newline b ≡ false) (event_text io e)
unfolding is_line
no_newline io e fits k d l =
    not-true (is_newline (get_or (event_text io e) k d)) (All-from_test (λ b. not (is_newline b)) (event_text io e) (event_one_line io e fits) k d l)
