-- The lines of a text are numbered in their order, and so are those of some of its sections.
use Rattle.std.proofs.Common.{◌≡◌, ℕ, ◌+◌, ◌≤◌, Bool, true, false, not, cond, List, [], ◌∷◌, ◌++◌, map, Option, Some, None, Ok, Err, sym, subst, arith, length}
use Rattle.std.specs.Prelude.{filter, is_some, nat_lt}
use Rattle.std.specs.List.{slice_split}
use Rattle.std.specs.Str.{is_utf8}
use Rattle.std.proofs.lemmas.List.Sums.{take_while-cons}
use Rattle.jr_model.specs.declared.limits.TheConstants.{LONGEST_TEXT}
use Rattle.jr_text.specs.declared.faults.TextFault.{TextFault}
use Rattle.jr_text.specs.declared.faults.TextFault.TheVariants.{TooLong, NotUtf8}
use Rattle.jr_text.specs.Records.{LineText, SectionText}
use Rattle.jr_text.specs.JobText.{before_opening, content_of, faults_in, is_newline, is_opening, is_skipped, lines_from, option_of, read_lines, section_of, sections_in, sections_of, unless_faulty}
use Rattle.jr_job_options.specs.declared.faults.JobFault.{JobFault}
use Rattle.jr_options.specs.Refusals.{counts, line_fault, lines_of}
use Rattle.jr_job_notes.specs.Notes.{is_refused, line_number, refused_in}
use Rattle.jr_job_notes.specs.Laws.{AscendFrom, RefusedAscend}

-- numbered lines in their order, from a least number on; and the same of option lines
abbrev AreOrdered : ℕ → List (ℕ × List ℕ) → Type 0
AreOrdered least [] = Unit {0}
AreOrdered least (l ∷ ls) = (least ≤ l.0) × AreOrdered (l.0 + 1) ls

abbrev StandFrom : ℕ → List LineText → Type 0
StandFrom least [] = Unit {0}
StandFrom least (l ∷ ls) = (least ≤ l.line) × StandFrom (l.line + 1) ls

fewer : (a b : ℕ) (ls : List (ℕ × List ℕ)) → a ≤ b → AreOrdered b ls → AreOrdered a ls
fewer a b [] le h = tt
fewer a b (l ∷ ls) le h = (let first : b ≤ l.0 = h.0 in omega arith, h.1)

stand_from : (a b : ℕ) (ls : List LineText) → a ≤ b → StandFrom b ls → StandFrom a ls
stand_from a b [] le h = tt
stand_from a b (l ∷ ls) le h = (let first : b ≤ l.line = h.0 in omega arith, h.1)

-- those that say something
said_by : (b : Bool) (n : ℕ) (content : List ℕ) (ls : List (ℕ × List ℕ)) → AreOrdered (n + 1) ls → AreOrdered n (cond b ((n, content) ∷ ls) ls)
said_by true n content ls h = (let e : n ≤ n = omega arith in e, h)
said_by false n content ls h = fewer n (n + 1) ls (omega arith) h

numbered : (first : ℕ) (lines : List (List ℕ)) → AreOrdered first (lines_from first lines)
numbered first [] = tt
numbered first (line ∷ lines) = said_by (not (is_skipped (content_of line))) first (content_of line) (lines_from (first + 1) lines) (numbered (first + 1) lines)

-- the options of an open section whose lines are wanted, and those of the wanted sections below
abbrev wanted : (SectionText → Bool) → Bool → List (ℕ × List ℕ) → List LineText
wanted test inside below = cond inside (map option_of (before_opening below)) [] ++ lines_of (filter test (sections_in below))

next_by : (test : SectionText → Bool) (own : Bool) (l : ℕ × List ℕ) (below : List (ℕ × List ℕ)) (least : ℕ) → StandFrom least (wanted test own below) → StandFrom least (lines_of (cond own (section_of l below ∷ filter test (sections_in below)) (filter test (sections_in below))))
next_by test true l below least h = h
next_by test false l below least h = h

opening_by : (test : SectionText → Bool) (inside b : Bool) (l : ℕ × List ℕ) (below : List (ℕ × List ℕ)) (least : ℕ) → ((o : Bool) → StandFrom (l.0 + 1) (wanted test o below)) → least ≤ l.0 → StandFrom least (cond inside (map option_of (cond (not b) (l ∷ before_opening below) [])) [] ++ lines_of (filter test (cond b (section_of l below ∷ sections_in below) (sections_in below))))
unfolding option_of
opening_by test true true l below least rest le =
    next_by test (test (section_of l below)) l below least (stand_from least (l.0 + 1) (wanted test (test (section_of l below)) below) (omega arith) (rest (test (section_of l below))))
opening_by test false true l below least rest le =
    next_by test (test (section_of l below)) l below least (stand_from least (l.0 + 1) (wanted test (test (section_of l below)) below) (omega arith) (rest (test (section_of l below))))
opening_by test true false l below least rest le = (le, rest true)
opening_by test false false l below least rest le = stand_from least (l.0 + 1) (wanted test false below) (omega arith) (rest false)

stand : (test : SectionText → Bool) (inside : Bool) (below : List (ℕ × List ℕ)) (least : ℕ) → AreOrdered least below → StandFrom least (wanted test inside below)
stand test true [] least h = tt
stand test false [] least h = tt
stand test inside (l ∷ below) least h =
    let shown : List (ℕ × List ℕ) → Type 0 = λ above. StandFrom least (cond inside (map option_of above) [] ++ lines_of (filter test (sections_in (l ∷ below)))) in
    subst shown (sym (take_while-cons (λ x. not (is_opening x.1)) l below))
    (opening_by test inside (is_opening l.1) l below least (λ o. stand test o below (l.0 + 1) h.1) h.0)

-- of lines that stand in their order, the refused ones do too
refused_by : (fault : Option JobFault) (least : ℕ) (l : LineText) (ls : List LineText) → least ≤ l.line → AscendFrom (l.line + 1) (refused_in ls) → AscendFrom least (refused_in ls) → AscendFrom least (map line_number (cond (is_some fault) (l ∷ filter is_refused ls) (filter is_refused ls)))
refused_by None least l ls le above rest = rest
refused_by (Some f) least l ls le above rest = (le, above)

refused_ascend : (least : ℕ) (ls : List LineText) → StandFrom least ls → AscendFrom least (refused_in ls)
refused_ascend least [] h = tt
refused_ascend least (l ∷ ls) h =
    refused_by (line_fault l) least l ls h.0 (refused_ascend (l.line + 1) ls h.1)
    (refused_ascend least ls (stand_from least (l.line + 1) ls (let first : least ≤ l.line = h.0 in omega arith) h.1))

-- the sections that are read are those of the text's lines
read_by : (faults : List TextFault) (found sections : List SectionText) → unless_faulty faults found ≡ Ok sections → found ≡ sections
read_by [] found sections is = cc
read_by (fault ∷ faults) found sections is = absurd (cc)

text_by : (long utf : Bool) (lines : List (ℕ × List ℕ)) (sections : List SectionText) → cond long (Err TooLong) (cond utf (read_lines lines) (Err NotUtf8)) ≡ Ok sections → sections_in lines ≡ sections
text_by true utf lines sections is = absurd (cc)
text_by false true lines sections is = read_by (faults_in lines) (sections_in lines) sections is
text_by false false lines sections is = absurd (cc)

pub ascending : RefusedAscend
unfolding sections_of
ascending text sections only is =
    let lines = lines_from 1 (slice_split is_newline text) in
    let same = text_by (nat_lt LONGEST_TEXT (length text)) (is_utf8 text) lines sections is in
    let Shown : List SectionText → Type 0 = λ ss. AscendFrom 1 (refused_in (lines_of (filter (counts only) ss))) in
    subst Shown same (refused_ascend 1 (wanted (counts only) false lines) (stand (counts only) false lines 1 (numbered 1 (slice_split is_newline text))))
