-- The notes of lines and of sections that are gone over one after another.
use Rattle.std.proofs.Common.{◌≡◌, ℕ, ◌+◌, ◌<◌, Bool, true, false, cond, List, [], ◌∷◌, ◌++◌, length, drop, map, ◌≤◌, slice_index_or, Option, Some, None, Result, Ok, Err, ap, ◌∙◌, sym, refl, arith, append_assoc, append-nil}
use Rattle.std.specs.Prelude.{filter, is_some, replicate, ◌-◌}
use Rattle.std.specs.Result.{result_err}
use Rattle.std.proofs.lemmas.List.{at_drop_all, at_drop_more, length-append, length-replicate, map-append, replicate-append-replicate}
use Rattle.std.proofs.lemmas.List.Elements.{filter-append}
use Rattle.jr_text.specs.Records.{LineText, SectionText}
use Rattle.jr_job_options.specs.declared.faults.JobFault.{JobFault}
use Rattle.jr_job_options.specs.declared.options.JobOptions.{JobOptions}
use Rattle.jr_job_options.specs.declared.settings.Setting.{Setting}
use Rattle.jr_job_options.specs.Options.{and_setting, options_from}
use Rattle.jr_job_options.specs.Settings.{setting_of}
use Rattle.jr_options.specs.Refusals.{counts, line_fault, lines_of}
use Rattle.jr_job_notes.specs.declared.notes.Note.{Note}
use Rattle.jr_job_notes.specs.Notes.{AreFirst, is_refused, line_number, lines_noted, noted, noted_line, refused_in, sections_noted}

-- a line that is read alone is refused by its own fault
alone_by : (o : JobOptions) (read : Result Setting JobFault) → result_err (and_setting o read) ≡ result_err read
alone_by o (Err f) = refl
alone_by o (Ok s) = refl

pub alone : (o : JobOptions) (line : LineText) → result_err (options_from (Ok o) (line ∷ [])) ≡ line_fault line
alone o line = alone_by o (setting_of line)

one_by : (fault : Option JobFault) (line : LineText) (lines : List LineText) → map (λ (n : ℕ). Some n) (map line_number (cond (is_some fault) (line ∷ filter is_refused lines) (filter is_refused lines))) ≡ cond (is_some fault) (Some line.line ∷ lines_noted lines) (lines_noted lines)
one_by None line lines = refl
one_by (Some f) line lines = refl

-- a line is refused, and has a note; or isn't
pub line_noted : (notes new : List Note) (note : Note) (line : LineText) (fault : JobFault) → line_fault line ≡ Some fault → new ≡ notes ++ note ∷ [] → note.line ≡ Some line.line → noted new ≡ noted notes ++ lines_noted (line ∷ [])
line_noted notes new note line fault refused pushed at =
    let alone : lines_noted (line ∷ []) ≡ Some line.line ∷ [] = one_by (line_fault line) line [] ∙ ap (λ f. cond (is_some f) (Some line.line ∷ []) []) refused in
    ap noted pushed
    ∙ map-append noted_line notes (note ∷ [])
    ∙ ap (λ n. noted notes ++ n ∷ []) at
    ∙ ap (λ ls. noted notes ++ ls) (sym alone)

pub line_passed : (notes : List Note) (line : LineText) → line_fault line ≡ None → noted notes ≡ noted notes ++ lines_noted (line ∷ [])
line_passed notes line sound =
    let alone : lines_noted (line ∷ []) ≡ [] = one_by (line_fault line) line [] ∙ ap (λ f. cond (is_some f) (Some line.line ∷ []) []) sound in
    sym (append-nil (noted notes)) ∙ ap (λ ls. noted notes ++ ls) (sym alone)

joined : (a b : List LineText) → lines_noted (a ++ b) ≡ lines_noted a ++ lines_noted b
joined a b =
    ap (λ ls. map (λ (n : ℕ). Some n) (map line_number ls)) (filter-append is_refused a b)
    ∙ ap (λ ns. map (λ (n : ℕ). Some n) ns) (map-append line_number (filter is_refused a) (filter is_refused b))
    ∙ map-append (λ (n : ℕ). Some n) (refused_in a) (refused_in b)

-- one line more
pub lines_more : (notes new : List Note) (lines : List LineText) (i : ℕ) (line : LineText) → i < length lines → line ≡ slice_index_or lines i line → noted new ≡ noted notes ++ lines_noted (line ∷ []) → noted new ++ lines_noted (drop (i + 1) lines) ≡ noted notes ++ lines_noted (drop i lines)
lines_more notes new lines i line within here added =
    let rest = lines_noted (drop (i + 1) lines) in
    let next : lines_noted (drop i lines) ≡ lines_noted (line ∷ []) ++ rest =
    at_drop_more lines_noted lines i line within
    ∙ ap (λ x. lines_noted (x ∷ drop (i + 1) lines)) (sym here)
    ∙ joined (line ∷ []) (drop (i + 1) lines) in
    ap (λ ls. ls ++ rest) added
    ∙ append_assoc (noted notes) (lines_noted (line ∷ [])) rest
    ∙ ap (λ ls. noted notes ++ ls) (sym next)

pub lines_done : (notes : List Note) (before : List (Option ℕ)) (lines : List LineText) (i : ℕ) → length lines ≤ i → noted notes ++ lines_noted (drop i lines) ≡ before → noted notes ≡ before
lines_done notes before lines i past is =
    sym (append-nil (noted notes)) ∙ ap (λ ls. noted notes ++ ls) (sym (at_drop_all lines_noted lines i past)) ∙ is

-- the lines of a section, where they are looked at or not
section_by : (b : Bool) (section : SectionText) (rest : List SectionText) → lines_noted (lines_of (cond b (section ∷ rest) rest)) ≡ cond b (lines_noted section.lines ++ lines_noted (lines_of rest)) (lines_noted (lines_of rest))
section_by true section rest = joined section.lines (lines_of rest)
section_by false section rest = refl

sections_step : (only : Option (List ℕ)) (section : SectionText) (rest : List SectionText) → sections_noted only (section ∷ rest) ≡ cond (counts only section) (lines_noted section.lines ++ sections_noted only rest) (sections_noted only rest)
sections_step only section rest = section_by (counts only section) section (filter (counts only) rest)

pub section_noted : (only : Option (List ℕ)) (notes new : List Note) (section : SectionText) → counts only section ≡ true → noted new ≡ noted notes ++ lines_noted section.lines → noted new ≡ noted notes ++ sections_noted only (section ∷ [])
section_noted only notes new section counted added =
    let alone : sections_noted only (section ∷ []) ≡ lines_noted section.lines =
    sections_step only section [] ∙ ap (λ b. cond b (lines_noted section.lines ++ []) []) counted ∙ append-nil (lines_noted section.lines) in
    added ∙ ap (λ ls. noted notes ++ ls) (sym alone)

pub section_passed : (only : Option (List ℕ)) (notes : List Note) (section : SectionText) → counts only section ≡ false → noted notes ≡ noted notes ++ sections_noted only (section ∷ [])
section_passed only notes section uncounted =
    let alone : sections_noted only (section ∷ []) ≡ [] = sections_step only section [] ∙ ap (λ b. cond b (lines_noted section.lines ++ []) []) uncounted in
    sym (append-nil (noted notes)) ∙ ap (λ ls. noted notes ++ ls) (sym alone)

either_way : (b : Bool) (a rest : List (Option ℕ)) → cond b (a ++ rest) rest ≡ cond b (a ++ []) [] ++ rest
either_way true a rest = ap (λ ls. ls ++ rest) (sym (append-nil a))
either_way false a rest = refl

sections_joined : (only : Option (List ℕ)) (section : SectionText) (rest : List SectionText) → sections_noted only (section ∷ rest) ≡ sections_noted only (section ∷ []) ++ sections_noted only rest
sections_joined only section rest =
    sections_step only section rest
    ∙ either_way (counts only section) (lines_noted section.lines) (sections_noted only rest)
    ∙ ap (λ ls. ls ++ sections_noted only rest) (sym (sections_step only section []))

-- one section more
pub sections_more : (only : Option (List ℕ)) (notes new : List Note) (sections : List SectionText) (i : ℕ) (section : SectionText) → i < length sections → section ≡ slice_index_or sections i section → noted new ≡ noted notes ++ sections_noted only (section ∷ []) → noted new ++ sections_noted only (drop (i + 1) sections) ≡ noted notes ++ sections_noted only (drop i sections)
sections_more only notes new sections i section within here added =
    let rest = sections_noted only (drop (i + 1) sections) in
    let next : sections_noted only (drop i sections) ≡ sections_noted only (section ∷ []) ++ rest =
    at_drop_more (sections_noted only) sections i section within
    ∙ ap (λ x. sections_noted only (x ∷ drop (i + 1) sections)) (sym here)
    ∙ sections_joined only section (drop (i + 1) sections) in
    ap (λ ls. ls ++ rest) added
    ∙ append_assoc (noted notes) (sections_noted only (section ∷ [])) rest
    ∙ ap (λ ls. noted notes ++ ls) (sym next)

pub sections_done : (only : Option (List ℕ)) (notes : List Note) (before : List (Option ℕ)) (sections : List SectionText) (i : ℕ) → length sections ≤ i → noted notes ++ sections_noted only (drop i sections) ≡ before → noted notes ≡ before
sections_done only notes before sections i past is =
    sym (append-nil (noted notes)) ∙ ap (λ ls. noted notes ++ ls) (sym (at_drop_all (sections_noted only) sections i past)) ∙ is

-- nothing but these lines, and then one note of no line more
pub first_alone : (lines : List (Option ℕ)) → AreFirst lines lines
first_alone lines = sym (append-nil lines) ∙ ap (λ n. lines ++ replicate n None) none-left where
  none-left : 0 ≡ length lines - length lines
  none-left = omega arith

pub first_more : (notes new : List Note) (note : Note) → new ≡ notes ++ note ∷ [] → note.line ≡ None → (lines : List (Option ℕ)) → AreFirst lines (noted notes) → AreFirst lines (noted new)
first_more notes new note pushed none lines first =
    let k = length (noted notes) - length lines in
    let is : noted new ≡ lines ++ replicate (k + 1) None =
    ap noted pushed
    ∙ map-append noted_line notes (note ∷ [])
    ∙ ap (λ n. noted notes ++ n ∷ []) none
    ∙ ap (λ ns. ns ++ None ∷ []) first
    ∙ append_assoc lines (replicate k None) (None ∷ [])
    ∙ ap (λ ns. lines ++ ns) (replicate-append-replicate k 1 None) in
    let count : length (noted new) ≡ length lines + (k + 1) =
    ap length is ∙ length-append lines (replicate (k + 1) None) ∙ ap (λ n. length lines + n) (length-replicate (k + 1) None) in
    let rest : k + 1 ≡ length (noted new) - length lines = omega (arith, count) in
    is ∙ ap (λ n. lines ++ replicate n None) rest
