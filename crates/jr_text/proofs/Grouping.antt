-- The reader's pass gives the sections of the definition.
use Rattle.std.proofs.Common.{◌≡◌, ℕ, ◌+◌, List, [], ◌∷◌, ◌++◌, map, drop, Bool, true, false, not, cond, Option, Some, None, Result, Ok, Err, refl, sym, ap, ◌∙◌}
use Rattle.std.specs.List.{filter, filter_map, cons_option}
use Rattle.std.proofs.lemmas.List.{append-nil, append_assoc}
use Rattle.std.proofs.lemmas.List.Sums.{take_while-cons}
use Rattle.jr_text.specs.declared.faults.TextFault.{TextFault}
use Rattle.jr_text.specs.declared.faults.TextFault.TheVariants.{Outside}
use Rattle.jr_text.specs.Records.{LineText, SectionText}
use Rattle.jr_text.specs.JobText.{before_opening, content_of, is_opening, is_skipped, lines_from, name_fault, name_in, opening_faults, option_of, read_lines, section_of, sections_in, unless_faulty}
use Rattle.jr_text.specs.Reading.{and_option, and_section, opened, opened_unless, with_last_option, with_option}
use Rattle.jr_text.proofs.Pass.{after, pass}

after_same : {A B : Type 0} (r : Result A TextFault) (f g : A → Result B TextFault) → ((x : A) → f x ≡ g x) → after r f ≡ after r g
after_same (Ok x) f g h = h x
after_same (Err fault) f g h = refl

-- the pass over the lines that say something
abbrev and_said : List SectionText → ℕ × List ℕ → Result (List SectionText) TextFault
and_said found l = cond (is_opening l.1) (and_section found (opened l.0 (drop 1 l.1))) (and_option found l)

abbrev pass_said : List SectionText → List (ℕ × List ℕ) → Result (List SectionText) TextFault
pass_said found [] = Ok found
pass_said found (l ∷ more) = after (and_said found l) (λ next. pass_said next more)

by_skip : (b : Bool) (found : List SectionText) (l : ℕ × List ℕ) (more : List (ℕ × List ℕ)) (go : List SectionText → Result (List SectionText) TextFault) → ((next : List SectionText) → go next ≡ pass_said next more) → after (cond b (Ok found) (and_said found l)) go ≡ pass_said found (cond (not b) (l ∷ more) more)
by_skip true found l more go h = h found
by_skip false found l more go h = after_same (and_said found l) go (λ next. pass_said next more) h

pass_lines : (lines : List (List ℕ)) (found : List SectionText) (first : ℕ) → pass found first lines ≡ pass_said found (lines_from first lines)
pass_lines [] found first = refl
pass_lines (line ∷ lines) found first =
    by_skip (is_skipped (content_of line)) found (first, content_of line) (lines_from (first + 1) lines) (λ next. pass next (first + 1) lines) (λ next. pass_lines lines next (first + 1))

-- a section with further options
abbrev with_options : SectionText → List LineText → SectionText
with_options s options = record s { lines = s.lines ++ options }

with_no_options : (s : SectionText) → with_options s [] ≡ s
with_no_options s = ap (λ x. record s { lines = x }) (append-nil s.lines)

with_more_options : (s : SectionText) (o : LineText) (options : List LineText) → with_options (with_option s o) options ≡ with_options s (o ∷ options)
with_more_options s o options = ap (λ x. record s { lines = x }) (append_assoc s.lines (o ∷ []) options)

last_of_pushed : (front : List SectionText) (s : SectionText) (o : LineText) → with_last_option (front ++ s ∷ []) o ≡ front ++ with_option s o ∷ []
last_of_pushed [] s o = refl
last_of_pushed (x ∷ []) s o = refl
last_of_pushed (x ∷ y ∷ front) s o = ap (λ t. x ∷ t) (last_of_pushed (y ∷ front) s o)

option_of_pushed : (front : List SectionText) (s : SectionText) (l : ℕ × List ℕ) → and_option (front ++ s ∷ []) l ≡ Ok (front ++ with_option s (option_of l) ∷ [])
option_of_pushed [] s l = refl
option_of_pushed (x ∷ front) s l = ap Ok (last_of_pushed (x ∷ front) s (option_of l))

-- the options above the next section
abbrev leading : List (ℕ × List ℕ) → List LineText
leading lines = map option_of (before_opening lines)

-- the sections where the last one found is still open
abbrev Continues : List (ℕ × List ℕ) → Type 0
Continues lines = (front : List SectionText) (s : SectionText) → pass_said (front ++ s ∷ []) lines ≡ unless_faulty (opening_faults lines) (front ++ (with_options s (leading lines) ∷ sections_in lines))

opens : (fault : Option TextFault) (front : List SectionText) (s : SectionText) (l : ℕ × List ℕ) (lines : List (ℕ × List ℕ)) → Continues lines → after (and_section (front ++ s ∷ []) (opened_unless fault l.0 (drop 1 l.1))) (λ next. pass_said next lines) ≡ unless_faulty (cons_option fault (opening_faults lines)) (front ++ (with_options s [] ∷ (section_of l lines ∷ sections_in lines)))
opens (Some fault) front s l lines goes = refl
opens None front s l lines goes =
    goes (front ++ s ∷ []) (record { name = name_in (drop 1 l.1); line = l.0; lines = [] })
    ∙ ap (unless_faulty (opening_faults lines)) (append_assoc front (s ∷ []) (section_of l lines ∷ sections_in lines)
    ∙ ap (λ t. front ++ (t ∷ (section_of l lines ∷ sections_in lines))) (sym (with_no_options s)))

sets : (front : List SectionText) (s : SectionText) (l : ℕ × List ℕ) (lines : List (ℕ × List ℕ)) → Continues lines → after (and_option (front ++ s ∷ []) l) (λ next. pass_said next lines) ≡ unless_faulty (opening_faults lines) (front ++ (with_options s (option_of l ∷ leading lines) ∷ sections_in lines))
sets front s l lines goes =
    ap (λ r. after r (λ next. pass_said next lines)) (option_of_pushed front s l)
    ∙ goes front (with_option s (option_of l))
    ∙ ap (λ t. unless_faulty (opening_faults lines) (front ++ (t ∷ sections_in lines))) (with_more_options s (option_of l) (leading lines))

abbrev openings : List (ℕ × List ℕ) → List (ℕ × List ℕ)
openings lines = filter (λ l. is_opening l.1) lines

abbrev faults_of : List (ℕ × List ℕ) → List TextFault
faults_of lines = filter_map (λ l. name_fault l.0 (drop 1 l.1)) lines

inside_by : (b : Bool) (front : List SectionText) (s : SectionText) (l : ℕ × List ℕ) (lines : List (ℕ × List ℕ)) → Continues lines → after (cond b (and_section (front ++ s ∷ []) (opened l.0 (drop 1 l.1))) (and_option (front ++ s ∷ []) l)) (λ next. pass_said next lines) ≡ unless_faulty (faults_of (cond b (l ∷ openings lines) (openings lines))) (front ++ (with_options s (map option_of (cond (not b) (l ∷ before_opening lines) [])) ∷ cond b (section_of l lines ∷ sections_in lines) (sections_in lines)))
inside_by true front s l lines goes = opens (name_fault l.0 (drop 1 l.1)) front s l lines goes
inside_by false front s l lines goes = sets front s l lines goes

inside : (lines : List (ℕ × List ℕ)) → Continues lines
inside [] front s = ap (λ t. Ok (front ++ t ∷ [])) (sym (with_no_options s))
inside (l ∷ lines) front s =
    inside_by (is_opening l.1) front s l lines (inside lines)
    ∙ ap (λ above. unless_faulty (opening_faults (l ∷ lines)) (front ++ (with_options s (map option_of above) ∷ sections_in (l ∷ lines)))) (sym (take_while-cons (λ x. not (is_opening x.1)) l lines))

-- the lines where no section is open yet
starts : (fault : Option TextFault) (l : ℕ × List ℕ) (lines : List (ℕ × List ℕ)) → after (and_section [] (opened_unless fault l.0 (drop 1 l.1))) (λ next. pass_said next lines) ≡ unless_faulty (cons_option fault (opening_faults lines)) (section_of l lines ∷ sections_in lines)
starts (Some fault) l lines = refl
starts None l lines = inside lines [] (record { name = name_in (drop 1 l.1); line = l.0; lines = [] })

start_by : (b : Bool) (l : ℕ × List ℕ) (lines : List (ℕ × List ℕ)) → after (cond b (and_section [] (opened l.0 (drop 1 l.1))) (and_option [] l)) (λ next. pass_said next lines) ≡ unless_faulty (map (λ x. Outside x.0) (cond (not b) (l ∷ before_opening lines) []) ++ faults_of (cond b (l ∷ openings lines) (openings lines))) (cond b (section_of l lines ∷ sections_in lines) (sections_in lines))
start_by true l lines = starts (name_fault l.0 (drop 1 l.1)) l lines
start_by false l lines = refl

all_lines : (lines : List (ℕ × List ℕ)) → pass_said [] lines ≡ read_lines lines
all_lines [] = refl
all_lines (l ∷ lines) =
    start_by (is_opening l.1) l lines
    ∙ ap (λ above. unless_faulty (map (λ x. Outside x.0) above ++ opening_faults (l ∷ lines)) (sections_in (l ∷ lines))) (sym (take_while-cons (λ x. not (is_opening x.1)) l lines))

pub pass_is : (lines : List (List ℕ)) → pass [] 1 lines ≡ read_lines (lines_from 1 lines)
pass_is lines = pass_lines lines [] 1 ∙ all_lines (lines_from 1 lines)
