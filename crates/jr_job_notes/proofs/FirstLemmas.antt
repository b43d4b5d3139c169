-- A fault of a line names that line, one of a job names none, and the first fault of a file is that of the first refused line.
use Rattle.std.proofs.Common.{◌≡◌, ℕ, Bool, true, false, not, cond, List, [], ◌∷◌, map, Option, Some, None, Ok, Err, ap, ◌∙◌, sym, refl, length}
use Rattle.std.specs.Prelude.{filter, is_some, ok_or, slice_get, sum_by, nat_lt, ◌==◌, ◌||◌, ◌/◌}
use Rattle.std.specs.List.{list_any, position_or_len}
use Rattle.std.specs.Option.{option_map, option_or}
use Rattle.std.specs.Result.{result_err}
use Rattle.jr_model.specs.History.{first_given}
use Rattle.jr_model.specs.declared.limits.TheConstants.{MOST_CLONES, MOST_WORK}
use Rattle.jr_model.specs.Tickets.{has_pattern}
use Rattle.jr_text.specs.Records.{LineText}
use Rattle.jr_plan.specs.declared.faults.Bound.TheVariants as bound
use Rattle.jr_job_options.specs.declared.faults.JobFault.{JobFault}
use Rattle.jr_job_options.specs.declared.faults.JobFault.TheVariants as fault
use Rattle.jr_job_options.specs.declared.keys.Key.{Key}
use Rattle.jr_job_options.specs.declared.keys.Key.TheVariants.{Choice, Number, Flag, Text}
use Rattle.jr_job_options.specs.declared.keys.TextKey.{TextKey}
use Rattle.jr_job_options.specs.declared.keys.TextKey.TheVariants as text
use Rattle.jr_job_options.specs.declared.options.JobOptions.{JobOptions}
use Rattle.jr_job_options.specs.declared.settings.Setting.{Setting}
use Rattle.jr_job_options.specs.declared.settings.Setting.TheVariants as setting
use Rattle.jr_job_options.specs.declared.shapes.Shape.{Shape}
use Rattle.jr_job_options.specs.OptionValues.{flag_of, block_sizes, splits, is_colon, pattern_of, interval_of}
use Rattle.jr_job_options.specs.OptionWords.{meaning_of, keys}
use Rattle.jr_job_options.specs.Settings.{setting_of, keyed_setting, text_setting, form_setting, flag_setting, choice_setting, number_setting}
use Rattle.jr_job_options.specs.Shapes.{shape_of, shape_with, options_fit, cell_of, reads_of, writes_of}
use Rattle.jr_options.specs.PlanOf.{JobAsked, jobs_below}
use Rattle.jr_options.specs.Refusals.{counting_lines, line_fault, job_fault, joint_fault, jobs_fault, refusal_of, are_mixed, clones_in, is_far, is_long, work_in}
use Rattle.jr_options.specs.Surveys.{is_global, is_planned}
use Rattle.jr_job_notes.specs.Notes.{is_refused, line_number, refused_in, faulty_line}
use Rattle.jr_job_notes.specs.Laws.{AcceptedHaveNone, FirstIsNamed}

-- a fault, where there is one, names this line
abbrev NamesOwn : ℕ → Option JobFault → Type 0
NamesOwn n None = Unit {0}
NamesOwn n (Some f) = faulty_line f ≡ Some n

value_own : (n : ℕ) (o : Option Setting) → NamesOwn n (result_err (ok_or o (fault.BadValue n)))
value_own n None = refl
value_own n (Some s) = tt

split_own : (n : ℕ) (o : Option Setting) → NamesOwn n (result_err (ok_or o (fault.BadSplit n)))
split_own n None = refl
split_own n (Some s) = tt

name_own : (n : ℕ) (b : Bool) → NamesOwn n (result_err (cond b (Err (fault.SeveralFiles n)) (Ok setting.Nothing)))
name_own n true = refl
name_own n false = tt

form_own : (n : ℕ) (key : TextKey) (word : List ℕ) → NamesOwn n (result_err (form_setting key word n))
form_own n text.BlockSizes word = value_own n (option_map (λ v. setting.BlockSizes v.0 v.1) (block_sizes word))
form_own n text.Splits word = split_own n (option_map (λ v. setting.Splits v.0 v.1) (splits word))
form_own n text.Pattern word = value_own n (option_map (λ v. setting.Pattern v) (pattern_of word))
form_own n text.Interval word = value_own n (option_map (λ v. setting.Interval v) (interval_of word))
form_own n text.FileName word = name_own n (nat_lt (position_or_len is_colon word) (length word))
form_own n text.Directory word = name_own n (nat_lt (position_or_len is_colon word) (length word))
form_own n text.Description word = tt

empty_own : (n : ℕ) (key : TextKey) (word : List ℕ) (b : Bool) → NamesOwn n (result_err (cond b (Err (fault.BadValue n)) (form_setting key word n)))
empty_own n key word true = refl
empty_own n key word false = form_own n key word

text_own : (n : ℕ) (key : TextKey) (word : List ℕ) → NamesOwn n (result_err (text_setting key word n))
text_own n text.BlockSizes word = empty_own n text.BlockSizes word (length word == 0)
text_own n text.Splits word = empty_own n text.Splits word (length word == 0)
text_own n text.Pattern word = empty_own n text.Pattern word (length word == 0)
text_own n text.Interval word = empty_own n text.Interval word (length word == 0)
text_own n text.FileName word = empty_own n text.FileName word (length word == 0)
text_own n text.Directory word = empty_own n text.Directory word (length word == 0)
text_own n text.Description word = tt

keyed_own : (n : ℕ) (key : Option Key) (value : Option (List ℕ)) → NamesOwn n (result_err (keyed_setting key value n))
keyed_own n None value = refl
keyed_own n (Some (Flag key)) value = value_own n (option_map (flag_setting key) (flag_of value))
keyed_own n (Some (Choice key)) None = refl
keyed_own n (Some (Choice key)) (Some word) = value_own n (choice_setting key word)
keyed_own n (Some (Number key)) None = refl
keyed_own n (Some (Number key)) (Some word) = value_own n (number_setting key word)
keyed_own n (Some (Text key)) None = refl
keyed_own n (Some (Text key)) (Some word) = text_own n key word

line_own : (line : LineText) → NamesOwn line.line (line_fault line)
unfolding setting_of
line_own line = keyed_own line.line (meaning_of keys line.key) line.value

-- a fault, where there is one, names no line of its own
abbrev NamesNone : Option JobFault → Type 0
NamesNone None = Unit {0}
NamesNone (Some f) = faulty_line f ≡ None

cut_none : (line : ℕ) (shape : Shape) (a b : Bool) → NamesNone (result_err (cond a (Err (fault.BadBlock line)) (cond b (Err (fault.NoPattern line)) (Ok shape))))
cut_none line shape true b = refl
cut_none line shape false true = refl
cut_none line shape false false = tt

sized_none : (o : JobOptions) (line : ℕ) (size : Option ℕ) → NamesNone (result_err (shape_with o line size))
sized_none o line None = refl
sized_none o line (Some size) =
    let cell = cell_of o (reads_of o) (writes_of o) in
    cut_none line (record { size = size; cell = cell; cells = size / cell; reads = reads_of o; writes = writes_of o })
    (not (options_fit o cell (reads_of o) (writes_of o)) || (size / cell == 0)) (not (has_pattern o.kind o.pattern))

job_none : (job : JobAsked) → NamesNone (job_fault job)
unfolding shape_of
job_none job = sized_none job.options job.line job.options.size

or_none : (a b : Option JobFault) → NamesNone a → NamesNone b → NamesNone (option_or a b)
or_none None b first second = second
or_none (Some f) b first second = first

own_none : (jobs : List JobAsked) → NamesNone (first_given job_fault jobs)
own_none [] = tt
own_none (job ∷ jobs) = or_none (job_fault job) (first_given job_fault jobs) (job_none job) (own_none jobs)

joint_none : (a b c d e : Bool) → NamesNone (cond a (Some fault.MixedEngines) (cond b (Some (fault.Limit bound.Clones)) (cond c (Some (fault.Limit bound.Region)) (cond d (Some (fault.Limit bound.Cells)) (cond e (Some (fault.Limit bound.Work)) None)))))
joint_none true b c d e = refl
joint_none false true c d e = refl
joint_none false false true d e = refl
joint_none false false false true e = refl
joint_none false false false false true = refl
joint_none false false false false false = tt

jobs_none : (jobs : List JobAsked) → NamesNone (jobs_fault jobs)
jobs_none jobs =
    or_none (first_given job_fault jobs) (joint_fault jobs) (own_none jobs)
    (joint_none (are_mixed jobs) (nat_lt MOST_CLONES (sum_by clones_in jobs)) (list_any is_far jobs) (list_any is_long jobs) (nat_lt MOST_WORK (sum_by work_in jobs)))

-- the first of lines' faults is that of the first line that is refused
first_by : (own : Option JobFault) (line : LineText) (lines : List LineText) (f : JobFault) (n : ℕ) → NamesOwn line.line own → option_or own (first_given line_fault lines) ≡ Some f → faulty_line f ≡ Some n → (first_given line_fault lines ≡ Some f → slice_get (refused_in lines) 0 ≡ Some n) → slice_get (map line_number (cond (is_some own) (line ∷ filter is_refused lines) (filter is_refused lines))) 0 ≡ Some n
first_by None line lines f n mine is at later = later is
first_by (Some g) line lines f n mine is at later =
    let e : g ≡ f = cc in
    sym mine ∙ ap faulty_line e ∙ at

first_line : (lines : List LineText) (f : JobFault) (n : ℕ) → first_given line_fault lines ≡ Some f → faulty_line f ≡ Some n → slice_get (refused_in lines) 0 ≡ Some n
first_line [] f n is at = absurd (cc)
first_line (line ∷ lines) f n is at = first_by (line_fault line) line lines f n (line_own line) is at (λ h. first_line lines f n h at)

no_line : (f : JobFault) (n : ℕ) (g : Option JobFault) → NamesNone g → g ≡ Some f → faulty_line f ≡ Some n → ⊥
no_line f n None none is at = absurd (cc)
no_line f n (Some g) none is at =
    let e : g ≡ f = cc in
    let clash : ◌≡◌ {A = Option ℕ} None (Some n) = sym none ∙ ap faulty_line e ∙ at in
    absurd (cc)

either_line : (lines rest : Option JobFault) (f : JobFault) (n : ℕ) → NamesNone rest → option_or lines rest ≡ Some f → faulty_line f ≡ Some n → lines ≡ Some f
either_line None rest f n none is at = absurd (no_line f n rest none is at)
either_line (Some g) rest f n none is at = is

among : (a b : Bool) (lines rest : Option JobFault) (f : JobFault) (n : ℕ) → NamesNone rest → cond (not a) (Some fault.NoJob) (cond (not b) (Some fault.NoSection) (option_or lines rest)) ≡ Some f → faulty_line f ≡ Some n → lines ≡ Some f
among false b lines rest f n none is at = absurd (no_line f n (Some fault.NoJob) refl is at)
among true false lines rest f n none is at = absurd (no_line f n (Some fault.NoSection) refl is at)
among true true lines rest f n none is at = either_line lines rest f n none is at

pub first_named : FirstIsNamed
unfolding refusal_of
first_named sections only f n is at =
    let jobs = jobs_below only [] sections in
    let lines = counting_lines only sections in
    first_line lines f n
    (among (list_any (λ section. not (is_global section)) sections) (list_any (is_planned only) sections) (first_given line_fault lines) (jobs_fault jobs) f n (jobs_none jobs) is at)
    at

-- where there is no fault of a line, no line is refused
none_by : (own : Option JobFault) (line : LineText) (lines : List LineText) → option_or own (first_given line_fault lines) ≡ None → (first_given line_fault lines ≡ None → refused_in lines ≡ []) → map line_number (cond (is_some own) (line ∷ filter is_refused lines) (filter is_refused lines)) ≡ []
none_by None line lines is later = later is
none_by (Some f) line lines is later = absurd (cc)

none_line : (lines : List LineText) → first_given line_fault lines ≡ None → refused_in lines ≡ []
none_line [] is = refl
none_line (line ∷ lines) is = none_by (line_fault line) line lines is (none_line lines)

or_left : (lines rest : Option JobFault) → option_or lines rest ≡ None → lines ≡ None
or_left None rest is = refl
or_left (Some f) rest is = absurd (cc)

none_among : (a b : Bool) (lines rest : Option JobFault) → cond (not a) (Some fault.NoJob) (cond (not b) (Some fault.NoSection) (option_or lines rest)) ≡ None → lines ≡ None
none_among false b lines rest is = absurd (cc)
none_among true false lines rest is = absurd (cc)
none_among true true lines rest is = or_left lines rest is

pub none_refused : AcceptedHaveNone
unfolding refusal_of
none_refused sections only is =
    let lines = counting_lines only sections in
    none_line lines
    (none_among (list_any (λ section. not (is_global section)) sections) (list_any (is_planned only) sections) (first_given line_fault lines) (jobs_fault (jobs_below only [] sections)) is)
