-- Lines that are read one after another say what the last line of each key says.
use Rattle.std.proofs.Common.{◌≡◌, ℕ, Bool, true, false, cond, List, [], ◌∷◌, ◌++◌, reverse, Option, Some, None, Result, Ok, Err, ap, ◌∙◌, sym, subst, refl, codes, append_assoc, append-nil}
use Rattle.std.specs.List.{list_any, find, position_or_len}
use Rattle.std.specs.Option.{option_map}
use Rattle.std.specs.Prelude.{ok_or, nat_lt, ◌==◌, length, is_some}
use Rattle.std.specs.Cmp.Lexicographic.{bytes_decides}
use Rattle.std.proofs.lemmas.List.{reverse-append}
use Rattle.std.proofs.Math.Bool.{or-false}
use Rattle.jr_text.specs.Records.{LineText}
use Rattle.jr_job_options.specs.declared.faults.JobFault.{JobFault}
use Rattle.jr_job_options.specs.declared.faults.JobFault.TheVariants as fault
use Rattle.jr_job_options.specs.declared.keys.Key.{Key}
use Rattle.jr_job_options.specs.declared.keys.Key.TheVariants.{Choice, Number, Flag, Text}
use Rattle.jr_job_options.specs.declared.keys.ChoiceKey.{ChoiceKey}
use Rattle.jr_job_options.specs.declared.keys.ChoiceKey.TheVariants as choice
use Rattle.jr_job_options.specs.declared.keys.TextKey.{TextKey}
use Rattle.jr_job_options.specs.declared.keys.TextKey.TheVariants as text
use Rattle.jr_job_options.specs.declared.options.JobOptions.{JobOptions}
use Rattle.jr_job_options.specs.declared.settings.Setting.{Setting}
use Rattle.jr_job_options.specs.declared.settings.Setting.TheVariants as setting
use Rattle.jr_model.specs.declared.contents.VerifyKind.{VerifyKind}
use Rattle.jr_model.specs.declared.workloads.EngineKind.{EngineKind}
use Rattle.jr_model.specs.declared.workloads.IoType.{IoType}
use Rattle.jr_job_options.specs.OptionWords.{same_text, meaning_of, keys, io_types, engines, verify_kinds, submit_modes}
use Rattle.jr_job_options.specs.Options.{options_from, and_setting, with_setting, default_options}
use Rattle.jr_job_options.specs.Settings.{setting_of, setting_number_range, keyed_setting, valued_setting, choice_setting, number_made, flag_setting, text_setting, form_setting}
use Rattle.jr_job_options.specs.OptionValues.{flag_of, number_within, block_sizes, splits, is_colon, pattern_of, interval_of}
use Rattle.jr_job_options.specs.Lookups.{is_keyed, last_line, last_value, value_of, value_from, said, said_by, options_by, options_in}
use Rattle.jr_job_options.proofs.OptionLemmas.{fault_stays}

-- what holds of each entry of a table holds of what the table says of a word
abbrev EachEntry : (List ℕ → Key → Type 0) → List (List ℕ × Key) → Type 0
EachEntry P [] = Unit {0}
EachEntry P (entry ∷ entries) = P entry.0 entry.1 × EachEntry P entries

meant-step : (P : List ℕ → Key → Type 0) (w word : List ℕ) (k key : Key) (others : Option Key) (b : Bool) → same_text w word ≡ b → P w k → cond b (Some k) others ≡ Some key → (others ≡ Some key → P word key) → P word key
meant-step P w word k key others true same here is more =
    let e : k ≡ key = cc in
    subst (λ t. P t key) ((bytes_decides w word).0 same) (subst (λ x. P w x) e here)
meant-step P w word k key others false same here is more = more is

meant : (P : List ℕ → Key → Type 0) (entries : List (List ℕ × Key)) (word : List ℕ) (key : Key) → EachEntry P entries → meaning_of entries word ≡ Some key → P word key
meant P [] word key all is = absurd (cc)
meant P (entry ∷ entries) word key all is =
    meant-step P entry.0 word entry.1 key (meaning_of entries word) (same_text entry.0 word) refl all.0 is (λ h. meant P entries word key all.1 h)

-- the setting is of the kind that a key's lines make
abbrev IsOfKey : Key → Setting → Type 0
IsOfKey (Choice choice.IoType) s = (v : IoType) × (setting.IoType v ≡ s)
IsOfKey (Choice choice.Engine) s = (v : EngineKind) × (setting.Engine v ≡ s)
IsOfKey (Choice choice.Verify) s = (v : VerifyKind) × (setting.Verify v ≡ s)
IsOfKey (Choice choice.SubmitMode) s = setting.Nothing ≡ s
IsOfKey (Number key) s = (n : ℕ) × (number_made key n ≡ s)
IsOfKey (Flag key) s = (v : Bool) × (flag_setting key v ≡ s)
IsOfKey (Text text.BlockSizes) s = (v : ℕ × ℕ) × (setting.BlockSizes v.0 v.1 ≡ s)
IsOfKey (Text text.Splits) s = (v : Option (List (ℕ × ℕ)) × Option (List (ℕ × ℕ))) × (setting.Splits v.0 v.1 ≡ s)
IsOfKey (Text text.Pattern) s = (v : List ℕ) × (setting.Pattern v ≡ s)
IsOfKey (Text text.Interval) s = (v : ℕ) × (setting.Interval v ≡ s)
IsOfKey (Text text.FileName) s = setting.Nothing ≡ s
IsOfKey (Text text.Directory) s = setting.Nothing ≡ s
IsOfKey (Text text.Description) s = setting.Nothing ≡ s

made_of : {A : Type 0} (make : A → Setting) (v : Option A) (fault : JobFault) (s : Setting) → ok_or (option_map make v) fault ≡ Ok s → (x : A) × (make x ≡ s)
made_of make None fault s is = absurd (cc)
made_of make (Some x) fault s is = (x, cc)

tested : (b : Bool) (fault : JobFault) (s : Setting) → ok_or (cond b (Some setting.Nothing) None) fault ≡ Ok s → setting.Nothing ≡ s
tested true fault s is = cc
tested false fault s is = absurd (cc)

nothing_else : (s : Setting) (said : Result Setting JobFault) → said ≡ Ok setting.Nothing → said ≡ Ok s → setting.Nothing ≡ s
nothing_else s said here is = cc

named : (b : Bool) (line : ℕ) (s : Setting) → cond b (Err (fault.SeveralFiles line)) (Ok setting.Nothing) ≡ Ok s → setting.Nothing ≡ s
named true line s is = absurd (cc)
named false line s is = cc

filled : (b : Bool) (line : ℕ) (form : Result Setting JobFault) (s : Setting) → cond b (Err (fault.BadValue line)) form ≡ Ok s → form ≡ Ok s
filled true line form s is = absurd (cc)
filled false line form s is = is

choice_made : (key : ChoiceKey) (word : List ℕ) (fault : JobFault) (s : Setting) → ok_or (choice_setting key word) fault ≡ Ok s → IsOfKey (Choice key) s
choice_made choice.IoType word fault s is = made_of (λ v. setting.IoType v) (meaning_of io_types word) fault s is
choice_made choice.Engine word fault s is = made_of (λ v. setting.Engine v) (meaning_of engines word) fault s is
choice_made choice.Verify word fault s is = made_of (λ v. setting.Verify v) (meaning_of verify_kinds word) fault s is
choice_made choice.SubmitMode word fault s is = tested (is_some (meaning_of submit_modes word)) fault s is

form_made : (key : TextKey) (word : List ℕ) (line : ℕ) (s : Setting) → form_setting key word line ≡ Ok s → IsOfKey (Text key) s
form_made text.BlockSizes word line s is = made_of (λ v. setting.BlockSizes v.0 v.1) (block_sizes word) (fault.BadValue line) s is
form_made text.Splits word line s is = made_of (λ v. setting.Splits v.0 v.1) (splits word) (fault.BadSplit line) s is
form_made text.Pattern word line s is = made_of (λ v. setting.Pattern v) (pattern_of word) (fault.BadValue line) s is
form_made text.Interval word line s is = made_of (λ v. setting.Interval v) (interval_of word) (fault.BadValue line) s is
form_made text.FileName word line s is = named (nat_lt (position_or_len is_colon word) (length word)) line s is
form_made text.Directory word line s is = named (nat_lt (position_or_len is_colon word) (length word)) line s is
form_made text.Description word line s is = nothing_else s (Ok setting.Nothing) refl is

text_made : (key : TextKey) (word : List ℕ) (line : ℕ) (s : Setting) → text_setting key word line ≡ Ok s → IsOfKey (Text key) s
text_made text.Description word line s is = nothing_else s (Ok setting.Nothing) refl is
text_made text.BlockSizes word line s is = form_made text.BlockSizes word line s (filled (length word == 0) line (form_setting text.BlockSizes word line) s is)
text_made text.Splits word line s is = form_made text.Splits word line s (filled (length word == 0) line (form_setting text.Splits word line) s is)
text_made text.Pattern word line s is = form_made text.Pattern word line s (filled (length word == 0) line (form_setting text.Pattern word line) s is)
text_made text.Interval word line s is = form_made text.Interval word line s (filled (length word == 0) line (form_setting text.Interval word line) s is)
text_made text.FileName word line s is = form_made text.FileName word line s (filled (length word == 0) line (form_setting text.FileName word line) s is)
text_made text.Directory word line s is = form_made text.Directory word line s (filled (length word == 0) line (form_setting text.Directory word line) s is)

made : (key : Key) (value : Option (List ℕ)) (line : ℕ) (s : Setting) → valued_setting key value line ≡ Ok s → IsOfKey key s
made (Flag key) value line s is = made_of (flag_setting key) (flag_of value) (fault.BadValue line) s is
made (Choice key) None line s is = absurd (cc)
made (Choice key) (Some word) line s is = choice_made key word (fault.BadValue line) s is
made (Number key) None line s is = absurd (cc)
made (Number key) (Some word) line s is = made_of (number_made key) (number_within (setting_number_range key).0 (setting_number_range key).1 word) (fault.BadValue line) s is
made (Text key) None line s is = absurd (cc)
made (Text key) (Some word) line s is = text_made key word line s is

-- what counts once a line of this key says this too
abbrev and_said : List ℕ → Setting → (List (List ℕ) → Setting) → List (List ℕ) → Setting
and_said word s saying words = cond (list_any (same_text word) words) s (saying words)

-- a key's line changes its own option alone
abbrev Counts : (List (List ℕ) → Setting) → List ℕ → Setting → Type 0
Counts saying word s = with_setting (options_by saying) s ≡ options_by (and_said word s saying)

abbrev EntryCounts : List ℕ → Key → Type 0
EntryCounts word key = (saying : List (List ℕ) → Setting) (s : Setting) → IsOfKey key s → Counts saying word s

each_entry : EachEntry EntryCounts keys
each_entry = (
  λ saying s m. subst (Counts saying (codes "rw")) m.1 refl,
  (
    λ saying s m. subst (Counts saying (codes "readwrite")) m.1 refl,
    (
      λ saying s m. subst (Counts saying (codes "rwmixread")) m.1 refl,
      (
        λ saying s m. subst (Counts saying (codes "rwmixwrite")) m.1 refl,
        (
          λ saying s m. subst (Counts saying (codes "bs")) m.1 refl,
          (
            λ saying s m. subst (Counts saying (codes "blocksize")) m.1 refl,
            (
              λ saying s m. subst (Counts saying (codes "bssplit")) m.1 refl,
              (
                λ saying s m. subst (Counts saying (codes "size")) m.1 refl,
                (
                  λ saying s m. subst (Counts saying (codes "offset")) m.1 refl,
                  (
                    λ saying s m. subst (Counts saying (codes "offset_increment")) m.1 refl,
                    (
                      λ saying s m. subst (Counts saying (codes "numjobs")) m.1 refl,
                      (
                        λ saying s m. subst (Counts saying (codes "loops")) m.1 refl,
                        (
                          λ saying s m. subst (Counts saying (codes "iodepth")) m.1 refl,
                          (
                            λ saying s m. subst (Counts saying (codes "norandommap")) m.1 refl,
                            (
                              λ saying s m. subst (Counts saying (codes "randseed")) m.1 refl,
                              (
                                λ saying s m. subst (Counts saying (codes "filename")) m refl,
                                (
                                  λ saying s m. subst (Counts saying (codes "directory")) m refl,
                                  (
                                    λ saying s m. subst (Counts saying (codes "stonewall")) m.1 refl,
                                    (
                                      λ saying s m. subst (Counts saying (codes "wait_for_previous")) m.1 refl,
                                      (
                                        λ saying s m. subst (Counts saying (codes "serialize_overlap")) m.1 refl,
                                        (
                                          λ saying s m. subst (Counts saying (codes "ioengine")) m.1 refl,
                                          (
                                            λ saying s m. subst (Counts saying (codes "verify")) m.1 refl,
                                            (
                                              λ saying s m. subst (Counts saying (codes "verify_pattern")) m.1 refl,
                                              (
                                                λ saying s m. subst (Counts saying (codes "verify_interval")) m.1 refl,
                                                (
                                                  λ saying s m. subst (Counts saying (codes "verify_backlog")) m.1 refl,
                                                  (
                                                    λ saying s m. subst (Counts saying (codes "verify_async")) m.1 refl,
                                                    (
                                                      λ saying s m. subst (Counts saying (codes "verify_fatal")) m.1 refl,
                                                      (
                                                        λ saying s m. subst (Counts saying (codes "do_verify")) m.1 refl,
                                                        (
                                                          λ saying s m. subst (Counts saying (codes "direct")) m.1 refl,
                                                          (
                                                            λ saying s m. subst (Counts saying (codes "buffered")) m.1 refl,
                                                            (
                                                              λ saying s m. subst (Counts saying (codes "thread")) m.1 refl,
                                                              (
                                                                λ saying s m. subst (Counts saying (codes "invalidate")) m.1 refl,
                                                                (
                                                                  λ saying s m. subst (Counts saying (codes "randrepeat")) m.1 refl,
                                                                  (
                                                                    λ saying s m. subst (Counts saying (codes "group_reporting")) m.1 refl,
                                                                    (
                                                                      λ saying s m. subst (Counts saying (codes "io_submit_mode")) m refl,
                                                                      (
                                                                        λ saying s m. subst (Counts saying (codes "description")) m refl,
                                                                        tt,
                                                                      ),
                                                                    ),
                                                                  ),
                                                                ),
                                                              ),
                                                            ),
                                                          ),
                                                        ),
                                                      ),
                                                    ),
                                                  ),
                                                ),
                                              ),
                                            ),
                                          ),
                                        ),
                                      ),
                                    ),
                                  ),
                                ),
                              ),
                            ),
                          ),
                        ),
                      ),
                    ),
                  ),
                ),
              ),
            ),
          ),
        ),
      ),
    ),
  ),
)

-- one line more, after others
said-more : (words : List (List ℕ)) (lines : List LineText) (line : LineText) (s : Setting) → setting_of line ≡ Ok s → said_by (last_line words (lines ++ line ∷ [])) ≡ and_said line.key s (λ ws. said_by (last_line ws lines)) words
said-more words lines line s is =
    ap (λ ls. said_by (find (is_keyed words) ls)) (reverse-append lines (line ∷ []))
    ∙ by (is_keyed words line)
  where
    by : (b : Bool) → said_by (cond b (Some line) (find (is_keyed words) (reverse lines))) ≡ cond b s (said_by (find (is_keyed words) (reverse lines)))
    by true = ap said is
    by false = refl

keyed : (line : LineText) (key : Option Key) (s : Setting) → meaning_of keys line.key ≡ key → keyed_setting key line.value line.line ≡ Ok s → (saying : List (List ℕ) → Setting) → Counts saying line.key s
keyed line None s meaning is saying = absurd (cc)
keyed line (Some key) s meaning is saying = meant EntryCounts keys line.key key each_entry meaning saying s (made key line.value line.line s is)

options_in-more : (lines : List LineText) (line : LineText) (s : Setting) → setting_of line ≡ Ok s → with_setting (options_in lines) s ≡ options_in (lines ++ line ∷ [])
unfolding setting_of
options_in-more lines line s is =
    let same : and_said line.key s (λ ws. said_by (last_line ws lines)) ≡ (λ words. said_by (last_line words (lines ++ line ∷ []))) = λ i. λ words. sym (said-more words lines line s is) i in
    keyed line (meaning_of keys line.key) s refl is (λ ws. said_by (last_line ws lines)) ∙ ap options_by same

read-on : (done lines : List LineText) (o : JobOptions) → options_from (Ok (options_in done)) lines ≡ Ok o → o ≡ options_in (done ++ lines)
read-on done [] o is = let e : options_in done ≡ o = cc in sym e ∙ ap options_in (sym (append-nil done))
read-on done (line ∷ lines) o is = by (setting_of line) refl is (λ h. read-on (done ++ line ∷ []) lines o h)
  where
    by : (said : Result Setting JobFault) → setting_of line ≡ said → options_from (and_setting (options_in done) said) lines ≡ Ok o → (options_from (Ok (options_in (done ++ line ∷ []))) lines ≡ Ok o → o ≡ options_in ((done ++ line ∷ []) ++ lines)) → o ≡ options_in (done ++ line ∷ lines)
    by (Err fault) says is more = absurd (let e : Err fault ≡ Ok o = sym (fault_stays fault lines) ∙ is in cc)
    by (Ok s) says is more =
        more (ap (λ x. options_from (Ok x) lines) (sym (options_in-more done line s says)) ∙ is)
        ∙ ap options_in (append_assoc done (line ∷ []) lines)

-- where no line is faulty, each option is what the last line of its keys says
pub options_read : (lines : List LineText) (o : JobOptions) → options_from (Ok default_options) lines ≡ Ok o → o ≡ options_in lines
options_read lines o is = read-on [] lines o is

-- the value of a line, or the one found before where there is no line
value_or : Option (List ℕ) → Option LineText → Option (List ℕ)
value_or found None = found
value_or found (Some line) = line.value

find-last : (found : Option (List ℕ)) (test : LineText → Bool) (lines : List LineText) (line : LineText) → value_or found (find test (lines ++ line ∷ [])) ≡ value_or (cond (test line) line.value found) (find test lines)
unfolding value_or
find-last found test [] line = by (test line)
  where
    by : (b : Bool) → value_or found (cond b (Some line) None) ≡ cond b line.value found
    by true = refl
    by false = refl
find-last found test (other ∷ lines) line = by (test other) (find-last found test lines line)
  where
    by : (b : Bool) → value_or found (find test (lines ++ line ∷ [])) ≡ value_or (cond (test line) line.value found) (find test lines) → value_or found (cond b (Some other) (find test (lines ++ line ∷ []))) ≡ value_or (cond (test line) line.value found) (cond b (Some other) (find test lines))
    by true same = refl
    by false same = same

value_from-last : (found : Option (List ℕ)) (word : List ℕ) (lines : List LineText) → value_from found word lines ≡ value_or found (last_line (word ∷ []) lines)
unfolding value_or
value_from-last found word [] = refl
value_from-last found word (line ∷ lines) =
    value_from-last (cond (same_text line.key word) line.value found) word lines
    ∙ ap (λ b. value_or (cond b line.value found) (last_line (word ∷ []) lines)) (sym (or-false (same_text line.key word)))
    ∙ sym (ap (λ ls. value_or found (find (is_keyed (word ∷ [])) ls)) (reverse-append (line ∷ []) lines) ∙ find-last found (is_keyed (word ∷ [])) (reverse lines) line)

value_or-none : (line : Option LineText) → value_or None line ≡ value_of line
unfolding value_or
value_or-none None = refl
value_or-none (Some line) = refl

-- line after line the last one counts
pub value_from-none : (word : List ℕ) (lines : List LineText) → value_from None word lines ≡ last_value word lines
value_from-none word lines = value_from-last None word lines ∙ value_or-none (last_line (word ∷ []) lines)

pub value_from-append : (found : Option (List ℕ)) (word : List ℕ) (a b : List LineText) → value_from found word (a ++ b) ≡ value_from (value_from found word a) word b
value_from-append found word [] b = refl
value_from-append found word (line ∷ a) b = value_from-append (cond (same_text line.key word) line.value found) word a b
