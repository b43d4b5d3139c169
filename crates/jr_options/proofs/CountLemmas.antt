-- What counts below sections: the options and the names of files that the global lines among them give.
use Rattle.std.proofs.Common.{◌≡◌, ℕ, Bool, true, false, not, ◌&&◌, cond, List, [], ◌∷◌, ◌++◌, Option, None, Result, Ok, Err, ap, ◌∙◌, sym, refl, codes}
use Rattle.jr_text.specs.Records.{SectionText}
use Rattle.jr_job_options.specs.declared.faults.JobFault.{JobFault}
use Rattle.jr_job_options.specs.declared.options.JobOptions.{JobOptions}
use Rattle.jr_job_options.specs.Lookups.{last_value, value_from}
use Rattle.jr_job_options.specs.Options.{default_options, options_from}
use Rattle.jr_job_options.proofs.LookupLemmas.{value_from-append, value_from-none}
use Rattle.jr_job_options.proofs.OptionLemmas.{options_from-append, fault_stays}
use Rattle.jr_options.specs.declared.surveys.Survey.{Survey}
use Rattle.jr_options.specs.declared.tallies.Tally.{Tally}
use Rattle.jr_options.specs.Jobs.{global_lines, effective_lines, options_of}
use Rattle.jr_options.specs.Surveys.{and_job, first_survey, is_global, is_named, survey_from, tally_in}
use Rattle.jr_options.proofs.SectionLemmas.{survey_stays}
use Rattle.jr_options.proofs.SurveyLemmas.{after, global_lines-more}

-- what counts, and no global line that is left is faulty
pub record Counts (above rest : List SectionText) (globals : JobOptions) (file directory : Option (List ℕ)) : Type 0 where
  pub options : options_from (Ok default_options) (global_lines above) ≡ Ok globals
  pub last : JobOptions
  pub read : options_from (Ok globals) (global_lines rest) ≡ Ok last
  pub file_is : value_from None (codes "filename") (global_lines above) ≡ file
  pub directory_is : value_from None (codes "directory") (global_lines above) ≡ directory

-- a survey without a fault has read all global lines
globals-step : (only : Option (List ℕ)) (rest : List SectionText) (section : SectionText) (s end : Survey) (g n : Bool) (read : Result JobOptions JobFault) → options_from (Ok s.globals) section.lines ≡ read → survey_from only (cond (not g && not (not g && n)) (Ok s) (after g s section read)) rest ≡ Ok end → ((next : Survey) → survey_from only (Ok next) rest ≡ Ok end → options_from (Ok next.globals) (global_lines rest) ≡ Ok end.globals) → options_from (Ok s.globals) (cond g section.lines [] ++ global_lines rest) ≡ Ok end.globals
unfolding after
globals-step only rest section s end true n (Err f) says is later =
    absurd (let e : Err f ≡ Ok end = sym (survey_stays only f rest) ∙ is in cc)
globals-step only rest section s end true n (Ok o) says is later =
    options_from-append (Ok s.globals) section.lines (global_lines rest)
    ∙ ap (λ r. options_from r (global_lines rest)) says
    ∙ later (record s { globals = o }) is
globals-step only rest section s end false false read says is later = later s is
globals-step only rest section s end false true (Err f) says is later =
    absurd (let e : Err f ≡ Ok end = sym (survey_stays only f rest) ∙ is in cc)
globals-step only rest section s end false true (Ok o) says is later =
    later (record s { tally = and_job s.tally o section.line }) is

globals-from : (only : Option (List ℕ)) (rest : List SectionText) (s end : Survey) → survey_from only (Ok s) rest ≡ Ok end → options_from (Ok s.globals) (global_lines rest) ≡ Ok end.globals
unfolding after
globals-from only [] s end is = let e : s ≡ end = cc in ap (λ (x : Survey). Ok x.globals) e
globals-from only (section ∷ rest) s end is =
    globals-step only rest section s end (is_global section) (is_named only section) (options_from (Ok s.globals) section.lines) refl is
    (λ next i. globals-from only rest next end i)

first : (only : Option (List ℕ)) (sections : List SectionText) (tally : Tally) (read : Result Survey JobFault) → survey_from only (Ok first_survey) sections ≡ read → tally_in read ≡ Ok tally → Counts [] sections default_options None None
first only sections tally (Err f) says is = absurd (cc)
first only sections tally (Ok end) says is = record {
  options = refl;
  last = end.globals;
  read = globals-from only sections first_survey end says;
  file_is = refl;
  directory_is = refl;
}

pub counts-first : (only : Option (List ℕ)) (sections : List SectionText) (tally : Tally) → tally_in (survey_from only (Ok first_survey) sections) ≡ Ok tally → Counts [] sections default_options None None
counts-first only sections tally is = first only sections tally (survey_from only (Ok first_survey) sections) refl is

module _ (above rest : List SectionText) (section : SectionText) (globals : JobOptions) (file directory : Option (List ℕ)) (h : Counts above (section ∷ rest) globals file directory) where
  -- the options below one more section, and the values of a key
  options_more : (b : Bool) → is_global section ≡ b → options_from (Ok default_options) (global_lines (above ++ section ∷ [])) ≡ options_from (Ok globals) (cond b section.lines [])
  options_more b is =
      ap (options_from (Ok default_options)) (global_lines-more above section)
      ∙ options_from-append (Ok default_options) (global_lines above) (cond (is_global section) section.lines [])
      ∙ ap (λ r. options_from r (cond (is_global section) section.lines [])) h.options
      ∙ ap (λ x. options_from (Ok globals) (cond x section.lines [])) is

  value_more : (b : Bool) (key : List ℕ) (found : Option (List ℕ)) → is_global section ≡ b → value_from None key (global_lines above) ≡ found → value_from None key (global_lines (above ++ section ∷ [])) ≡ value_from found key (cond b section.lines [])
  value_more b key found is here =
      ap (value_from None key) (global_lines-more above section)
      ∙ value_from-append None key (global_lines above) (cond (is_global section) section.lines [])
      ∙ ap (λ v. value_from v key (cond (is_global section) section.lines [])) here
      ∙ ap (λ x. value_from found key (cond x section.lines [])) is

  left_more : (b : Bool) → is_global section ≡ b → options_from (options_from (Ok globals) (cond b section.lines [])) (global_lines rest) ≡ Ok h.last
  left_more b is =
      sym (options_from-append (Ok globals) (cond b section.lines []) (global_lines rest))
      ∙ sym (ap (λ x. options_from (Ok globals) (cond x section.lines [] ++ global_lines rest)) is)
      ∙ h.read

  -- a global section's lines count below it
  pub counts-global : (o : JobOptions) → is_global section ≡ true → options_from (Ok globals) section.lines ≡ Ok o → Counts (above ++ section ∷ []) rest o (value_from file (codes "filename") section.lines) (value_from directory (codes "directory") section.lines)
  counts-global o g read = record {
    options = options_more true g ∙ read;
    last = h.last;
    read = sym (ap (λ r. options_from r (global_lines rest)) read) ∙ left_more true g;
    file_is = value_more true (codes "filename") file g h.file_is;
    directory_is = value_more true (codes "directory") directory g h.directory_is;
  }

  -- another's don't
  pub counts-other : is_global section ≡ false → Counts (above ++ section ∷ []) rest globals file directory
  counts-other g = record {
    options = options_more false g;
    last = h.last;
    read = left_more false g;
    file_is = value_more false (codes "filename") file g h.file_is;
    directory_is = value_more false (codes "directory") directory g h.directory_is;
  }

  -- no line of a global section is faulty
  pub counts-read : (f : JobFault) → is_global section ≡ true → options_from (Ok globals) section.lines ≡ Err f → ⊥
  counts-read f g read =
      let e : Err f ≡ Ok h.last = sym (fault_stays f (global_lines rest)) ∙ sym (ap (λ r. options_from r (global_lines rest)) read) ∙ left_more true g in
      cc

  -- the options of a job there, and the names of its files
  pub counts-options : options_of above section ≡ options_from (Ok globals) section.lines
  counts-options =
      options_from-append (Ok default_options) (global_lines above) section.lines
      ∙ ap (λ r. options_from r section.lines) h.options

  value_there : (key : List ℕ) (found : Option (List ℕ)) → value_from None key (global_lines above) ≡ found → value_from found key section.lines ≡ last_value key (effective_lines above section)
  value_there key found here =
      ap (λ v. value_from v key section.lines) (sym here)
      ∙ sym (value_from-append None key (global_lines above) section.lines)
      ∙ value_from-none key (effective_lines above section)

  pub counts-file : value_from file (codes "filename") section.lines ≡ last_value (codes "filename") (effective_lines above section)
  counts-file = value_there (codes "filename") file h.file_is

  pub counts-directory : value_from directory (codes "directory") section.lines ≡ last_value (codes "directory") (effective_lines above section)
  counts-directory = value_there (codes "directory") directory h.directory_is
