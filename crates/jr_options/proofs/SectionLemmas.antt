-- A fault in a section is that of all sections.
use Rattle.std.proofs.Common.{◌≡◌, ℕ, ◌+◌, ◌<◌, List, [], ◌∷◌, length, drop, slice_index_or, Option, Ok, Err, ap, ◌∙◌, sym, refl}
use Rattle.std.proofs.lemmas.List.{at_drop_more}
use Rattle.jr_text.specs.Records.{SectionText}
use Rattle.jr_job_options.specs.declared.faults.JobFault.{JobFault}
use Rattle.jr_options.specs.declared.surveys.Survey.{Survey}
use Rattle.jr_options.specs.Surveys.{survey_from, with_section}

pub survey_stays : (only : Option (List ℕ)) (fault : JobFault) (sections : List SectionText) → survey_from only (Err fault) sections ≡ Err fault
survey_stays only fault [] = refl
survey_stays only fault (section ∷ sections) = survey_stays only fault sections

pub survey_refused : (only : Option (List ℕ)) (s : Survey) (fault : JobFault) (sections : List SectionText) (i : ℕ) (section : SectionText) → i < length sections → section ≡ slice_index_or sections i section → with_section only s section ≡ Err fault → survey_from only (Ok s) (drop i sections) ≡ Err fault
survey_refused only s fault sections i section within here is =
    at_drop_more (λ rest. survey_from only (Ok s) rest) sections i section within
    ∙ ap (λ x. survey_from only (with_section only s x) (drop (i + 1) sections)) (sym here)
    ∙ ap (λ r. survey_from only r (drop (i + 1) sections)) is
    ∙ survey_stays only fault (drop (i + 1) sections)
