-- What has been looked at is what is promised of an adapted text.
use Rattle.std.proofs.Common.{◌≡◌, ℕ, true, List, [], ◌∷◌, map, Option, Some, None, Result, Ok, Err, refl, ap, ◌∙◌, sym}
use Rattle.std.specs.Prelude.{IfErr, IfSome, is_ok, slice_get, string_bytes, unwrap_or}
use Rattle.std.specs.Result.{result_ok}
use Rattle.jr_text.specs.JobText.{sections_of}
use Rattle.jr_text.specs.Records.{SectionText}
use Rattle.jr_text.specs.declared.faults.TextFault.{TextFault}
use Rattle.jr_job_adapt.specs.declared.faults.AdaptFault.{AdaptFault}
use Rattle.jr_job_adapt.specs.declared.faults.AdaptFault.TheVariants.{Text}
use Rattle.jr_job_options.specs.Options.{default_options}
use Rattle.jr_job_options.specs.declared.faults.JobFault.{JobFault}
use Rattle.jr_job_options.specs.declared.faults.JobFault.TheVariants.{Memory}
use Rattle.jr_options.specs.Refusals.{refusal_of}
use Rattle.jr_job_notes.specs.Laws.{FirstIsNamed}
use Rattle.jr_job_notes.specs.Notes.{faulty_line, noted, refused_lines, sections_noted}
use Rattle.jr_job_notes.specs.declared.notes.Note.{Note}
use Rattle.jr_job_adapt.specs.declared.adapting.Adapted.{Adapted}
use Rattle.jr_job_adapt.specs.Adapted.{IsAdapted, IsOfWhole, said}
use Rattle.jr_job_adapt.specs.Causes.{are_caused}
use Rattle.jr_job_adapt.specs.Following.{are_followed}
use Rattle.jr_job_adapt.specs.Keeping.{are_kept, lines_in, marks_from}

-- where there are no notes, no line is refused
no_numbers : (ns : List ℕ) → map (λ (n : ℕ). Some n) ns ≡ [] → ns ≡ []
no_numbers [] is = refl
no_numbers (n ∷ ns) is = absurd (cc)

pub none_refused : (sections : List SectionText) (notes : List Note) → noted notes ≡ sections_noted None sections → notes ≡ [] → refused_lines None sections ≡ []
none_refused sections notes is none = no_numbers (refused_lines None sections) (sym is ∙ ap noted none)

-- a plan has no fault, and what refuses one is its fault
pub no_fault : {A : Type 0} (o : Option JobFault) (r : Result A JobFault) (x : A) → IfSome o (λ fault. r ≡ Err fault) → r ≡ Ok x → None ≡ o
no_fault None r x refused is = refl
no_fault (Some f) r x refused is = absurd (cc)

err_by : {A : Type 0} (r : Result A JobFault) (fault : JobFault) → IfErr r (λ f. f ≡ Memory) → r ≡ Err fault → fault ≡ Memory
err_by (Ok x) fault h is = absurd (cc)
err_by (Err e) fault h is = cc

pub the_fault : {A : Type 0} (o : Option JobFault) (r : Result A JobFault) (fault : JobFault) → IfSome o (λ f. r ≡ Err f) → (o ≡ None → IfErr r (λ f. f ≡ Memory)) → r ≡ Err fault → (fault ≡ Memory → ⊥) → Some fault ≡ o
the_fault None r fault refused memory is other = absurd (other (err_by r fault (memory refl) is))
the_fault (Some f) r fault refused memory is other = cc

-- where no line is refused, what is wrong is of the whole
none_of : (o : Option ℕ) → ((n : ℕ) → o ≡ Some n → ⊥) → o ≡ None
none_of None f = refl
none_of (Some n) f = absurd (f n refl)

no_line : (lines : List ℕ) (n : ℕ) → lines ≡ [] → slice_get lines 0 ≡ Some n → ⊥
no_line [] n none first = cc
no_line (m ∷ ms) n none first = cc

whole_by : (sections : List SectionText) (rest : Option JobFault) → refusal_of sections None ≡ rest → refused_lines None sections ≡ [] → FirstIsNamed → IsOfWhole rest
whole_by sections None is none law = tt
whole_by sections (Some fault) is none law =
    none_of (faulty_line fault) (λ n at. no_line (refused_lines None sections) n none (law sections None fault n is at))

pub adapted_is : (text : List ℕ) (to : Adapted) (before after : List SectionText) → sections_of text ≡ Ok before → sections_of (string_bytes to.text) ≡ Ok after → are_kept 1 (marks_from to.outs.items 0 before) (lines_in text) (lines_in (string_bytes to.text)) ≡ true → are_followed to.outs.items 0 before after ≡ true → are_caused to.outs.items 0 (Ok default_options) before ≡ true → refused_lines None after ≡ [] → to.rest ≡ refusal_of after None → FirstIsNamed → (refusal_of before None ≡ None → string_bytes to.text ≡ text) → IsAdapted text to
adapted_is text to before after is_before is_after kept followed caused taken rest law same =
    let made = string_bytes to.text in
    let outs = to.outs.items in
    let was : said text ≡ before = ap (λ r. unwrap_or (result_ok r) []) is_before in
    let now : said made ≡ after = ap (λ r. unwrap_or (result_ok r) []) is_after in record {
      read = ap is_ok is_after;
      kept = ap (λ ss. are_kept 1 (marks_from outs 0 ss) (lines_in text) (lines_in made)) was ∙ kept;
      followed = ap (λ ss. are_followed outs 0 ss (said made)) was ∙ ap (λ ss. are_followed outs 0 before ss) now ∙ followed;
      caused = ap (λ ss. are_caused outs 0 (Ok default_options) ss) was ∙ caused;
      taken = ap (refused_lines None) now ∙ taken;
      rest = rest ∙ ap (λ ss. refusal_of ss None) (sym now);
      whole = whole_by after to.rest (sym rest) taken law;
      same = λ none. same (ap (λ ss. refusal_of ss None) (sym was) ∙ none);
    }

-- a text that is read isn't refused, and one that isn't is refused by its fault
pub not_refused : {A : Type 0} (x : A) (o : Option TextFault) (P : TextFault → Type 0) → IfSome o (λ f. Ok x ≡ Err f) → IfSome o P
not_refused x None P h = tt
not_refused x (Some f) P h = absurd (cc)

pub refused_so : (A : Type 0) (fault : TextFault) (o : Option TextFault) → IfSome o (λ f. ◌≡◌ {A = Result A TextFault} (Err fault) (Err f)) → IfSome o (λ f. ◌≡◌ {A = Result Adapted AdaptFault} (Err (Text fault)) (Err (Text f)))
refused_so A fault None h = tt
refused_so A fault (Some f) h = let same : fault ≡ f = cc in ap (λ x. Err (Text x)) same
