-- Believed: what holds of an adapted job file.
use Rattle.std.specs.Prelude.{◌≡◌, ◌||◌, ℕ, Bool, true, List, [], Option, Some, None, unwrap_or, Ok, is_ok, is_some, string_bytes}
use Rattle.std.specs.List.{list_any}
use Rattle.std.specs.Result.{result_ok}
use Rattle.jr_text.specs.JobText.{sections_of}
use Rattle.jr_text.specs.Records.{SectionText}
use Rattle.jr_options.specs.Refusals.{refusal_of}
use Rattle.jr_job_options.specs.declared.faults.JobFault.{JobFault}
use Rattle.jr_job_notes.specs.Notes.{faulty_line, refused_lines}
use Rattle.jr_job_adapt.specs.declared.adapting.Adapted.{Adapted}
use Rattle.jr_job_options.specs.Options.{default_options}
use Rattle.jr_job_adapt.specs.Causes.{are_caused}
use Rattle.jr_job_adapt.specs.Following.{are_followed}
use Rattle.jr_job_adapt.specs.Keeping.{are_kept, lines_in, marks_from}

-- the sections of a text; none of one that has none that can be read
abbrev pub said : List ℕ → List SectionText
said text = unwrap_or (result_ok (sections_of text)) []

-- a fault is of no line by itself
abbrev pub IsOfWhole : Option JobFault → Type 0
IsOfWhole None = Unit {0}
IsOfWhole (Some fault) = faulty_line fault ≡ None

-- what a job text may be adapted to: a job text too
pub record IsAdapted (text : List ℕ) (to : Adapted) : Type 0 where
  pub read : is_ok (sections_of (string_bytes to.text)) ≡ true
  -- each of its lines stands in it, as it is where it is taken, else as a comment
  pub kept : are_kept 1 (marks_from to.outs.items 0 (said text)) (lines_in text) (lines_in (string_bytes to.text)) ≡ true
  -- its sections are there but for those that are left out, and none loses its verify
  pub followed : are_followed to.outs.items 0 (said text) (said (string_bytes to.text)) ≡ true
  -- a job is left out only where it makes none as it is
  pub caused : are_caused to.outs.items 0 (Ok default_options) (said text) ≡ true
  -- no line of it is refused by itself, and what is wrong with it otherwise is named
  pub taken : refused_lines None (said (string_bytes to.text)) ≡ []
  pub rest : to.rest ≡ refusal_of (said (string_bytes to.text)) None
  pub whole : IsOfWhole to.rest
  -- one that makes a plan comes back as it is
  pub same : refusal_of (said text) None ≡ None → string_bytes to.text ≡ text

-- a person has to decide something: a section is left out, or the text makes no plan
abbrev pub is_open : Adapted → Bool
is_open to = list_any (λ out. out) to.outs.items || is_some to.rest
