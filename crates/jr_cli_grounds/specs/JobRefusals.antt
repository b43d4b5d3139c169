-- Believed: the plan of a job text, or why it makes none.
use Rattle.std.specs.Prelude.{◌≡◌, ◌⊎◌, ℕ, List, Option, Some, option_map, Result, Ok, Err}
use Rattle.jr_text.specs.Records.{SectionText}
use Rattle.jr_text.specs.JobText.{sections_of}
use Rattle.jr_text.specs.declared.faults.TextFault.{TextFault}
use Rattle.jr_text.specs.declared.faults.TextFault.TheVariants as text
use Rattle.jr_model.specs.Plan.{Plan}
use Rattle.jr_options.specs.PlanOf.{plan_of}
use Rattle.jr_options.specs.Refusals.{refusal_of}
use Rattle.jr_job_options.specs.declared.faults.JobFault.TheVariants as job
use Rattle.jr_cli_words.specs.declared.faults.CliFault.{CliFault}
use Rattle.jr_cli_words.specs.declared.faults.CliFault.TheVariants as fault

-- the text's first fault, or else the first of its sections
abbrev pub sections_refusal : Result (List SectionText) TextFault → Option (List ℕ) → Option CliFault
sections_refusal (Err f) only = Some (fault.Text f)
sections_refusal (Ok sections) only = option_map (λ f. fault.Job f) (refusal_of sections only)

-- why a job text makes no plan of the jobs of this name, or of all; want of memory aside
abbrev pub job_refusal : List ℕ → Option (List ℕ) → Option CliFault
job_refusal bytes only = sections_refusal (sections_of bytes) only

-- refused by this fault; before one of the sections stands only want of memory for them
abbrev pub IsRefusedBy : {P : Type 0} → Result P CliFault → CliFault → Type 0
IsRefusedBy result (fault.Text f) = result ≡ Err (fault.Text f)
IsRefusedBy result f = (result ≡ Err f) ⊎ (result ≡ Err (fault.Text text.Memory))

-- want of memory, while the text was read or while it was planned
abbrev pub IsWantOfMemory : CliFault → Type 0
IsWantOfMemory f = (f ≡ fault.Text text.Memory) ⊎ (f ≡ fault.Job job.Memory)

-- the plan that the sections of the text ask for
abbrev pub IsPlanOfSections : Plan → Result (List SectionText) TextFault → Option (List ℕ) → Type 0
IsPlanOfSections plan (Err f) only = ⊥
IsPlanOfSections plan (Ok sections) only = plan ≡ plan_of sections only

abbrev pub IsPlanOf : Plan → List ℕ → Option (List ℕ) → Type 0
IsPlanOf plan bytes only = IsPlanOfSections plan (sections_of bytes) only
