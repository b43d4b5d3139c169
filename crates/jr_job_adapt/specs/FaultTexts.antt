-- Believed: what the faults print.
use Rattle.std.specs.Prelude.{ℕ, List, codes}
use Rattle.jr_text.specs.FaultTexts.{text_fault_text}
use Rattle.jr_job_adapt.specs.declared.faults.AdaptFault.{AdaptFault}
use Rattle.jr_job_adapt.specs.declared.faults.AdaptFault.TheVariants as fault

abbrev pub adapt_fault_text : AdaptFault → List ℕ
adapt_fault_text (fault.Text text) = text_fault_text text
adapt_fault_text fault.Unread = codes "cannot adapt: no job file came out"
adapt_fault_text fault.Lost = codes "cannot adapt: a line was lost"
adapt_fault_text fault.Unfollowed = codes "cannot adapt: a section was changed"
adapt_fault_text fault.Uncaused = codes "cannot adapt: a job was left out"
adapt_fault_text fault.Refused = codes "cannot adapt: a line is still refused"
adapt_fault_text fault.Memory = codes "out of memory"
