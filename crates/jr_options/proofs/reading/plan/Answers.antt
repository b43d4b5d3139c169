use Rattle.std.proofs.Common.{◌≡◌, true, false, not, Ok, Err, ◌∙◌, sym}
use Rattle.std.specs.List.{list_any}
use Rattle.std.specs.Option.{option_copied}
use Rattle.jr_job_options.specs.declared.faults.JobFault.TheVariants as fault
use Rattle.jr_options.specs.Refusals.{refusal_of}
use Rattle.jr_options.specs.Surveys.{is_global, is_planned}
use Rattle.jr_options.proofs.RefusalLemmas.{no_job, no_section, passed, same_fault, never_memory, none_refused}
use Rattle.jr_options.proofs.reading.plan.Goals as goal

pub returns-then-not-has_job-clause-refused : goal.returns-then-not-has_job-clause-refused
returns-then-not-has_job-clause-refused c =
    let only = option_copied c.args.only in
    let sections = c.args.sections.now in
    let none : list_any (λ section. not (is_global section)) sections ≡ false = cc in
    same_fault _ (refusal_of sections only) fault.NoJob (no_job sections only none)

pub returns-then-not-has_job-clause-memory : goal.returns-then-not-has_job-clause-memory
returns-then-not-has_job-clause-memory c =
    let only = option_copied c.args.only in
    let sections = c.args.sections.now in
    let none : list_any (λ section. not (is_global section)) sections ≡ false = cc in
    never_memory (refusal_of sections only) fault.NoJob fault.Memory (no_job sections only none)

pub returns-then-not-has_planned-clause-refused : goal.returns-then-not-has_planned-clause-refused
returns-then-not-has_planned-clause-refused c =
    let only = option_copied c.args.only in
    let sections = c.args.sections.now in
    let some : list_any (λ section. not (is_global section)) sections ≡ true = cc in
    let none : list_any (is_planned only) sections ≡ false = cc in
    same_fault _ (refusal_of sections only) fault.NoSection (no_section sections only some none)

pub returns-then-not-has_planned-clause-memory : goal.returns-then-not-has_planned-clause-memory
returns-then-not-has_planned-clause-memory c =
    let only = option_copied c.args.only in
    let sections = c.args.sections.now in
    let some : list_any (λ section. not (is_global section)) sections ≡ true = cc in
    let none : list_any (is_planned only) sections ≡ false = cc in
    never_memory (refusal_of sections only) fault.NoSection fault.Memory (no_section sections only some none)

pub returns-in-Some-clause-refused : goal.returns-in-Some-clause-refused
returns-in-Some-clause-refused c =
    let only = option_copied c.args.only in
    let sections = c.args.sections.now in
    let some : list_any (λ section. not (is_global section)) sections ≡ true = cc in
    let planned : list_any (is_planned only) sections ≡ true = cc in
    same_fault _ (refusal_of sections only) c.in-Some.fault (passed sections only c.new.result (Ok c.in-Ok.tally) some planned c.new.ensures.value c.in-Ok.ensures.value ∙ sym c.in-Some.ensures)

pub returns-in-Some-clause-memory : goal.returns-in-Some-clause-memory
returns-in-Some-clause-memory c =
    let only = option_copied c.args.only in
    let sections = c.args.sections.now in
    let some : list_any (λ section. not (is_global section)) sections ≡ true = cc in
    let planned : list_any (is_planned only) sections ≡ true = cc in
    never_memory (refusal_of sections only) c.in-Some.fault fault.Memory (passed sections only c.new.result (Ok c.in-Ok.tally) some planned c.new.ensures.value c.in-Ok.ensures.value ∙ sym c.in-Some.ensures)

pub returns-in-None-clause-refused : goal.returns-in-None-clause-refused
returns-in-None-clause-refused c =
    let only = option_copied c.args.only in
    let sections = c.args.sections.now in
    let some : list_any (λ section. not (is_global section)) sections ≡ true = cc in
    let planned : list_any (is_planned only) sections ≡ true = cc in
    none_refused (refusal_of sections only) (λ f. c.build.result ≡ Err f) (passed sections only c.new.result (Ok c.in-Ok.tally) some planned c.new.ensures.value c.in-Ok.ensures.value ∙ sym c.in-None.ensures)

pub returns-in-Err-clause-refused : goal.returns-in-Err-clause-refused
returns-in-Err-clause-refused c =
    let only = option_copied c.args.only in
    let sections = c.args.sections.now in
    let some : list_any (λ section. not (is_global section)) sections ≡ true = cc in
    let planned : list_any (is_planned only) sections ≡ true = cc in
    same_fault _ (refusal_of sections only) c.in-Err.fault (passed sections only c.new.result (Err c.in-Err.fault) some planned c.new.ensures.value c.in-Err.ensures.value)

pub returns-in-Err-clause-memory : goal.returns-in-Err-clause-memory
returns-in-Err-clause-memory c =
    let only = option_copied c.args.only in
    let sections = c.args.sections.now in
    let some : list_any (λ section. not (is_global section)) sections ≡ true = cc in
    let planned : list_any (is_planned only) sections ≡ true = cc in
    never_memory (refusal_of sections only) c.in-Err.fault fault.Memory (passed sections only c.new.result (Err c.in-Err.fault) some planned c.new.ensures.value c.in-Err.ensures.value)
