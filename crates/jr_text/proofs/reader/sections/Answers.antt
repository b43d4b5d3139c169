use Rattle.std.proofs.Common.{◌≡◌, Option, Some, None, sym, ap, ◌∙◌, refl, arith}
use Rattle.std.specs.Result.{result_err}
use Rattle.jr_text.specs.declared.faults.TextFault.{TextFault}
use Rattle.jr_text.specs.declared.faults.TextFault.TheVariants.{NotUtf8, TooLong}
use Rattle.jr_text.proofs.Pass.{sections_of-lines, sections_of-not_utf8, sections_of-too_long}
use Rattle.jr_text.proofs.reader.sections.Goals as goal

pub returns-then-text-gt-LONGEST_TEXT-clause-refused : goal.returns-then-text-gt-LONGEST_TEXT-clause-refused
returns-then-text-gt-LONGEST_TEXT-clause-refused c = rw (sections_of-too_long c.args.text.now (omega arith)) refl

pub returns-then-text-gt-LONGEST_TEXT-clause-memory : goal.returns-then-text-gt-LONGEST_TEXT-clause-memory
returns-then-text-gt-LONGEST_TEXT-clause-memory c sound =
    let found : ◌≡◌ {A = Option TextFault} (Some TooLong) None = sym (ap result_err (sections_of-too_long c.args.text.now (omega arith))) ∙ sound in
    absurd (cc)

pub returns-in-Ok-clause-refused : goal.returns-in-Ok-clause-refused
returns-in-Ok-clause-refused c =
    let read = c.in-Ok.ensures.cases in
    let lines = sections_of-lines c.args.text.now (omega arith) read.1 in
    rw (lines, ← read.0) c.read_text.ensures.refused

pub returns-in-Ok-clause-memory : goal.returns-in-Ok-clause-memory
returns-in-Ok-clause-memory c =
    let read = c.in-Ok.ensures.cases in
    let lines = sections_of-lines c.args.text.now (omega arith) read.1 in
    rw (lines, ← read.0) c.read_text.ensures.memory

pub returns-in-Ok-clause-read : goal.returns-in-Ok-clause-read
returns-in-Ok-clause-read c =
    let read = c.in-Ok.ensures.cases in
    let lines = sections_of-lines c.args.text.now (omega arith) read.1 in
    rw (lines, ← read.0) c.read_text.ensures.read

pub returns-in-Err-clause-refused : goal.returns-in-Err-clause-refused
returns-in-Err-clause-refused c = rw (sections_of-not_utf8 c.args.text.now (omega arith) c.in-Err.ensures.cases.0) refl

pub returns-in-Err-clause-memory : goal.returns-in-Err-clause-memory
returns-in-Err-clause-memory c sound =
    let found : ◌≡◌ {A = Option TextFault} (Some NotUtf8) None =
    sym (ap result_err (sections_of-not_utf8 c.args.text.now (omega arith) c.in-Err.ensures.cases.0)) ∙ sound in
    absurd (cc)
