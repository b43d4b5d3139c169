use Rattle.std.proofs.Common.{ℕ, List, Option, sym, subst}
use Rattle.std.specs.Option.{option_copied}
use Rattle.jr_job_notes.specs.Notes.{AreFirst, sections_noted}
use Rattle.jr_job_notes.proofs.NoteLemmas.{first_alone}
use Rattle.jr_job_notes.proofs.notes.job_notes.Goals as goal

pub returns : goal.returns
returns c =
    let lines = sections_noted (option_copied c.args.only) c.args.sections.now in
    c.in_ok-add_texts.ensures lines (subst (λ (noted : List (Option ℕ)). AreFirst lines noted) (sym c.in_ok-notes.ensures) (first_alone lines))
