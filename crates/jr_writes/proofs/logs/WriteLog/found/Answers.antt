use Rattle.std.proofs.Common.{ap, ◌∙◌, None, Some, sym}
use Rattle.std.specs.Option.{option_map}
use Rattle.jr_writes.specs.KeptList.{all_kept}
use Rattle.jr_writes.specs.LoggedWrites.{logged}
use Rattle.jr_writes.specs.Names.{name_at}
use Rattle.jr_writes.proofs.KeptLemmas.{logged-kept, placed-kept}
use Rattle.jr_writes.proofs.ListFacts.{lookup_all}
use Rattle.jr_writes.proofs.logs.WriteLog.found.Goals as goal

pub returns-in-Some : goal.returns-in-Some
returns-in-Some c =
    let log = c.self.inside in
    let old = name_at log.names.sheets.entries in
    let kept = c.in-Some.kept.now in
    let at = lookup_all old c.args.write.now c.in-Some.ensures.fits ∙ sym c.in-Some.ensures.value in
    sym (ap (option_map (λ entry. entry.expected)) (logged-kept log.known (all_kept old) c.args.write.now (Some kept) at))
    ∙ ap (λ es. option_map (λ entry. entry.expected) (logged es c.args.write.now)) c.self.view_is

pub returns-in-None : goal.returns-in-None
returns-in-None c =
    let log = c.self.inside in
    let old = name_at log.names.sheets.entries in
    let at = lookup_all old c.args.write.now c.in-None.ensures.fits ∙ sym c.in-None.ensures.value in
    sym (ap (option_map (λ entry. entry.expected)) (logged-kept log.known (all_kept old) c.args.write.now None at))
    ∙ ap (λ es. option_map (λ entry. entry.expected) (logged es c.args.write.now)) c.self.view_is

pub invariant_of-result : goal.invariant_of-result
invariant_of-result c =
    let log = c.self.inside in
    let old = name_at log.names.sheets.entries in
    let kept = c.in-Some.kept.now in
    let at = lookup_all old c.args.write.now c.in-Some.ensures.fits ∙ sym c.in-Some.ensures.value in
    placed-kept log.known (all_kept old) c.args.write.now kept at c.self.invariant.1
