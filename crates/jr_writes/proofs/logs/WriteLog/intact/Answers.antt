use Rattle.std.proofs.Common.{Bor, Option, Some, None, refl, ap, sym, ◌≡◌, ◌∙◌, is_some}
use Rattle.std.specs.Option.{option_copied}
use Rattle.jr_writes.specs.declared.kept.Kept.{Kept}
use Rattle.jr_writes.specs.KeptList.{all_kept}
use Rattle.jr_writes.specs.LoggedWrites.{logged}
use Rattle.jr_writes.specs.Names.{name_at}
use Rattle.jr_writes.proofs.KeptLemmas.{is_logged}
use Rattle.jr_writes.proofs.ListFacts.{lookup_all}
use Rattle.jr_writes.proofs.logs.WriteLog.intact.Goals as goal

same_some : (o : Option (Bor Kept)) → is_some o ≡ is_some (option_copied o)
same_some None = refl
same_some (Some x) = refl

pub returns : goal.returns
returns c =
    let old = name_at c.self.inside.names.sheets.entries in
    c.is_some.ensures
    ∙ same_some c.get.result
    ∙ ap is_some (c.get.ensures.value ∙ sym (lookup_all old c.args.write.now c.get.ensures.fits))
    ∙ is_logged c.self.inside.known (all_kept old) c.args.write.now
    ∙ ap (λ es. is_some (logged es c.args.write.now)) c.self.view_is
