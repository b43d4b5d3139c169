use Rattle.std.proofs.Common.{ap, subst, sym}
use Rattle.std.proofs.lemmas.List.Elements.{All-nil}
use Rattle.jr_writes.specs.Places.{spot_at}
use Rattle.jr_writes.specs.KeptEntries.{ArePlaced, IsPlaced, entries_of}
use Rattle.jr_writes.specs.Names.{name_at}
use Rattle.jr_writes.proofs.ListFacts.{IsIndexed-none, none_all_kept}
use Rattle.jr_writes.proofs.logs.WriteLog.new.Goals as goal

pub invariant_of-result : goal.invariant_of-result
invariant_of-result c =
    let names = name_at c.new.result.sheets.entries in (
      IsIndexed-none names (spot_at c.new-2.result.sheets.entries) c.new.ensures c.new-2.ensures,
      subst (ArePlaced c.new-3.result) (sym (none_all_kept names c.new.ensures)) (All-nil (λ e. IsPlaced c.new-3.result e.1.place)),
    )

pub returns : goal.returns
returns c = ap (entries_of c.new-3.result) (none_all_kept (name_at c.new.result.sheets.entries) c.new.ensures)
