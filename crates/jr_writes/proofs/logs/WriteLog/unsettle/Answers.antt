use Rattle.std.proofs.Common.{ap, ◌∙◌, subst, sym}
use Rattle.std.specs.List.Sorted.{IsStrictlySortedBy}
use Rattle.std.specs.Map.{keys_of}
use Rattle.jr_model.specs.History.{write_order}
use Rattle.jr_writes.specs.KeptEntries.{ArePlaced, entries_of}
use Rattle.jr_writes.specs.KeptList.{all_kept}
use Rattle.jr_writes.specs.LoggedWrites.{logged, unsettled}
use Rattle.jr_writes.specs.Names.{name_at}
use Rattle.jr_writes.proofs.KeptLemmas.{ArePlaced-unsettled, entries_of-unsettled, sorted-entries_of}
use Rattle.jr_writes.proofs.ListFacts.{sorted_all, unsettled_list}
use Rattle.jr_writes.proofs.LogLemmas.{logged-unsettled}
use Rattle.jr_writes.proofs.logs.WriteLog.unsettle.Goals as goal

pub invariant_of-self : goal.invariant_of-self
invariant_of-self c =
    let known = c.self.inside.known in
    let old = name_at c.self.inside.names.sheets.entries in (
      c.take_out.ensures.indexed,
      subst (ArePlaced known) (sym (unsettled_list old (name_at c.take_out.new.names.sheets.entries) c.args.piece.now c.take_out.ensures.entries))
          (ArePlaced-unsettled known c.args.piece.now (all_kept old) c.self.invariant.1),
    )

pub returns-clause-entries : goal.returns-clause-entries
returns-clause-entries c =
    let known = c.self.inside.known in
    let old = name_at c.self.inside.names.sheets.entries in
    ap (entries_of known) (unsettled_list old (name_at c.take_out.new.names.sheets.entries) c.args.piece.now c.take_out.ensures.entries)
    ∙ entries_of-unsettled known c.args.piece.now (all_kept old)
    ∙ ap (λ es. unsettled es c.args.piece.now) c.self.view_is

pub returns-clause-look_up : goal.returns-clause-look_up
returns-clause-look_up c = λ other.
    let known = c.self.inside.known in
    let old = name_at c.self.inside.names.sheets.entries in
    ap (λ es. logged es other) (returns-clause-entries c)
    ∙ logged-unsettled c.args.self.now
    (subst (λ es. IsStrictlySortedBy write_order (keys_of es)) c.self.view_is
    (sorted-entries_of known (all_kept old) (sorted_all old)))
    c.args.piece.now other
