use Rattle.std.proofs.Common.{arith, ap, sym, subst, ◌∙◌}
use Rattle.std.specs.List.Sorted.{IsStrictlySortedBy}
use Rattle.std.specs.Map.{keys_of}
use Rattle.jr_model.specs.History.{write_order}
use Rattle.jr_model.proofs.OptionLemmas.{on_error}
use Rattle.jr_writes.specs.declared.kept.Kept.{Kept}
use Rattle.jr_writes.specs.KeptEntries.{entries_of}
use Rattle.jr_writes.specs.KeptList.{IsWrite, all_kept}
use Rattle.jr_writes.specs.LoggedWrites.{logged, settled}
use Rattle.jr_writes.specs.Names.{name_at}
use Rattle.jr_writes.proofs.LogLemmas.{logged-settled}
use Rattle.jr_writes.proofs.KeptLemmas.{ArePlaced-step, entries_of-more, entries_of-step, kept_of-none, sorted-entries_of}
use Rattle.jr_writes.proofs.ListFacts.{lookup_all, same_all_kept, settled_list, sorted_all}
use Rattle.jr_writes.proofs.logs.WriteLog.settle.Goals as goal

pub put-requires-clause-fresh : goal.put-requires-clause-fresh
put-requires-clause-fresh c =
    let old = name_at c.self.inside.names.sheets.entries in
    let fits : IsWrite c.args.write = record { clone = omega arith; pass = omega arith; number = omega arith } in
    sym (lookup_all old c.args.write fits)
    ∙ kept_of-none c.self.inside.known (all_kept old) c.args.write (ap (λ es. logged es c.args.write) c.self.view_is ∙ c.requires.fresh)

pub invariant_of-self-2 : goal.invariant_of-self-2
invariant_of-self-2 c =
    let fits : IsWrite c.args.write = record { clone = omega arith; pass = omega arith; number = omega arith } in
    let known = c.self.inside.known in
    let more = c.place.new.self in
    let old = name_at c.self.inside.names.sheets.entries in
    let mid = name_at c.put.new.names.sheets.entries in
    let new = name_at c.take_out.new.names.sheets.entries in
    let entry : Kept = record { piece = c.args.piece; place = c.in_ok-place.place } in
    let free = sym (lookup_all old c.args.write fits)
    ∙ kept_of-none known (all_kept old) c.args.write (ap (λ es. logged es c.args.write) c.self.view_is ∙ c.requires.fresh) in (
      c.take_out.ensures.indexed,
      ArePlaced-step known more (all_kept old) (all_kept new) c.args.write entry c.args.expected
          c.in_ok-place.ensures.more c.self.invariant.1
          (settled_list old mid new c.args.write entry fits free c.in_ok-put.ensures.entries c.take_out.ensures.entries) c.in_ok-place.ensures.placed,
    )

pub returns-clause-ok : goal.returns-clause-ok
returns-clause-ok c =
    let fits : IsWrite c.args.write = record { clone = omega arith; pass = omega arith; number = omega arith } in
    let known = c.self.inside.known in
    let more = c.place.new.self in
    let old = name_at c.self.inside.names.sheets.entries in
    let mid = name_at c.put.new.names.sheets.entries in
    let new = name_at c.take_out.new.names.sheets.entries in
    let entry : Kept = record { piece = c.args.piece; place = c.in_ok-place.place } in
    let free = sym (lookup_all old c.args.write fits)
    ∙ kept_of-none known (all_kept old) c.args.write (ap (λ es. logged es c.args.write) c.self.view_is ∙ c.requires.fresh) in
    entries_of-step known more (all_kept old) (all_kept new) c.args.write entry c.args.expected
    c.in_ok-place.ensures.more c.self.invariant.1
    (settled_list old mid new c.args.write entry fits free c.in_ok-put.ensures.entries c.take_out.ensures.entries) c.in_ok-place.ensures.found
    ∙ ap (λ es. settled es c.args.write c.args.piece c.args.expected) c.self.view_is

pub returns-clause-look_up : goal.returns-clause-look_up
returns-clause-look_up c = λ other.
    let old = name_at c.self.inside.names.sheets.entries in
    ap (λ es. logged es other) (returns-clause-ok c)
    ∙ logged-settled c.args.self.now
    (subst (λ es. IsStrictlySortedBy write_order (keys_of es)) c.self.view_is
    (sorted-entries_of c.self.inside.known (all_kept old) (sorted_all old)))
    c.args.write c.args.piece c.args.expected c.requires.fresh other

pub returns-in_err-place-clause-err : goal.returns-in_err-place-clause-err
returns-in_err-place-clause-err c =
    let known = c.self.inside.known in
    let more = c.place.new.self in
    let old = name_at c.self.inside.names.sheets.entries in
    on_error c.from_residual.result _
    (entries_of-more known more (all_kept old) c.in_err-place.ensures.more c.self.invariant.1
    ∙ c.self.view_is)

pub returns-in_err-put-clause-err : goal.returns-in_err-put-clause-err
returns-in_err-put-clause-err c =
    let known = c.self.inside.known in
    let more = c.place.new.self in
    let old = name_at c.self.inside.names.sheets.entries in
    on_error c.from_residual-in_err-put.result _
    (ap (entries_of more) (same_all_kept old (name_at c.put.new.names.sheets.entries) c.in_err-put.ensures.names_err)
    ∙ entries_of-more known more (all_kept old) c.in_ok-place.ensures.more c.self.invariant.1
    ∙ c.self.view_is)
