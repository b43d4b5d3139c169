use Rattle.std.proofs.Common.{◌/◌, ◌%◌, arith, sym, ◌∙◌, Some}
use Rattle.std.proofs.lemmas.Bool.{eqb-true}
use Rattle.jr_model.proofs.OptionLemmas.{on_error}
use Rattle.jr_writes.specs.Slots.{slot_at}
use Rattle.jr_writes.proofs.SlotFacts.{clear_bit, free_slot, rank_within}
use Rattle.jr_writes.proofs.SheetFacts.{at_row, counted_set, filled_after, filled_step, in_slot_absent, in_slot_there, in_there, none_in_absent, not_empty_after, not_empty_one, row_there, rows_set, sheet_from_fields, sheet_same, sheet_step, with_row}
use Rattle.jr_writes.proofs.sheets.Sheet.put.Goals as goal

pub index_mut-requires : goal.index_mut-requires
index_mut-requires g c =
    let rows = c.args.self.now.rows in
    omega (arith, c.rank-rank.ensures, rank_within rows.taken rows.items.items rows.fits rows.counted (c.args.place / 64) (eqb-true _ _ (sym c.is_taken.ensures ∙ c.if-is_taken.true)))

pub invariant_of-self : goal.invariant_of-self
invariant_of-self g c =
    let rows = c.args.self.now.rows in
    let row = c.index_mut.result.now in
    let one = eqb-true _ _ (sym c.is_taken.ensures ∙ c.if-is_taken.true) in
    let r = c.args.place / 64 in
    let rank = c.rank-rank.result in
    let at = c.rank-rank.ensures in
    let read = c.index_mut.ensures.value in
    let new = c.put.new.self in (
      (rows.fits, (counted_set rows r rank row one at read new, tt)),
      (
        filled_step rows (with_row rows r rank row one at read new) r c.args.self.now.filled new (rows_set rows r rank row one at read new)
            (not_empty_after c.put.result row new (c.args.place % 64) c.args.value c.put.ensures.ok c.put.ensures.err
            (c.args.self.now.filled r row (row_there rows r rank row one at read))),
        tt,
      ),
    )

pub returns-in_err-older-clause-err : goal.returns-in_err-older-clause-err
returns-in_err-older-clause-err g c =
    let rows = c.args.self.now.rows in
    let row = c.index_mut.result.now in
    let one = eqb-true _ _ (sym c.is_taken.ensures ∙ c.if-is_taken.true) in
    let r = c.args.place / 64 in
    let rank = c.rank-rank.result in
    let at = c.rank-rank.ensures in
    let read = c.index_mut.ensures.value in
    let new = c.put.new.self in
    let err = c.in_err-older.ensures.err in
    on_error c.from_residual.result _
    (sheet_same rows _ r (Some new) (rows_set rows r rank row one at read new)
    (λ k. (λ i. slot_at (err.0 i) (err.1 i) k) ∙ sym (in_there rows r row (row_there rows r rank row one at read) k)))

pub returns-then-is_taken-clause-ok : goal.returns-then-is_taken-clause-ok
returns-then-is_taken-clause-ok g c =
    let rows = c.args.self.now.rows in
    let row = c.index_mut.result.now in
    let one = eqb-true _ _ (sym c.is_taken.ensures ∙ c.if-is_taken.true) in
    let r = c.args.place / 64 in
    let rank = c.rank-rank.result in
    let at = c.rank-rank.ensures in
    let read = c.index_mut.ensures.value in
    let new = c.put.new.self in
    sheet_step rows _ c.args.place (Some new) (Some c.args.value) (rows_set rows r rank row one at read new)
    (λ k. c.in_ok-older.ensures.ok k ∙ in_slot_there rows r row (row_there rows r rank row one at read) (c.args.place % 64) (Some c.args.value) k)

pub insert-requires-clause-free : goal.insert-requires-clause-free
insert-requires-clause-free g c =
    let rows = c.args.self.now.rows in
    free_slot rows.taken rows.items.items (c.args.place / 64) (clear_bit rows.taken (c.args.place / 64) (sym c.is_taken.ensures ∙ c.if-is_taken.false))

pub invariant_of-self-2 : goal.invariant_of-self-2
invariant_of-self-2 g c = record {
  filled = filled_after c.insert.result c.args.self.now.rows c.insert.new.self (c.args.place / 64) c.in_ok-one.one c.args.self.now.filled c.insert.ensures.ok c.insert.ensures.err
      (not_empty_one c.in_ok-one.one (c.args.place % 64) c.args.value c.in_ok-one.ensures);
}

pub returns-in_err-insert-clause-err : goal.returns-in_err-insert-clause-err
returns-in_err-insert-clause-err g c =
    let err = c.in_err-insert.ensures.err in
    on_error c.from_residual-in_err-insert.result _ (sheet_from_fields c.args.self.now.rows c.insert.new.self err.0 err.1)

pub returns-clause-ok : goal.returns-clause-ok
returns-clause-ok g c =
    let rows = c.args.self.now.rows in
    let r = c.args.place / 64 in
    let absent = free_slot rows.taken rows.items.items r (clear_bit rows.taken r (sym c.is_taken.ensures ∙ c.if-is_taken.false)) in
    sheet_step rows c.insert.new.self c.args.place (Some c.in_ok-one.one) (Some c.args.value) c.in_ok-insert.ensures.ok
    (λ k. c.in_ok-one.ensures k ∙ in_slot_absent rows r absent (c.args.place % 64) (Some c.args.value) k)

pub returns-then-is_taken-clause-old : goal.returns-then-is_taken-clause-old
returns-then-is_taken-clause-old g c =
    let rows = c.args.self.now.rows in
    let row = c.index_mut.result.now in
    let one = eqb-true _ _ (sym c.is_taken.ensures ∙ c.if-is_taken.true) in
    c.in_ok-older.ensures.old ∙ sym (at_row rows row c.args.place (row_there rows (c.args.place / 64) c.rank-rank.result row one c.rank-rank.ensures c.index_mut.ensures.value))

pub returns-clause-old : goal.returns-clause-old
returns-clause-old g c =
    let rows = c.args.self.now.rows in
    let r = c.args.place / 64 in
    sym (none_in_absent rows c.args.place (free_slot rows.taken rows.items.items r (clear_bit rows.taken r (sym c.is_taken.ensures ∙ c.if-is_taken.false))))
