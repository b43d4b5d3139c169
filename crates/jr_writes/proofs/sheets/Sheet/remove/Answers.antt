use Rattle.std.proofs.Common.{◌/◌, ◌%◌, arith, ap, sym, ◌∙◌, Some, None}
use Rattle.std.specs.Prelude.{◌==◌}
use Rattle.std.proofs.lemmas.Bool.{eqb-true}
use Rattle.std.proofs.lemmas.List.{get_or-set_same}
use Rattle.jr_writes.specs.Sheets.{packed_at}
use Rattle.jr_writes.proofs.SlotFacts.{clear_bit, free_slot, rank_within}
use Rattle.jr_writes.proofs.SheetFacts.{at_row, filled_step, filled_less, in_slot_there, none_in_absent, nothing_in, row_there, row_within, rows_set, sheet_none, sheet_step, with_row}
use Rattle.jr_writes.proofs.StepFacts.{gone_after}
use Rattle.jr_writes.proofs.sheets.Sheet.remove.Goals as goal

pub returns-then-not-is_taken-clause-value : goal.returns-then-not-is_taken-clause-value
returns-then-not-is_taken-clause-value g c =
    let rows = c.args.self.now.rows in
    let r = c.args.place / 64 in
    sym (none_in_absent rows c.args.place (free_slot rows.taken rows.items.items r (clear_bit rows.taken r (sym c.is_taken.ensures ∙ c.if-not-is_taken.true))))

pub returns-then-not-is_taken-clause-places : goal.returns-then-not-is_taken-clause-places
returns-then-not-is_taken-clause-places g c =
    let rows = c.args.self.now.rows in
    let r = c.args.place / 64 in
    sheet_none rows c.args.place (none_in_absent rows c.args.place (free_slot rows.taken rows.items.items r (clear_bit rows.taken r (sym c.is_taken.ensures ∙ c.if-not-is_taken.true))))

pub index_mut-requires : goal.index_mut-requires
index_mut-requires g c =
    let rows = c.args.self.now.rows in
    omega (arith, c.rank-rank.ensures, rank_within rows.taken rows.items.items rows.fits rows.counted (c.args.place / 64) (eqb-true _ _ (sym c.is_taken.ensures ∙ c.if-not-is_taken.false)))

pub index-requires : goal.index-requires
index-requires g c =
    let rows = c.args.self.now.rows in
    omega (arith, c.rank-rank.ensures, rank_within rows.taken rows.items.items rows.fits rows.counted (c.args.place / 64) (eqb-true _ _ (sym c.is_taken.ensures ∙ c.if-not-is_taken.false)))

pub invariant_of-self-then-index-eq0 : goal.invariant_of-self-then-index-eq0
invariant_of-self-then-index-eq0 g c =
    let rows = c.args.self.now.rows in
    let row = c.index_mut.result.now in
    let one = eqb-true _ _ (sym c.is_taken.ensures ∙ c.if-not-is_taken.false) in
    let r = c.args.place / 64 in
    let rank = c.rank-rank.result in
    let at = c.rank-rank.ensures in
    let read = c.index_mut.ensures.value in
    let new = c.remove-value.new.self in
    record {
      filled = filled_less rows c.remove.new.self r c.args.self.now.filled
          (gone_after (λ k. k == r) (packed_at rows) (packed_at (with_row rows r rank row one at read new)) (packed_at c.remove.new.self) new (rows_set rows r rank row one at read new) c.remove.ensures.slots);
    }

pub invariant_of-self-else-index-eq0 : goal.invariant_of-self-else-index-eq0
invariant_of-self-else-index-eq0 g c =
    let rows = c.args.self.now.rows in
    let row = c.index_mut.result.now in
    let one = eqb-true _ _ (sym c.is_taken.ensures ∙ c.if-not-is_taken.false) in
    let r = c.args.place / 64 in
    let rank = c.rank-rank.result in
    let at = c.rank-rank.ensures in
    let read = c.index_mut.ensures.value in
    let new = c.remove-value.new.self in
    record {
      filled = filled_step rows (with_row rows r rank row one at read new) r c.args.self.now.filled new (rows_set rows r rank row one at read new)
          (λ empty. c.if-index-eq0.false (ap (λ x. x.taken) (c.index.ensures ∙ get_or-set_same rows.items.items rank new c.index.result.now (row_within rows r rank row one at read)) ∙ empty));
    }

pub returns-then-index-eq0-clause-value : goal.returns-then-index-eq0-clause-value
returns-then-index-eq0-clause-value g c =
    let rows = c.args.self.now.rows in
    let row = c.index_mut.result.now in
    let one = eqb-true _ _ (sym c.is_taken.ensures ∙ c.if-not-is_taken.false) in
    let r = c.args.place / 64 in
    let rank = c.rank-rank.result in
    let at = c.rank-rank.ensures in
    let read = c.index_mut.ensures.value in
    let new = c.remove-value.new.self in
    c.remove-value.ensures.value ∙ sym (at_row rows row c.args.place (row_there rows r rank row one at read))

pub returns-then-index-eq0-clause-places : goal.returns-then-index-eq0-clause-places
returns-then-index-eq0-clause-places g c =
    let rows = c.args.self.now.rows in
    let row = c.index_mut.result.now in
    let one = eqb-true _ _ (sym c.is_taken.ensures ∙ c.if-not-is_taken.false) in
    let r = c.args.place / 64 in
    let rank = c.rank-rank.result in
    let at = c.rank-rank.ensures in
    let read = c.index_mut.ensures.value in
    let new = c.remove-value.new.self in
    sheet_step rows c.remove.new.self c.args.place None None
    (gone_after (λ k. k == r) (packed_at rows) (packed_at (with_row rows r rank row one at read new)) (packed_at c.remove.new.self) new (rows_set rows r rank row one at read new) c.remove.ensures.slots)
    (λ k.
    sym (nothing_in new (sym (ap (λ x. x.taken) (c.index.ensures ∙ get_or-set_same rows.items.items rank new c.index.result.now (row_within rows r rank row one at read))) ∙ c.if-index-eq0.true) k)
    ∙ c.remove-value.ensures.slots k
    ∙ in_slot_there rows r row (row_there rows r rank row one at read) (c.args.place % 64) None k)

pub returns-else-index-eq0-clause-value : goal.returns-else-index-eq0-clause-value
returns-else-index-eq0-clause-value g c =
    let rows = c.args.self.now.rows in
    let row = c.index_mut.result.now in
    let one = eqb-true _ _ (sym c.is_taken.ensures ∙ c.if-not-is_taken.false) in
    let r = c.args.place / 64 in
    let rank = c.rank-rank.result in
    let at = c.rank-rank.ensures in
    let read = c.index_mut.ensures.value in
    let new = c.remove-value.new.self in
    c.remove-value.ensures.value ∙ sym (at_row rows row c.args.place (row_there rows r rank row one at read))

pub returns-else-index-eq0-clause-places : goal.returns-else-index-eq0-clause-places
returns-else-index-eq0-clause-places g c =
    let rows = c.args.self.now.rows in
    let row = c.index_mut.result.now in
    let one = eqb-true _ _ (sym c.is_taken.ensures ∙ c.if-not-is_taken.false) in
    let r = c.args.place / 64 in
    let rank = c.rank-rank.result in
    let at = c.rank-rank.ensures in
    let read = c.index_mut.ensures.value in
    let new = c.remove-value.new.self in
    sheet_step rows _ c.args.place (Some new) None (rows_set rows r rank row one at read new)
    (λ k. c.remove-value.ensures.slots k ∙ in_slot_there rows r row (row_there rows r rank row one at read) (c.args.place % 64) None k)
