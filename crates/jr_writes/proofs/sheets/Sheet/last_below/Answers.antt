use Rattle.std.proofs.Common.{◌≡◌, ◌+◌, ◌*◌, ◌/◌, ◌%◌, ℕ, None, arith, subst}
use Rattle.jr_writes.specs.Sheets.{sheet_at}
use Rattle.jr_writes.specs.Slots.{IsLastTaken}
use Rattle.jr_writes.proofs.SheetFacts.{last_of_above, none_above}
use Rattle.jr_writes.proofs.sheets.Sheet.last_below.Goals as goal

pub returns-in-Some-last_below : goal.returns-in-Some-last_below
returns-in-Some-last_below g c =
    let rows = c.args.self.now.rows in
    let e : c.args.end / 64 * 64 + c.args.end % 64 ≡ c.args.end = omega arith in
    subst (λ (n : ℕ). IsLastTaken (sheet_at rows) n c.last_of.result) e
    (last_of_above rows (c.args.end / 64) (c.args.end % 64) (omega arith) c.in-None.ensures c.in-Some-last_below.above c.last_of.result c.last_of.ensures.there c.in-Some-last_below.ensures c.last_of.ensures.last)

pub returns-in-None-last_below : goal.returns-in-None-last_below
returns-in-None-last_below g c =
    let rows = c.args.self.now.rows in
    let e : c.args.end / 64 * 64 + c.args.end % 64 ≡ c.args.end = omega arith in
    subst (λ (n : ℕ). IsLastTaken (sheet_at rows) n None) e
    (none_above rows (c.args.end / 64) (c.args.end % 64) (omega arith) c.in-None.ensures c.in-None-last_below.ensures)
