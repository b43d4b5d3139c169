use Rattle.std.proofs.Common.{ap, ◌∙◌, cond, None}
use Rattle.std.specs.BTreeMap.{is_at}
use Rattle.jr_model.specs.History.{write_order}
use Rattle.jr_writes.specs.Places.{spot_at}
use Rattle.jr_writes.specs.Names.{name_at}
use Rattle.jr_writes.proofs.IndexLemmas.{IsIndexed-inserted, StandsHere-inserted}
use Rattle.jr_writes.proofs.PutLemmas.{IsIndexed-over, StandsHere-over}
use Rattle.jr_writes.proofs.StayFacts.{left_inserted, left_over, taken_back}
use Rattle.jr_writes.proofs.spots.put.Goals as goal

pub returns-in-Ok-None-clause-entries : goal.returns-in-Ok-None-clause-entries
returns-in-Ok-None-clause-entries c =
    left_inserted c.args.write c.args.entry (name_at c.args.names.now.sheets.entries) (name_at c.insert.new.self.sheets.entries) c.in_ok-insert.ensures.ok

pub returns-in-Ok-None-clause-indexed : goal.returns-in-Ok-None-clause-indexed
returns-in-Ok-None-clause-indexed c =
    IsIndexed-inserted (name_at c.args.names.now.sheets.entries) (name_at c.insert.new.self.sheets.entries) (spot_at c.args.places.now.sheets.entries) (spot_at c.insert-2.new.self.sheets.entries) c.args.write c.args.entry c.requires.indexed c.requires.fresh (c.in-Ok-None.ensures.old ∙ c.in-Ok-None.field-0-is) c.requires.filled c.in_ok-insert.ensures.ok c.in-Ok-None.ensures.ok

pub returns-in-Ok-None-clause-stands : goal.returns-in-Ok-None-clause-stands
returns-in-Ok-None-clause-stands c =
    StandsHere-inserted (name_at c.args.names.now.sheets.entries) (name_at c.insert.new.self.sheets.entries) (spot_at c.args.places.now.sheets.entries) (spot_at c.insert-2.new.self.sheets.entries) c.args.write c.args.entry c.requires.indexed c.requires.fresh (c.in-Ok-None.ensures.old ∙ c.in-Ok-None.field-0-is) c.requires.filled c.in_ok-insert.ensures.ok c.in-Ok-None.ensures.ok

pub returns-in-Ok-Some-clause-entries : goal.returns-in-Ok-Some-clause-entries
returns-in-Ok-Some-clause-entries c =
    left_over c.args.write c.args.entry c.in-Ok-Some.older (name_at c.args.names.now.sheets.entries) (name_at c.insert.new.self.sheets.entries) (name_at c.remove.new.self.sheets.entries) (spot_at c.args.places.now.sheets.entries) c.requires.indexed c.requires.fresh (c.in-Ok-Some.ensures.old ∙ c.in-Ok-Some.field-0-is) c.requires.filled c.in_ok-insert.ensures.ok (rw c.in-Ok-Some.field-0-is at c.remove.ensures)

pub returns-in-Ok-Some-clause-indexed : goal.returns-in-Ok-Some-clause-indexed
returns-in-Ok-Some-clause-indexed c =
    IsIndexed-over (name_at c.args.names.now.sheets.entries) (spot_at c.args.places.now.sheets.entries) c.args.write c.args.entry c.in-Ok-Some.older c.requires.indexed c.requires.fresh (c.in-Ok-Some.ensures.old ∙ c.in-Ok-Some.field-0-is) c.requires.filled (name_at c.remove.new.self.sheets.entries) (spot_at c.insert-2.new.self.sheets.entries) (λ q. (rw c.in-Ok-Some.field-0-is at c.remove.ensures q) ∙ ap (λ o. cond (is_at (write_order c.in-Ok-Some.older.write) q) None o) (c.in_ok-insert.ensures.ok q)) c.in-Ok-Some.ensures.ok

pub returns-in-Ok-Some-clause-stands : goal.returns-in-Ok-Some-clause-stands
returns-in-Ok-Some-clause-stands c =
    StandsHere-over (name_at c.args.names.now.sheets.entries) (spot_at c.args.places.now.sheets.entries) c.args.write c.args.entry c.in-Ok-Some.older c.requires.indexed c.requires.fresh (c.in-Ok-Some.ensures.old ∙ c.in-Ok-Some.field-0-is) c.requires.filled (name_at c.remove.new.self.sheets.entries) (spot_at c.insert-2.new.self.sheets.entries) (λ q. (rw c.in-Ok-Some.field-0-is at c.remove.ensures q) ∙ ap (λ o. cond (is_at (write_order c.in-Ok-Some.older.write) q) None o) (c.in_ok-insert.ensures.ok q)) c.in-Ok-Some.ensures.ok

pub returns-in-Err-clause-names_err : goal.returns-in-Err-clause-names_err
returns-in-Err-clause-names_err c =
    taken_back c.args.write c.args.entry (name_at c.args.names.now.sheets.entries) (name_at c.insert.new.self.sheets.entries) (name_at c.remove-in-Err.new.self.sheets.entries) c.requires.fresh c.in_ok-insert.ensures.ok c.remove-in-Err.ensures
