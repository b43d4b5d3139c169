use Rattle.std.proofs.Common.{ℕ, ap, sym, ◌∙◌, Some, None, ◌/◌, ◌%◌}
use Rattle.std.specs.BTreeMap.{is_at}
use Rattle.std.proofs.lemmas.Bool.{eqb-true, eqb-false}
use Rattle.jr_writes.specs.Index.{place_order}
use Rattle.jr_writes.specs.Places.{sheet_at_place, spot_at}
use Rattle.jr_writes.proofs.Overlaps.{some_is}
use Rattle.jr_writes.proofs.PlaceFacts.{at_spot, sheets_filled, sheets_less, spot_none, spot_step}
use Rattle.jr_writes.proofs.StepFacts.{gone_after}
use Rattle.jr_writes.proofs.TableFacts.{empty_sheet, in_found}
use Rattle.jr_writes.proofs.places.Places.remove.Goals as goal

pub returns-in_default : goal.returns-in_default
returns-in_default c = λ q.
    let es = c.args.self.now.sheets.entries in
    ap (λ m. spot_at m.entries q) c.get_mut.follows.holds-at-none
    ∙ spot_none es (c.args.file, c.args.offset) (at_spot es (c.args.file, c.args.offset) c.requires None (sym c.in_default.ensures.value)) q

pub invariant_of-self-then-is_empty : goal.invariant_of-self-then-is_empty
invariant_of-self-then-is_empty c =
    let es = c.args.self.now.sheets.entries in
    let name : ℕ × ℕ = (c.args.file, c.args.offset / 512 / 4096) in
    let new = c.remove.new.self in
    let mid = (c.get_mut.follows.lender new).entries in
    let last = c.remove-then-is_empty.new.self.entries in
    let found = sym c.in-Some.ensures.value in
    record {
      filled = sheets_less es last name c.args.self.now.filled
          (gone_after (is_at (place_order name)) (sheet_at_place es) (sheet_at_place mid) (sheet_at_place last) new
          ((c.get_mut.follows.holds new).3 (some_is (sheet_at_place es name) c.in-Some.sheet.now found)).0
          c.remove-then-is_empty.ensures.updates.0);
    }

pub invariant_of-self-else-is_empty : goal.invariant_of-self-else-is_empty
invariant_of-self-else-is_empty c =
    let es = c.args.self.now.sheets.entries in
    let name : ℕ × ℕ = (c.args.file, c.args.offset / 512 / 4096) in
    let new = c.remove.new.self in
    let found = sym c.in-Some.ensures.value in
    record {
      filled = sheets_filled es _ name c.args.self.now.filled new
          ((c.get_mut.follows.holds new).3 (some_is (sheet_at_place es name) c.in-Some.sheet.now found)).0
          (eqb-false _ _ (sym c.is_empty.ensures ∙ c.if-is_empty.false));
    }

pub returns-then-is_empty : goal.returns-then-is_empty
returns-then-is_empty c =
    let es = c.args.self.now.sheets.entries in
    let name : ℕ × ℕ = (c.args.file, c.args.offset / 512 / 4096) in
    let new = c.remove.new.self in
    let mid = (c.get_mut.follows.lender new).entries in
    let last = c.remove-then-is_empty.new.self.entries in
    let found = sym c.in-Some.ensures.value in
    spot_step es last (c.args.file, c.args.offset) c.requires None
    (gone_after (is_at (place_order name)) (sheet_at_place es) (sheet_at_place mid) (sheet_at_place last) new
    ((c.get_mut.follows.holds new).3 (some_is (sheet_at_place es name) c.in-Some.sheet.now found)).0
    c.remove-then-is_empty.ensures.updates.0)
    None
    (λ p.
    sym (empty_sheet new (eqb-true _ _ (sym c.is_empty.ensures ∙ c.if-is_empty.true)) p)
    ∙ c.remove.ensures.places p
    ∙ in_found None p (c.args.offset / 512 % 4096) (sheet_at_place es name) (Some c.in-Some.sheet.now) found)

pub returns-else-is_empty : goal.returns-else-is_empty
returns-else-is_empty c =
    let es = c.args.self.now.sheets.entries in
    let name : ℕ × ℕ = (c.args.file, c.args.offset / 512 / 4096) in
    let new = c.remove.new.self in
    let found = sym c.in-Some.ensures.value in
    spot_step es _ (c.args.file, c.args.offset) c.requires (Some new)
    ((c.get_mut.follows.holds new).3 (some_is (sheet_at_place es name) c.in-Some.sheet.now found)).0
    None
    (λ p. c.remove.ensures.places p ∙ in_found None p (c.args.offset / 512 % 4096) (sheet_at_place es name) (Some c.in-Some.sheet.now) found)
