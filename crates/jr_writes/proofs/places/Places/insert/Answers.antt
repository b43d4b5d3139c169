use Rattle.std.proofs.Common.{ℕ, ap, subst, cond, sym, refl, ◌∙◌, Some, None, eq-eqb, ◌/◌, ◌%◌}
use Rattle.std.specs.BTreeMap.{is_at}
use Rattle.jr_model.proofs.OptionLemmas.{on_error}
use Rattle.jr_writes.specs.Index.{place_order}
use Rattle.jr_writes.specs.Places.{HasNoEmptySheet, sheet_at_place}
use Rattle.jr_writes.proofs.Overlaps.{some_is}
use Rattle.jr_writes.proofs.PlaceFacts.{at_spot, full_after, full_with, sheets_after, sheets_filled, spot_same, spot_step}
use Rattle.jr_writes.proofs.TableFacts.{in_found, in_same}
use Rattle.jr_writes.proofs.places.Places.insert.Goals as goal

pub invariant_of-self : goal.invariant_of-self
invariant_of-self c =
    let es = c.args.self.now.sheets.entries in
    let name : ℕ × ℕ = (c.args.file, c.args.offset / 512 / 4096) in
    let found = sym c.in-Some.ensures.value in
    let new = c.put.new.self in
    record {
      filled = sheets_filled es _ name c.args.self.now.filled new
          ((c.get_mut.follows.holds new).3 (some_is (sheet_at_place es name) c.in-Some.sheet.now found)).0
          (full_after c.put.result c.in-Some.sheet.now new (c.args.offset / 512 % 4096) c.args.spot c.put.ensures.ok c.put.ensures.err (c.args.self.now.filled name c.in-Some.sheet.now found));
    }

pub returns-in_err-older-clause-err : goal.returns-in_err-older-clause-err
returns-in_err-older-clause-err c =
    let es = c.args.self.now.sheets.entries in
    let name : ℕ × ℕ = (c.args.file, c.args.offset / 512 / 4096) in
    let found = sym c.in-Some.ensures.value in
    on_error c.from_residual.result _
    (spot_same es _ (c.args.file, c.args.offset) c.requires (Some c.put.new.self)
    ((c.get_mut.follows.holds c.put.new.self).3 (some_is (sheet_at_place es name) c.in-Some.sheet.now found)).0
    (λ p. c.in_err-older.ensures.err p ∙ in_same p (sheet_at_place es name) (Some c.in-Some.sheet.now) found))

pub returns-in-Some-clause-old : goal.returns-in-Some-clause-old
returns-in-Some-clause-old c =
    at_spot c.args.self.now.sheets.entries (c.args.file, c.args.offset) c.requires (Some c.in-Some.sheet.now) (sym c.in-Some.ensures.value)
    ∙ sym c.in_ok-older.ensures.old

pub returns-in-Some-clause-ok : goal.returns-in-Some-clause-ok
returns-in-Some-clause-ok c =
    let es = c.args.self.now.sheets.entries in
    let name : ℕ × ℕ = (c.args.file, c.args.offset / 512 / 4096) in
    let found = sym c.in-Some.ensures.value in
    spot_step es _ (c.args.file, c.args.offset) c.requires (Some c.put.new.self)
    ((c.get_mut.follows.holds c.put.new.self).3 (some_is (sheet_at_place es name) c.in-Some.sheet.now found)).0
    (Some c.args.spot)
    (λ p. c.in_ok-older.ensures.ok p ∙ in_found (Some c.args.spot) p (c.args.offset / 512 % 4096) (sheet_at_place es name) (Some c.in-Some.sheet.now) found)

pub invariant_of-self-2 : goal.invariant_of-self-2
invariant_of-self-2 c =
    let name : ℕ × ℕ = (c.args.file, c.args.offset / 512 / 4096) in
    let p = c.args.offset / 512 % 4096 in
    record {
      filled = sheets_after c.get_mut.follows.lender-at-none c.insert.new.self name
          (subst (λ m. HasNoEmptySheet m.entries) (sym c.get_mut.follows.holds-at-none) c.args.self.now.filled)
          c.insert.result c.in_ok-one.one c.insert.ensures.updates c.insert.ensures.err
          (full_with c.in_ok-one.one p c.args.spot (c.in_ok-one.ensures p ∙ ap (λ b. cond b (Some c.args.spot) None) (eq-eqb p p refl)));
    }

pub returns-clause-old : goal.returns-clause-old
returns-clause-old c = at_spot c.args.self.now.sheets.entries (c.args.file, c.args.offset) c.requires None (sym c.in_default.ensures.value)

pub returns-clause-ok : goal.returns-clause-ok
returns-clause-ok c =
    let es = c.args.self.now.sheets.entries in
    let name : ℕ × ℕ = (c.args.file, c.args.offset / 512 / 4096) in
    spot_step es c.insert.new.self.entries (c.args.file, c.args.offset) c.requires (Some c.in_ok-one.one)
    (λ k. c.in_ok-insert.ensures.updates.0 k ∙ ap (λ m. cond (is_at (place_order name) k) (Some c.in_ok-one.one) (sheet_at_place m.entries k)) c.get_mut.follows.holds-at-none)
    (Some c.args.spot)
    (λ p. c.in_ok-one.ensures p ∙ in_found (Some c.args.spot) p (c.args.offset / 512 % 4096) (sheet_at_place es name) None (sym c.in_default.ensures.value))
