-- What is kept of the writes by their names, through a step of one sheet.
use Rattle.std.proofs.Common.{◌≡◌, ℕ, ◌/◌, ◌%◌, Bool, true, false, ◌&&◌, cond, List, [], Option, None, refl, sym, ap, ◌∙◌}
use Rattle.std.specs.Prelude.{◌==◌}
use Rattle.std.specs.BTreeMap.{is_at}
use Rattle.std.specs.Map.{lookup}
use Rattle.jr_model.specs.declared.events.WriteId.{WriteId}
use Rattle.jr_model.specs.History.{write_order}
use Rattle.jr_model.proofs.Equality.{is_at-write_order}
use Rattle.jr_writes.specs.declared.kept.Kept.{Kept}
use Rattle.jr_writes.specs.declared.sheets.Sheet.{Sheet}
use Rattle.jr_writes.specs.Names.{in_sheet, name_at, sheet_name}
use Rattle.jr_writes.proofs.IndexLemmas.{write_same}
use Rattle.jr_writes.proofs.TableFacts.{table_same, table_step}
use Rattle.jr_writes.proofs.PlaceFacts.{number_parts}

-- the sheet of that name
abbrev pub sheet_of : List (WriteId × Sheet Kept) → WriteId → Option (Sheet Kept)
sheet_of sheets name = lookup (is_at (write_order name)) sheets

-- two writes are one where their sheets are, and their places
names_agree : (a b : WriteId) → is_at (write_order a) b ≡ (is_at (write_order (sheet_name a)) (sheet_name b) && (b.number % 4096 == a.number % 4096))
names_agree a b =
    is_at-write_order a b
    ∙ ap (λ (x : Bool). (a.clone == b.clone) && (a.pass == b.pass) && x) (number_parts a.number b.number)
    ∙ regroup ((a.clone == b.clone) && (a.pass == b.pass)) (a.number / 4096 == b.number / 4096) (b.number % 4096 == a.number % 4096)
    ∙ ap (λ (x : Bool). x && (b.number % 4096 == a.number % 4096)) (sym (is_at-write_order (sheet_name a) (sheet_name b)))
  where
    regroup : (x y z : Bool) → (x && (y && z)) ≡ (x && y && z)
    regroup true y z = refl
    regroup false y z = refl

module _ (es new : List (WriteId × Sheet Kept)) (w name : WriteId) (named : name ≡ sheet_name w) (o : Option (Sheet Kept))
    (sheets : (k : WriteId) → sheet_of new k ≡ cond (is_at (write_order name) k) o (sheet_of es k)) where
  sheets_named : (k : WriteId) → sheet_of new k ≡ cond (is_at (write_order (sheet_name w)) k) o (sheet_of es k)
  sheets_named k = sheets k ∙ ap (λ (n : WriteId). cond (is_at (write_order n) k) o (sheet_of es k)) named

  -- one sheet becomes another, at the write's place
  pub name_step : (v : Option Kept) → ((p : ℕ) → in_sheet o p ≡ cond (p == w.number % 4096) v (in_sheet (sheet_of es name) p)) → (q : WriteId) → name_at new q ≡ cond (is_at (write_order w) q) v (name_at es q)
  unfolding name_at
  name_step v places =
      table_step sheet_name (λ q. q.number % 4096) (λ a b. is_at (write_order a) b) (λ a b. is_at (write_order a) b) write_same names_agree (sheet_of es) (sheet_of new) w o v sheets_named
      (λ p. places p ∙ ap (λ (n : WriteId). cond (p == w.number % 4096) v (in_sheet (sheet_of es n) p)) named)

  -- or has the same at all places
  pub name_same : ((p : ℕ) → in_sheet o p ≡ in_sheet (sheet_of es name) p) → (q : WriteId) → name_at new q ≡ name_at es q
  unfolding name_at
  name_same places =
      table_same sheet_name (λ q. q.number % 4096) (λ a b. is_at (write_order a) b) (λ a b. is_at (write_order a) b) write_same names_agree (sheet_of es) (sheet_of new) w o sheets_named
      (λ p. places p ∙ ap (λ (n : WriteId). in_sheet (sheet_of es n) p) named)

module _ (es : List (WriteId × Sheet Kept)) (w name : WriteId) (named : name ≡ sheet_name w) where
  -- what is kept is what stands at the write's place of its sheet
  pub at_name : (o : Option (Sheet Kept)) → sheet_of es name ≡ o → name_at es w ≡ in_sheet o (w.number % 4096)
  unfolding name_at
  at_name o found = ap (λ (n : WriteId). in_sheet (sheet_of es n) (w.number % 4096)) (sym named) ∙ ap (λ (x : Option (Sheet Kept)). in_sheet x (w.number % 4096)) found

-- nothing is kept in no sheets
pub no_name : (q : WriteId) → name_at [] q ≡ None
unfolding name_at
no_name q = refl

-- nothing is taken out where nothing is kept
pub name_none : (es : List (WriteId × Sheet Kept)) (w : WriteId) → name_at es w ≡ None → (q : WriteId) → name_at es q ≡ cond (is_at (write_order w) q) None (name_at es q)
name_none es w none q = by (is_at (write_order w) q) refl
  where
    by : (b : Bool) → is_at (write_order w) q ≡ b → name_at es q ≡ cond b None (name_at es q)
    by true h = ap (name_at es) (sym (write_same w q h)) ∙ none
    by false h = refl
