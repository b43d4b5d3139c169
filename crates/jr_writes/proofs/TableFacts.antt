-- What a table of sheets has, through a step of one sheet.
use Rattle.std.proofs.Common.{◌≡◌, ℕ, ◌/◌, Bool, true, false, ◌&&◌, cond, Option, None, refl, sym, ap, ◌∙◌}
use Rattle.std.specs.Prelude.{◌==◌}
use Rattle.jr_writes.specs.declared.sheets.Sheet.{Sheet}
use Rattle.jr_writes.specs.Names.{in_sheet}
use Rattle.jr_writes.specs.Sheets.{sheet_at}
use Rattle.jr_writes.proofs.SheetFacts.{none_in_absent, nothing_in}

module _ {K Q V : Type 0} (key : Q → K) (place : Q → ℕ) (same_key : K → K → Bool) (same : Q → Q → Bool)
    (is_key : (a b : K) → same_key a b ≡ true → a ≡ b)
    (agree : (a b : Q) → same a b ≡ (same_key (key a) (key b) && (place b == place a)))
    (sheet_of new_of : K → Option (Sheet V)) (q : Q) (o : Option (Sheet V)) where
  -- one sheet becomes another, at one place
  pub table_step : (v : Option V) → ((k : K) → new_of k ≡ cond (same_key (key q) k) o (sheet_of k)) → ((p : ℕ) → in_sheet o p ≡ cond (p == place q) v (in_sheet (sheet_of (key q)) p)) → (r : Q) → in_sheet (new_of (key r)) (place r) ≡ cond (same q r) v (in_sheet (sheet_of (key r)) (place r))
  table_step v sheets places r =
      ap (λ (x : Option (Sheet V)). in_sheet x (place r)) (sheets (key r))
      ∙ by (same_key (key q) (key r)) refl
      ∙ sym (ap (λ (b : Bool). cond b v (in_sheet (sheet_of (key r)) (place r))) (agree q r))
    where
      by : (b : Bool) → same_key (key q) (key r) ≡ b → in_sheet (cond b o (sheet_of (key r))) (place r) ≡ cond (same_key (key q) (key r) && (place r == place q)) v (in_sheet (sheet_of (key r)) (place r))
      by true h =
          places (place r)
          ∙ ap (λ (k : K). cond (place r == place q) v (in_sheet (sheet_of k) (place r))) (is_key (key q) (key r) h)
          ∙ ap (λ (b : Bool). cond (b && (place r == place q)) v (in_sheet (sheet_of (key r)) (place r))) (sym h)
      by false h = ap (λ (b : Bool). cond (b && (place r == place q)) v (in_sheet (sheet_of (key r)) (place r))) (sym h)

  -- or has the same at all places
  pub table_same : ((k : K) → new_of k ≡ cond (same_key (key q) k) o (sheet_of k)) → ((p : ℕ) → in_sheet o p ≡ in_sheet (sheet_of (key q)) p) → (r : Q) → in_sheet (new_of (key r)) (place r) ≡ in_sheet (sheet_of (key r)) (place r)
  table_same sheets places r =
      ap (λ (x : Option (Sheet V)). in_sheet x (place r)) (sheets (key r)) ∙ by (same_key (key q) (key r)) refl
    where
      by : (b : Bool) → same_key (key q) (key r) ≡ b → in_sheet (cond b o (sheet_of (key r))) (place r) ≡ in_sheet (sheet_of (key r)) (place r)
      by true h = places (place r) ∙ ap (λ (k : K). in_sheet (sheet_of k) (place r)) (is_key (key q) (key r) h)
      by false h = refl

-- the same at a place of two sheets, where the first is found
pub in_found : {V : Type 0} (v : Option V) (p s : ℕ) (found o : Option (Sheet V)) → found ≡ o → cond (p == s) v (in_sheet o p) ≡ cond (p == s) v (in_sheet found p)
in_found v p s found o e = ap (λ (x : Option (Sheet _)). cond (p == s) v (in_sheet x p)) (sym e)

pub in_same : {V : Type 0} (p : ℕ) (found o : Option (Sheet V)) → found ≡ o → in_sheet o p ≡ in_sheet found p
in_same p found o e = ap (λ (x : Option (Sheet _)). in_sheet x p) (sym e)

-- nothing stands on a sheet without rows
pub empty_sheet : {V : Type 0} (sheet : Sheet V) → sheet.rows.taken ≡ 0 → (p : ℕ) → sheet_at sheet.rows p ≡ None
empty_sheet sheet empty p = none_in_absent sheet.rows p (nothing_in sheet.rows empty (p / 64))
