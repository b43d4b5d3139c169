-- What stands at the places of files, through a step of one sheet.
use Rattle.std.proofs.Common.{◌≡◌, ℕ, Result, Ok, Err, ◌/◌, ◌%◌, Bool, true, false, ◌&&◌, cond, List, [], Option, Some, None, arith, refl, sym, ap, subst, ◌∙◌, inl, inr, eq-eqb}
use Rattle.std.specs.Prelude.{◌==◌}
use Rattle.std.specs.BTreeMap.{BTreeMap, IsUnchanged, Updates, is_at}
use Rattle.std.specs.Result.{OnErr, OnOk}
use Rattle.std.proofs.lemmas.Bool.{cases_eq, false_from_ne_true, ne_eqb}
use Rattle.std.proofs.lemmas.Bool.Decides.{nat_tests}
use Rattle.std.proofs.lemmas.Option.{none-some, same_Some}
use Rattle.jr_writes.specs.declared.sheets.Sheet.{Sheet}
use Rattle.jr_writes.specs.declared.spot.Spot.{Spot}
use Rattle.jr_writes.specs.Index.{place_order}
use Rattle.jr_writes.specs.Names.{in_sheet}
use Rattle.jr_writes.specs.Places.{HasNoEmptySheet, sector_at, sheet_at_place, spot_at}
use Rattle.jr_writes.proofs.IndexLemmas.{place_same}
use Rattle.jr_writes.specs.Sheets.{sheet_at}
use Rattle.jr_writes.proofs.SheetFacts.{nothing_on}
use Rattle.jr_writes.proofs.TableFacts.{empty_sheet, table_same, table_step}

-- the name of a sector's sheet
abbrev pub name_of : ℕ × ℕ → ℕ × ℕ
name_of at = (at.0, at.1 / 4096)

is_at-place : (a b : ℕ × ℕ) → is_at (place_order a) b ≡ ((a.0 == b.0) && (a.1 == b.1))
is_at-place a b = grind (arith, nat_tests)

pub number_parts : (n m : ℕ) → (n == m) ≡ ((n / 4096 == m / 4096) && (m % 4096 == n % 4096))
number_parts n m =
    elim (cases_eq n m) [
      | inl same ↦
          eq-eqb n m same
          ∙ sym
          (ap (λ (b : Bool). b && (m % 4096 == n % 4096)) (eq-eqb (n / 4096) (m / 4096) (ap (λ (x : ℕ). x / 4096) same))
          ∙ eq-eqb (m % 4096) (n % 4096) (ap (λ (x : ℕ). x % 4096) (sym same)))
      | inr other ↦
          ne_eqb n m other
          ∙ sym
          (elim (cases_eq (n / 4096) (m / 4096)) [
            | inl high ↦
                ap (λ (b : Bool). b && (m % 4096 == n % 4096)) (eq-eqb (n / 4096) (m / 4096) high)
                ∙ ne_eqb (m % 4096) (n % 4096) (λ low. other (omega arith))
            | inr high ↦ ap (λ (b : Bool). b && (m % 4096 == n % 4096)) (ne_eqb (n / 4096) (m / 4096) high)
          ])
    ]

-- two sectors are one where their sheets are, and their places
sectors_agree : (a b : ℕ × ℕ) → is_at (place_order a) b ≡ (is_at (place_order (name_of a)) (name_of b) && (b.1 % 4096 == a.1 % 4096))
sectors_agree a b =
    is_at-place a b
    ∙ ap (λ (x : Bool). (a.0 == b.0) && x) (number_parts a.1 b.1)
    ∙ regroup (a.0 == b.0) (a.1 / 4096 == b.1 / 4096) (b.1 % 4096 == a.1 % 4096)
    ∙ ap (λ (x : Bool). x && (b.1 % 4096 == a.1 % 4096)) (sym (is_at-place (name_of a) (name_of b)))
  where
    regroup : (x y z : Bool) → (x && (y && z)) ≡ (x && y && z)
    regroup true y z = refl
    regroup false y z = refl

module _ (es new : List ((ℕ × ℕ) × Sheet Spot)) (at : ℕ × ℕ) (o : Option (Sheet Spot))
    (sheets : (k : ℕ × ℕ) → sheet_at_place new k ≡ cond (is_at (place_order (name_of at)) k) o (sheet_at_place es k)) where
  sector_step : (v : Option Spot) → ((p : ℕ) → in_sheet o p ≡ cond (p == at.1 % 4096) v (in_sheet (sheet_at_place es (name_of at)) p)) → (q : ℕ × ℕ) → sector_at new q ≡ cond (is_at (place_order at) q) v (sector_at es q)
  unfolding sector_at
  sector_step v places =
      table_step name_of (λ q. q.1 % 4096) (λ a b. is_at (place_order a) b) (λ a b. is_at (place_order a) b) place_same sectors_agree (sheet_at_place es) (sheet_at_place new) at o v sheets places

  sector_same : ((p : ℕ) → in_sheet o p ≡ in_sheet (sheet_at_place es (name_of at)) p) → (q : ℕ × ℕ) → sector_at new q ≡ sector_at es q
  unfolding sector_at
  sector_same places =
      table_same name_of (λ q. q.1 % 4096) (λ a b. is_at (place_order a) b) (λ a b. is_at (place_order a) b) place_same sectors_agree (sheet_at_place es) (sheet_at_place new) at o sheets places

-- ---- offsets

-- the sector at an offset
abbrev pub sector_of : ℕ × ℕ → ℕ × ℕ
sector_of place = (place.0, place.1 / 512)

same_sector : (p q : ℕ × ℕ) → p.1 % 512 ≡ 0 → q.1 % 512 ≡ 0 → is_at (place_order (sector_of p)) (sector_of q) ≡ is_at (place_order p) q
same_sector p q x y =
    is_at-place (sector_of p) (sector_of q)
    ∙ ap (λ (b : Bool). (p.0 == q.0) && b)
    (elim (cases_eq p.1 q.1) [
      | inl same ↦ eq-eqb (p.1 / 512) (q.1 / 512) (ap (λ (n : ℕ). n / 512) same) ∙ sym (eq-eqb p.1 q.1 same)
      | inr other ↦ ne_eqb (p.1 / 512) (q.1 / 512) (λ e. other (omega arith)) ∙ sym (ne_eqb p.1 q.1 other)
    ])
    ∙ sym (is_at-place p q)

pub at_sector : (es : List ((ℕ × ℕ) × Sheet Spot)) (place : ℕ × ℕ) → place.1 % 512 ≡ 0 → spot_at es place ≡ sector_at es (sector_of place)
unfolding spot_at
at_sector es place aligned = ap (λ (b : Bool). cond b (sector_at es (sector_of place)) None) (eq-eqb (place.1 % 512) 0 aligned)

pub off_sector : (es : List ((ℕ × ℕ) × Sheet Spot)) (place : ℕ × ℕ) → (place.1 % 512 ≡ 0 → ⊥) → spot_at es place ≡ None
unfolding spot_at
off_sector es place other = ap (λ (b : Bool). cond b (sector_at es (sector_of place)) None) (ne_eqb (place.1 % 512) 0 other)

-- what stands somewhere begins a sector
pub aligned : (es : List ((ℕ × ℕ) × Sheet Spot)) (place : ℕ × ℕ) (spot : Spot) → spot_at es place ≡ Some spot → place.1 % 512 ≡ 0
aligned es place spot at =
    elim (cases_eq (place.1 % 512) 0) [
      | inl e ↦ e
      | inr other ↦ absurd (none-some spot (sym (off_sector es place other) ∙ at))
    ]

module _ (es new : List ((ℕ × ℕ) × Sheet Spot)) (place : ℕ × ℕ) (begins : place.1 % 512 ≡ 0) (o : Option (Sheet Spot))
    (sheets : (k : ℕ × ℕ) → sheet_at_place new k ≡ cond (is_at (place_order (name_of (sector_of place))) k) o (sheet_at_place es k)) where
  -- one sheet becomes another, at one place
  pub spot_step : (v : Option Spot) → ((p : ℕ) → in_sheet o p ≡ cond (p == place.1 / 512 % 4096) v (in_sheet (sheet_at_place es (name_of (sector_of place))) p)) → (q : ℕ × ℕ) → spot_at new q ≡ cond (is_at (place_order place) q) v (spot_at es q)
  spot_step v places q =
      elim (cases_eq (q.1 % 512) 0) [
        | inl e ↦
            at_sector new q e
            ∙ sector_step es new (sector_of place) o sheets v places (sector_of q)
            ∙ ap (λ (b : Bool). cond b v (sector_at es (sector_of q))) (same_sector place q begins e)
            ∙ ap (λ (x : Option Spot). cond (is_at (place_order place) q) v x) (sym (at_sector es q e))
        | inr other ↦
            off_sector new q other
            ∙ sym (off_sector es q other)
            ∙ sym
            (ap (λ (b : Bool). cond b v (spot_at es q))
            (false_from_ne_true (is_at (place_order place) q)
            (λ same. other (ap (λ (x : ℕ × ℕ). x.1 % 512) (sym (place_same place q same)) ∙ begins))))
      ]

  -- or has the same at all places
  pub spot_same : ((p : ℕ) → in_sheet o p ≡ in_sheet (sheet_at_place es (name_of (sector_of place))) p) → (q : ℕ × ℕ) → spot_at new q ≡ spot_at es q
  spot_same places q =
      elim (cases_eq (q.1 % 512) 0) [
        | inl e ↦
            at_sector new q e
            ∙ sector_same es new (sector_of place) o sheets places (sector_of q)
            ∙ sym (at_sector es q e)
        | inr other ↦ off_sector new q other ∙ sym (off_sector es q other)
      ]

-- what stands at an offset is what its sheet has
pub at_spot : (es : List ((ℕ × ℕ) × Sheet Spot)) (place : ℕ × ℕ) → place.1 % 512 ≡ 0 → (o : Option (Sheet Spot)) → sheet_at_place es (name_of (sector_of place)) ≡ o → spot_at es place ≡ in_sheet o (place.1 / 512 % 4096)
unfolding sector_at
at_spot es place begins o found = at_sector es place begins ∙ ap (λ (x : Option (Sheet Spot)). in_sheet x (place.1 / 512 % 4096)) found

pub no_spot : (q : ℕ × ℕ) → spot_at [] q ≡ None
unfolding spot_at sector_at
no_spot q = by (q.1 % 512 == 0)
  where
    by : (b : Bool) → cond {A = Option Spot} b None None ≡ None
    by true = refl
    by false = refl

-- nothing is taken out where nothing stands
pub spot_none : (es : List ((ℕ × ℕ) × Sheet Spot)) (place : ℕ × ℕ) → spot_at es place ≡ None → (q : ℕ × ℕ) → spot_at es q ≡ cond (is_at (place_order place) q) None (spot_at es q)
spot_none es place none q = by (is_at (place_order place) q) refl
  where
    by : (b : Bool) → is_at (place_order place) q ≡ b → spot_at es q ≡ cond b None (spot_at es q)
    by true h = ap (spot_at es) (sym (place_same place q h)) ∙ none
    by false h = refl

-- ---- sheets that are not empty

module _ (es new : List ((ℕ × ℕ) × Sheet Spot)) (name : ℕ × ℕ) (filled : HasNoEmptySheet es) where
  pub sheets_filled : (sheet : Sheet Spot) → ((k : ℕ × ℕ) → sheet_at_place new k ≡ cond (is_at (place_order name) k) (Some sheet) (sheet_at_place es k)) → (sheet.rows.taken ≡ 0 → ⊥) → HasNoEmptySheet new
  sheets_filled sheet step some k other at = by (is_at (place_order name) k) (sym (step k) ∙ at)
    where
      by : (b : Bool) → cond b (Some sheet) (sheet_at_place es k) ≡ Some other → other.rows.taken ≡ 0 → ⊥
      by true h = subst (λ (x : Sheet Spot). x.rows.taken ≡ 0 → ⊥) (same_Some sheet other h) some
      by false h = filled k other h

  pub sheets_less : ((k : ℕ × ℕ) → sheet_at_place new k ≡ cond (is_at (place_order name) k) None (sheet_at_place es k)) → HasNoEmptySheet new
  sheets_less step k other at = by (is_at (place_order name) k) (sym (step k) ∙ at)
    where
      by : (b : Bool) → cond b None (sheet_at_place es k) ≡ Some other → other.rows.taken ≡ 0 → ⊥
      by true h = absurd (none-some other h)
      by false h = filled k other h

pub sheets_after : {X E : Type 0} (m n : BTreeMap (ℕ × ℕ) (Sheet Spot)) (name : ℕ × ℕ) → HasNoEmptySheet m.entries → (result : Result X E) (sheet : Sheet Spot) → OnOk result (Updates place_order m n name (Some sheet)) → OnErr result (IsUnchanged m n) → (sheet.rows.taken ≡ 0 → ⊥) → HasNoEmptySheet n.entries
sheets_after m n name filled (Ok x) sheet ok err some = sheets_filled m.entries n.entries name filled sheet ok.0 some
sheets_after m n name filled (Err e) sheet ok err some = subst HasNoEmptySheet (sym err) filled

-- a sheet with something isn't empty
pub full_with : (sheet : Sheet Spot) (p : ℕ) (v : Spot) → sheet_at sheet.rows p ≡ Some v → sheet.rows.taken ≡ 0 → ⊥
full_with sheet p v some empty = none-some v (sym (empty_sheet sheet empty p) ∙ some)

-- nor one after a value was put on it
pub full_after : {X E : Type 0} (result : Result X E) (old new : Sheet Spot) (p : ℕ) (v : Spot) → OnOk result ((q : ℕ) → sheet_at new.rows q ≡ cond (q == p) (Some v) (sheet_at old.rows q)) → OnErr result ((q : ℕ) → sheet_at new.rows q ≡ sheet_at old.rows q) → (old.rows.taken ≡ 0 → ⊥) → new.rows.taken ≡ 0 → ⊥
full_after (Ok x) old new p v ok err some =
    full_with new p v (ok p ∙ ap (λ (b : Bool). cond b (Some v) (sheet_at old.rows p)) (eq-eqb p p refl))
full_after (Err e) old new p v ok err some = λ empty.
    some (nothing_on old.rows old.filled (λ q lt. sym (err q) ∙ empty_sheet new empty q))
