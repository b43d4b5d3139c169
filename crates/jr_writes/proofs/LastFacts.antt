-- The last place of a file before an end, found on its sheet or on one above.
use Rattle.std.proofs.Common.{◌≡◌, ℕ, ◌+◌, ◌*◌, ◌/◌, ◌%◌, ◌<◌, ◌≤◌, false, List, Option, Some, None, IsSome, arith, refl, sym, ap, ◌∙◌, inl, inr}
use Rattle.std.specs.declared.cmp.Ordering.TheVariants.{Less}
use Rattle.std.specs.Ordering.{is_lt}
use Rattle.std.proofs.lemmas.Bool.{cases_eq, cases_lt}
use Rattle.jr_model.proofs.BoolLemmas.{never_both}
use Rattle.jr_writes.specs.declared.sheets.Sheet.{Sheet}
use Rattle.jr_writes.specs.declared.spot.Spot.{Spot}
use Rattle.jr_writes.specs.Index.{place_order}
use Rattle.jr_writes.specs.Last.{IsLastBefore}
use Rattle.jr_writes.specs.Names.{in_sheet}
use Rattle.jr_writes.specs.Places.{HasNoEmptySheet, IsLastAbove, IsLastOn, placed, sector_at, sheet_at_place, spot_at, with_offset}
use Rattle.jr_writes.specs.Sheets.{sheet_at}
use Rattle.jr_writes.specs.Slots.{IsLastTaken}
use Rattle.jr_writes.proofs.Overlaps.{before_by_file, before_from_parts, before_parts, some_is}
use Rattle.jr_writes.proofs.PlaceFacts.{at_sector, off_sector}
use Rattle.jr_writes.proofs.SheetFacts.{nothing_on}

module _ (es : List ((ℕ × ℕ) × Sheet Spot)) where
  pub no_sheet : (file q : ℕ) → sheet_at_place es (file, q / 4096) ≡ None → sector_at es (file, q) ≡ None
  unfolding sector_at
  no_sheet file q none = ap (λ (o : Option (Sheet Spot)). in_sheet o (q % 4096)) none

  module _ (name : ℕ × ℕ) (sheet : Sheet Spot) (there : sheet_at_place es name ≡ Some sheet) where
    on_sheet : (q : ℕ) → q / 4096 ≡ name.1 → sector_at es (name.0, q) ≡ sheet_at sheet.rows (q % 4096)
    unfolding sector_at
    on_sheet q same =
        ap (λ (k : ℕ). in_sheet (sheet_at_place es (name.0, k)) (q % 4096)) same
        ∙ ap (λ (o : Option (Sheet Spot)). in_sheet o (q % 4096)) there

    pub last_on_found : (end : ℕ) → end ≤ 4096 → (found : Option ℕ) → IsLastTaken (sheet_at sheet.rows) end found → IsLastOn (sector_at es) name end (placed name.1 (sheet_at sheet.rows) found)
    last_on_found end fits None none = λ q same lt. on_sheet q same ∙ none (q % 4096) (omega arith)
    last_on_found end fits (Some p) last = by (sheet_at sheet.rows p) refl last.1
      where
        by : (o : Option Spot) → sheet_at sheet.rows p ≡ o → IsSome o → IsLastOn (sector_at es) name end (with_offset ((name.1 * 4096 + p) * 512) o)
        by None here some = cc
        by (Some s) here some =
            let below = last.0 in
            let sector : (name.1 * 4096 + p) * 512 / 512 ≡ name.1 * 4096 + p = omega arith in
            let number : (name.1 * 4096 + p) / 4096 ≡ name.1 = omega arith in
            let place : (name.1 * 4096 + p) % 4096 ≡ p = omega arith in (
              omega arith,
              ap (λ (q : ℕ). sector_at es (name.0, q)) sector ∙ on_sheet (name.1 * 4096 + p) number ∙ ap (sheet_at sheet.rows) place ∙ here,
              omega arith,
              omega arith,
              λ q more same lt. on_sheet q same ∙ last.2 (q % 4096) (omega arith) (omega arith),
            )

  pub none_on : (name : ℕ × ℕ) (end : ℕ) → sheet_at_place es name ≡ None → IsLastOn (sector_at es) name end None
  none_on name end none = λ q same lt. no_sheet name.0 q (ap (λ (k : ℕ). sheet_at_place es (name.0, k)) same ∙ none)

  -- ---- the sheets above

  module _ (name above : ℕ × ℕ) (less : place_order above name ≡ Less)
      (between : (k : ℕ × ℕ) → place_order k name ≡ Less → IsSome (sheet_at_place es k) → is_lt (place_order above k) ≡ false) where
    sheets_between : (q : ℕ) → q / 4096 < name.1 → (place_order above (name.0, q / 4096) ≡ Less) → sector_at es (name.0, q) ≡ None
    sheets_between q lt after = by (sheet_at_place es (name.0, q / 4096)) refl
      where
        by : (o : Option (Sheet Spot)) → sheet_at_place es (name.0, q / 4096) ≡ o → sector_at es (name.0, q) ≡ None
        by None none = no_sheet name.0 q none
        by (Some sheet) there =
            absurd
            (never_both (is_lt (place_order above (name.0, q / 4096))) (ap is_lt after)
            (between (name.0, q / 4096) (before_from_parts (name.0, q / 4096) name refl lt) (some_is (sheet_at_place es (name.0, q / 4096)) sheet there)))

    -- where it is of another file, the file has none
    pub none_of_file : (above.0 ≡ name.0 → ⊥) → IsLastAbove (sector_at es) name None
    none_of_file other q lt =
        elim (before_parts above name less) [
          | inl h ↦ sheets_between q lt (less_file h)
          | inr h ↦ absurd (other h.0)
        ]
      where
        less_file : above.0 < name.0 → place_order above (name.0, q / 4096) ≡ Less
        less_file h = before_by_file above (name.0, q / 4096) h

    module _ (same : above.0 ≡ name.0) (sheet : Sheet Spot) (there : sheet_at_place es above ≡ Some sheet) (filled : HasNoEmptySheet es) where
      pub last_above_found : (found : Option ℕ) → IsLastTaken (sheet_at sheet.rows) 4096 found → IsLastAbove (sector_at es) name (placed above.1 (sheet_at sheet.rows) found)
      last_above_found None none = absurd (filled above sheet there (nothing_on sheet.rows sheet.filled none))
      last_above_found (Some p) last = by (sheet_at sheet.rows p) refl last.1
        where
          lower : above.1 < name.1
          lower =
              elim (before_parts above name less) [
                | inl h ↦ absurd (omega arith)
                | inr h ↦ h.1
              ]

          on : (q : ℕ) → q / 4096 ≡ above.1 → sector_at es (name.0, q) ≡ sheet_at sheet.rows (q % 4096)
          on q at = ap (λ (f : ℕ). sector_at es (f, q)) (sym same) ∙ on_sheet above sheet there q at

          by : (o : Option Spot) → sheet_at sheet.rows p ≡ o → IsSome o → IsLastAbove (sector_at es) name (with_offset ((above.1 * 4096 + p) * 512) o)
          by None here some = cc
          by (Some s) here some =
              let below = last.0 in
              let low = lower in
              let sector : (above.1 * 4096 + p) * 512 / 512 ≡ above.1 * 4096 + p = omega arith in
              let number : (above.1 * 4096 + p) / 4096 ≡ above.1 = omega arith in
              let place : (above.1 * 4096 + p) % 4096 ≡ p = omega arith in (
                omega arith,
                ap (λ (q : ℕ). sector_at es (name.0, q)) sector ∙ on (above.1 * 4096 + p) number ∙ ap (sheet_at sheet.rows) place ∙ here,
                omega arith,
                λ q more lt.
                    elim (cases_eq (q / 4096) above.1) [
                      | inl at ↦ on q at ∙ last.2 (q % 4096) (omega arith) (omega arith)
                      | inr other ↦ sheets_between q lt (before_from_parts above (name.0, q / 4096) same (omega arith))
                    ],
              )

  pub none_above_all : (name : ℕ × ℕ) → ((k : ℕ × ℕ) → place_order k name ≡ Less → sheet_at_place es k ≡ None) → IsLastAbove (sector_at es) name None
  none_above_all name none q lt = no_sheet name.0 q (none (name.0, q / 4096) (before_from_parts (name.0, q / 4096) name refl lt))

  -- ---- both

  module _ (file end : ℕ) (begins : end % 512 ≡ 0) where
    in_file : (offset : ℕ) → (offset % 512 ≡ 0 → sector_at es (file, offset / 512) ≡ None) → spot_at es (file, offset) ≡ None
    in_file offset none =
        elim (cases_eq (offset % 512) 0) [
          | inl e ↦ at_sector es (file, offset) e ∙ none e
          | inr other ↦ off_sector es (file, offset) other
        ]

    pub last_here_found : (found : ℕ × Spot) → IsLastOn (sector_at es) (file, end / 512 / 4096) (end / 512 % 4096) (Some found) → IsLastBefore (spot_at es) file end (Some found)
    last_here_found f on =
        let a = on.0 in
        let b = on.2 in
        let c = on.3 in (
          at_sector es (file, f.0) on.0 ∙ on.1,
          omega arith,
          λ offset more lt. in_file offset (λ e. on.4 (offset / 512) (omega arith) (omega arith) (omega arith)),
        )

    pub last_above_both : (found : Option (ℕ × Spot)) → IsLastOn (sector_at es) (file, end / 512 / 4096) (end / 512 % 4096) None → IsLastAbove (sector_at es) (file, end / 512 / 4096) found → IsLastBefore (spot_at es) file end found
    last_above_both None none above = λ offset lt.
        in_file offset
        (λ e.
        elim (cases_lt (offset / 512 / 4096) (end / 512 / 4096)) [
          | inl h ↦ above (offset / 512) h
          | inr h ↦ none (offset / 512) (omega arith) (omega arith)
        ])
    last_above_both (Some f) none above =
        let a = above.0 in
        let b = above.2 in (
          at_sector es (file, f.0) above.0 ∙ above.1,
          omega arith,
          λ offset more lt.
              in_file offset
              (λ e.
              elim (cases_lt (offset / 512 / 4096) (end / 512 / 4096)) [
                | inl h ↦ above.3 (offset / 512) (omega arith) h
                | inr h ↦ none (offset / 512) (omega arith) (omega arith)
              ]),
        )
