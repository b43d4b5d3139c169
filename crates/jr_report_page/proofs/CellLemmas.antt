-- The cells of a map, one cell more, and all of them.
use Rattle.std.proofs.Common.{◌≡◌, ℕ, ◌+◌, ◌<◌, List, [], ◌∷◌, ◌++◌, length, get_or, sym, ap, ◌∙◌, subst, arith, inl, inr, length-append}
use Rattle.std.specs.Prelude.{Option, None}
use Rattle.std.specs.Int.{div_ceil}
use Rattle.std.proofs.lemmas.Bool.{cases_lt}
use Rattle.std.proofs.lemmas.List.{get_or_append_left, get_or_push}
use Rattle.jr_model.specs.declared.events.Event.{Event}
use Rattle.jr_model.specs.Plan.{Plan}
use Rattle.jr_report_page.specs.Cells.{AreCellsBy, AreCellsOf, IsCellAt, IsCellOf}
use Rattle.jr_report_page.specs.declared.cells.Cell.{Cell}
use Rattle.jr_report_maps.specs.declared.fates.Fate.TheVariants.{Untouched}
use Rattle.jr_report_maps.specs.declared.maps.FileMap.{FileMap}
use Rattle.jr_report_maps.specs.Firsts.{first_bad}
use Rattle.jr_report_maps.specs.Maps.{IsMapOf}
use Rattle.jr_desk_totals.specs.declared.tallies.Bad.{Bad}

pub no_cells : (map : FileMap) (firsts : List (Option Bad)) (end : ℕ) (cells : List Cell) → cells ≡ [] → AreCellsBy map firsts end 0 cells
no_cells map firsts end cells none = record {
  count = ap (λ (xs : List Cell). length xs) none;
  each = λ k d below. absurd (omega (arith, below));
}

pub cell_more : (map : FileMap) (firsts : List (Option Bad)) (end n : ℕ) (was now : List Cell) (cell : Cell) → now ≡ was ++ cell ∷ []
    → IsCellAt map firsts end n cell → AreCellsBy map firsts end n was → AreCellsBy map firsts end (n + 1) now
cell_more map firsts end n was now cell more is so = record {
  count = ap (λ (xs : List Cell). length xs) more ∙ length-append was (cell ∷ []) ∙ ap (λ (k : ℕ). k + 1) so.count;
  each = λ k d below. elim (cases_lt k n) [
    | inl low ↦
        let same : get_or now k d ≡ get_or was k d =
        ap (λ (xs : List Cell). get_or xs k d) more ∙ get_or_append_left was (cell ∷ []) d k (omega (arith, low, so.count)) in
        subst (λ (it : Cell). IsCellAt map firsts end k it) (sym same) (so.each k d low)
    | inr high ↦
        let at : n ≡ k = omega (arith, high, below) in
        let last : get_or now k d ≡ cell =
        ap (λ (xs : List Cell). get_or xs k d) more ∙ get_or_push was cell d k (so.count ∙ at) in
        subst (λ (it : Cell). IsCellAt map firsts end k it) (sym last) (subst (λ (j : ℕ). IsCellAt map firsts end j cell) at is)
  ];
}

-- the cells by a map and the first bad verdicts over its cells are those of the file
pub all_cells : (map : FileMap) (firsts : List (Option Bad)) (plan : Plan) (history : List Event) (bads : List Bad) (file end most : ℕ) (cells : List Cell)
    → IsMapOf plan history file end most map → length firsts ≡ length map.fates.items
    → ((cell : ℕ) (d : Option Bad) → cell < length firsts → get_or firsts cell d ≡ first_bad plan bads file map.size cell)
    → AreCellsBy map firsts end (length map.fates.items) cells → AreCellsOf plan history bads file end most cells
all_cells map firsts plan history bads file end most cells is same found by = record {
  count = by.count ∙ is.count ∙ ap (λ (size : ℕ). div_ceil end size) is.size;
  each = λ k d below.
      let within : k < length map.fates.items = omega (arith, below, by.count) in
      let at = by.each k d within in
      subst (λ (size : ℕ). IsCellOf plan history bads file end size k (get_or cells k d)) is.size (record {
        place = at.place;
        begin = at.begin;
        behind = at.behind;
        fate = at.fate Untouched ∙ is.fates k Untouched within;
        first = at.first None ∙ found k None (omega (arith, within, same));
      });
}
