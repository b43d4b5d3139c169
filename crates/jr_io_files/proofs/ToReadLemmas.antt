-- What is known of the files that are opened to be judged, and of one more.
use Rattle.std.proofs.Common.{◌≡◌, ℕ, suc, zero, ◌+◌, List, [], ◌∷◌, ◌++◌, take, length, map, slice_get, Some, refl, sym, ap, ◌∙◌, arith}
use Rattle.std.proofs.lemmas.List.{length-map, map-append}
use Rattle.jr_model.specs.Plan.{FileSpec, SubJob}
use Rattle.jr_io_blocks.specs.Parts.{FileView}
use Rattle.jr_io_files.specs.declared.shares.SharedFile.{SharedFile}
use Rattle.jr_io_files.specs.Opened.{shared_view}
use Rattle.jr_io_files.specs.ToRead.{view_to_read, views_to_read}

pub one_view_more : (clones : List SubJob) (from : ℕ) (specs : List FileSpec) (i : ℕ) (spec : FileSpec) → slice_get specs i ≡ Some spec → views_to_read clones from (take (i + 1) specs) ≡ views_to_read clones from (take i specs) ++ view_to_read clones (from + i) spec ∷ []
one_view_more clones from [] i spec there = grind (arith, there)
one_view_more clones from (first ∷ specs) zero spec there = grind (arith, there)
one_view_more clones from (first ∷ specs) (suc i) spec there =
    let same : suc from + i ≡ from + suc i = omega arith in
    let next : suc i + 1 ≡ suc (i + 1) = omega arith in
    ap (λ (n : ℕ). views_to_read clones from (take n (first ∷ specs))) next
    ∙ ap (λ (l : List FileView). view_to_read clones from first ∷ l)
    (one_view_more clones (suc from) specs i spec there ∙ ap (λ (n : ℕ). views_to_read clones (suc from) (take i specs) ++ view_to_read clones n spec ∷ []) same)

pub views_length : (clones : List SubJob) (from : ℕ) (specs : List FileSpec) → length (views_to_read clones from specs) ≡ length specs
views_length clones from [] = refl
views_length clones from (spec ∷ specs) = ap suc (views_length clones (suc from) specs)

pub as_many : (clones : List SubJob) (specs : List FileSpec) (files : List SharedFile) → map shared_view files ≡ views_to_read clones 0 specs → length files ≡ length specs
as_many clones specs files same = sym (length-map files shared_view) ∙ ap length same ∙ views_length clones 0 specs

-- one file more that was opened
pub one_opened_more : (clones : List SubJob) (specs listed : List FileSpec) (i : ℕ) (spec : FileSpec) (files more : List SharedFile) (file : SharedFile) → listed ≡ specs → slice_get listed i ≡ Some spec → map shared_view files ≡ views_to_read clones 0 (take i specs) → shared_view file ≡ view_to_read clones i spec → more ≡ files ++ file ∷ [] → map shared_view more ≡ views_to_read clones 0 (take (i + 1) specs)
one_opened_more clones specs listed i spec files more file same there so_far is pushed =
    ap (map shared_view) pushed
    ∙ map-append shared_view files (file ∷ [])
    ∙ ap (λ (l : List FileView). l ++ shared_view file ∷ []) so_far
    ∙ ap (λ (v : FileView). views_to_read clones 0 (take i specs) ++ v ∷ []) is
    ∙ ap (λ (n : ℕ). views_to_read clones 0 (take i specs) ++ view_to_read clones n spec ∷ []) from_0
    ∙ sym (one_view_more clones 0 specs i spec (ap (λ (l : List FileSpec). slice_get l i) (sym same) ∙ there))
  where
    from_0 : i ≡ 0 + i
    from_0 = omega arith
