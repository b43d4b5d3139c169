-- Lemmas on reads and writes of one of some files.
use Rattle.std.proofs.Common.{◌≡◌, ℕ, ◌+◌, ◌<◌, List, [], ◌∷◌, ◌++◌, length, map, take, slice_get, slice_set, slice_index_or, Some, Result, IsTrue, sym, subst, ap, ◌∙◌, arith}
use Rattle.std.specs.Option.{option_map}
use Rattle.std.proofs.lemmas.Bool.Decides.{nat_tests}
use Rattle.std.proofs.lemmas.List.{length-map, map-append, map-set, map_more}
use Rattle.std.proofs.lemmas.Option.{slice_get-map, slice_get-get_or}
use Rattle.jr_engines.specs.declared.faults.EngineFault.{EngineFault}
use Rattle.jr_io_files.specs.Engines.{ReadsFile, ReadsKnown, WritesFile, WritesKnown, has_place}
use Rattle.jr_io_blocks.specs.Parts.{FileView}

-- what is known of one of some files is what is known of the file there
view_of : {F : Type 0} (view : F → FileView) (files : List F) (place : ℕ) (other : F) (before : FileView) → place < length files → slice_get (map view files) place ≡ Some before → view (slice_index_or files place other) ≡ before
view_of view files place other before inside known =
    let there : slice_get files place ≡ Some (slice_index_or files place other) = slice_get-get_or files place other inside in
    let seen : slice_get (map view files) place ≡ Some (view (slice_index_or files place other)) =
    slice_get-map view files place ∙ ap (λ o. option_map view o) there
    in
    cc

-- a read of one of some files, seen from all of them
pub reads_known : {F : Type 0} (view : F → FileView) (files : List F) (place offset : ℕ) (before : List ℕ) (answer : Result ℕ EngineFault) (after : List ℕ) (other : F) → IsTrue (has_place (length files) place offset (length before)) → ReadsFile (view (slice_index_or files place other)) offset before answer after → ReadsKnown (map view files) place offset before answer after
reads_known view files place offset before answer after other places reads known there =
    let inside : place < length files = grind (arith, nat_tests) in
    subst (λ (v : FileView). ReadsFile v offset before answer after) (view_of view files place other known inside there) reads

-- a write to one of some files, seen from all of them
pub writes_known : {F : Type 0} (view : F → FileView) (files : List F) (place offset : ℕ) (buffer : List ℕ) (answer : Result ℕ EngineFault) (other after : F) → IsTrue (has_place (length files) place offset (length buffer)) → WritesFile (view (slice_index_or files place other)) offset buffer answer (view after) → WritesKnown (map view files) place offset buffer answer (map view (slice_set files place after))
writes_known view files place offset buffer answer other after places writes =
    let inside : place < length files = grind (arith, nat_tests) in
    record {
      after = view after;
      files = map-set view files place after;
      writes = λ before there. subst (λ (v : FileView). WritesFile v offset buffer answer (view after)) (view_of view files place other before inside there) writes;
    }

-- one more file, of which as much is known as of the next one of these
pub one_more : {F G : Type 0} (view : F → FileView) (seen : G → FileView) (all listed : List G) (made more : List F) (i : ℕ) (next : G) (one : F) → listed ≡ all → i < length listed → next ≡ slice_index_or listed i next → view one ≡ seen next → map view made ≡ map seen (take i all) → more ≡ made ++ one ∷ [] → map view more ≡ map seen (take (i + 1) all)
one_more view seen all listed made more i next one listing inside is same so_far pushed =
    ap (map view) pushed
    ∙ map-append view made (one ∷ [])
    ∙ ap (λ z. z ++ view one ∷ []) (so_far ∙ ap (λ z. map seen (take i z)) (sym listing))
    ∙ ap (λ v. map seen (take i listed) ++ v ∷ []) (same ∙ ap seen is)
    ∙ sym (map_more seen listed i next inside)
    ∙ ap (λ z. map seen (take (i + 1) z)) listing

-- where as much is known of each, they are as many
pub as_many : {F G : Type 0} (view : F → FileView) (seen : G → FileView) (files : List F) (all : List G) → map view files ≡ map seen all → length files ≡ length all
as_many view seen files all same = sym (length-map files view) ∙ ap length same ∙ length-map all seen
