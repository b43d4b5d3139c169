-- Bad verdicts that are over all of some chunks are over their blocks.
use Rattle.std.proofs.Common.{◌≡◌, ℕ, List, [], ◌∷◌, map, refl, ap, ◌∙◌}
use Rattle.std.specs.Prelude.{Bool, ◌||◌}
use Rattle.std.specs.List.{list_any}
use Rattle.jr_model.specs.declared.blocks.Piece.{Piece}
use Rattle.jr_model.specs.Plan.{Plan}
use Rattle.jr_desk_totals.specs.Bads.{miscompare_of}
use Rattle.jr_desk_totals.specs.declared.tallies.Bad.{Bad}
use Rattle.jr_report_maps.specs.BadBlocks.{AreBadBlocks, is_bad_block}
use Rattle.jr_after_json.specs.Bads.{bad_over}
use Rattle.jr_after_json.specs.Blocks.{AreChunkBlocks, is_at}

over_chunks : (plan : Plan) (chunks : List Piece) (file size block : ℕ) → is_bad_block plan (map miscompare_of (map bad_over chunks)) file size block ≡ list_any (is_at file size block) chunks
over_chunks plan [] file size block = refl
over_chunks plan (chunk ∷ chunks) file size block = ap (λ (b : Bool). is_at file size block chunk || b) (over_chunks plan chunks file size block)

pub chunks_listed : (plan : Plan) (chunks : List Piece) (bads : List Bad) (file size : ℕ) (blocks : List ℕ) → bads ≡ map bad_over chunks → AreBadBlocks plan (map miscompare_of bads) file size blocks → AreChunkBlocks chunks file size blocks
chunks_listed plan chunks bads file size blocks same are = record {
  listed = λ block. are.listed block ∙ ap (λ (l : List Bad). is_bad_block plan (map miscompare_of l) file size block) same ∙ over_chunks plan chunks file size block;
  ascending = are.ascending;
}
