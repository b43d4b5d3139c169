-- Internal: a list of blocks while spans are gone through, the least offset first.
use Rattle.std.specs.Prelude.{◌≡◌, ℕ, ◌+◌, ◌*◌, ◌<◌, Bool, true, List, length, slice_index}
use Rattle.std.specs.List.Sorted.{IsStrictlyIncreasing}
use Rattle.jr_model.specs.declared.blocks.Piece.{Piece}
use Rattle.jr_model.specs.Pieces.{pieces_overlap}
use Rattle.jr_model.specs.Plan.{Plan}
use Rattle.jr_report_maps.specs.BadBlocks.{bad_bytes, block_piece, is_listed}
use Rattle.jr_report_maps.specs.Spans.{span_bytes}
use Rattle.jr_report_maps.specs.declared.spans.Span.{Span}
use Rattle.jr_desk_totals.specs.declared.tallies.Bad.{Bad}

-- the bytes that a bad verdict is over
abbrev pub bytes_of : Plan → Bad → Piece
bytes_of plan bad = bad_bytes plan bad.write bad.piece bad.what

-- these bytes, or those of the span, have one in the block
abbrev pub is_in_block : ℕ → ℕ → ℕ → Piece → Bool
is_in_block file size block piece = pieces_overlap piece (block_piece file size block)

abbrev pub is_over : ℕ → ℕ → ℕ → Span → Bool
is_over file size block span = is_in_block file size block (span_bytes span)

-- the blocks ascend, and each is below `next`
pub record IsRising (blocks : List ℕ) (next : ℕ) : Type 0 where
  pub ascending : IsStrictlyIncreasing blocks
  pub below : (k : ℕ) → k < length blocks → slice_index blocks k < next

-- each block below `next` that reaches past this offset is there
abbrev pub IsFilled : ℕ → List ℕ → ℕ → ℕ → Type 0
IsFilled size blocks next offset = (block : ℕ) → offset < block * size + size → block < next → is_listed blocks block ≡ true
