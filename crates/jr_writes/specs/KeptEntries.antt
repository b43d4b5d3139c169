-- Internal: the entries that the kept pieces and places stand for.
use Rattle.std.specs.Prelude.{⊤, ℕ, ◌<◌, ◌≤◌, ◌++◌, List, [], All, length, map, slice_index_or}
use Rattle.std.specs.List.{SameBelow}
use Rattle.jr_model.specs.declared.blocks.Piece.{Piece}
use Rattle.jr_model.specs.declared.contents.Expected.{Expected}
use Rattle.jr_model.specs.declared.contents.Expected.TheVariants.{Nothing, Header, Seed}
use Rattle.jr_model.specs.declared.contents.VerifyKind.TheVariants.{Plain}
use Rattle.jr_model.specs.declared.events.WriteId.{WriteId}
use Rattle.jr_model.specs.Content.{block_version, header_front}
use Rattle.jr_writes.specs.declared.kept.Head.{Head}
use Rattle.jr_writes.specs.declared.kept.Kept.{Kept}
use Rattle.jr_writes.specs.declared.kept.Known.{Known}
use Rattle.jr_writes.specs.declared.kept.Place.{Place}
use Rattle.jr_writes.specs.declared.kept.Place.TheVariants as place
use Rattle.jr_writes.specs.declared.logs.Logged.{Logged}

-- the header of which this is kept, of a write of this piece
abbrev pub head_bytes : Head → Piece → List ℕ
head_bytes head piece =
    header_front block_version head.kind (record { clone = head.clone; pass = head.pass; number = head.number }) piece ++ head.back

-- what stands for a header where none is kept
abbrev pub no_head : Head
no_head = record { back = []; number = 0; pass = 0; clone = 0; kind = Plain }

-- what the checks of a write of this piece compare with, by its place
abbrev pub made_at : Known → Place → Piece → Expected
made_at known place.Nothing piece = Nothing
made_at known (place.Whole i) piece = slice_index_or known.whole.items i Nothing
made_at known (place.Head i) piece = Header (head_bytes (slice_index_or known.heads.items i no_head) piece)
made_at known (place.Seed i) piece = Seed (slice_index_or known.seeds.items i 0)

-- the place is one of those that are known
abbrev pub IsPlaced : Known → Place → Type 0
IsPlaced known place.Nothing = ⊤
IsPlaced known (place.Whole i) = i < length known.whole.items
IsPlaced known (place.Head i) = i < length known.heads.items
IsPlaced known (place.Seed i) = i < length known.seeds.items

-- more may be known than before, and what was known is where it was
pub record IsMore (known more : Known) : Type 0 where
  pub whole : SameBelow known.whole.items more.whole.items (length known.whole.items)
  pub heads : SameBelow known.heads.items more.heads.items (length known.heads.items)
  pub seeds : SameBelow known.seeds.items more.seeds.items (length known.seeds.items)
  pub more_whole : length known.whole.items ≤ length more.whole.items
  pub more_heads : length known.heads.items ≤ length more.heads.items
  pub more_seeds : length known.seeds.items ≤ length more.seeds.items

-- the entry that is kept
abbrev pub logged_as : Known → Kept → Logged
logged_as known kept = record { piece = kept.piece; expected = made_at known kept.place kept.piece }

-- the entries that are kept, in their order
abbrev pub entries_of : Known → List (WriteId × Kept) → List (WriteId × Logged)
entries_of known writes = map (λ e. (e.0, logged_as known e.1)) writes

-- the places of all that is kept are among those that are known
abbrev pub ArePlaced : Known → List (WriteId × Kept) → Type 0
ArePlaced known writes = All (λ e. IsPlaced known e.1.place) writes
