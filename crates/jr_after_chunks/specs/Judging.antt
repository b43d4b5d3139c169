-- Believed: the finding on the bytes of a chunk, by all writes of a plan with their lines (of this project).
use Rattle.std.specs.Prelude.{ℕ, max, Bool, List, [], ◌∷◌, filter, slice_get, Option, Some, None, if◌then◌else◌}
use Rattle.jr_model.specs.declared.blocks.Piece.{Piece}
use Rattle.jr_after.specs.declared.findings.Finding.{Finding}
use Rattle.jr_after.specs.declared.writes.Named.{Named}
use Rattle.jr_after.specs.Findings.{finding_of}
use Rattle.jr_after.specs.Writes.{has_chunk}
use Rattle.jr_after_plans.specs.Fits.{CanBeWritten}

-- the write is over the chunk
abbrev pub is_over : Piece → Named → Bool
is_over chunk named = has_chunk chunk named.planned

-- those of them that are
abbrev pub named_over : Piece → List Named → List Named
named_over chunk named = filter (is_over chunk) named

-- the finding, where the writes in the first `kept` lines are kept
abbrev pub finding_among : ℕ → List Named → Piece → List ℕ → Finding
finding_among kept named chunk bytes = finding_of kept (named_over chunk named) chunk bytes

abbrev pub CanBeNamed : Named → Type 0
CanBeNamed named = CanBeWritten named.planned

-- the write at a place, if it is over the chunk
abbrev pub over_one : Piece → Option Named → List Named
over_one chunk None = []
over_one chunk (Some named) = if is_over chunk named then named ∷ [] else []

abbrev pub over_at : Piece → List Named → ℕ → List Named
over_at chunk named place = over_one chunk (slice_get named place)

-- the length of the longest block of these writes
abbrev pub longest_of : List Named → ℕ
longest_of [] = 0
longest_of (named ∷ rest) = max named.planned.piece.len (longest_of rest)
