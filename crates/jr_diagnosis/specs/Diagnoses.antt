-- Believed: what stands in a block in place of what its write put there (of this project).
use Rattle.std.specs.Prelude.{ℕ, ◌+◌, ◌==◌, nat_lt, Bool, not, ◌&&◌, List, [], ◌∷◌, Option, Some, None, is_some, unwrap_or, if◌then◌else◌}
use Rattle.std.specs.List.{list_all}
use Rattle.jr_model.specs.declared.blocks.Piece.{Piece}
use Rattle.jr_model.specs.declared.contents.Method.{Method}
use Rattle.jr_model.specs.declared.contents.VerifyKind.{VerifyKind}
use Rattle.jr_model.specs.declared.events.WriteId.{WriteId}
use Rattle.jr_model.specs.Content.{kind_code}
use Rattle.jr_diagnosis.specs.declared.bits.Flips.{Flips}
use Rattle.jr_diagnosis.specs.declared.diagnoses.Diagnosis.{Diagnosis}
use Rattle.jr_diagnosis.specs.declared.diagnoses.Diagnosis.TheVariants.{Zeros, Repeated, Flipped, OtherKind, OtherLength, Elsewhere, OtherWrite, OtherPass, Torn, Damaged, Foreign}
use Rattle.jr_diagnosis.specs.declared.headers.BlockHeader.{BlockHeader}
use Rattle.jr_diagnosis.specs.Bits.{raised_between, cleared_between, first_wrong}
use Rattle.jr_diagnosis.specs.Headers.{header_in}
use Rattle.jr_diagnosis.specs.Sectors.{right_sectors}

-- the byte that all of these are, if they are
abbrev pub repeated_byte : List ℕ → Option ℕ
repeated_byte [] = None
repeated_byte (b ∷ bytes) = if list_all (λ (x : ℕ). x == b) bytes then Some b else None

-- the first thing that a header says otherwise of how a block is made and where it belongs
abbrev pub place_diagnosis : VerifyKind → Piece → BlockHeader → Option Diagnosis
place_diagnosis kind place header =
    if not (header.kind == kind_code kind) then Some (OtherKind header.kind)
    else (if not (header.len == place.len) then Some (OtherLength header.len)
    else (if not (header.offset == place.offset) then Some (Elsewhere header.offset) else None))

-- and of which write it is
abbrev pub write_diagnosis : WriteId → BlockHeader → Option Diagnosis
write_diagnosis write header =
    if not ((header.clone == write.clone) && (header.number == write.number)) then Some (OtherWrite header.clone header.number)
    else (if not (header.pass == write.pass) then Some (OtherPass header.pass) else None)

-- what a header says, where there is one
abbrev pub said_by : (BlockHeader → Option Diagnosis) → Option BlockHeader → Option Diagnosis
said_by says None = None
said_by says (Some header) = says header

-- by which 512 bytes are right
abbrev pub sector_diagnosis : ℕ → Diagnosis
sector_diagnosis right = if right == 0 then Foreign else Torn right

-- of a block in its place. (Where a pattern fills all blocks alike, 512 bytes that are right don't tell one write from another.)
abbrev pub here_diagnosis : Method → WriteId → ℕ → Option BlockHeader → Diagnosis
here_diagnosis method write right header =
    if nat_lt 0 right && not (is_some method.pattern) then Torn right
    else unwrap_or (said_by (write_diagnosis write) header) (sector_diagnosis right)

-- so few bits make a block that was right but for them: 16
abbrev pub are_few : ℕ → ℕ → Bool
are_few raised cleared = nat_lt (raised + cleared) 17

abbrev pub flips_of : List ℕ → List ℕ → Flips
flips_of written read = record {
  raised = raised_between written read;
  cleared = cleared_between written read;
  first = first_wrong written read;
}

abbrev pub uneven_diagnosis : Method → WriteId → Piece → List ℕ → List ℕ → Diagnosis
uneven_diagnosis method write place written read =
    if are_few (raised_between written read) (cleared_between written read)
    then Flipped (flips_of written read)
    else unwrap_or (said_by (place_diagnosis method.kind place) (header_in read))
    (here_diagnosis method write (right_sectors written read) (header_in read))

-- of bytes that are all one
abbrev pub even_diagnosis : ℕ → Diagnosis
even_diagnosis byte = if byte == 0 then Zeros else Repeated byte

abbrev pub diagnosed : Method → WriteId → Piece → List ℕ → List ℕ → Option ℕ → Diagnosis
diagnosed method write place written read (Some byte) = even_diagnosis byte
diagnosed method write place written read None = uneven_diagnosis method write place written read

-- what stands at this place, where this write's bytes should
abbrev pub diagnosis_of : Method → WriteId → Piece → List ℕ → List ℕ → Diagnosis
diagnosis_of method write place written read = diagnosed method write place written read (repeated_byte read)

-- by the header of a block, where nothing else is known of it; one with no header isn't any
abbrev pub own_uneven_diagnosis : VerifyKind → Piece → Option BlockHeader → Diagnosis
own_uneven_diagnosis kind place None = Foreign
own_uneven_diagnosis kind place (Some header) = unwrap_or (place_diagnosis kind place header) Damaged

abbrev pub own_diagnosed : VerifyKind → Piece → List ℕ → Option ℕ → Diagnosis
own_diagnosed kind place read (Some byte) = even_diagnosis byte
own_diagnosed kind place read None = own_uneven_diagnosis kind place (header_in read)

-- what stands at this place, where it isn't known which write's bytes should
abbrev pub own_diagnosis_of : VerifyKind → Piece → List ℕ → Diagnosis
own_diagnosis_of kind place read = own_diagnosed kind place read (repeated_byte read)
