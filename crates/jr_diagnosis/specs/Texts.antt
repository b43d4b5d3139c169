-- Believed: what is told of a bad block, in words and numbers (of this project).
use Rattle.std.specs.Prelude.{ℕ, Bool, true, false, List, ◌++◌, codes, flat_map, find, Option}
use Rattle.jr_model.specs.declared.events.WriteId.{WriteId}
use Rattle.jr_model.specs.History.{same_write}
use Rattle.std.specs.Fmt.{decimal}
use Rattle.jr_diagnosis.specs.declared.bits.Flips.{Flips}
use Rattle.jr_diagnosis.specs.declared.diagnoses.Diagnosis.{Diagnosis}
use Rattle.jr_diagnosis.specs.declared.diagnoses.Diagnosis.TheVariants.{Zeros, Repeated, Flipped, OtherKind, OtherLength, Elsewhere, OtherWrite, OtherPass, Torn, Damaged, Foreign}
use Rattle.jr_diagnosis.specs.Rulings.{Told}

-- a number behind its word
abbrev pub number_text : List ℕ → ℕ → List ℕ
number_text word n = word ++ decimal n

abbrev pub flips_text : Flips → List ℕ
flips_text flips =
    number_text (codes "bits raised=") flips.raised ++ number_text (codes " cleared=") flips.cleared ++ number_text (codes " first=") flips.first

-- a sector that is right is a 1, and one that isn't a 0
abbrev pub sector_text : Bool → List ℕ
sector_text true = codes "1"
sector_text false = codes "0"

abbrev pub torn_text : ℕ → List Bool → List ℕ
torn_text right sectors = number_text (codes "torn right=") right ++ codes " sectors=" ++ flat_map sector_text sectors

-- a word for each, with its numbers: bytes as decimals, offsets and lengths in bytes
abbrev pub diagnosis_text : List Bool → Diagnosis → List ℕ
diagnosis_text sectors Zeros = codes "zeros"
diagnosis_text sectors (Repeated byte) = number_text (codes "byte=") byte
diagnosis_text sectors (Flipped flips) = flips_text flips
diagnosis_text sectors (OtherKind kind) = number_text (codes "kind=") kind
diagnosis_text sectors (OtherLength len) = number_text (codes "length=") len
diagnosis_text sectors (Elsewhere offset) = number_text (codes "elsewhere offset=") offset
diagnosis_text sectors (OtherWrite clone number) = number_text (codes "write clone=") clone ++ number_text (codes " number=") number
diagnosis_text sectors (OtherPass pass) = number_text (codes "pass=") pass
diagnosis_text sectors (Torn right) = torn_text right sectors
diagnosis_text sectors Damaged = codes "damaged"
diagnosis_text sectors Foreign = codes "foreign"

abbrev pub told_text : Told → List ℕ
told_text t = diagnosis_text t.sectors t.diagnosis

-- what is told of the block of this write, if anything is
abbrev pub told_of_write : List Told → WriteId → Option Told
told_of_write all write = find (λ (t : Told). same_write t.write write) all
