-- Believed: what is told of a bad block, in words (of this project).
use Rattle.std.specs.Prelude.{ℕ, ◌-◌, ◌/◌, ◌==◌, nat_lt, Bool, List, ◌++◌, codes, flat_map, if◌then◌else◌}
use Rattle.std.specs.Fmt.{decimal}
use Rattle.jr_model.specs.declared.blocks.Piece.{Piece}
use Rattle.jr_model.specs.declared.limits.TheConstants.{SECTOR}
use Rattle.jr_diagnosis.specs.declared.bits.Flips.{Flips}
use Rattle.jr_diagnosis.specs.declared.diagnoses.Diagnosis.{Diagnosis}
use Rattle.jr_diagnosis.specs.declared.diagnoses.Diagnosis.TheVariants.{Zeros, Repeated, Flipped, OtherKind, OtherLength, Elsewhere, OtherWrite, OtherPass, Torn, Damaged, Foreign}
use Rattle.jr_diagnosis.specs.declared.rulings.Diagnosed.{Diagnosed}
use Rattle.jr_diagnosis.specs.Texts.{sector_text}

abbrev pub flips_words : Flips → List ℕ
flips_words flips =
    codes "right but for some bits: " ++ decimal flips.raised ++ codes " came back as 1 and " ++ decimal flips.cleared
    ++ codes " as 0, the first of them in byte " ++ decimal flips.first

-- a block with another kind of digest
abbrev pub kind_words : ℕ → List ℕ
kind_words kind =
    if kind == 1 then codes "a block of verify=md5"
    else (if kind == 2 then codes "a block of verify=sha1"
    else (if kind == 3 then codes "a block of verify=sha256" else codes "a block of another kind, " ++ decimal kind))

-- a block that belongs at another offset than here
abbrev pub place_words : ℕ → ℕ → List ℕ
place_words here there =
    if nat_lt here there
    then codes "the block of " ++ decimal there ++ codes ", which is " ++ decimal (there - here) ++ codes " bytes further on"
    else codes "the block of " ++ decimal there ++ codes ", which is " ++ decimal (here - there) ++ codes " bytes before"

-- how many of its sectors are right, and which of the first
abbrev pub torn_words : ℕ → ℕ → List Bool → List ℕ
torn_words right all sectors =
    codes "torn: " ++ decimal right ++ codes " of its " ++ decimal all ++ codes " sectors are right, " ++ flat_map sector_text sectors

-- what stands in this place
abbrev pub diagnosis_words : Piece → List Bool → Diagnosis → List ℕ
diagnosis_words place sectors Zeros = codes "nothing but zeros"
diagnosis_words place sectors (Repeated byte) = codes "nothing but the byte " ++ decimal byte
diagnosis_words place sectors (Flipped flips) = flips_words flips
diagnosis_words place sectors (OtherKind kind) = kind_words kind
diagnosis_words place sectors (OtherLength len) = codes "the beginning of a block of " ++ decimal len ++ codes " bytes"
diagnosis_words place sectors (Elsewhere there) = place_words place.offset there
diagnosis_words place sectors (OtherWrite clone number) =
    codes "write " ++ decimal number ++ codes " of clone " ++ decimal clone ++ codes ": an older one, or another job's"
diagnosis_words place sectors (OtherPass pass) = codes "what pass " ++ decimal pass ++ codes " wrote there"
diagnosis_words place sectors (Torn right) = torn_words right (place.len / SECTOR) sectors
diagnosis_words place sectors Damaged = codes "a block of this place whose bytes don't fit its header"
diagnosis_words place sectors Foreign = codes "nothing that fiorun knows"

abbrev pub words_of : Diagnosed → List ℕ
words_of found = diagnosis_words found.place found.sectors.items found.diagnosis
