-- What a few bad blocks have in common, worked by hand.
use Rattle.std.proofs.Common.{◌≡◌, [], ◌∷◌, Some, None, refl}
use Rattle.jr_diagnosis.specs.declared.diagnoses.Diagnosis.TheVariants.{Zeros, OtherLength, Elsewhere}
use Rattle.jr_cli_notes.specs.declared.common.Trait.TheVariants.{Ahead, Behind, Length}
use Rattle.jr_cli_notes.specs.Common.{most_common_of, trait_by}

further_on : trait_by 4096 (Elsewhere 12288) ≡ Some (Ahead 8192)
further_on = refl

before : trait_by 12288 (Elsewhere 4096) ≡ Some (Behind 8192)
before = refl

of_another_length : trait_by 0 (OtherLength 65536) ≡ Some (Length 65536)
of_another_length = refl

zeros_have_none : trait_by 4096 Zeros ≡ None
zeros_have_none = refl

three_of_four : most_common_of (Ahead 8192 ∷ Length 512 ∷ Ahead 8192 ∷ Ahead 8192 ∷ []) ≡ Some (record { what = Ahead 8192; count = 3 })
three_of_four = refl

two_are_too_few : most_common_of (Ahead 8192 ∷ Length 512 ∷ Ahead 8192 ∷ []) ≡ None
two_are_too_few = refl

-- the same distance the other way, and a length of as many bytes, are others
neither_way : most_common_of (Ahead 512 ∷ Behind 512 ∷ Length 512 ∷ Ahead 512 ∷ []) ≡ None
neither_way = refl

-- three of the second, before there are three of the first
first_of_two : most_common_of (Ahead 8192 ∷ Length 512 ∷ Length 512 ∷ Length 512 ∷ Ahead 8192 ∷ Ahead 8192 ∷ [])
    ≡ Some (record { what = Ahead 8192; count = 3 })
first_of_two = refl

most_of_two : most_common_of (Ahead 512 ∷ Ahead 512 ∷ Ahead 512 ∷ Behind 512 ∷ Behind 512 ∷ Behind 512 ∷ Behind 512 ∷ [])
    ≡ Some (record { what = Behind 512; count = 4 })
most_of_two = refl
