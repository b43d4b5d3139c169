-- Believed: what many bad blocks have in common, and which of it is told (of this project).
use Rattle.std.specs.Prelude.{ℕ, ◌-◌, ◌==◌, nat_lt, nat_le, Bool, false, ◌&&◌, List, count_by, filter_map, find, Option, Some, None, if◌then◌else◌}
use Rattle.std.specs.List.{list_all}
use Rattle.std.specs.Option.{option_map}
use Rattle.jr_diagnosis.specs.declared.diagnoses.Diagnosis.{Diagnosis}
use Rattle.jr_diagnosis.specs.declared.diagnoses.Diagnosis.TheVariants.{Zeros, Repeated, Flipped, OtherKind, OtherLength, Elsewhere, OtherWrite, OtherPass, Torn, Damaged, Foreign}
use Rattle.jr_diagnosis.specs.declared.rulings.Diagnosed.{Diagnosed}
use Rattle.jr_cli_notes.specs.declared.common.Common.{Common}
use Rattle.jr_cli_notes.specs.declared.common.Trait.{Trait}
use Rattle.jr_cli_notes.specs.declared.common.Trait.TheVariants.{Ahead, Behind, Length}

-- how far what stands here is from where it belongs: so many bytes further on, or before
abbrev pub distance : ℕ → ℕ → Trait
distance here there = if nat_lt here there then Ahead (there - here) else Behind (here - there)

-- what a block at this offset may have in common with others, by what stands in it
abbrev pub trait_by : ℕ → Diagnosis → Option Trait
trait_by here (Elsewhere there) = Some (distance here there)
trait_by here (OtherLength len) = Some (Length len)
trait_by here Zeros = None
trait_by here (Repeated byte) = None
trait_by here (Flipped flips) = None
trait_by here (OtherKind kind) = None
trait_by here (OtherWrite clone number) = None
trait_by here (OtherPass pass) = None
trait_by here (Torn right) = None
trait_by here Damaged = None
trait_by here Foreign = None

abbrev pub trait_of : Diagnosed → Option Trait
trait_of found = trait_by found.place.offset found.diagnosis

abbrev pub same_trait : Trait → Trait → Bool
same_trait (Ahead m) (Ahead n) = m == n
same_trait (Ahead m) (Behind n) = false
same_trait (Ahead m) (Length n) = false
same_trait (Behind m) (Ahead n) = false
same_trait (Behind m) (Behind n) = m == n
same_trait (Behind m) (Length n) = false
same_trait (Length m) (Ahead n) = false
same_trait (Length m) (Behind n) = false
same_trait (Length m) (Length n) = m == n

-- how many of these are this one
abbrev pub count_among : List Trait → Trait → ℕ
count_among traits what = count_by (λ (other : Trait). same_trait other what) traits

-- at least 3 are, and none is there more often
abbrev pub is_most_common : List Trait → Trait → Bool
is_most_common traits what =
    nat_le 3 (count_among traits what) && list_all (λ (other : Trait). nat_le (count_among traits other) (count_among traits what)) traits

abbrev pub counted : List Trait → Trait → Common
counted traits what = record { what = what; count = count_among traits what }

-- the first of the most common ones, with how many are this one
abbrev pub most_common_of : List Trait → Option Common
most_common_of traits = option_map (counted traits) (find (is_most_common traits) traits)

-- the traits of several blocks, in the order of the blocks; each block has one at most
abbrev pub traits_of : List Diagnosed → List Trait
traits_of found = filter_map trait_of found

-- how many of the blocks have it
abbrev pub count_of : List Diagnosed → Trait → ℕ
count_of found what = count_among (traits_of found) what

-- what is told of several blocks
abbrev pub most_common : List Diagnosed → Option Common
most_common found = most_common_of (traits_of found)
