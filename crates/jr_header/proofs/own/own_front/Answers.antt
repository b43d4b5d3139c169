use Rattle.std.proofs.Common.{◌≡◌, ℕ, List, ◌++◌, length, slice_set, replicate, arith, length-append}
use Rattle.std.proofs.lemmas.List.{length-set}
use borrow.Rule.Slice.PartMut.{put_mid, same_len_mid}
use Rattle.jr_header.proofs.own.own_front.Goals as goal

pub slice_bounds-front-end-6 : goal.slice_bounds-front-end-6
slice_bounds-front-end-6 c =
    let begun : List ℕ = c.copy_from_slice.new.self ++ replicate 28 0 in
    let first : List ℕ = slice_set (slice_set begun 4 c.kind_code.result) 5 c.digest_length.result in
    let second : List ℕ = put_mid 6 2 first c.copy_from_slice-2.new.self in
    let third : List ℕ = put_mid 8 4 second c.copy_from_slice-3.new.self in
    let fourth : List ℕ = put_mid 12 4 third c.copy_from_slice-4.new.self in
    let whole : length begun ≡ 32 = omega (arith, length-append c.copy_from_slice.new.self (replicate 28 0), c.copy_from_slice.auto.self) in
    let size : length first ≡ 32 = omega (arith, whole, length-set {A = ℕ}) in
    omega (
      arith,
      size,
      same_len_mid 16 8 fourth c.copy_from_slice-5.new.self c.copy_from_slice-5.auto.self,
      same_len_mid 12 4 third c.copy_from_slice-4.new.self c.copy_from_slice-4.auto.self,
      same_len_mid 8 4 second c.copy_from_slice-3.new.self c.copy_from_slice-3.auto.self,
      same_len_mid 6 2 first c.copy_from_slice-2.new.self c.copy_from_slice-2.auto.self,
    )
