use Rattle.std.proofs.Common.{◌≡◌, ℕ, ◌<◌, ◌+◌, ◌*◌, List, length, take, drop, slice_index_or, slice_set, Some, ap, ◌∙◌, sym, arith}
use Rattle.std.proofs.lemmas.List.{take_more_set, length-set}
use Rattle.jr_job_options.specs.OptionValues.{with_bytes, hex_byte, hex_pairs}
use Rattle.jr_job_options.proofs.CutLemmas.{pair_next, same_default}
use Rattle.jr_job_options.proofs.values.with_pairs.Goals as goal

pub loop-i-preserved : goal.loop-i-preserved
loop-i-preserved c =
    let digits = c.args.digits.now in
    let bytes = c.loop-i.bytes in
    let i = c.loop-i.i in
    let count = c.args.count in
    let n = 2 * i in
    let a = slice_index_or digits n 0 in
    let b = slice_index_or digits (n + 1) 0 in
    let v = c.in_ok-bytes.field-0 in
    let within : n + 1 < length digits = omega arith in
    let room : count + i < length bytes = omega arith in
    let is : hex_byte a b ≡ Some v = sym c.hexadecimal_byte.ensures ∙ c.in_ok-bytes.was in
    let new = slice_set bytes (count + i) v in
    let taken = take_more_set bytes (count + i) v room in
    let more = pair_next (take (count + i) bytes) digits n a b v within (same_default digits n 0 a (omega (arith, within))) (same_default digits (n + 1) 0 b within) is in
    let further : count + (i + 1) ≡ count + i + 1 = omega arith in
    let two : 2 * (i + 1) ≡ n + 1 + 1 = omega arith in (
      ap (λ k. with_bytes (take k new) (hex_pairs (drop (2 * (i + 1)) digits))) further
          ∙ ap (λ k. with_bytes (take (count + i + 1) new) (hex_pairs (drop k digits))) two
          ∙ ap (λ (t : List ℕ). with_bytes t (hex_pairs (drop (n + 1 + 1) digits))) taken
          ∙ sym more
          ∙ c.loop-i.invariant.0,
      omega (arith, length-set bytes (count + i) v, c.loop-i.invariant.1),
    )
