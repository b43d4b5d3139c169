use Rattle.std.proofs.Common.{◌≡◌, ◌+◌, ◌*◌, take, drop, length}
use Rattle.jr_job_options.specs.OptionValues.{with_bytes, hex_pairs}
use Rattle.jr_job_options.proofs.values.with_pairs.Given as goal

-- the bytes so far, in front of those of the other digits
abbrev pub invariant-loop-i : goal.invariant-loop-i
invariant-loop-i l =
    (with_bytes (take (l.count + l.i) l.bytes) (hex_pairs (drop (2 * l.i) l.digits)) ≡ with_bytes (take l.count l.fn.bytes) (hex_pairs l.digits))
    × (length l.bytes ≡ 64)
