use Rattle.std.proofs.Common.{ℕ, arith, zero-add, slice_index}
use Rattle.std.proofs.lemmas.List.FromFn.{sum_by-map-range_with_len_more}
use Rattle.jr_diagnosis.specs.Bits.{cleared_in, raised_in}
use Rattle.jr_diagnosis.proofs.bits.flips_between.Goals as goal

pub loop-i-preserved : goal.loop-i-preserved
loop-i-preserved c =
    let written = c.args.written.now in
    let read = c.args.read.now in
    let i = c.loop-i.i in
    let raised_more = sum_by-map-range_with_len_more (λ (k : ℕ). k) (λ (j : ℕ). raised_in (slice_index written j) (slice_index read j)) 0 i i (zero-add i) in
    let cleared_more = sum_by-map-range_with_len_more (λ (k : ℕ). k) (λ (j : ℕ). cleared_in (slice_index written j) (slice_index read j)) 0 i i (zero-add i) in
    record {
      raised = omega (arith, raised_more, c.raised_in-raised.ensures.value, c.loop-i.invariant.raised);
      cleared = omega (arith, cleared_more, c.cleared_in-cleared.ensures.value, c.loop-i.invariant.cleared);
      few = omega (arith, c.loop-i.invariant.few, c.raised_in-raised.ensures.most);
      few_cleared = omega (arith, c.loop-i.invariant.few_cleared, c.cleared_in-cleared.ensures.most);
    }
