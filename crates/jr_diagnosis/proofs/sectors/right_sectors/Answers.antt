use Rattle.std.proofs.Common.{ℕ, arith, zero-add}
use Rattle.std.proofs.lemmas.List.FromFn.{sum_by-map-range_with_len_more}
use Rattle.jr_diagnosis.specs.Sectors.{right_at}
use Rattle.jr_diagnosis.proofs.sectors.right_sectors.Goals as goal

pub loop-i-preserved : goal.loop-i-preserved
loop-i-preserved c = record {
  right =
      let more = sum_by-map-range_with_len_more (λ (k : ℕ). k) (right_at c.args.written.now c.args.read.now) 0 c.loop-i.i c.loop-i.i (zero-add c.loop-i.i) in
      omega (arith, more, c.right_at-right.ensures.value, c.loop-i.invariant.right);
  few = omega (arith, c.loop-i.invariant.few, c.right_at-right.ensures.most);
}
