use Rattle.std.proofs.Common.{ℕ, arith}
use Rattle.std.proofs.lemmas.Grind.{common_steps}
use Rattle.std.proofs.lemmas.List.FromFn.{map-range_with_len_more}
use Rattle.jr_rounds.specs.Originals.{of_original}
use Rattle.jr_rounds.specs.Sums.{sum_of}
use Rattle.jr_rounds.proofs.originals.totals_by_original.Goals as goal

pub loop-clone-preserved : goal.loop-clone-preserved
loop-clone-preserved c =
    let sums_of = λ (clone : ℕ). sum_of (of_original clone c.args.originals.now c.args.totals.now) in
    let more = map-range_with_len_more sums_of 0 c.loop-clone.clone c.loop-clone.clone (omega arith) in
    grind (arith, common_steps, more)
