use Rattle.std.proofs.Common.{◌≡◌, ◌+◌, ℕ, List, take, ap, ◌∙◌, arith}
use Rattle.std.specs.Prelude.{Some, slice_get, sum_by}
use Rattle.std.proofs.lemmas.List.Sums.{sum_by_more}
use Rattle.std.proofs.lemmas.Option.{get_or_from_slice_get, slice_get_within}
use Rattle.jr_model.specs.Plan.{SubJob}
use Rattle.jr_system.specs.Memory.{ios_of}
use Rattle.jr_system.proofs.ExtentLemmas.{visits_within}
use Rattle.jr_system.proofs.memory.history_bytes.Goals as goal

-- one clone more
one_more : (clones : List SubJob) (i : ℕ) (job : SubJob) → slice_get clones i ≡ Some job
    → sum_by ios_of (take (i + 1) clones) ≡ sum_by ios_of (take i clones) + ios_of job
one_more clones i job at =
    sum_by_more ios_of clones i job (slice_get_within clones i job at)
    ∙ ap (λ (j : SubJob). sum_by ios_of (take i clones) + ios_of j) (get_or_from_slice_get clones i job job at)

pub ios_of-ios-requires : goal.ios_of-ios-requires
ios_of-ios-requires c =
    let within = visits_within c.args.plan.now.clones c.loop-place.place c.clone_at.result.now c.clone_at.ensures.value in
    omega (arith, within, c.clones-place-end.ensures.facts.drafted.work)

pub loop-place-preserved : goal.loop-place-preserved
loop-place-preserved c = record {
  total =
      let more = one_more c.args.plan.now.clones c.loop-place.place c.clone_at.result.now c.clone_at.ensures.value in
      omega (arith, more, c.ios_of-ios.ensures.value, c.loop-place.invariant.total);
  few = omega (arith, c.loop-place.invariant.few, c.ios_of-ios.ensures.most);
}
