use Rattle.std.proofs.Common.{◌≡◌, ◌+◌, ℕ, List, take, ap, ◌∙◌, arith}
use Rattle.std.specs.Prelude.{Some, slice_get}
use Rattle.std.proofs.lemmas.List.Sums.{sum_by_more}
use Rattle.std.proofs.lemmas.Option.{get_or_from_slice_get, slice_get_within}
use Rattle.jr_model.specs.Plan.{SubJob}
use Rattle.jr_system.specs.Extents.{bytes_of, extent_of}
use Rattle.jr_system.proofs.ExtentLemmas.{visits_within}
use Rattle.jr_system.proofs.extents.PlanBytes.of.Goals as goal

-- one clone more
one_more : (clones : List SubJob) (i : ℕ) (job : SubJob) → slice_get clones i ≡ Some job → extent_of (take (i + 1) clones) ≡ extent_of (take i clones) + bytes_of job
one_more clones i job at =
    sum_by_more bytes_of clones i job (slice_get_within clones i job at)
    ∙ ap (λ (j : SubJob). extent_of (take i clones) + bytes_of j) (get_or_from_slice_get clones i job job at)

pub bytes_of-bytes-requires : goal.bytes_of-bytes-requires
bytes_of-bytes-requires c =
    let within = visits_within c.args.plan.now.clones c.loop-place.place c.clone_at.result.now c.clone_at.ensures.value in
    omega (arith, within, c.clones-place-end.ensures.facts.drafted.work)

pub loop-place-preserved : goal.loop-place-preserved
loop-place-preserved c = record {
  total =
      let more = one_more c.args.plan.now.clones c.loop-place.place c.clone_at.result.now c.clone_at.ensures.value in
      omega (arith, more, c.bytes_of-bytes.ensures.value, c.loop-place.invariant.total);
  few = omega (arith, c.loop-place.invariant.few, c.bytes_of-bytes.ensures.most);
}
