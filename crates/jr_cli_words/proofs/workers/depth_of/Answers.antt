use Rattle.std.proofs.Common.{◌≡◌, ◌≤◌, ◌+◌, ℕ, List, length, take, ap, ◌∙◌, arith}
use Rattle.std.specs.Prelude.{Some, slice_get}
use Rattle.std.proofs.lemmas.List.{take_all}
use Rattle.std.proofs.lemmas.List.Sums.{sum_by_more}
use Rattle.std.proofs.lemmas.Option.{get_or_from_slice_get, slice_get_within}
use Rattle.jr_model.specs.Plan.{SubJob}
use Rattle.jr_cli_words.specs.Workers.{depth_of}
use Rattle.jr_cli_words.proofs.workers.depth_of.Goals as goal

-- one clone more
one_more : (clones : List SubJob) (i : ℕ) (job : SubJob) → slice_get clones i ≡ Some job → depth_of (take (i + 1) clones) ≡ depth_of (take i clones) + job.depth
one_more clones i job at =
    sum_by_more (λ (j : SubJob). j.depth) clones i job (slice_get_within clones i job at)
    ∙ ap (λ (j : SubJob). depth_of (take i clones) + j.depth) (get_or_from_slice_get clones i job job at)

-- the depth of a clone
of_clone : (clones : List SubJob) (i depth : ℕ) (job : SubJob) → slice_get clones i ≡ Some job → depth ≡ job.depth → depth_of (take (i + 1) clones) ≡ depth_of (take i clones) + depth
of_clone clones i depth job at is = let more = one_more clones i job at in omega (arith, more, is)

pub overflow_add-total : goal.overflow_add-total
overflow_add-total c =
    omega (arith, c.loop-i.invariant.few, c.clone_at.ensures.limited.depth_most, c.depth-total.ensures, c.clones-i-end.ensures.facts.drafted.clones_most)

pub loop-i-preserved : goal.loop-i-preserved
loop-i-preserved c = record {
  total =
      let more = of_clone c.args.plan.now.clones c.loop-i.i c.depth-total.result c.clone_at.result.now c.clone_at.ensures.value c.depth-total.ensures in
      omega (arith, more, c.loop-i.invariant.total);
  few = omega (arith, c.loop-i.invariant.few, c.clone_at.ensures.limited.depth_most, c.depth-total.ensures);
  some = omega (arith, c.loop-i.invariant.some, c.clone_at.ensures.limited.depth_least, c.depth-total.ensures);
}

pub returns-clause-value : goal.returns-clause-value
returns-clause-value c =
    let all : length c.args.plan.now.clones ≤ c.loop-i.i = omega (arith, c.clones-i-end.ensures.value) in
    c.loop-i.invariant.total ∙ ap depth_of (take_all c.loop-i.i c.args.plan.now.clones all)

pub returns-clause-some : goal.returns-clause-some
returns-clause-some c = omega (arith, c.loop-i.invariant.some, c.clones-i-end.ensures.facts.clones_least)
