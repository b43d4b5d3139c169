use Rattle.std.proofs.Common.{◌≡◌, ℕ, ◌+◌, List, [], ◌∷◌, ◌++◌, map, ap, sym, ◌∙◌, zero-add}
use Rattle.std.specs.List.{range_with_len}
use Rattle.std.proofs.lemmas.List.FromFn.{map-range_with_len_more}
use Rattle.jr_model.specs.Plan.{SubJob}
use Rattle.jr_model.specs.Rounds.{Pass, pass_of}
use Rattle.jr_replay_passes.proofs.agendas.passes_of.Goals as goal

-- one more pass
passes_more : (job : SubJob) (n : ℕ) (before after : List Pass) (pass : Pass) → before ≡ map (pass_of job) (range_with_len 0 n) → pass ≡ pass_of job n → after ≡ before ++ pass ∷ [] → after ≡ map (pass_of job) (range_with_len 0 (n + 1))
passes_more job n before after pass so_far next pushed =
    pushed
    ∙ ap (λ (ps : List Pass). ps ++ pass ∷ []) so_far
    ∙ ap (λ (p : Pass). map (pass_of job) (range_with_len 0 n) ++ p ∷ []) next
    ∙ sym (map-range_with_len_more (pass_of job) 0 n n (zero-add n))

pub loop-number-preserved : goal.loop-number-preserved
loop-number-preserved c =
    passes_more c.args.job.now c.loop-number.number _ _ c.in_ok-new.field-0 c.loop-number.invariant c.in_ok-new.ensures c.in_ok-push.ensures.items
