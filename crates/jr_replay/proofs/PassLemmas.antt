-- The passes of a clone by their numbers.
use Rattle.std.proofs.Common.{◌≡◌, ℕ, ◌<◌, List, length, get_or, true, sym, ap, ◌∙◌, subst, zero-add, ltb, ltb-true}
use Rattle.std.proofs.lemmas.List.FromFn.{get_or-map-range_with_len, length-map-range_with_len}
use Rattle.jr_model.specs.Plan.{SubJob}
use Rattle.jr_model.specs.Rounds.{Pass, pass_of, passes_of}

-- the pass at a place
pub pass_at : (job : SubJob) (passes : List Pass) (number : ℕ) (pass : Pass) → passes ≡ passes_of job → true ≡ ltb number (length passes) → pass ≡ get_or passes number pass → pass ≡ pass_of job number
pass_at job passes number pass same within is =
    let inside : number < length passes = ltb-true number (length passes) (sym within) in
    let below : number < job.passes =
    subst (λ (n : ℕ). number < n) (ap (λ (ps : List Pass). length ps) same ∙ length-map-range_with_len (pass_of job) 0 job.passes) inside in
    is
    ∙ ap (λ (ps : List Pass). get_or ps number pass) same
    ∙ get_or-map-range_with_len (pass_of job) 0 job.passes number number pass below (zero-add number)
