-- More words of a generator begin with fewer, and no draw comes of none.
use Rattle.std.proofs.Common.{◌≡◌, ℕ, ◌+◌, ◌-◌, ◌*◌, ◌≤◌, List, [], refl, ap, ◌∙◌, arith}
use Rattle.jr_draw.specs.Drawing.{draws_left}
use Rattle.jr_draw.specs.declared.drawer.Drawer.{Drawer}
use Rattle.jr_model.specs.Draws.{draws_over}
use Rattle.jr_model.specs.Plan.{SubJob}
use Rattle.jr_model.specs.Words.{words_from, state_after}
use Rattle.jr_words.proofs.WordLemmas.{length-words_from, words_from-add}
use Rattle.jr_laws_draws.specs.PassLaw.{PassLaw}

-- four words a cell are enough for a pass
pub whole_pass : (job : SubJob) (state : List ℕ) (n : ℕ) → PassLaw job → job.cells ≤ n → draws_over job (words_from state (4 * n)) ≡ draws_over job (words_from state (4 * job.cells))
whole_pass job state n law enough =
    let rest = 4 * n - 4 * job.cells in
    let e : 4 * n ≡ 4 * job.cells + rest = omega arith in
    let words = words_from state (4 * job.cells) in
    ap (λ (m : ℕ). draws_over job (words_from state m)) e
    ∙ ap (draws_over job) (words_from-add (4 * job.cells) rest state)
    ∙ law.ends words (words_from (state_after state (4 * job.cells)) rest) (omega (arith, length-words_from state (4 * job.cells)))

-- no draw comes of no words
pub none_of_no_words : (drawer : Drawer (List ℕ)) → draws_left words_from drawer 0 ≡ []
unfolding words_from
none_of_no_words drawer = refl
