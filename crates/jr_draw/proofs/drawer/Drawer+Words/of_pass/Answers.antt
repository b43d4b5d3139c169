use Rattle.std.proofs.Common.{◌≡◌, ◌*◌, ◌≤◌, ℕ, ap, ◌∙◌, arith, List}
use Rattle.std.proofs.lemmas.Result.{IfOk-weaker}
use Rattle.jr_model.specs.Draws.{draws_over, draws_of_job}
use Rattle.jr_model.specs.Words.{words_from, seeded, pass_seed, pass_words}
use Rattle.jr_words.proofs.WordLemmas.{length-words_from}
use Rattle.jr_draw.specs.declared.drawer.Drawer.{Drawer}
use Rattle.jr_draw.specs.Drawing.{draws_left}
use Rattle.jr_draw.proofs.WordLaws.{whole_pass}
use Rattle.jr_draw.proofs.drawer.Drawer+Words.of_pass.Goals as goal

pub returns-clause-whole : goal.returns-clause-whole
returns-clause-whole c =
    let job = c.args.job.now in
    let state = seeded (pass_seed job c.args.pass) in
    let seed : c.pass_seed-seed.result ≡ pass_seed job c.args.pass = cc in
    let same : c.new.result ≡ state = c.new.ensures ∙ ap seeded seed in
    let Given : Drawer (List ℕ) → Type 0 = λ d. (n : ℕ) → draws_left words_from d n ≡ draws_over job (words_from c.new.result (4 * n)) in
    let Wanted : Drawer (List ℕ) → Type 0 = λ d. (n : ℕ) → job.cells ≤ n → draws_left words_from d n ≡ draws_of_job job c.args.pass in
    IfOk-weaker c.new-2.result Given Wanted (λ drawer h n enough. h n ∙ ap (λ (s : List ℕ). draws_over job (words_from s (4 * n))) same ∙ whole_pass job state n c.new-2.ensures.law enough) c.new-2.ensures.draws

pub returns-clause-once : goal.returns-clause-once
returns-clause-once c = λ h.
    let job = c.args.job.now in
    c.new-2.ensures.law.once h (pass_words job c.args.pass (4 * job.cells)) (omega (arith, length-words_from (seeded (pass_seed job c.args.pass)) (4 * job.cells)))
