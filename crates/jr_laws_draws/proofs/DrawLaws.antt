-- How the draws of a pass follow one another.
use Rattle.std.proofs.Common.{◌≡◌, ℕ, suc, ◌*◌, Bool, true, false, cond, List, [], ◌∷◌, refl, ap, sym, ◌∙◌, arith}
use Rattle.jr_model.specs.declared.workloads.Draw.{Draw}
use Rattle.jr_model.specs.Draws.{Places, PassProgress, pass_over, progress_after, chosen_cells, draw_at, draws_from}
use Rattle.jr_model.specs.Plan.{SubJob}
use Rattle.jr_laws_draws.specs.DrawFacts.{part_of}

-- where all cells are drawn, no words give a draw
pub draws_from-over : (job : SubJob) (done : PassProgress) (words : List ℕ) → pass_over job done ≡ true → draws_from job done words ≡ []
draws_from-over job done [] h = refl
draws_from-over job done (a ∷ []) h = refl
draws_from-over job done (a ∷ b ∷ []) h = refl
draws_from-over job done (a ∷ b ∷ c ∷ []) h = refl
draws_from-over job done (a ∷ b ∷ c ∷ d ∷ words) h =
    ap (λ (t : Bool). cond t [] (draw_at job done (chosen_cells job done a b c) d ∷ draws_from job (progress_after done (chosen_cells job done a b c)) words)) h

-- else four words give a draw, and the others the rest
pub draws_from-next : (job : SubJob) (done : PassProgress) (a b c d : ℕ) (words : List ℕ) → pass_over job done ≡ false → draws_from job done (a ∷ b ∷ c ∷ d ∷ words) ≡ draw_at job done (chosen_cells job done a b c) d ∷ draws_from job (progress_after done (chosen_cells job done a b c)) words
draws_from-next job done a b c d words h =
    ap (λ (t : Bool). cond t [] (draw_at job done (chosen_cells job done a b c) d ∷ draws_from job (progress_after done (chosen_cells job done a b c)) words)) h

-- the same, where a draw and what is left are known to be these
pub draws_from-step : (job job' : SubJob) (done done' : PassProgress) (a b c d : ℕ) (words rest : List ℕ) (draw : Draw) → words ≡ a ∷ b ∷ c ∷ d ∷ rest → pass_over job done ≡ false → draw ≡ draw_at job done (chosen_cells job done a b c) d → job' ≡ job → done' ≡ progress_after done (chosen_cells job done a b c) → draws_from job done words ≡ draw ∷ draws_from job' done' rest
draws_from-step job job' done done' a b c d words rest draw split unfinished drawn same after =
    let later = progress_after done (chosen_cells job done a b c) in
    ap (draws_from job done) split
    ∙ draws_from-next job done a b c d rest unfinished
    ∙ ap (λ (e : Draw). e ∷ draws_from job later rest) (sym drawn)
    ∙ ap (λ (j : SubJob). draw ∷ draws_from j later rest) (sym same)
    ∙ ap (λ (p : PassProgress). draw ∷ draws_from job' p rest) (sym after)

-- the draws of a clone depend on a part of it alone
pub draws_from-part : (job : SubJob) (done : PassProgress) (words : List ℕ) → draws_from (part_of job) done words ≡ draws_from job done words
draws_from-part job done [] = refl
draws_from-part job done (a ∷ []) = refl
draws_from-part job done (a ∷ b ∷ []) = refl
draws_from-part job done (a ∷ b ∷ c ∷ []) = refl
draws_from-part job done (a ∷ b ∷ c ∷ d ∷ words) =
    ap (λ (rest : List Draw). cond (pass_over job done) [] (draw_at job done (chosen_cells job done a b c) d ∷ rest)) (draws_from-part job (progress_after done (chosen_cells job done a b c)) words)

-- four words of a source, one by one
pub four_words : {W : Type 0} (upcoming : W → ℕ → List ℕ) (s s1 s2 s3 s4 : W) (a b c d : ℕ) → ((n : ℕ) → upcoming s (suc n) ≡ a ∷ upcoming s1 n) → ((n : ℕ) → upcoming s1 (suc n) ≡ b ∷ upcoming s2 n) → ((n : ℕ) → upcoming s2 (suc n) ≡ c ∷ upcoming s3 n) → ((n : ℕ) → upcoming s3 (suc n) ≡ d ∷ upcoming s4 n) → (n : ℕ) → upcoming s (4 * suc n) ≡ a ∷ b ∷ c ∷ d ∷ upcoming s4 (4 * n)
four_words upcoming s s1 s2 s3 s4 a b c d e1 e2 e3 e4 n =
    let four : 4 * suc n ≡ suc (suc (suc (suc (4 * n)))) = omega arith in
    ap (upcoming s) four
    ∙ e1 (suc (suc (suc (4 * n))))
    ∙ ap (λ (ws : List ℕ). a ∷ ws) (e2 (suc (suc (4 * n))))
    ∙ ap (λ (ws : List ℕ). a ∷ b ∷ ws) (e3 (suc (4 * n)))
    ∙ ap (λ (ws : List ℕ). a ∷ b ∷ c ∷ ws) (e4 (4 * n))

-- two accounts of how far a pass has come are one where their parts are
pub same_progress : (number number' reads reads' writes writes' : ℕ) (places places' : Places) → number ≡ number' → places ≡ places' → reads ≡ reads' → writes ≡ writes' → ◌≡◌ {A = PassProgress} (record { number = number; places = places; reads = reads; writes = writes }) (record { number = number'; places = places'; reads = reads'; writes = writes' })
same_progress number number' reads reads' writes writes' places places' e f g h = cc
