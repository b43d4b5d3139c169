-- Each pass of a planned clone has a draw.
use Rattle.std.proofs.Common.{◌≡◌, ℕ, zero, suc, ◌+◌, ◌-◌, ◌*◌, ◌<◌, ◌≤◌, List, [], ◌∷◌, length, Bool, true, false, cond, sym, ap, subst, arith}
use Rattle.std.specs.Prelude.{Some, None, is_none, replicate}
use Rattle.std.proofs.lemmas.Bool.{lt-ltb}
use Rattle.std.proofs.lemmas.List.{length-replicate}
use Rattle.jr_model.specs.declared.workloads.IoType.{IoType}
use Rattle.jr_model.specs.declared.workloads.IoType.TheVariants as io
use Rattle.jr_model.specs.CellSet.{first_free, no_cells}
use Rattle.jr_model.specs.Draws.{PassProgress, all_drawn, random_places, fresh_places, fresh_progress, pass_over, chosen_cells, draw_at, progress_after, draws_from, draws_of_job}
use Rattle.jr_model.specs.Plan.{SubJob}
use Rattle.jr_model.specs.Words.{seeded, pass_seed, words_from}
use Rattle.jr_model.proofs.NumberLemmas.{some_by_test}

some_free : (cells : ℕ) → 0 < cells → is_none (first_free (no_cells cells)) ≡ false
some_free zero some = absurd (omega (arith, some))
some_free (suc n) some =
    ap (λ (b : Bool). is_none {T = ℕ} (cond b (Some 0) None)) (lt-ltb 0 (length (replicate (suc n) false)) (omega (arith, length-replicate (suc n) false)))

random_left : (has_map : Bool) (cells left : ℕ) → 0 < cells → 0 < left → all_drawn (random_places has_map cells) left ≡ false
random_left true cells left some more = some_free cells some
random_left false cells left some more = some_by_test left more

-- no pass is over at its start
not_over : (kind : IoType) (has_map : Bool) (cells left : ℕ) → 0 < cells → 0 < left → all_drawn (fresh_places kind has_map cells) left ≡ false
not_over io.Read has_map cells left some more = some_by_test left more
not_over io.Write has_map cells left some more = some_by_test left more
not_over io.ReadWrite has_map cells left some more = some_by_test left more
not_over io.RandRead has_map cells left some more = random_left has_map cells left some more
not_over io.RandWrite has_map cells left some more = random_left has_map cells left some more
not_over io.RandRw has_map cells left some more = random_left has_map cells left some more

-- where it isn't over four words make a draw
first_drawn : (job : SubJob) (done : PassProgress) (words : List ℕ) → 4 ≤ length words → pass_over job done ≡ false → 0 < length (draws_from job done words)
first_drawn job done [] enough on = absurd (omega (arith, enough))
first_drawn job done (a ∷ []) enough on = absurd (omega (arith, enough))
first_drawn job done (a ∷ b ∷ []) enough on = absurd (omega (arith, enough))
first_drawn job done (a ∷ b ∷ c ∷ []) enough on = absurd (omega (arith, enough))
first_drawn job done (a ∷ b ∷ c ∷ s ∷ words) enough on =
    let chosen = chosen_cells job done a b c in
    subst (λ (over : Bool). 0 < length (cond over [] (draw_at job done chosen s ∷ draws_from job (progress_after done chosen) words))) (sym on) (omega arith)

four_words : (state : List ℕ) (n : ℕ) → 4 ≤ n → 4 ≤ length (words_from state n)
unfolding words_from
four_words state zero enough = absurd (omega (arith, enough))
four_words state (suc zero) enough = absurd (omega (arith, enough))
four_words state (suc (suc zero)) enough = absurd (omega (arith, enough))
four_words state (suc (suc (suc zero))) enough = absurd (omega (arith, enough))
four_words state (suc (suc (suc (suc n)))) enough = omega arith

pub has_draw : (job : SubJob) (p : ℕ) → 1 ≤ job.cells → 0 < length (draws_of_job job p)
has_draw job p some =
    let n = 4 * job.cells in
    first_drawn job (fresh_progress job) (words_from (seeded (pass_seed job p)) n) (four_words (seeded (pass_seed job p)) n (omega (arith, some)))
    (not_over job.io_type job.has_map job.cells (job.cells - (0 + 0)) some (omega (arith, some)))
