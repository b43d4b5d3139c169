-- Each pass of a planned clone has a draw.
use Rattle.std.proofs.Common.{◌≡◌, ℕ, zero, suc, ◌+◌, ◌-◌, ◌*◌, ◌≤◌, List, ◌∷◌, Bool, true, false, refl, ◌∙◌, ap, arith}
use Rattle.std.specs.Prelude.{Some, slice_get, ◌==◌, is_none}
use Rattle.std.proofs.lemmas.Bool.{ne_eqb}
use Rattle.jr_model.specs.declared.workloads.Draw.{Draw}
use Rattle.jr_model.specs.declared.workloads.IoType.{IoType}
use Rattle.jr_model.specs.declared.workloads.IoType.TheVariants as io
use Rattle.jr_model.specs.CellSet.{no_cells, first_free, free_count}
use Rattle.jr_model.specs.Draws.{all_drawn, fresh_places, fresh_progress, chosen_cells, draw_at, draws_from, draws_of_job, pass_over}
use Rattle.jr_model.specs.Plan.{SubJob, Plan}
use Rattle.jr_model.specs.Words.{words_from, seeded, pass_seed}
use Rattle.jr_model.specs.PlanFacts.{IsPlanned}
use Rattle.jr_laws_draws.proofs.DrawnCellsLaws.{over-free_count}
use Rattle.jr_laws_draws.proofs.DrawLaws.{draws_from-next}
use Rattle.jr_laws_draws.proofs.PassLaws.{fresh-fit}

-- four words, where so many are asked for
record FourWords (words : List ℕ) : Type 0 where
  pub first : ℕ
  pub second : ℕ
  pub third : ℕ
  pub fourth : ℕ
  pub rest : List ℕ
  pub split : words ≡ first ∷ second ∷ third ∷ fourth ∷ rest

four_words : (state : List ℕ) (n : ℕ) → 4 ≤ n → FourWords (words_from state n)
unfolding words_from
four_words state zero enough = absurd (omega (arith, enough))
four_words state (suc zero) enough = absurd (omega (arith, enough))
four_words state (suc (suc zero)) enough = absurd (omega (arith, enough))
four_words state (suc (suc (suc zero))) enough = absurd (omega (arith, enough))
four_words state (suc (suc (suc (suc n)))) enough = record { first = _; second = _; third = _; fourth = _; rest = _; split = refl }

-- a pass over some cells isn't over at its start
none_left : (cells : ℕ) → 1 ≤ cells → ((cells - (0 + 0)) == 0) ≡ false
none_left cells some = ne_eqb (cells - (0 + 0)) 0 (λ none. omega (arith, none, some))

map_free : (cells : ℕ) → 1 ≤ cells → (0 + free_count (no_cells cells)) ≡ cells → is_none (first_free (no_cells cells)) ≡ false
map_free cells some counted =
    over-free_count (no_cells cells) ∙ ne_eqb (free_count (no_cells cells)) 0 (λ none. omega (arith, none, some, counted))

random_begins : (has_map : Bool) (cells : ℕ) → 1 ≤ cells → all_drawn (fresh_places io.RandRead has_map cells) (cells - (0 + 0)) ≡ false
random_begins true cells some = map_free cells some (omega (arith, (fresh-fit io.RandRead true cells).1))
random_begins false cells some = none_left cells some

begins : (kind : IoType) (has_map : Bool) (cells : ℕ) → 1 ≤ cells → all_drawn (fresh_places kind has_map cells) (cells - (0 + 0)) ≡ false
begins io.Read has_map cells some = none_left cells some
begins io.Write has_map cells some = none_left cells some
begins io.ReadWrite has_map cells some = none_left cells some
begins io.RandRead has_map cells some = random_begins has_map cells some
begins io.RandWrite has_map cells some = random_begins has_map cells some
begins io.RandRw has_map cells some = random_begins has_map cells some

-- so it has a draw
pub has_draw : (job : SubJob) (p : ℕ) → 1 ≤ job.cells → (draw : Draw) × (slice_get (draws_of_job job p) 0 ≡ Some draw)
has_draw job p some =
    let start = fresh_progress job in
    let words = four_words (seeded (pass_seed job p)) (4 * job.cells) (omega (arith, some)) in
    let draw = draw_at job start (chosen_cells job start words.first words.second words.third) words.fourth in
    let begun : pass_over job start ≡ false = begins job.io_type job.has_map job.cells some in
    let drawn = ap (draws_from job start) words.split ∙ draws_from-next job start words.first words.second words.third words.fourth words.rest begun in
    (draw, ap (λ (draws : List Draw). slice_get draws 0) drawn)

-- each pass of a planned clone does
pub planned_draw : (plan : Plan) (c p : ℕ) (job : SubJob) → IsPlanned plan → slice_get plan.clones c ≡ Some job → (draw : Draw) × (slice_get (draws_of_job job p) 0 ≡ Some draw)
planned_draw plan c p job planned at = has_draw job p (planned.drafted.limited c job at).cells_least
