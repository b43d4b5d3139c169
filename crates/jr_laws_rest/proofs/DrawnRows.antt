-- The draws of a pass that goes in order, one way, are a row.
use Rattle.std.proofs.Common.{◌≡◌, ℕ, ◌+◌, ◌*◌, List, [], ◌∷◌, map, Bool, true, refl, ap, sym, ◌∙◌, subst, arith, inl, inr}
use Rattle.std.proofs.lemmas.Bool.{cases_Bool}
use Rattle.jr_model.specs.declared.blocks.Dir.{Dir}
use Rattle.jr_model.specs.declared.blocks.Dir.TheVariants.{Read, Write}
use Rattle.jr_model.specs.declared.blocks.Piece.{Piece}
use Rattle.jr_model.specs.declared.workloads.Draw.{Draw}
use Rattle.jr_model.specs.declared.workloads.IoType.{IoType}
use Rattle.jr_model.specs.declared.workloads.IoType.TheVariants as io
use Rattle.jr_model.specs.Draws.{Places, PassProgress, sequential, by_direction, cell_piece, chosen_cells, direction_of, draws_from, draws_of_job, first_cell, fresh_places, fresh_progress, pass_over, places_after, progress_after}
use Rattle.jr_model.specs.Pieces.{piece_end}
use Rattle.jr_model.specs.Plan.{SubJob}
use Rattle.jr_model.specs.Words.{pass_words}
use Rattle.jr_laws_draws.proofs.DrawLaws.{draws_from-next, draws_from-over}
use Rattle.jr_rounds_rest.specs.Left.{is_in_order}
use Rattle.jr_laws_rest.specs.Tried.{IsRow}

abbrev pub piece_of : Draw → Piece
piece_of draw = draw.piece

-- each draw goes this way
abbrev GoesOneWay : IoType → Dir → Type 0
GoesOneWay type way = (percent t : ℕ) → direction_of type percent t ≡ way

-- the cells drawn this way after a draw
cells_after : (way dir : Dir) (r w n : ℕ) → dir ≡ way → by_direction way (r + by_direction dir n 0) (w + by_direction dir 0 n) ≡ by_direction way r w + n
cells_after Read dir r w n is = ap (λ (d : Dir). r + by_direction d n 0) is
cells_after Write dir r w n is = ap (λ (d : Dir). w + by_direction d 0 n) is

-- the end of m cells from cell x on is where cell x + m begins
cells_end : (start x m cell : ℕ) → start + x * cell + m * cell ≡ start + (x + m) * cell
cells_end start x m cell = grind (arith)

module _ (job : SubJob) (way : Dir) (one_way : GoesOneWay job.io_type way) where
  -- where the next draw begins
  place : PassProgress → ℕ
  place done = job.start + by_direction way done.reads done.writes * job.cell

  rows : (words : List ℕ) (done : PassProgress) → done.places ≡ sequential → IsRow job.file (job.start + by_direction way done.reads done.writes * job.cell) (map piece_of (draws_from job done words))
  rows [] done seq = tt
  rows (a ∷ []) done seq = tt
  rows (a ∷ b ∷ []) done seq = tt
  rows (a ∷ b ∷ c ∷ []) done seq = tt
  rows (a ∷ b ∷ c ∷ d ∷ words) done seq =
      let choice = chosen_cells job done a b c in
      let later = progress_after done choice in
      let drawn : ℕ = by_direction way done.reads done.writes in
      let dir_is : choice.dir ≡ way = one_way job.read_percent _ in
      let first_is : choice.first ≡ drawn =
      ap (λ (p : Places). first_cell p job.cells (by_direction choice.dir done.reads done.writes) c) seq
      ∙ ap (λ (dir : Dir). by_direction dir done.reads done.writes) dir_is in
      let seq_later : later.places ≡ sequential = ap (λ (p : Places). places_after p choice.first choice.count) seq in
      let after : by_direction way later.reads later.writes ≡ drawn + choice.count = cells_after way choice.dir done.reads done.writes choice.count dir_is in
      let piece = cell_piece job choice.first choice.count in
      let begins : piece.offset ≡ job.start + drawn * job.cell = ap (λ (x : ℕ). job.start + x * job.cell) first_is in
      let ends : job.start + by_direction way later.reads later.writes * job.cell ≡ piece_end piece =
      ap (λ (x : ℕ). job.start + x * job.cell) after
      ∙ sym (cells_end job.start drawn choice.count job.cell)
      ∙ ap (λ (x : ℕ). job.start + x * job.cell + choice.count * job.cell) (sym first_is) in
      let rest = subst (λ (from : ℕ). IsRow job.file from (map piece_of (draws_from job later words))) ends (rows words later seq_later) in
      elim (cases_Bool (pass_over job done)) [
        | inl over ↦ subst (λ (ds : List Draw). IsRow job.file (job.start + drawn * job.cell) (map piece_of ds)) (sym (draws_from-over job done (a ∷ b ∷ c ∷ d ∷ words) over)) tt
        | inr next ↦ subst (λ (ds : List Draw). IsRow job.file (job.start + drawn * job.cell) (map piece_of ds)) (sym (draws_from-next job done a b c d words next)) (refl, begins, rest)
      ]

nothing_drawn : (way : Dir) (start cell : ℕ) → start + by_direction way 0 0 * cell ≡ start
nothing_drawn Read start cell = grind (arith)
nothing_drawn Write start cell = grind (arith)

from_start : (job : SubJob) (way : Dir) (pass : ℕ) → GoesOneWay job.io_type way → (fresh_progress job).places ≡ sequential → IsRow job.file job.start (map piece_of (draws_of_job job pass))
from_start job way pass one_way seq =
    subst (λ (from : ℕ). IsRow job.file from (map piece_of (draws_of_job job pass))) (nothing_drawn way job.start job.cell)
    (rows job way one_way (pass_words job pass (4 * job.cells)) (fresh_progress job) seq)

by_type : (type : IoType) → is_in_order type ≡ true → (way : Dir) × GoesOneWay type way × ((has_map : Bool) (cells : ℕ) → fresh_places type has_map cells ≡ sequential)
by_type io.Read h = (Read, (λ percent t. refl), (λ has_map cells. refl))
by_type io.Write h = (Write, (λ percent t. refl), (λ has_map cells. refl))
by_type io.ReadWrite h = cc
by_type io.RandRead h = cc
by_type io.RandWrite h = cc
by_type io.RandRw h = cc

pub drawn_row : (job : SubJob) (pass : ℕ) → is_in_order job.io_type ≡ true → IsRow job.file job.start (map piece_of (draws_of_job job pass))
drawn_row job pass h =
    let type = by_type job.io_type h in
    from_start job type.0 pass type.1 (type.2 job.has_map job.cells)
