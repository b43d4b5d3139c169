use Rattle.std.proofs.Common.{◌==◌, ℕ, sym, ap, ◌∙◌}
use Rattle.jr_laws_draws.proofs.DrawnCellsLaws.{over-free_count}
use Rattle.jr_draw.proofs.places.Places.are_drawn.Goals as goal

pub returns-in-Mapped : goal.returns-in-Mapped
returns-in-Mapped c =
    rw c.in-Mapped.is (ap (λ (n : ℕ). n == 0) c.left.ensures ∙ sym (over-free_count _))
