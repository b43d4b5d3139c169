-- Believed: the draws that a drawer is still to give.
use Rattle.std.specs.Prelude.{ℕ, ◌*◌, List}
use Rattle.jr_model.specs.declared.workloads.Draw.{Draw}
use Rattle.jr_model.specs.Draws.{draws_from}
use Rattle.jr_draw.specs.declared.drawer.Drawer.{Drawer}

-- the draws that come of four times n words more, where a source gives its next words so
abbrev pub draws_left : {W : Type 0} → (W → ℕ → List ℕ) → Drawer W → ℕ → List Draw
draws_left upcoming drawer n = draws_from drawer.course.job drawer.course.done (upcoming drawer.source (4 * n))

-- the pass that it draws
abbrev pub pass_of : {W : Type 0} → Drawer W → ℕ
pass_of drawer = drawer.pass
