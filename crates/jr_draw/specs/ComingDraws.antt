-- Believed: the draws of a pass that are still to come, where the next one is at hand, if there is one, and a drawer gives
-- the rest.
use Rattle.std.specs.Prelude.{◌≡◌, ℕ, ◌≤◌, List, [], Option, None}
use Rattle.std.specs.List.{cons_option}
use Rattle.jr_model.specs.declared.limits.TheConstants.{MOST_CELLS}
use Rattle.jr_model.specs.declared.workloads.Draw.{Draw}
use Rattle.jr_draw.specs.declared.drawer.Drawer.{Drawer}
use Rattle.jr_draw.specs.Drawing.{draws_left}

-- the next one, and what the words of as many draws as a pass can have give behind it
abbrev pub coming : {W : Type 0} → (W → ℕ → List ℕ) → Option Draw → Drawer W → List Draw
coming upcoming next rest = cons_option next (draws_left upcoming rest MOST_CELLS)

-- more words give no more draws, and where there is no next one there are none behind it
pub record IsComing {W : Type 0} (upcoming : W → ℕ → List ℕ) (next : Option Draw) (rest : Drawer W) : Type 0 where
  pub enough : (n : ℕ) → MOST_CELLS ≤ n → draws_left upcoming rest n ≡ draws_left upcoming rest MOST_CELLS
  pub over : next ≡ None → draws_left upcoming rest MOST_CELLS ≡ []
