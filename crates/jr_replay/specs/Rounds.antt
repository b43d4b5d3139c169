-- Internal: when a group of writes is full, by how many draws of its pass were issued.
use Rattle.std.specs.Prelude.{ℕ, ◌==◌, nat_lt, Bool, ◌&&◌, ◌||◌, length, count_by}
use Rattle.jr_model.specs.declared.workloads.Draw.{Draw}
use Rattle.jr_model.specs.Rounds.{Pass, group_of}

abbrev pub is_full_at : ℕ → Pass → ℕ → Bool
is_full_at issued pass g =
    (issued == length pass.draws)
    || (nat_lt 0 pass.job.backlog && (count_by (λ (draw : Draw). nat_lt draw.number issued) (group_of pass g) == pass.job.backlog))
