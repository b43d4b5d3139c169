use Rattle.std.proofs.Common.{ℕ, List, ◌++◌, length, ◌∙◌, ap}
use Rattle.std.proofs.lemmas.List.{drop-replicate}
use Rattle.jr_plan.proofs.splits.padded_entries.Goals as goal

pub returns : goal.returns
returns c =
    let empty : ℕ × ℕ = (0, 0) in
    c.copy_to_front.ensures
    ∙ ap (λ (rest : List (ℕ × ℕ)). c.args.entries.now ++ rest) (drop-replicate (length c.args.entries.now) 64 empty)
