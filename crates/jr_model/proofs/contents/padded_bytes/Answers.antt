use Rattle.std.proofs.Common.{ℕ, List, ◌++◌, length, ◌∙◌, ap}
use Rattle.std.proofs.lemmas.List.{drop-replicate}
use Rattle.jr_model.proofs.contents.padded_bytes.Goals as goal

pub returns : goal.returns
returns c =
    c.copy_to_front.ensures
    ∙ ap (λ (rest : List ℕ). c.args.bytes.now ++ rest) (drop-replicate (length c.args.bytes.now) 64 0)
