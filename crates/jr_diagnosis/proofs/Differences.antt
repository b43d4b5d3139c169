-- Where two lists of one length don't differ.
use Rattle.std.proofs.Common.{◌≡◌, ℕ, ◌<◌, List, length, get_or, None, sym, ap, ◌∙◌}
use Rattle.std.proofs.lemmas.Grind.{same_number_lists}
use Rattle.jr_model.specs.Judgement.{first_difference}
use Rattle.jr_header.proofs.Differences.{first_difference-same}

-- nowhere
pub none_differs : (xs ys : List ℕ) → length xs ≡ length ys → ((k : ℕ) → k < length xs → get_or xs k 0 ≡ get_or ys k 0) → first_difference xs ys ≡ None
none_differs xs ys size same = ap (first_difference xs) (sym (same_number_lists xs ys size same)) ∙ first_difference-same xs
