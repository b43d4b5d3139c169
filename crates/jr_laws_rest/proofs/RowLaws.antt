-- What the rounds of a clone tried is one row.
use Rattle.std.proofs.Common.{◌≡◌, ℕ, ◌≤◌, List, [], ◌∷◌, refl, ap, sym, ◌∙◌, subst}
use Rattle.std.specs.Prelude.{nat_lt, count_by, if◌then◌else◌}
use Rattle.jr_model.specs.declared.blocks.Piece.{Piece}
use Rattle.jr_rounds_rest.specs.Left.{reached}
use Rattle.jr_laws_rest.specs.Tried.{AreTurns, IsRow, Turn, all_tries, has_byte, reached_by, row_end, tries}
use Rattle.jr_laws_rest.proofs.Rows.{end_joined, once_in, row_joined}
use Rattle.jr_laws_rest.proofs.TriedLaws.{tried_in_a_row-law}

turns_row : (file from : ℕ) (turns : List Turn) → AreTurns file from turns → IsRow file from (all_tries turns) × (row_end from (all_tries turns) ≡ reached_by from turns)
turns_row file from [] h = (tt, refl)
turns_row file from (turn ∷ turns) h =
    let mine = tried_in_a_row-law turn.plan turn.history turn.job h.0.legal h.0.there h.0.in_order in
    let ps : List Piece = tries turn.history turn.job.clone in
    let to = reached turn.history turn.job in
    let row : IsRow file from ps =
    subst (λ (n : ℕ). IsRow file n ps) h.0.begins (subst (λ (f : ℕ). IsRow f turn.job.start ps) h.0.same_file mine.0) in
    let end : row_end from ps ≡ to = ap (λ (n : ℕ). row_end n ps) (sym h.0.begins) ∙ mine.1 in
    let others = turns_row file to turns h.1 in
    let joined = row_joined file from ps (all_tries turns) row (subst (λ (n : ℕ). IsRow file n (all_tries turns)) (sym end) others.0) in
    (joined, end_joined from ps (all_tries turns) ∙ ap (λ (n : ℕ). row_end n (all_tries turns)) end ∙ others.1)

pub each_byte-law : (file from b : ℕ) (turns : List Turn) → AreTurns file from turns → from ≤ b
    → count_by (has_byte file b) (all_tries turns) ≡ (if nat_lt b (reached_by from turns) then 1 else 0)
each_byte-law file from b turns h low =
    let row = turns_row file from turns h in
    once_in file from b (all_tries turns) row.0 low ∙ ap (λ (n : ℕ). if nat_lt b n then 1 else 0) row.1
