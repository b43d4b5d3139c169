use Rattle.std.proofs.Common.{◌≡◌, ℕ, List, ◌++◌, length, take, drop, sym, subst, ap, ◌∙◌, rules}
use Rattle.std.specs.Prelude.{Option}
use Rattle.std.proofs.Math.Seq.{take-append_seam}
use Rattle.jr_model.specs.declared.events.Event.{Event}
use Rattle.jr_model.specs.declared.events.Verdict.{Verdict as GivenVerdict}
use Rattle.jr_crew_books.specs.Accounts.{IsTableOf}
use Rattle.jr_crew_books.proofs.Tables.{table_first}
use Rattle.jr_crew_books.proofs.accounts.verdicts_of.Goals as goal

-- the slice of a list that was written over has taken its place
written : {X : Type 0} (n : ℕ) (new old : List X) → length new ≡ n → take n (new ++ drop (length new) old) ≡ new
written n new old all = ap (λ (k : ℕ). take k (new ++ drop (length new) old)) (sym all) ∙ take-append_seam new (drop (length new) old)

pub note_verdicts-requires : goal.note_verdicts-requires
note_verdicts-requires c = search (rules, table_first)

pub returns-clause-table : goal.returns-clause-table
returns-clause-table c =
    let new = c.note_verdicts.new.table in
    let noted = c.note_verdicts.ensures in
    subst (λ (table : List (Option GivenVerdict)). IsTableOf table c.args.account.now.history)
    (sym (written c.in_ok-table.table.len new c.in_ok-table.table.items (noted.len ∙ c.as_mut_slice.ensures.len)))
    (subst (λ (history : List Event). IsTableOf new history) c.history.ensures noted.table)

pub returns-clause-len : goal.returns-clause-len
returns-clause-len c =
    let all = c.note_verdicts.ensures.len ∙ c.as_mut_slice.ensures.len in
    ap length (written c.in_ok-table.table.len c.note_verdicts.new.table c.in_ok-table.table.items all)
    ∙ all ∙ c.in_ok-table.ensures.len ∙ c.count.ensures
