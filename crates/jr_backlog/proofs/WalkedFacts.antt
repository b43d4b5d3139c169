-- What the tests need of a deferred round that is walked beside a plain one.
use Rattle.std.proofs.Common.{◌≡◌, Bool, true, false, not, ◌&&◌, List, [], ◌∷◌, ◌++◌, length, refl, sym, ◌∙◌, ap, ◌==◌}
use Rattle.std.specs.Prelude.{Option, Some, None, filter, is_none, if◌then◌else◌}
use Rattle.std.proofs.lemmas.Bool.{and_parts}
use Rattle.jr_model.specs.declared.events.WriteId.{WriteId}
use Rattle.jr_model.specs.History.{same_write}
use Rattle.jr_model.proofs.ListLemmas.{none_by_length}
use Rattle.jr_backlog.specs.Rounds.{Round, is_closed, is_due, with_exhausted, with_passed, with_written}
use Rattle.jr_backlog.specs.Deferred.{Deferred, is_committed, round_now, committed_round, with_draw, with_waiting}

now_settled : (round : Round) (waiting : Option WriteId) (ended : Bool) → (is_none waiting && not ended) ≡ true → (if ended then with_exhausted (with_waiting waiting round) else with_waiting waiting round) ≡ round
now_settled round None false h = refl
now_settled round None true h = cc
now_settled round (Some write) ended h = cc

-- where nothing is to be put in, the round is as it stands
pub settled_now : (d : Deferred) → is_committed d ≡ true → round_now d ≡ d.round
settled_now d h = now_settled d.round d.waiting d.ended h

-- a write more is the last to check
added_last : (round : Round) (write : WriteId) (closed : Bool) → is_closed round ≡ closed → (with_written round write).to_check ≡ round.to_check ++ write ∷ []
added_last round write true e =
    rw e (ap (λ ws. ws ++ write ∷ []) (sym (none_by_length round.to_check (and_parts (is_due round) (length round.to_check == 0) e).1)))
added_last round write false e = rw e

ended_or_not : (ended : Bool) (round : Round) → (if ended then with_exhausted round else round).to_check ≡ round.to_check
ended_or_not true round = refl
ended_or_not false round = refl

-- a write is issued beside
pub both_written : (d : Deferred) (plain : Round) (write : WriteId) (ended : Bool) (writes : List WriteId) → is_committed d ≡ true → round_now d ≡ plain → plain.to_check ≡ writes → (round_now (with_draw d (Some write) ended) ≡ (if ended then with_exhausted (with_written plain write) else with_written plain write)) × ((if ended then with_exhausted (with_written plain write) else with_written plain write).to_check ≡ writes ++ write ∷ [])
both_written d plain write ended writes settled same listed =
    let here : d.round ≡ plain = sym (settled_now d settled) ∙ same in (
      ap (λ (r : Round). if ended then with_exhausted (with_written r write) else with_written r write) here,
      ended_or_not ended (with_written plain write) ∙ added_last plain write (is_closed plain) refl ∙ ap (λ ws. ws ++ write ∷ []) listed,
    )

-- a write is passed in both
pub both_passed : (d : Deferred) (plain : Round) (write : WriteId) (writes : List WriteId) → is_committed d ≡ true → round_now d ≡ plain → plain.to_check ≡ writes → (round_now (committed_round (with_passed d.round write)) ≡ with_passed plain write) × ((with_passed plain write).to_check ≡ filter (λ (other : WriteId). not (same_write write other)) writes)
both_passed d plain write writes settled same listed = (
  ap (λ (r : Round). with_passed r write) (sym (settled_now d settled) ∙ same),
  ap (λ ws. filter (λ (other : WriteId). not (same_write write other)) ws) listed,
)
