-- The standings of all clones where that of one clone is changed.
use Rattle.std.proofs.Common.{◌≡◌, ℕ, suc, ◌+◌, ◌<◌, ◌≤◌, List, length, drop, get_or, true, sym, ◌∙◌, ap, subst, arith}
use Rattle.std.proofs.Math.ListN.{set}
use Rattle.std.specs.Prelude.{Some, slice_get, IfSome}
use Rattle.std.proofs.lemmas.List.{get_or-set_same}
use Rattle.std.proofs.lemmas.Option.{slice_get_within}
use Rattle.jr_model.specs.declared.events.Event.{Event}
use Rattle.jr_model.specs.Draws.{draws_of_job}
use Rattle.jr_model.specs.Plan.{Plan, SubJob, clone_of}
use Rattle.jr_model.specs.Rounds.{pass_of, issued_count}
use Rattle.jr_laws_rounds.specs.Standing.{IsInPass}
use Rattle.jr_model.proofs.PlaceLemmas.{got_set}
use Rattle.jr_backlog.specs.Deferred.{Deferred, committed_round, is_committed, round_now}
use Rattle.jr_desk_state.specs.declared.standings.Issued.{Issued}
use Rattle.jr_desk_state.specs.declared.standings.Standing.{Standing}
use Rattle.jr_desk_state.specs.Boards.{left_of}
use Rattle.jr_desk_state.specs.Standings.{IsPrepared, IsStanding, AreStanding, WasIssued, left_in, name_of}
use Rattle.jr_desk_state.proofs.StartingStandings.{left_same, left_set, standing_moves}

-- what is read where an item was changed is that item
pub read_after_set : {X : Type 0} (xs : List X) (c : ℕ) (s x : X) → c < length xs → x ≡ get_or (set xs c s) c x → x ≡ s
read_after_set xs c s x below read = read ∙ get_or-set_same xs c s x below

-- a clone's standing is replaced by one that tells the same
pub standings_set : (plan : Plan) (history : List Event) (c : ℕ) (job : SubJob) (standings : List Standing) (standing : Standing)
    → clone_of plan c ≡ Some job
    → AreStanding plan history standings
    → IsStanding history job standing
    → AreStanding plan history (set standings c standing)
standings_set plan history c job standings standing at are is =
    standing_moves plan history history standings c job standing are at is
    (λ (k : ℕ) (other : SubJob) (its : Standing) (there : clone_of plan k ≡ Some other) (apart : c ≡ k → ⊥)
    (was : IsStanding history other its).
    was)

-- where only the rounds are changed, and not what they come to, the clone stands where it stood
pub standing_resettled : (history : List Event) (job : SubJob) (standing : Standing) (rounds : Deferred)
    → round_now rounds ≡ round_now standing.rounds
    → IsStanding history job standing
    → IsStanding history job (record standing { rounds = rounds })
standing_resettled history job standing rounds same is = record {
  in_pass = is.in_pass;
  draws = is.draws;
  later = is.later;
  count = is.count;
  issued = is.issued;
  round = λ has going. same ∙ is.round has going;
}

-- what was waiting is put in, and the round comes to the same
pub round_put_in : (was now : Deferred) → now ≡ committed_round (round_now was) → round_now now ≡ round_now was
round_put_in was now put = ap round_now put

-- so does one of which the next pass is known, or not, and whose round comes to the same
pub standing_kept : (history : List Event) (job : SubJob) (was now : Standing)
    → now.pass ≡ was.pass
    → now.draws ≡ was.draws
    → IfSome now.later (λ draws. draws ≡ draws_of_job job (suc was.pass))
    → now.issued.items ≡ was.issued.items
    → round_now now.rounds ≡ round_now was.rounds
    → IsStanding history job was
    → IsStanding history job now
standing_kept history job was now pass draws later issued rounds is = record {
  in_pass = subst (λ (p : ℕ). IsInPass history job p) (sym pass) is.in_pass;
  draws = draws ∙ is.draws ∙ ap (λ (p : ℕ). drop (issued_count history (pass_of job p)) (draws_of_job job p)) (sym pass);
  later = subst (λ (p : ℕ). IfSome now.later (λ draws. draws ≡ draws_of_job job (suc p))) (sym pass) later;
  count = ap length issued ∙ is.count ∙ ap (λ (p : ℕ). issued_count history (pass_of job p)) (sym pass);
  issued = λ k one at.
      subst (λ (p : ℕ). WasIssued history (name_of job p k) one) (sym pass)
      (is.issued k one (ap (λ (xs : List Issued). slice_get xs k) (sym issued) ∙ at));
  round = λ has going. rounds ∙ is.round has going;
}

-- and what it is prepared for stays, where nothing is to be put in
pub prepared_settled_now : (job : SubJob) (standing : Standing) (rounds : Deferred) → is_committed rounds ≡ true → IsPrepared job standing
    → IsPrepared job (record standing { rounds = rounds })
prepared_settled_now job standing rounds settled is = record { settled = settled; room = is.room; later = is.later }

pub prepared_same : (job : SubJob) (standing : Standing) (rounds : Deferred) → rounds ≡ standing.rounds → IsPrepared job standing
    → IsPrepared job (record standing { rounds = rounds })
prepared_same job standing rounds same is =
    prepared_settled_now job standing rounds (ap is_committed same ∙ is.settled) is

-- the writes that are left where a clone's standing is replaced twice: first by one with as many, and then by one with fewer
pub left_passed : (standings : List Standing) (c : ℕ) (old now read after : Standing) (passed : ℕ)
    → slice_get standings c ≡ Some old
    → left_in now ≡ left_in old
    → read ≡ now
    → left_in after + passed ≤ left_in read
    → left_of (set (set standings c now) c after) + passed ≤ left_of standings
left_passed standings c old now read after passed at same is few =
    omega (
      arith,
      left_same standings c old now at same,
      left_set (set standings c now) c now after (got_set standings c now (slice_get_within standings c old at)),
      ap left_in is,
      few,
    )
