-- The standings of all clones, where one of them changes and the others stay.
use Rattle.std.proofs.Common.{◌≡◌, ◌+◌, ◌<◌, ◌≤◌, ℕ, List, [], ◌∷◌, ◌++◌, length, get_or, Bool, true, false, not, cond, refl, sym, ◌∙◌}
use Rattle.std.proofs.Common.{ap, subst, arith, inl, inr, length-append}
use Rattle.std.proofs.Math.ListN.{set}
use Rattle.std.specs.Prelude.{Option, Some, None, slice_get, count_by, filter}
use Rattle.std.specs.List.{list_any}
use Rattle.std.proofs.lemmas.List.{length-set}
use Rattle.std.proofs.lemmas.Bool.{cases_Bool, or_cases}
use Rattle.std.proofs.lemmas.List.Filters.{length-filter_both}
use Rattle.std.proofs.lemmas.List.Sums.{length-filter, sum_by-cons, sum_by-set}
use Rattle.std.proofs.lemmas.Option.{get_or_from_slice_get, slice_get_within, same_Some}
use Rattle.jr_model.specs.declared.events.Event.{Event}
use Rattle.jr_model.specs.declared.events.IssueKind.{IssueKind}
use Rattle.jr_model.specs.declared.events.IssueKind.TheVariants as issue
use Rattle.jr_model.specs.declared.events.WriteId.{WriteId}
use Rattle.jr_model.specs.History.{same_write}
use Rattle.jr_model.specs.Plan.{Plan, SubJob, clone_of}
use Rattle.jr_model.specs.Rounds.{has_rounds}
use Rattle.jr_backlog.specs.Rounds.{Round, is_closed, is_to_check, new_round, with_passed, with_written}
use Rattle.jr_backlog.specs.Deferred.{Deferred, committed_round, is_committed, round_now, with_draw, with_waiting}
use Rattle.jr_backlog.proofs.WalkedFacts.{settled_now}
use Rattle.jr_laws_steps.proofs.Lists.{got_set}
use Rattle.jr_desk_state.specs.declared.standings.Standing.{Standing}
use Rattle.jr_desk_state.specs.Boards.{left_of}
use Rattle.jr_desk_state.specs.Standings.{AreOthersPrepared, ArePrepared, AreStanding, IsPrepared, IsStanding, added_by, left_in}

-- what holds of each clone's standing holds of each where one is put in its place
each_set : (plan : Plan) (P Q : SubJob → Standing → Type 0) (standings : List Standing) (c : ℕ) (job : SubJob) (new : Standing)
    → ((k : ℕ) (other : SubJob) (standing : Standing) → clone_of plan k ≡ Some other → slice_get standings k ≡ Some standing
    → P other standing)
    → clone_of plan c ≡ Some job
    → Q job new
    → ((k : ℕ) (other : SubJob) (standing : Standing) → clone_of plan k ≡ Some other → (c ≡ k → ⊥) → P other standing
    → Q other standing)
    → (k : ℕ) (other : SubJob) (standing : Standing) → clone_of plan k ≡ Some other → slice_get (set standings c new) k ≡ Some standing
    → Q other standing
each_set plan P Q standings c job new each planned here others k other standing there got =
    elim (got_set standings c k standing new got) [
      | inl same ↦
          let jobs : job ≡ other = same_Some job other (sym planned ∙ ap (clone_of plan) (sym same.0) ∙ there) in
          subst (λ (s : Standing). Q other s) (sym same.1) (subst (λ (j : SubJob). Q j new) jobs here)
      | inr apart ↦ others k other standing there apart.0 (each k other standing there apart.1)
    ]

-- the clone that moves moves with the history, and the others stand as before
pub standing_moves : (plan : Plan) (before after : List Event) (standings : List Standing) (c : ℕ) (job : SubJob) (new : Standing)
    → AreStanding plan before standings
    → clone_of plan c ≡ Some job
    → IsStanding after job new
    → ((k : ℕ) (other : SubJob) (standing : Standing) → clone_of plan k ≡ Some other → (c ≡ k → ⊥)
    → IsStanding before other standing → IsStanding after other standing)
    → AreStanding plan after (set standings c new)
standing_moves plan before after standings c job new are planned here others = record {
  count = length-set standings c new ∙ are.count;
  each = each_set plan (IsStanding before) (IsStanding after) standings c job new are.each planned here others;
}

-- the same of what they are prepared for
pub prepared_moves : (plan : Plan) (standings : List Standing) (c : ℕ) (job : SubJob) (new : Standing)
    → ArePrepared plan standings
    → clone_of plan c ≡ Some job
    → IsPrepared job new
    → ArePrepared plan (set standings c new)
prepared_moves plan standings c job new are planned here =
    each_set plan IsPrepared IsPrepared standings c job new are planned here
    (λ k other standing there apart is. is)

-- all but one are prepared where all are, and where that one changes
pub others_prepared : (plan : Plan) (one : ℕ) (standings : List Standing) → ArePrepared plan standings
    → AreOthersPrepared plan one standings
others_prepared plan one standings are c job standing apart there at = are c job standing there at

pub others_kept : (plan : Plan) (one : ℕ) (standings : List Standing) (new : Standing) → AreOthersPrepared plan one standings
    → AreOthersPrepared plan one (set standings one new)
others_kept plan one standings new are c job standing apart there at =
    elim (got_set standings one c standing new at) [
      | inl same ↦ absurd (apart same.0)
      | inr far ↦ are c job standing apart there far.1
    ]

-- all are, once that one is too
pub others_all : (plan : Plan) (one : ℕ) (standings : List Standing) (new : Standing) (job : SubJob) → AreOthersPrepared plan one standings
    → clone_of plan one ≡ Some job
    → IsPrepared job new
    → ArePrepared plan (set standings one new)
others_all plan one standings new job are planned is c other standing there at =
    elim (got_set standings one c standing new at) [
      | inl same ↦
          let jobs : job ≡ other = same_Some job other (sym planned ∙ ap (clone_of plan) (sym same.0) ∙ there) in
          subst (λ (s : Standing). IsPrepared other s) (sym same.1) (subst (λ (j : SubJob). IsPrepared j new) jobs is)
      | inr far ↦ are c other standing (λ (e : c ≡ one). far.0 (sym e)) there far.1
    ]

-- and where a clone stays prepared if it was
pub others_moved : (plan : Plan) (one c : ℕ) (standings : List Standing) (old new : Standing) (job : SubJob)
    → AreOthersPrepared plan one standings
    → clone_of plan c ≡ Some job
    → slice_get standings c ≡ Some old
    → (IsPrepared job old → IsPrepared job new)
    → AreOthersPrepared plan one (set standings c new)
others_moved plan one c standings old new job are planned here stays k other standing apart there at =
    elim (got_set standings c k standing new at) [
      | inl same ↦
          let jobs : job ≡ other = same_Some job other (sym planned ∙ ap (clone_of plan) (sym same.0) ∙ there) in
          subst (λ (s : Standing). IsPrepared other s) (sym same.1)
          (subst (λ (j : SubJob). IsPrepared j new) jobs
          (stays (are c job old (λ (is : c ≡ one). apart (same.0 ∙ is)) planned here)))
      | inr far ↦ are k other standing apart there far.1
    ]

-- where one clone has more or fewer writes to check, all of them have
pub left_set : (standings : List Standing) (c : ℕ) (old new : Standing)
    → slice_get standings c ≡ Some old
    → left_of (set standings c new) + left_in old ≡ left_of standings + left_in new
left_set standings c old new at =
    let both = sum_by-set left_in standings c new old (slice_get_within standings c old at) in
    let was : left_in (get_or standings c old) ≡ left_in old = ap left_in (get_or_from_slice_get standings c old old at) in
    omega (arith, both, was)

pub left_falls : (standings : List Standing) (c : ℕ) (old new : Standing)
    → slice_get standings c ≡ Some old
    → left_in new < left_in old
    → left_of (set standings c new) < left_of standings
left_falls standings c old new at fewer = let both = left_set standings c old new at in omega (arith, both, fewer)

pub left_same : (standings : List Standing) (c : ℕ) (old new : Standing)
    → slice_get standings c ≡ Some old
    → left_in new ≡ left_in old
    → left_of (set standings c new) ≡ left_of standings
left_same standings c old new at same = let both = left_set standings c old new at in omega (arith, both, same)

-- without the items that pass a test, of which there is one, a list is shorter
some_counted : {X : Type 0} (p : X → Bool) (xs : List X) → list_any p xs ≡ true → 0 < count_by p xs
some_counted p [] some = cc
some_counted p (x ∷ xs) some =
    let first = sum_by-cons (λ y. cond (p y) 1 0) x xs in
    elim (or_cases (p x) (list_any p xs) some) [
      | inl here ↦ let one : cond (p x) 1 0 ≡ 1 = ap {B = ℕ} (λ (b : Bool). cond b 1 0) here in omega (arith, first, one)
      | inr later ↦ omega (arith, first, some_counted p xs later)
    ]

pub fewer_without : {X : Type 0} (p : X → Bool) (xs : List X) → list_any p xs ≡ true
    → length (filter (λ (x : X). not (p x)) xs) < length xs
fewer_without {X = X} p xs some =
    let both = length-filter_both p (λ (x : X). not (p x)) (λ (x : X). refl) xs in
    omega (arith, both, length-filter p xs, some_counted p xs some)

-- a write that is passed leaves its round
pub fewer_passed : (d : Deferred) (write : WriteId) → is_committed d ≡ true → is_to_check d.round write ≡ true
    → length (round_now (committed_round (with_passed d.round write))).to_check < length (round_now d).to_check
fewer_passed d write settled left =
    subst (λ (r : Round). length (with_passed d.round write).to_check < length r.to_check) (sym (settled_now d settled))
    (fewer_without (same_write write) d.round.to_check left)

-- one that is issued comes to it
written_length : (round : Round) (write : WriteId) → length (with_written round write).to_check ≤ length round.to_check + 1
written_length round write =
    elim (cases_Bool (is_closed round)) [
      | inl closed ↦
          let none : (with_written round write).to_check ≡ write ∷ [] =
          ap (λ (b : Bool). (cond b (new_round round.limit) round).to_check ++ write ∷ []) closed in
          omega (arith, ap length none)
      | inr filled ↦
          let more : (with_written round write).to_check ≡ round.to_check ++ write ∷ [] =
          ap (λ (b : Bool). (cond b (new_round round.limit) round).to_check ++ write ∷ []) filled in
          omega (arith, ap length more, length-append round.to_check (write ∷ []))
    ]

drawn_length : (d : Deferred) (o : Option WriteId) (ended : Bool) (n : ℕ) → length (with_waiting o d.round).to_check ≤ n
    → length (round_now (with_draw d o ended)).to_check ≤ n
drawn_length d o true n most = most
drawn_length d o false n most = most

pub left_drawn : (job : SubJob) (kind : IssueKind) (write : WriteId) (d : Deferred) (o : Option WriteId) (ended : Bool)
    → has_rounds job ≡ true
    → is_committed d ≡ true
    → (kind ≡ issue.Write → o ≡ Some write)
    → (kind ≡ issue.Read → o ≡ None)
    → (kind ≡ issue.ReadCheck → o ≡ None)
    → length (round_now (with_draw d o ended)).to_check ≤ length (round_now d).to_check + added_by job kind
left_drawn job kind write d o ended rounds settled writes reads checks =
    subst (λ (r : Round). length (round_now (with_draw d o ended)).to_check ≤ length r.to_check + added_by job kind)
    (sym (settled_now d settled))
    (drawn_length d o ended (length d.round.to_check + added_by job kind) (by_kind kind writes reads checks))
  where
    unwritten : (n : ℕ) → o ≡ None → length (with_waiting o d.round).to_check ≤ length d.round.to_check + n
    unwritten n none =
        let same : length (with_waiting o d.round).to_check ≡ length d.round.to_check =
        ap (λ (x : Option WriteId). length (with_waiting x d.round).to_check) none in
        omega (arith, same)

    by_kind : (kind : IssueKind) → (kind ≡ issue.Write → o ≡ Some write) → (kind ≡ issue.Read → o ≡ None)
        → (kind ≡ issue.ReadCheck → o ≡ None) → length (with_waiting o d.round).to_check ≤ length d.round.to_check + added_by job kind
    by_kind issue.Write writes reads checks =
        let one : added_by job issue.Write ≡ 1 = ap {B = ℕ} (λ (b : Bool). cond b 1 0) rounds in
        let same : length (with_waiting o d.round).to_check ≡ length (with_written d.round write).to_check =
        ap (λ (x : Option WriteId). length (with_waiting x d.round).to_check) (writes refl) in
        omega (arith, one, same, written_length d.round write)
    by_kind issue.Read writes reads checks = unwritten 0 (reads refl)
    by_kind issue.ReadCheck writes reads checks = unwritten 0 (checks refl)

pub added_few : (job : SubJob) (kind : IssueKind) → added_by job kind ≤ 1
added_few job issue.Read = omega arith
added_few job issue.ReadCheck = omega arith
added_few job issue.Write =
    elim (cases_Bool (has_rounds job)) [
      | inl rounds ↦ let one : added_by job issue.Write ≡ 1 = ap {B = ℕ} (λ (b : Bool). cond b 1 0) rounds in omega (arith, one)
      | inr none ↦ let nothing : added_by job issue.Write ≡ 0 = ap {B = ℕ} (λ (b : Bool). cond b 1 0) none in omega (arith, nothing)
    ]
