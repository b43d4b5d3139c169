-- What one event more makes of the current round.
use Rattle.std.proofs.Common.{◌≡◌, ℕ, suc, ◌+◌, ◌<◌, ◌≤◌, List, [], ◌∷◌, ◌++◌, length, map, Bool, true, false, cond, ◌&&◌, ◌||◌, not, refl, sym, ◌∙◌, ap, subst, arith, inl, inr}
use Rattle.std.specs.Prelude.{◌⊎◌, Option, Some, None, slice_get, nat_lt, ◌==◌, filter, count_by, min}
use Rattle.std.specs.List.{list_all, range_with_len}
use Rattle.std.proofs.lemmas.Bool.{and_parts, and_left, eq-eqb, ne_eqb, lt-ltb, ltb-true, cases_lt, not_from_true, not_from_false, or_right, or_cases, both_ways, false_from_ne_true, true_from_ne_false}
use Rattle.std.proofs.lemmas.List.{map-append}
use Rattle.std.proofs.lemmas.Option.{slice_get_within}
use Rattle.std.proofs.Math.Bool.{or-false}
use Rattle.jr_model.specs.declared.blocks.Piece.{Piece}
use Rattle.jr_model.specs.declared.events.Event.{Event}
use Rattle.jr_model.specs.declared.events.Event.TheVariants.{Issue}
use Rattle.jr_model.specs.declared.events.IssueKind.{IssueKind}
use Rattle.jr_model.specs.declared.events.IssueKind.TheVariants as issue
use Rattle.jr_model.specs.declared.events.WriteId.{WriteId}
use Rattle.jr_model.specs.declared.workloads.Draw.{Draw}
use Rattle.jr_model.specs.Draws.{draws_of_job}
use Rattle.jr_model.specs.History.{is_write, kind_for}
use Rattle.jr_model.specs.Legal.{is_legal, may_happen}
use Rattle.jr_model.specs.Plan.{Plan, SubJob, IsNumbered, clone_of}
use Rattle.jr_model.specs.Rounds.{pass_of, write_id, issued_count, all_issued, is_settled, is_full, is_closed, waits_for_round, pass_finished, has_rounds, group_of, group_count, group_index}
use Rattle.jr_model.proofs.PlaceLemmas.{ranged_at}
use Rattle.jr_model.proofs.BoolLemmas.{same_truth}
use Rattle.jr_laws_quiet.proofs.Issues.{all_at, finished_parts}
use Rattle.jr_laws_quiet.proofs.Members.{InGroup, in_own_group, IsMember, member_is, full_issued, before_full, index_mono}
use Rattle.jr_backlog.specs.Rounds.{Round, is_due, new_round, filling, with_written, with_exhausted}
use Rattle.jr_backlog.specs.Rounds as kept
use Rattle.jr_backlog.specs.CurrentRound.{is_left, round_up_to}
use Rattle.jr_laws_rounds.proofs.CurrentPhases.{IsIssued, IsLast, LastIs, count_longer, all_finished, begun_in_turn}
use Rattle.jr_laws_rounds.proofs.CurrentLast.{issued_here, issued_elsewhere, way_writes, read_fewer}
use Rattle.jr_laws_rounds.proofs.CurrentRounds.{round_in, due_is_full, closed_is, filter_none, waits_with}
use Rattle.jr_laws_rounds.proofs.KeptLists.{filter_same, count_same, count_none, filter_made, group_rises, next_left, next_count}
use Rattle.jr_laws_rounds.proofs.KeptSettled.{settled_after, next_unsettled}

-- a round by its parts: so many writes issued, and these left
abbrev made_round : SubJob → ℕ → ℕ → Bool → List Draw → Round
made_round job p count exhausted left = record {
  limit = job.backlog;
  count = min job.backlog count;
  exhausted = exhausted;
  to_check = map (write_id (pass_of job p)) left;
}

-- how many of these draws are numbered below n
abbrev counted : ℕ → List Draw → ℕ
counted n draws = count_by (λ (draw : Draw). nat_lt draw.number n) draws

-- the group of a write
abbrev group_at : SubJob → WriteId → List Draw
group_at job w = group_of (pass_of job w.pass) (group_index (pass_of job w.pass) w.number)

-- where nothing is issued, and these writes are settled
pub round_settles : (job : SubJob) (h next : List Event) (o : Option WriteId) (gone : WriteId → Bool)
    → ((q : ℕ) → issued_count next (pass_of job q) ≡ issued_count h (pass_of job q))
    → ((w : WriteId) → w.clone ≡ job.clone → is_settled next w ≡ (is_settled h w || gone w))
    → round_up_to job next o ≡ record (round_up_to job h o) { to_check = filter (λ (other : WriteId). not (gone other)) (round_up_to job h o).to_check }
round_settles job h next None gone counts settled =
    ap {B = Round} (λ (n : ℕ). record (new_round job.backlog) { exhausted = n == length (draws_of_job job 0) }) (counts 0)
round_settles job h next (Some w) gone counts settled =
    let p = w.pass in
    let pass = pass_of job p in
    let group = group_at job w in
    let n = issued_count h pass in
    let each : (k : ℕ) (d : Draw) → slice_get group k ≡ Some d → is_left next pass d ≡ (is_left h pass d && not (gone (write_id pass d))) =
    λ k d at.
    ap (λ (m : ℕ). nat_lt d.number m && not (is_settled next (write_id pass d))) (counts p)
    ∙ ap (λ (b : Bool). nat_lt d.number n && not b) (settled (write_id pass d) refl)
    ∙ three (nat_lt d.number n) (is_settled h (write_id pass d)) (gone (write_id pass d)) in
    ap (λ (m : ℕ). made_round job p (counted m group) (m == length (draws_of_job job p)) (filter (is_left next pass) group)) (counts p)
    ∙ ap (made_round job p (counted n group) (n == length (draws_of_job job p))) (filter_same (is_left next pass) (λ (d : Draw). is_left h pass d && not (gone (write_id pass d))) group each)
    ∙ ap {B = Round} (λ (ws : List WriteId). record (round_up_to job h (Some w)) { to_check = ws }) (sym (filter_made gone (write_id pass) (is_left h pass) group))
  where
    three : (a b c : Bool) → (a && not (b || c)) ≡ ((a && not b) && not c)
    three true true c = refl
    three true false c = refl
    three false b c = refl

-- and where none is
pub round_same : (job : SubJob) (h next : List Event) (o : Option WriteId)
    → ((q : ℕ) → issued_count next (pass_of job q) ≡ issued_count h (pass_of job q))
    → ((w : WriteId) → w.clone ≡ job.clone → is_settled next w ≡ is_settled h w)
    → round_up_to job next o ≡ round_up_to job h o
round_same job h next None counts settled =
    ap {B = Round} (λ (n : ℕ). record (new_round job.backlog) { exhausted = n == length (draws_of_job job 0) }) (counts 0)
round_same job h next (Some w) counts settled =
    let p = w.pass in
    let pass = pass_of job p in
    let group = group_at job w in
    let n = issued_count h pass in
    let each : (k : ℕ) (d : Draw) → slice_get group k ≡ Some d → is_left next pass d ≡ is_left h pass d =
    λ k d at.
    ap (λ (m : ℕ). nat_lt d.number m && not (is_settled next (write_id pass d))) (counts p)
    ∙ ap (λ (b : Bool). nat_lt d.number n && not b) (settled (write_id pass d) refl) in
    ap (λ (m : ℕ). made_round job p (counted m group) (m == length (draws_of_job job p)) (filter (is_left next pass) group)) (counts p)
    ∙ ap (made_round job p (counted n group) (n == length (draws_of_job job p))) (filter_same (is_left next pass) (is_left h pass) group each)

-- the round is exhausted where this is so
pub exhausts : (all : Bool) (round : Round) → cond all (with_exhausted round) round ≡ record round { exhausted = all || round.exhausted }
exhausts true round = refl
exhausts false round = refl

-- where a write goes
fills_new : (round : Round) → kept.is_closed round ≡ true → filling round ≡ new_round round.limit
fills_new round closed = ap {B = Round} (λ (b : Bool). cond b (new_round round.limit) round) closed

fills_same : (round : Round) → kept.is_closed round ≡ false → filling round ≡ round
fills_same round closed = ap {B = Round} (λ (b : Bool). cond b (new_round round.limit) round) closed

fills_first : (limit : ℕ) (all : Bool) → filling (record (new_round limit) { exhausted = all }) ≡ new_round limit
fills_first limit true =
    fills_new (record (new_round limit) { exhausted = true })
    (ap (λ (b : Bool). b && true) (or_right (nat_lt 0 limit && (0 == limit)) true refl))
fills_first limit false = either (kept.is_closed (new_round limit))
  where
    either : (b : Bool) → ◌≡◌ {A = Round} (cond b (new_round limit) (new_round limit)) (new_round limit)
    either true = refl
    either false = refl

-- with one write more
abbrev adds : WriteId → Round → Round
adds write now = record now { count = min now.limit (now.count + 1); to_check = now.to_check ++ write ∷ [] }

-- an issue of the clone
module _ (plan : Plan) (numbered : IsNumbered plan) (job : SubJob) (planned : clone_of plan job.clone ≡ Some job) (h : List Event) (legal : is_legal plan h ≡ true) (worker : ℕ) (kind : IssueKind) (write : WriteId) (piece : Piece) (happens : may_happen plan h (Issue worker kind write piece) ≡ true) (its : IsIssued plan job h kind write) (clone : write.clone ≡ job.clone) where
  abbrev next : List Event
  next = h ++ Issue worker kind write piece ∷ []

  abbrev all_now : Bool
  all_now = all_issued next (pass_of job write.pass)

  done : (q : ℕ) → q < write.pass → pass_finished h (pass_of job q) ≡ true
  done q before =
      let below = its.may.below in
      all_finished h job q write.pass before (omega (arith, below)) its.may.earlier

  issued_all : (q : ℕ) → q < write.pass → all_issued h (pass_of job q) ≡ true
  issued_all q before = eq-eqb (issued_count h (pass_of job q)) (length (draws_of_job job q)) (finished_parts h (pass_of job q) (done q before)).issued

  not_all : all_issued h (pass_of job write.pass) ≡ false
  not_all =
      let within = slice_get_within (draws_of_job job write.pass) write.number its.draw its.drawn in
      let count = its.count in
      ne_eqb (issued_count h (pass_of job write.pass)) (length (draws_of_job job write.pass)) (λ same. absurd (omega (arith, within, count, same)))

  elsewhere : (q : ℕ) → (q ≡ write.pass → ⊥) → issued_count next (pass_of job q) ≡ issued_count h (pass_of job q)
  elsewhere q apart = issued_elsewhere job h worker kind write piece q apart

  exhausted_is : (q : ℕ) → q ≤ write.pass → all_issued next (pass_of job q) ≡ (all_now || all_issued h (pass_of job q))
  exhausted_is q within =
      elim (cases_lt q write.pass) [
        | inl before ↦
            ap (λ (n : ℕ). n == length (draws_of_job job q)) (elsewhere q (λ same. absurd (omega (arith, before, same))))
            ∙ issued_all q before
            ∙ sym (or_right all_now (all_issued h (pass_of job q)) (issued_all q before))
        | inr above ↦
            let same : write.pass ≡ q = omega (arith, within, above) in
            subst (λ (r : ℕ). all_issued next (pass_of job r) ≡ (all_now || all_issued h (pass_of job r))) same
            (sym (ap (λ (b : Bool). all_now || b) not_all ∙ or-false all_now))
      ]

  settled_same : (w : WriteId) → is_settled next w ≡ is_settled h w
  settled_same w = settled_after plan h (Issue worker kind write piece) w legal happens ∙ or-false (is_settled h w)

  -- the last write is of this pass, or of one before
  last_pass : (w : WriteId) → IsLast job h w → w.pass ≤ write.pass
  last_pass w last =
      elim (cases_lt write.pass w.pass) [
        | inl after ↦
            let some = last.issued in
            let all = begun_in_turn plan numbered job planned h legal write.pass w.pass after (omega (arith, some)) in
            absurd (both_ways (all_issued h (pass_of job write.pass)) not_all (eq-eqb (issued_count h (pass_of job write.pass)) (length (draws_of_job job write.pass)) all))
        | inr within ↦ within
      ]

-- the issue of a read, checked or not
module _ (plan : Plan) (numbered : IsNumbered plan) (job : SubJob) (planned : clone_of plan job.clone ≡ Some job) (h : List Event) (legal : is_legal plan h ≡ true) (worker : ℕ) (kind : IssueKind) (no_write : is_write (kind_for kind) ≡ false) (write : WriteId) (piece : Piece) (happens : may_happen plan h (Issue worker kind write piece) ≡ true) (its : IsIssued plan job h kind write) (clone : write.clone ≡ job.clone) where
  abbrev after_read : List Event
  after_read = h ++ Issue worker kind write piece ∷ []

  abbrev all_read : Bool
  all_read = all_issued after_read (pass_of job write.pass)

  read_all : (q : ℕ) → q ≤ write.pass → all_issued after_read (pass_of job q) ≡ (all_read || all_issued h (pass_of job q))
  read_all q within = exhausted_is plan numbered job planned h legal worker kind write piece happens its clone q within

  read_exhausts : (o : Option WriteId) → LastIs job h o → round_up_to job after_read o ≡ record (round_up_to job h o) { exhausted = all_read || (round_up_to job h o).exhausted }
  read_exhausts None last =
      ap {B = Round} (λ (b : Bool). record (new_round job.backlog) { exhausted = b }) (read_all 0 (omega arith))
  read_exhausts (Some w) last =
      let p = w.pass in
      let pass = pass_of job p in
      let group = group_at job w in
      let n = issued_count h pass in
      let m = issued_count after_read pass in
      let below = (in_own_group job p w.number last.draw last.drawn last.writes).1 in
      let member : (k : ℕ) (d : Draw) → slice_get group k ≡ Some d → nat_lt d.number m ≡ nat_lt d.number n =
      λ k d at.
      let is = member_is job p (group_index pass w.number) d (record { place = k; at = at }) below in
      let longer = count_longer h (Issue worker kind write piece) pass in
      same_truth (nat_lt d.number m) (nat_lt d.number n)
      (λ now. lt-ltb d.number n (read_fewer plan numbered job planned h worker kind write piece no_write its clone p d.number d is.drawn is.writes (ltb-true d.number m now)))
      (λ was. let low = ltb-true d.number n was in lt-ltb d.number m (omega (arith, low, longer))) in
      let each : (k : ℕ) (d : Draw) → slice_get group k ≡ Some d → is_left after_read pass d ≡ is_left h pass d =
      λ k d at.
      ap (λ (b : Bool). b && not (is_settled after_read (write_id pass d))) (member k d at)
      ∙ ap (λ (b : Bool). nat_lt d.number n && not b) (settled_same plan numbered job planned h legal worker kind write piece happens its clone (write_id pass d)) in
      ap (λ (c : ℕ). made_round job p c (all_issued after_read pass) (filter (is_left after_read pass) group)) (count_same (λ (d : Draw). nat_lt d.number m) (λ (d : Draw). nat_lt d.number n) group member)
      ∙ ap (λ (b : Bool). made_round job p (counted n group) b (filter (is_left after_read pass) group)) (read_all p (last_pass plan numbered job planned h legal worker kind write piece happens its clone w last))
      ∙ ap (made_round job p (counted n group) (all_read || all_issued h pass)) (filter_same (is_left after_read pass) (is_left h pass) group each)

  pub read_round : (o : Option WriteId) → LastIs job h o → cond all_read (with_exhausted (round_up_to job h o)) (round_up_to job h o) ≡ round_up_to job after_read o
  read_round o last = exhausts all_read (round_up_to job h o) ∙ sym (read_exhausts o last)

-- the issue of a write
module _ (plan : Plan) (numbered : IsNumbered plan) (job : SubJob) (planned : clone_of plan job.clone ≡ Some job) (rounds : has_rounds job ≡ true) (h : List Event) (legal : is_legal plan h ≡ true) (worker : ℕ) (write : WriteId) (piece : Piece) (happens : may_happen plan h (Issue worker issue.Write write piece) ≡ true) (its : IsIssued plan job h issue.Write write) (clone : write.clone ≡ job.clone) where
  abbrev after_write : List Event
  after_write = h ++ Issue worker issue.Write write piece ∷ []

  abbrev all_written : Bool
  all_written = all_issued after_write (pass_of job write.pass)

  abbrev own : ℕ
  own = group_index (pass_of job write.pass) write.number

  abbrev group : List Draw
  group = group_of (pass_of job write.pass) own

  abbrev issued : ℕ
  issued = issued_count h (pass_of job write.pass)

  inside : InGroup job write.pass own its.draw × (own < group_count (pass_of job write.pass))
  inside = in_own_group job write.pass write.number its.draw its.drawn (way_writes job its.draw issue.Write its.way)

  member_of : (k : ℕ) (d : Draw) → slice_get group k ≡ Some d → IsMember job write.pass own d
  member_of k d at = member_is job write.pass own d (record { place = k; at = at }) inside.1

  own_fills : is_full h (pass_of job write.pass) own ≡ false
  own_fills =
      false_from_ne_true (is_full h (pass_of job write.pass) own)
      (λ full.
      let before = full_issued h job write.pass own its.draw full inside.0 inside.1 in
      let number = its.number in
      let count = its.count in
      absurd (omega (arith, before, number, count)))

  unfinished : all_issued h (pass_of job write.pass) ≡ false
  unfinished = not_all plan numbered job planned h legal worker issue.Write write piece happens its clone

  -- where no write of the group was issued its round is new
  fresh_is : ((d : Draw) → IsMember job write.pass own d → d.number < issued → ⊥) → round_in job h write.pass own ≡ new_round job.backlog
  fresh_is none =
      let pass = pass_of job write.pass in
      let each : (k : ℕ) (d : Draw) → slice_get group k ≡ Some d → nat_lt d.number issued ≡ false =
      λ k d at. false_from_ne_true (nat_lt d.number issued) (λ was. none d (member_of k d at) (ltb-true d.number issued was)) in
      let nothing : min job.backlog 0 ≡ 0 = omega arith in
      ap (λ (c : ℕ). made_round job write.pass c (all_issued h pass) (filter (is_left h pass) group)) (count_none (λ (d : Draw). nat_lt d.number issued) group each)
      ∙ ap (λ (b : Bool). made_round job write.pass 0 b (filter (is_left h pass) group)) unfinished
      ∙ ap (made_round job write.pass 0 false) (filter_none (is_left h pass) group (λ k d at. and_left (nat_lt d.number issued) (not (is_settled h (write_id pass d))) (each k d at)))
      ∙ ap {B = Round} (λ (c : ℕ). record { limit = job.backlog; count = c; exhausted = false; to_check = [] }) nothing

  closed_before : (q g : ℕ) → q < write.pass → g < group_count (pass_of job q) → is_closed h (pass_of job q) g ≡ true
  closed_before q g before below =
      let closed : ℕ → Bool = λ (i : ℕ). is_closed h (pass_of job q) i in
      let gs = range_with_len 0 (group_count (pass_of job q)) in
      let finished = finished_parts h (pass_of job q) (done plan numbered job planned h legal worker issue.Write write piece happens its clone q before) in
      elim (or_cases (not (has_rounds job)) (list_all closed gs) finished.closed) [
        | inl none ↦ absurd (both_ways (not (has_rounds job)) (not_from_true (has_rounds job) rounds) none)
        | inr all ↦ all_at closed gs g g all (ranged_at 0 (group_count (pass_of job q)) g below ∙ ap Some (omega arith))
      ]

  closed_fills : (q g : ℕ) → g < group_count (pass_of job q) → is_closed h (pass_of job q) g ≡ true → filling (round_in job h q g) ≡ new_round job.backlog
  closed_fills q g below closed =
      let full = (and_parts (is_full h (pass_of job q) g) (list_all (λ (draw : Draw). is_settled h (write_id (pass_of job q) draw)) (group_of (pass_of job q) g)) closed).0 in
      fills_new (round_in job h q g) (closed_is h job q g below full ∙ closed)

  -- the last write is of this pass
  module _ (w : WriteId) (last : IsLast job h w) (same : w.pass ≡ write.pass) where
    abbrev last_group : ℕ
    last_group = group_index (pass_of job write.pass) w.number

    earlier_number : w.number < write.number
    earlier_number =
        let was = last.issued in
        let count = its.count in
        let counts : issued_count h (pass_of job w.pass) ≡ issued = ap (λ (q : ℕ). issued_count h (pass_of job q)) same in
        omega (arith, was, count, counts)

    not_after : (d : Draw) → IsMember job write.pass own d → d.number < issued → own ≤ last_group
    not_after d is was =
        elim (last.furthest write.pass d.number d is.drawn is.writes was) [
          | inl before ↦ absurd (omega (arith, before, same))
          | inr here ↦
              let low = index_mono job write.pass d.number w.number here.1 in
              let index = is.index in
              omega (arith, low, index)
        ]

    by_group : (last_group < own) ⊎ (own ≤ last_group) → filling (round_in job h write.pass last_group) ≡ round_in job h write.pass own
    by_group (inl before) =
        let pass = pass_of job write.pass in
        let count = its.count in
        let full = before_full h job write.pass last_group write.number before (omega (arith, count)) in
        let closed : is_closed h pass last_group ≡ true =
        true_from_ne_false (is_closed h pass last_group)
        (λ unclosed. both_ways (waits_for_round h pass) its.may.proceeds (waits_with h job write.pass last_group rounds full.1 full.0 unclosed)) in
        closed_fills write.pass last_group full.1 closed
        ∙ sym (fresh_is (λ d is was. let after = not_after d is was in absurd (omega (arith, before, after))))
    by_group (inr above) =
        let below = index_mono job write.pass w.number write.number (let earlier = earlier_number in omega (arith, earlier)) in
        let one : last_group ≡ own = omega (arith, above, below) in
        let round = round_in job h write.pass own in
        ap (λ (g : ℕ). filling (round_in job h write.pass g)) one
        ∙ fills_same round (and_left (is_due round) (length round.to_check == 0) (due_is_full h job write.pass own ∙ own_fills))

    same_pass : filling (round_up_to job h (Some w)) ≡ round_in job h write.pass own
    same_pass =
        ap (λ (q : ℕ). filling (round_in job h q (group_index (pass_of job q) w.number))) same
        ∙ by_group (cases_lt last_group own)

  -- the round that the write goes to is that of its group
  fills : (o : Option WriteId) → LastIs job h o → filling (round_up_to job h o) ≡ round_in job h write.pass own
  fills None none =
      fills_first job.backlog (all_issued h (pass_of job 0))
      ∙ sym (fresh_is (λ d is was. none write.pass d.number d is.drawn is.writes was))
  fills (Some w) last =
      elim (cases_lt w.pass write.pass) [
        | inl before ↦
            let below = (in_own_group job w.pass w.number last.draw last.drawn last.writes).1 in
            closed_fills w.pass (group_index (pass_of job w.pass) w.number) below (closed_before w.pass (group_index (pass_of job w.pass) w.number) before below)
            ∙ sym (fresh_is (λ d is was. beyond before (last.furthest write.pass d.number d is.drawn is.writes was)))
        | inr above ↦
            let within = last_pass plan numbered job planned h legal worker issue.Write write piece happens its clone w last in
            same_pass w last (omega (arith, above, within))
      ]
    where
      beyond : {k : ℕ} → w.pass < write.pass → (write.pass < w.pass) ⊎ ((write.pass ≡ w.pass) × (k ≤ w.number)) → ⊥
      beyond before (inl after) = absurd (omega (arith, before, after))
      beyond before (inr same) = let one = same.0 in absurd (omega (arith, before, one))

  -- and it adds the write to it
  adds_it : record (adds write (round_in job h write.pass own)) { exhausted = all_written || (adds write (round_in job h write.pass own)).exhausted } ≡ round_in job after_write write.pass own
  adds_it =
      let pass = pass_of job write.pass in
      let d = its.draw in
      let number : d.number ≡ issued = its.number ∙ sym its.count in
      let grown : issued_count after_write pass ≡ suc issued = issued_here job h worker issue.Write write piece clone in
      let still : Draw → Bool = λ (x : Draw). not (is_settled h (write_id pass x)) in
      let fresh : still d ≡ true =
      not_from_false (is_settled h (write_id pass d))
      (ap (is_settled h) its.name ∙ next_unsettled plan numbered job planned h write legal clone its.count) in
      let rises = group_rises job write.pass own in
      let each : (k : ℕ) (x : Draw) → slice_get group k ≡ Some x → is_left after_write pass x ≡ (nat_lt x.number (suc issued) && still x) =
      λ k x at.
      ap (λ (m : ℕ). nat_lt x.number m && not (is_settled after_write (write_id pass x))) grown
      ∙ ap (λ (b : Bool). nat_lt x.number (suc issued) && not b) (settled_same plan numbered job planned h legal worker issue.Write write piece happens its clone (write_id pass x)) in
      let left : filter (is_left after_write pass) group ≡ filter (is_left h pass) group ++ d ∷ [] =
      filter_same (is_left after_write pass) (λ (x : Draw). nat_lt x.number (suc issued) && still x) group each
      ∙ next_left still 0 issued group inside.0.place d rises inside.0.at number fresh in
      let writes : map (write_id pass) (filter (is_left h pass) group) ++ write ∷ [] ≡ map (write_id pass) (filter (is_left after_write pass) group) =
      ap (λ (x : WriteId). map (write_id pass) (filter (is_left h pass) group) ++ x ∷ []) (sym its.name)
      ∙ sym (map-append (write_id pass) (filter (is_left h pass) group) (d ∷ []))
      ∙ ap (map (write_id pass)) (sym left) in
      let more : counted (issued_count after_write pass) group ≡ counted issued group + 1 =
      ap (λ (m : ℕ). counted m group) grown ∙ next_count 0 issued group inside.0.place d rises inside.0.at number in
      let count : min job.backlog (min job.backlog (counted issued group) + 1) ≡ min job.backlog (counted (issued_count after_write pass) group) =
      one_more job.backlog (counted issued group) (counted (issued_count after_write pass) group) more in
      let made : ℕ → Bool → List WriteId → Round = λ (c : ℕ) (b : Bool) (ws : List WriteId). record { limit = job.backlog; count = c; exhausted = b; to_check = ws } in
      ap (λ (c : ℕ). made c (all_written || all_issued h pass) (map (write_id pass) (filter (is_left h pass) group) ++ write ∷ [])) count
      ∙ ap (λ (b : Bool). made (min job.backlog (counted (issued_count after_write pass) group)) b (map (write_id pass) (filter (is_left h pass) group) ++ write ∷ []))
      (ap (λ (b : Bool). all_written || b) unfinished ∙ or-false all_written)
      ∙ ap (made (min job.backlog (counted (issued_count after_write pass) group)) all_written) writes
    where
      one_more : (limit n m : ℕ) → m ≡ n + 1 → min limit (min limit n + 1) ≡ min limit m
      one_more limit n m more = omega (arith, more)

  pub write_round : (o : Option WriteId) → LastIs job h o → cond all_written (with_exhausted (with_written (round_up_to job h o) write)) (with_written (round_up_to job h o) write) ≡ round_up_to job after_write (Some write)
  write_round o last =
      exhausts all_written (with_written (round_up_to job h o) write)
      ∙ ap (λ (now : Round). record (adds write now) { exhausted = all_written || (adds write now).exhausted }) (fills o last)
      ∙ adds_it
