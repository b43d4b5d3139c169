-- Where a clone stands before its first draw, what its round allows to an issue, and where it stands after one.
use Rattle.std.proofs.Common.{◌≡◌, ℕ, zero, suc, ◌+◌, ◌<◌, List, [], ◌∷◌, ◌++◌, length, drop, Bool, true, false, cond, ◌&&◌, ◌||◌, not, refl, sym, ◌∙◌, ap, subst, arith, inl, inr, length-append}
use Rattle.std.specs.Prelude.{◌⊎◌, Option, Some, None, IfSome, is_none, is_some, unwrap_or, slice_get, nat_lt, ◌==◌, filter}
use Rattle.std.specs.List.{list_any}
use Rattle.std.specs.declared.cmp.Ordering.{Ordering}
use Rattle.std.specs.Ordering.{is_lt, nat_cmp, ordering_then}
use Rattle.std.proofs.lemmas.Bool.{and_parts, eqb-true, eq-eqb, ltb-true, or_right, not-true, false_from_ne_true, false≢true}
use Rattle.std.proofs.lemmas.List.{drop_all, length-drop}
use Rattle.std.proofs.lemmas.List.Folds.{list_any-append}
use Rattle.std.proofs.lemmas.Option.{slice_get_within}
use Rattle.std.proofs.Math.Bool.{or-false}
use Rattle.jr_model.specs.declared.blocks.Piece.{Piece}
use Rattle.jr_model.specs.declared.events.Event.{Event}
use Rattle.jr_model.specs.declared.events.Event.TheVariants.{Issue}
use Rattle.jr_model.specs.declared.events.IssueKind.{IssueKind}
use Rattle.jr_model.specs.declared.events.IssueKind.TheVariants as issue
use Rattle.jr_model.specs.declared.events.Started.{Started}
use Rattle.jr_model.specs.declared.events.WriteId.{WriteId}
use Rattle.jr_model.specs.declared.workloads.Draw.{Draw}
use Rattle.jr_model.specs.Draws.{draws_of_job}
use Rattle.jr_model.specs.History.{started, kind_for}
use Rattle.jr_model.specs.Legal.{is_halted, takes_up}
use Rattle.jr_model.specs.Plan.{Plan, SubJob, clone_of}
use Rattle.jr_model.specs.Rounds.{pass_of, write_id, issued_count, all_issued, waits_for_round, pass_finished, has_rounds, group_of, group_index}
use Rattle.jr_model.proofs.LegalLaws.{is_legal-more}
use Rattle.jr_model.specs.PlanFacts.{IsPlanned}
use Rattle.jr_model.proofs.PlaceLemmas.{all_from, got_made, got_filtered, nothing_at}
use Rattle.jr_model.proofs.PlanLemmas.{numbered_of, own_place, own_number}
use Rattle.jr_model.proofs.BoolLemmas.{same_truth}
use Rattle.jr_model.proofs.ListLemmas.{none_by_length}
use Rattle.jr_model.proofs.HistoryLemmas.{issue_is_no_probe}
use Rattle.jr_model.proofs.NumberLemmas.{less_of, equal_of}
use Rattle.jr_laws_steps.proofs.StartedLemmas.{got_more, started_next, started_stays}
use Rattle.jr_laws_quiet.proofs.Groups.{got_drop}
use Rattle.jr_laws_quiet.proofs.Issues.{all_at}
use Rattle.jr_backlog.specs.Rounds.{Round, new_round, is_before, is_due, is_closed, takes_writes, comes_last, with_exhausted}
use Rattle.jr_backlog.specs.CurrentRound.{current_round, round_up_to, last_issued, is_left}
use Rattle.jr_backlog.specs.Kept.{after_issue, round_after, with_issued}
use Rattle.jr_backlog.proofs.KeptFacts.{rounds_of-more}
use Rattle.jr_laws_rounds.specs.Rounds.{HasRound}
use Rattle.jr_laws_rounds.specs.Standing.{IsInPass}
use Rattle.jr_laws_rounds.proofs.ChoiceSteps.{CanIssue, can_issue}
use Rattle.jr_laws_rounds.proofs.CurrentLast.{issued_here}
use Rattle.jr_laws_rounds.proofs.CurrentLaws.{waits-law, closed_at_end-law, left_in_pass-law}
use Rattle.jr_laws_rounds.proofs.CurrentPhases.{IsIssued, its_draw}
use Rattle.jr_laws_rounds.proofs.KeptLaws.{kept-law}
use Rattle.jr_laws_rounds.proofs.KeptSettled.{ran_before, taken_issued}
use Rattle.jr_laws_rounds.proofs.StandingPasses.{done_parts, issue_in}
use Rattle.jr_laws_rounds.proofs.StandingSteps.{starts_in_pass, issue_keeps_pass, next_in_pass, issue_of_pass}
use Rattle.jr_backlog.specs.Deferred.{is_committed, round_now, committed_round, with_draw, with_waiting}
use Rattle.jr_backlog.proofs.WalkedFacts.{settled_now}
use Rattle.jr_laws_steps.specs.Nexts.{IsNext, grown}
use Rattle.jr_desk_state.specs.declared.standings.Issued.{Issued}
use Rattle.jr_desk_state.specs.declared.standings.Standing.{Standing}
use Rattle.jr_desk_state.specs.Standings.{IsStanding, WasIssued, name_of}

-- a clone stands in a pass that it has
pub pass_within : (history : List Event) (job : SubJob) (standing : Standing) → IsStanding history job standing → standing.pass < job.passes
pass_within history job standing is = is.in_pass.within

-- a round that is settled is the one that is kept
with_parts : (round : Round) (waiting : Option WriteId) (ended : Bool) → is_none waiting ≡ true → not ended ≡ true → cond ended (with_exhausted (with_waiting waiting round)) (with_waiting waiting round) ≡ round
with_parts round None false none unended = refl
with_parts round None true none unended = absurd (false≢true unended)
with_parts round (Some write) ended none unended = absurd (false≢true none)

pub first_standing : (plan : Plan) (job : SubJob) → IsPlanned plan → clone_of plan job.clone ≡ Some job
    → (standing : Standing) → standing.pass ≡ 0 → standing.draws ≡ draws_of_job job 0 → standing.later ≡ None → standing.issued.items ≡ []
    → standing.rounds ≡ committed_round (new_round job.backlog)
    → IsStanding [] job standing
first_standing plan job planned there standing pass draws later empty rounds =
    record {
      in_pass = subst (IsInPass [] job) (sym pass) (starts_in_pass plan planned job there);
      draws = draws ∙ ap (draws_of_job job) (sym pass);
      later = subst (λ (o : Option (List Draw)). IfSome o (λ ds. ds ≡ draws_of_job job (suc standing.pass))) (sym later) tt;
      count = ap length empty;
      issued = λ k one at. absurd (nothing_at standing.issued.items k one empty at);
      round = λ has runs. ap round_now rounds ∙ kept-law plan [] job planned refl there has refl;
    }

-- the writes that a round has to check were issued
pub left_below : (history : List Event) (job : SubJob) (last : Option WriteId) (k : ℕ) (other : WriteId) → slice_get (round_up_to job history last).to_check k ≡ Some other → other.number < issued_count history (pass_of job other.pass)
left_below history job None k other at = cc
left_below history job (Some write) k other at =
    let pass = pass_of job write.pass in
    let group = group_of pass (group_index pass write.number) in
    let made = got_made (write_id pass) (filter (is_left history pass) group) k other at in
    let left = got_filtered (is_left history pass) group k made.0 made.1 in
    let parts = and_parts (nat_lt made.0.number (issued_count history pass)) _ left.2 in
    subst (λ (w : WriteId). w.number < issued_count history (pass_of job w.pass)) made.2 (ltb-true made.0.number (issued_count history pass) parts.0)

pub before_by : (a b : WriteId) → a.clone ≡ b.clone → (a.pass < b.pass) ⊎ ((a.pass ≡ b.pass) × (a.number < b.number)) → is_before a b ≡ true
before_by a b clone (inl earlier) =
    ap (λ (o : Ordering). is_lt (ordering_then o (ordering_then (nat_cmp a.pass b.pass) (nat_cmp a.number b.number)))) (equal_of a.clone b.clone clone)
    ∙ ap (λ (o : Ordering). is_lt (ordering_then o (nat_cmp a.number b.number))) (less_of a.pass b.pass earlier)
before_by a b clone (inr here) =
    ap (λ (o : Ordering). is_lt (ordering_then o (ordering_then (nat_cmp a.pass b.pass) (nat_cmp a.number b.number)))) (equal_of a.clone b.clone clone)
    ∙ ap (λ (o : Ordering). is_lt (ordering_then o (nat_cmp a.number b.number))) (equal_of a.pass b.pass here.0)
    ∙ ap is_lt (less_of a.number b.number here.1)

takes_where : (due closed : Bool) → (due && not closed) ≡ false → (not due || closed) ≡ true
takes_where true true rests = refl
takes_where true false rests = absurd (false≢true (sym rests))
takes_where false closed rests = refl

later_draws : (o : Option (List Draw)) (before all : List Draw) → is_some o ≡ true → IfSome o (λ ds. ds ≡ all) → unwrap_or o before ≡ all
later_draws None before all some is = absurd (false≢true some)
later_draws (Some ds) before all some is = is

drop_next : {X : Type 0} (n : ℕ) (xs : List X) → drop 1 (drop n xs) ≡ drop (suc n) xs
drop_next zero xs = refl
drop_next (suc n) [] = refl
drop_next (suc n) (x ∷ xs) = drop_next n xs

-- what is written, where a draw is issued so
abbrev pub written : IssueKind → WriteId → Option WriteId
written issue.Write write = Some write
written issue.Read write = None
written issue.ReadCheck write = None

waits_issued : (dir : IssueKind) (write : WriteId) (round : Round) → with_waiting (written dir write) round ≡ with_issued dir round write
waits_issued issue.Write write round = refl
waits_issued issue.Read write round = refl
waits_issued issue.ReadCheck write round = refl

-- the clone stands in the pass of the draw that is issued next, with its draws from that one on
pub record IsAt (history : List Event) (job : SubJob) (write : WriteId) (at : Standing) : Type 0 where
  pub pass : at.pass ≡ write.pass
  pub in_pass : IsInPass history job write.pass
  pub draws : at.draws ≡ drop write.number (draws_of_job job write.pass)
  pub later : IfSome at.later (λ ds. ds ≡ draws_of_job job (suc write.pass))
  pub count : length at.issued.items ≡ write.number
  pub issued : (k : ℕ) (one : Issued) → slice_get at.issued.items k ≡ Some one → WasIssued history (name_of job write.pass k) one

-- the first of them is the one that is issued
pub seed_at : (history : List Event) (job : SubJob) (write : WriteId) (standing : Standing) → IsAt history job write standing → slice_get standing.draws 0 ≡ slice_get (draws_of_job job write.pass) write.number
seed_at history job write standing is =
    let same : write.number + 0 ≡ write.number = omega arith in
    ap (λ (xs : List Draw). slice_get xs 0) is.draws
    ∙ got_drop write.number (draws_of_job job write.pass) 0
    ∙ ap (slice_get (draws_of_job job write.pass)) same

-- a standing that has begun the next pass, since no draw of its pass was left
pub record HasBegun (standing moved : Standing) : Type 0 where
  pub over : (length standing.draws == 0) ≡ true
  pub pass : moved.pass ≡ suc standing.pass
  pub draws : moved.draws ≡ unwrap_or standing.later standing.draws
  pub later : moved.later ≡ None
  pub issued : moved.issued.items ≡ []
  pub rounds : moved.rounds ≡ standing.rounds

-- or that is as it was, since one is left
abbrev pub IsReady : Standing → Standing → Type 0
IsReady standing ready = (((length standing.draws == 0) ≡ false) × (ready ≡ standing)) ⊎ HasBegun standing ready

pub ready_rounds : (standing ready : Standing) → IsReady standing ready → ready.rounds ≡ standing.rounds
ready_rounds standing ready (inl same) = ap (λ (s : Standing). s.rounds) same.1
ready_rounds standing ready (inr begun) = begun.rounds

some_of : {X : Type 0} (xs : List X) → (length xs == 0) ≡ false → xs ≡ [] → ⊥
some_of xs some none = false≢true (sym some ∙ ap (λ (ys : List _). length ys == 0) none)

-- an issue that may happen next, of a clone of the plan
module _ (plan : Plan) (history : List Event) (worker : ℕ) (dir : IssueKind) (write : WriteId) (piece : Piece) (job : SubJob) (next : IsNext plan history (Issue worker dir write piece)) (at : clone_of plan write.clone ≡ Some job) where
  abbrev after : List Event
  after = grown history (Issue worker dir write piece)

  there : clone_of plan job.clone ≡ Some job
  there = own_place plan write.clone job next.planned at

  clone : write.clone ≡ job.clone
  clone = own_number plan write.clone job next.planned at

  its : IsIssued plan job history dir write
  its = its_draw plan (numbered_of plan next.planned) job there history worker dir write piece next.may clone

  may : (draw : Draw) × CanIssue plan history (pass_of job write.pass) draw
  may =
      let issue = issue_in plan next.planned job there history worker dir write piece next.may clone in
      (issue.draw, can_issue plan history (pass_of job write.pass) issue.draw issue.may)

  runs : is_halted history job ≡ false
  runs = not-true (is_halted history job) may.1.going

  some_left : write.number < length (draws_of_job job write.pass)
  some_left = slice_get_within (draws_of_job job write.pass) write.number its.draw its.drawn

  more : issued_count after (pass_of job write.pass) ≡ suc write.number
  more = issued_here job history worker dir write piece clone ∙ ap suc its.count

  -- where the clone stands
  module _ (standing : Standing) (is : IsStanding history job standing) where
    abbrev GoesOn : Type 0
    GoesOn = (write.pass ≡ suc standing.pass) × (pass_finished history (pass_of job standing.pass) ≡ true) × (suc standing.pass < job.passes)

    which : (write.pass ≡ standing.pass) ⊎ GoesOn
    which = issue_of_pass plan next.planned job there history worker dir write piece standing.pass next.may is.in_pass clone

    -- where draws are left, the issue is of this pass
    is_here : (standing.draws ≡ [] → ⊥) → write.pass ≡ standing.pass
    is_here left = elim which [
      | inl here ↦ here
      | inr on ↦
          let all : issued_count history (pass_of job standing.pass) ≡ length (draws_of_job job standing.pass) =
          eqb-true (issued_count history (pass_of job standing.pass)) (length (draws_of_job job standing.pass)) (done_parts history (pass_of job standing.pass) on.1).issued in
          absurd (left (is.draws ∙ drop_all (issued_count history (pass_of job standing.pass)) (draws_of_job job standing.pass) (omega (arith, all))))
    ]

    -- where none is, it is of the next
    is_next : standing.draws ≡ [] → GoesOn
    is_next over = elim which [
      | inl here ↦
          let count : issued_count history (pass_of job write.pass) ≡ issued_count history (pass_of job standing.pass) = ap (λ (q : ℕ). issued_count history (pass_of job q)) here in
          let total : length (draws_of_job job write.pass) ≡ length (draws_of_job job standing.pass) = ap (λ (q : ℕ). length (draws_of_job job q)) here in
          let none : length (drop (issued_count history (pass_of job standing.pass)) (draws_of_job job standing.pass)) ≡ 0 = ap length (sym is.draws ∙ over) in
          let short = length-drop (issued_count history (pass_of job standing.pass)) (draws_of_job job standing.pass) in
          let left = some_left in
          let number = its.count in
          absurd (omega (arith, count, total, none, short, left, number))
      | inr on ↦ on
    ]

    pub at_here : (standing.draws ≡ [] → ⊥) → IsAt history job write standing
    at_here left =
        let here : write.pass ≡ standing.pass = is_here left in
        let back : standing.pass ≡ write.pass = sym here in
        record {
          pass = back;
          in_pass = subst (IsInPass history job) back is.in_pass;
          draws =
              is.draws
              ∙ ap (λ (q : ℕ). drop (issued_count history (pass_of job q)) (draws_of_job job q)) back
              ∙ ap (λ (n : ℕ). drop n (draws_of_job job write.pass)) its.count;
          later = subst (λ (q : ℕ). IfSome standing.later (λ ds. ds ≡ draws_of_job job (suc q))) back is.later;
          count = is.count ∙ ap (λ (q : ℕ). issued_count history (pass_of job q)) back ∙ its.count;
          issued = λ k one got. subst (λ (q : ℕ). WasIssued history (name_of job q k) one) back (is.issued k one got);
        }

    pub at_next : standing.draws ≡ [] → (suc standing.pass < job.passes → is_some standing.later ≡ true)
        → (moved : Standing) → moved.pass ≡ suc standing.pass → moved.draws ≡ unwrap_or standing.later standing.draws → moved.later ≡ None → moved.issued.items ≡ []
        → IsAt history job write moved
    at_next over prepared moved pass draws later empty =
        let on = is_next over in
        let back : suc standing.pass ≡ write.pass = sym on.0 in
        let first : issued_count history (pass_of job write.pass) ≡ 0 = is.in_pass.after write.pass (omega (arith, back)) in
        let number : 0 ≡ write.number = sym first ∙ its.count in
        record {
          pass = pass ∙ back;
          in_pass = subst (IsInPass history job) back (next_in_pass plan next.planned job there history standing.pass is.in_pass on.1 on.2);
          draws =
              draws
              ∙ later_draws standing.later standing.draws (draws_of_job job (suc standing.pass)) (prepared on.2) is.later
              ∙ ap (draws_of_job job) back
              ∙ ap (λ (n : ℕ). drop n (draws_of_job job write.pass)) number;
          later = subst (λ (o : Option (List Draw)). IfSome o (λ ds. ds ≡ draws_of_job job (suc write.pass))) (sym later) tt;
          count = ap length empty ∙ number;
          issued = λ k one got. absurd (nothing_at moved.issued.items k one empty got);
        }

    -- either way the clone stands in the pass of the draw that is issued
    pub at_draw : (standing.draws ≡ [] → suc standing.pass < job.passes → is_some standing.later ≡ true) → (ready : Standing) → IsReady standing ready → IsAt history job write ready
    at_draw prepared ready (inl same) = subst (IsAt history job write) (sym same.1) (at_here (some_of standing.draws same.0))
    at_draw prepared ready (inr begun) =
        let over = none_by_length standing.draws begun.over in
        at_next over (prepared over) ready begun.pass begun.draws begun.later begun.issued

    -- its round, where it isn't halted and nothing is to be put in
    round_is : has_rounds job ≡ true → is_committed standing.rounds ≡ true → standing.rounds.round ≡ current_round job history
    round_is has settled = sym (settled_now standing.rounds settled) ∙ is.round has runs

    has_round : has_rounds job ≡ true → HasRound plan history job standing.pass
    has_round has = record { planned = next.planned; legal = next.legal; there = there; in_pass = is.in_pass; rounds = has; runs = runs }

    takes_now : has_rounds job ≡ true → takes_writes (current_round job history) ≡ true
    takes_now has = elim which [
      | inl here ↦
          let free : waits_for_round history (pass_of job standing.pass) ≡ false =
          ap (λ (q : ℕ). waits_for_round history (pass_of job q)) (sym here) ∙ not-true (waits_for_round history (pass_of job write.pass)) may.1.free in
          takes_where (is_due (current_round job history)) (is_closed (current_round job history)) (sym (waits-law plan history job standing.pass (has_round has)) ∙ free)
      | inr on ↦
          let done = done_parts history (pass_of job standing.pass) on.1 in
          or_right (not (is_due (current_round job history))) (is_closed (current_round job history))
          (sym (closed_at_end-law plan history job standing.pass (has_round has) done.issued) ∙ done.closed)
    ]

    last_now : has_rounds job ≡ true → comes_last (current_round job history) write ≡ true
    last_now has =
        all_from (λ (other : WriteId). is_before other write) (current_round job history).to_check
        (λ k other got. before_by other write (same_clone k other got) (earlier k other got which))
      where
        parts_of : (k : ℕ) (other : WriteId) → slice_get (current_round job history).to_check k ≡ Some other → ((other.clone == job.clone) ≡ true) × ((other.pass == standing.pass) ≡ true)
        parts_of k other got =
            and_parts (other.clone == job.clone) (other.pass == standing.pass)
            (all_at (λ (w : WriteId). (w.clone == job.clone) && (w.pass == standing.pass)) (current_round job history).to_check k other
            (left_in_pass-law plan history job standing.pass (has_round has)) got)

        same_clone : (k : ℕ) (other : WriteId) → slice_get (current_round job history).to_check k ≡ Some other → other.clone ≡ write.clone
        same_clone k other got = eqb-true other.clone job.clone (parts_of k other got).0 ∙ sym clone

        earlier : (k : ℕ) (other : WriteId) → slice_get (current_round job history).to_check k ≡ Some other → (write.pass ≡ standing.pass) ⊎ GoesOn → (other.pass < write.pass) ⊎ ((other.pass ≡ write.pass) × (other.number < write.number))
        earlier k other got (inl here) =
            let pass : other.pass ≡ write.pass = eqb-true other.pass standing.pass (parts_of k other got).1 ∙ sym here in
            let below = left_below history job (last_issued job.clone history) k other got in
            let count : issued_count history (pass_of job other.pass) ≡ write.number = ap (λ (q : ℕ). issued_count history (pass_of job q)) pass ∙ its.count in
            inr (pass, omega (arith, below, count))
        earlier k other got (inr on) =
            let pass : other.pass ≡ standing.pass = eqb-true other.pass standing.pass (parts_of k other got).1 in
            let beyond = on.0 in
            inl (omega (arith, pass, beyond))

  -- the round after the issue
  round_moves : has_rounds job ≡ true → is_halted after job ≡ false → current_round job after ≡ cond (all_issued after (pass_of job write.pass)) (with_exhausted (with_issued dir (current_round job history) write)) (with_issued dir (current_round job history) write)
  round_moves has goes =
      let e = Issue worker dir write piece in
      sym (kept-law plan after job next.planned (is_legal-more plan history e next.legal next.may) there has goes)
      ∙ rounds_of-more job history e
      ∙ ap (round_after job history e) (kept-law plan history job next.planned next.legal there has (ran_before job history e goes))
      ∙ ap {B = Round} (λ (b : Bool). cond b (after_issue job after dir write (current_round job history)) (current_round job history)) (eq-eqb write.clone job.clone clone)

  -- whether it was the last of its pass
  ends : (left : List Draw) → left ≡ drop 1 (drop write.number (draws_of_job job write.pass)) → (length left == 0) ≡ all_issued after (pass_of job write.pass)
  ends left is =
      let total = length (draws_of_job job write.pass) in
      let size : length left ≡ length (drop (suc write.number) (draws_of_job job write.pass)) = ap length (is ∙ drop_next write.number (draws_of_job job write.pass)) in
      let short = length-drop (suc write.number) (draws_of_job job write.pass) in
      let below = some_left in
      let count = more in
      same_truth (length left == 0) (issued_count after (pass_of job write.pass) == total)
      (λ none.
      let over : length left ≡ 0 = eqb-true (length left) 0 none in
      eq-eqb (issued_count after (pass_of job write.pass)) total (omega (arith, size, short, below, count, over)))
      (λ all.
      let whole : issued_count after (pass_of job write.pass) ≡ total = eqb-true (issued_count after (pass_of job write.pass)) total all in
      eq-eqb (length left) 0 (omega (arith, size, short, below, count, whole)))

  -- what was issued before was taken up or not as it was
  taken_same : (name : WriteId) → list_any (takes_up name) after ≡ list_any (takes_up name) history
  taken_same name = list_any-append (takes_up name) history (Issue worker dir write piece ∷ []) ∙ or-false (list_any (takes_up name) history)

  was_before : (name : WriteId) (one : Issued) → WasIssued history name one → WasIssued after name one
  was_before name one was = record {
    io = was.io;
    at = started_stays history (Issue worker dir write piece ∷ []) one.id was.io was.at;
    kind = was.kind;
    named = was.named;
    taken_up = was.taken_up ∙ sym (taken_same name);
  }

  -- and the draw that is issued now is taken up by nothing
  untaken : list_any (takes_up write) history ≡ false
  untaken =
      false_from_ne_true (list_any (takes_up write) history)
      (λ taken.
      let below = taken_issued plan (numbered_of plan next.planned) job there history next.legal write clone taken in
      let count = its.count in
      absurd (omega (arith, below, count)))

  is_issued : (id : ℕ) → id ≡ length (started history) → WasIssued after write (record { id = id; is_taken_up = false })
  is_issued id place =
      let io : Started = record { worker = worker; kind = kind_for dir; write = write; piece = piece } in
      record {
        io = io;
        at = ap (slice_get (started after)) place ∙ started_next history (Issue worker dir write piece) io refl;
        kind = issue_is_no_probe dir;
        named = refl;
        taken_up = sym (taken_same write ∙ untaken);
      }

  named_so : (k : ℕ) → k ≡ write.number → write ≡ name_of job write.pass k
  named_so k number =
      ap {B = WriteId} (λ (c : ℕ). record { clone = c; pass = write.pass; number = write.number }) clone
      ∙ ap {B = WriteId} (λ (n : ℕ). record { clone = job.clone; pass = write.pass; number = n }) (sym number)

  -- where the clone stands after the issue
  pub stands_after : (standing at_draw now : Standing) (id : ℕ) → IsStanding history job standing → is_committed standing.rounds ≡ true → IsAt history job write at_draw → id ≡ length (started history)
      → now.pass ≡ at_draw.pass → now.draws ≡ drop 1 at_draw.draws → now.later ≡ at_draw.later
      → now.issued.items ≡ at_draw.issued.items ++ record { id = id; is_taken_up = false } ∷ []
      → (has_rounds job ≡ true → now.rounds ≡ with_draw standing.rounds (written dir write) (length now.draws == 0))
      → IsStanding after job now
  stands_after standing at_draw now id is settled here place pass draws later items rounds =
      let same : now.pass ≡ write.pass = pass ∙ here.pass in
      let back : write.pass ≡ now.pass = sym same in
      let left : now.draws ≡ drop 1 (drop write.number (draws_of_job job write.pass)) = draws ∙ ap (drop 1) here.draws in
      record {
        in_pass = subst (IsInPass after job) back (issue_keeps_pass plan next.planned job there history worker dir write piece write.pass next.legal next.may here.in_pass refl);
        draws =
            left
            ∙ drop_next write.number (draws_of_job job write.pass)
            ∙ ap (λ (n : ℕ). drop n (draws_of_job job write.pass)) (sym more)
            ∙ ap (λ (q : ℕ). drop (issued_count after (pass_of job q)) (draws_of_job job q)) back;
        later = subst (λ (o : Option (List Draw)). IfSome o (λ ds. ds ≡ draws_of_job job (suc now.pass))) (sym later)
            (subst (λ (q : ℕ). IfSome at_draw.later (λ ds. ds ≡ draws_of_job job (suc q))) back here.later);
        count = counted ∙ sym more ∙ ap (λ (q : ℕ). issued_count after (pass_of job q)) back;
        issued = λ k one got. subst (λ (q : ℕ). WasIssued after (name_of job q k) one) back (each k one (got_more at_draw.issued.items (record { id = id; is_taken_up = false }) k one (ap (λ (xs : List Issued). slice_get xs k) (sym items) ∙ got)));
        round = λ has goes.
            ap round_now (rounds has)
            ∙ ap (λ (b : Bool). round_now (with_draw standing.rounds (written dir write) b)) (ends now.draws left)
            ∙ put_in (all_issued after (pass_of job write.pass))
            ∙ ap (λ (r : Round). cond (all_issued after (pass_of job write.pass)) (with_exhausted (with_issued dir r write)) (with_issued dir r write)) (round_is standing is has settled)
            ∙ sym (round_moves has goes);
      }
    where
      counted : length now.issued.items ≡ suc write.number
      counted =
          let size : length now.issued.items ≡ length (at_draw.issued.items ++ record { id = id; is_taken_up = false } ∷ []) = ap length items in
          let both = length-append at_draw.issued.items (record { id = id; is_taken_up = false } ∷ []) in
          let before = here.count in
          omega (arith, size, both, before)

      each : (k : ℕ) (one : Issued) → (slice_get at_draw.issued.items k ≡ Some one) ⊎ ((k ≡ length at_draw.issued.items) × (one ≡ record { id = id; is_taken_up = false })) → WasIssued after (name_of job write.pass k) one
      each k one (inl earlier) = was_before (name_of job write.pass k) one (here.issued k one earlier)
      each k one (inr last) =
          subst (λ (x : Issued). WasIssued after (name_of job write.pass k) x) (sym last.1)
          (subst (λ (w : WriteId). WasIssued after w (record { id = id; is_taken_up = false })) (named_so k (last.0 ∙ here.count)) (is_issued id place))

      put_in : (b : Bool) → round_now (with_draw standing.rounds (written dir write) b) ≡ cond b (with_exhausted (with_issued dir standing.rounds.round write)) (with_issued dir standing.rounds.round write)
      put_in b = ap (λ (r : Round). cond b (with_exhausted r) r) (waits_issued dir write standing.rounds.round)

-- what an issue asks of the round, of a write or of a read
pub issue_fills : (plan : Plan) (history : List Event) (worker : ℕ) (dir : IssueKind) (write : WriteId) (piece : Piece) (job : SubJob) (standing : Standing)
    → IsNext plan history (Issue worker dir write piece)
    → clone_of plan write.clone ≡ Some job
    → has_rounds job ≡ true
    → IsStanding history job standing
    → is_committed standing.rounds ≡ true
    → (takes_writes standing.rounds.round ≡ true) × (comes_last standing.rounds.round write ≡ true)
issue_fills plan history worker dir write piece job standing next at has is settled =
    let same : current_round job history ≡ standing.rounds.round = sym (round_is plan history worker dir write piece job next at standing is has settled) in (
      subst (λ (r : Round). takes_writes r ≡ true) same (takes_now plan history worker dir write piece job next at standing is has),
      subst (λ (r : Round). comes_last r write ≡ true) same (last_now plan history worker dir write piece job next at standing is has),
    )

-- the same, by what holds at each direction
pub written_is : (dir : IssueKind) (write : WriteId) (o : Option WriteId) → (dir ≡ issue.Write → o ≡ Some write) → (dir ≡ issue.Read → o ≡ None) → (dir ≡ issue.ReadCheck → o ≡ None) → o ≡ written dir write
written_is issue.Write write o writes reads checks = writes refl
written_is issue.Read write o writes reads checks = reads refl
written_is issue.ReadCheck write o writes reads checks = checks refl
