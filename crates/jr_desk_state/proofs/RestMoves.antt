-- A clone at rest, a run that is complete, and the phase that is open, by what is kept of a run.
use Rattle.std.proofs.Common.{◌≡◌, ℕ, zero, suc, ◌+◌, ◌-◌, ◌<◌, ◌≤◌, min, List, [], ◌∷◌, ◌++◌, length, take, drop, slice_index_or, Bool, true, false, ◌&&◌, ◌||◌, not, refl, sym, ◌∙◌, ap, subst, arith, inl, inr, length-drop}
use Rattle.std.specs.Prelude.{◌⊎◌, ◌==◌, nat_le, Some, slice_get}
use Rattle.std.specs.List.{list_all}
use Rattle.std.proofs.Math.Nat.{le-min, min-le_left, min-le_right}
use Rattle.std.proofs.lemmas.Bool.{and_parts, and_from, and_left, and_right, or_left, or_right, or_cases, cases_Bool, cases_eq, cases_lt, eq-eqb, ne_eqb, eqb-true, leb-true, le-leb, not_from_false, both_ways, false_from_ne_true}
use Rattle.std.proofs.lemmas.List.Folds.{list_all-append}
use Rattle.std.proofs.lemmas.Option.{same_Some, slice_get_read, slice_get_within}
use Rattle.jr_model.specs.declared.events.Event.{Event}
use Rattle.jr_model.specs.Draws.{draws_of_job}
use Rattle.jr_model.specs.Legal.{is_at_rest, is_complete, is_halted, is_legal, is_over, phase_is_open}
use Rattle.jr_model.specs.Plan.{Plan, SubJob, clone_of}
use Rattle.jr_model.specs.Rounds.{pass_of, issued_count, all_issued, has_rounds, nothing_flies_of, pass_finished, clone_finished}
use Rattle.jr_model.specs.PlanFacts.{IsPlanned}
use Rattle.jr_backlog.specs.Rounds.{Round, is_closed}
use Rattle.jr_backlog.specs.CurrentRound.{current_round}
use Rattle.jr_backlog.specs.Deferred.{round_now}
use Rattle.jr_laws_steps.proofs.IssueLaws.{issued_at_most}
use Rattle.jr_model.proofs.PlaceLemmas.{all_from, item_at, made_at}
use Rattle.jr_model.proofs.PlanLemmas.{numbered_of}
use Rattle.jr_model.proofs.BoolLemmas.{same_truth}
use Rattle.jr_laws_quiet.proofs.Issues.{all_at}
use Rattle.jr_laws_rounds.proofs.CurrentLaws.{closed_at_end-law}
use Rattle.jr_laws_rounds.proofs.StandingFinished.{finished_by_standing-law, clone_finished_by_standing-law}
use Rattle.jr_desk_totals.specs.Tallies.{flying_issues, flying_checks, awaited}
use Rattle.jr_desk_totals.proofs.Compared.{nothing_flies_of-counts, is_at_rest-counts, is_complete-counts}
use Rattle.jr_desk_totals.specs.declared.tallies.Counts.{Counts}
use Rattle.jr_desk_totals.specs.Tallying.{counts_of}
use Rattle.jr_desk_state.specs.declared.board.Board.{Board}
use Rattle.jr_desk_state.specs.declared.standings.Standing.{Standing}
use Rattle.jr_desk_state.specs.Boards.{IsBoard}
use Rattle.jr_desk_state.specs.Standings.{IsStanding}

-- none is left of a list exactly where as many were dropped as it has
none_after : (n m : ℕ) → n ≤ m → ((m - n) == 0) ≡ (n == m)
none_after n m few =
    elim (cases_eq n m) [
      | inl same ↦ eq-eqb (m - n) 0 (omega (arith, same)) ∙ sym (eq-eqb n m same)
      | inr apart ↦ ne_eqb (m - n) 0 (λ none. apart (omega (arith, none, few))) ∙ sym (ne_eqb n m apart)
    ]

none_dropped : {X : Type 0} (n : ℕ) (xs : List X) → n ≤ length xs → (length (drop n xs) == 0) ≡ (n == length xs)
none_dropped n xs few = ap {B = Bool} (λ (m : ℕ). m == 0) (length-drop n xs) ∙ none_after n (length xs) few

-- what is read of a clone: where it stands, and its counts
pub record IsRead (plan : Plan) (board : Board) (clone : ℕ) (here : Standing) (tally : Counts) : Type 0 where
  pub kept : IsBoard plan board
  pub standing : slice_get board.standings.items clone ≡ Some here
  pub counts : slice_get board.tallies.counts.items clone ≡ Some tally

pub read_at : (plan : Plan) (board : Board) (clone : ℕ) (here : Standing) (tally : Counts) → IsBoard plan board → clone < length board.standings.items → clone < length board.tallies.counts.items → here ≡ slice_index_or board.standings.items clone here → tally ≡ slice_index_or board.tallies.counts.items clone tally → IsRead plan board clone here tally
read_at plan board clone here tally kept stands_there counted_there is_here is_tally = record {
  kept = kept;
  standing = slice_get_read board.standings.items (length board.standings.items) clone here refl stands_there is_here;
  counts = slice_get_read board.tallies.counts.items (length board.tallies.counts.items) clone tally refl counted_there is_tally;
}

module _ (plan : Plan) (board : Board) (clone : ℕ) (kept : IsBoard plan board) (job : SubJob) (at : clone_of plan clone ≡ Some job) where
  counted : (counts : Counts) → slice_get board.tallies.counts.items clone ≡ Some counts → counts ≡ counts_of board.history.items job
  counted counts there =
      same_Some counts (counts_of board.history.items job)
      (sym there ∙ ap (λ (all : List Counts). slice_get all clone) kept.tallies.counts
      ∙ made_at (counts_of board.history.items) plan.clones clone job at)

  stands : (standing : Standing) → slice_get board.standings.items clone ≡ Some standing → IsStanding board.history.items job standing
  stands standing there = kept.standings.each clone job standing at there

  -- no draw is left exactly where all of the pass were issued
  over_issued : (standing : Standing) → IsStanding board.history.items job standing → (length standing.draws == 0) ≡ all_issued board.history.items (pass_of job standing.pass)
  over_issued standing is =
      let pass = pass_of job standing.pass in
      let few = issued_at_most plan board.history.items clone standing.pass job (numbered_of plan kept.planned) at kept.legal in
      ap {B = Bool} (λ draws. length draws == 0) is.draws ∙ none_dropped (issued_count board.history.items pass) (draws_of_job job standing.pass) few

  round_alike : (standing : Standing) → IsStanding board.history.items job standing → is_halted board.history.items job ≡ false → (not (has_rounds job) || is_closed (current_round job board.history.items)) ≡ (not (has_rounds job) || is_closed (round_now standing.rounds))
  round_alike standing is runs =
      let here = is_closed (current_round job board.history.items) in
      let now = is_closed (round_now standing.rounds) in
      elim (cases_Bool (has_rounds job)) [
        | inl rounds ↦ ap (λ (round : Round). not (has_rounds job) || is_closed round) (sym (is.round rounds runs))
        | inr none ↦
            or_left (not (has_rounds job)) here (not_from_false (has_rounds job) none)
            ∙ sym (or_left (not (has_rounds job)) now (not_from_false (has_rounds job) none))
      ]

  -- the pass is finished where no draw is left, nothing of the clone flies, and its round is closed
  finished_by : (standing : Standing) → IsStanding board.history.items job standing → is_halted board.history.items job ≡ false → pass_finished board.history.items (pass_of job standing.pass) ≡ ((length standing.draws == 0) && (flying_issues board.history.items job.clone + flying_checks board.history.items job.clone == 0) && (not (has_rounds job) || is_closed (round_now standing.rounds)))
  finished_by standing is runs =
      let history = board.history.items in
      let pass = pass_of job standing.pass in
      let flies = flying_issues history job.clone + flying_checks history job.clone in
      finished_by_standing-law closed_at_end-law plan history clone standing.pass job kept.planned kept.legal at is.in_pass runs
      ∙ ap (λ (b : Bool). b && nothing_flies_of history job.clone && (not (has_rounds job) || is_closed (current_round job history))) (sym (over_issued standing is))
      ∙ ap (λ (b : Bool). (length standing.draws == 0) && b && (not (has_rounds job) || is_closed (current_round job history))) (nothing_flies_of-counts history job.clone)
      ∙ ap (λ (b : Bool). (length standing.draws == 0) && (flies == 0) && b) (round_alike standing is runs)

  -- a clone that isn't halted is over where it is in its last pass, and that is finished
  over_by : (standing : Standing) → IsStanding board.history.items job standing → is_halted board.history.items job ≡ false → is_over board.history.items job ≡ ((suc standing.pass == job.passes) && pass_finished board.history.items (pass_of job standing.pass))
  over_by standing is runs =
      ap (λ (b : Bool). b || clone_finished board.history.items job) runs
      ∙ clone_finished_by_standing-law plan board.history.items clone standing.pass job kept.planned kept.legal at is.in_pass

-- a pass isn't finished while a draw is left or something flies
pub unfinished : (plan : Plan) (board : Board) (clone : ℕ) (standing : Standing) (counts : Counts) → IsRead plan board clone standing counts → (((length standing.draws == 0) ≡ false) ⊎ (0 < counts.issues + counts.checks)) → ((job : SubJob) → clone_of plan clone ≡ Some job → is_halted board.history.items job ≡ false) → (job : SubJob) (own : Standing) → clone_of plan clone ≡ Some job → slice_get board.standings.items clone ≡ Some own → false ≡ pass_finished board.history.items (pass_of job own.pass)
unfinished plan board clone standing counts read busy runs job own at there =
    let same : standing ≡ own = same_Some standing own (sym read.standing ∙ there) in
    let is = stands plan board clone read.kept job at standing read.standing in
    let tally = counted plan board clone read.kept job at counts read.counts in
    subst (λ (s : Standing). false ≡ pass_finished board.history.items (pass_of job s.pass)) same
    (sym (finished_by plan board clone read.kept job at standing is (runs job at) ∙ by_parts tally busy))
  where
    by_parts : counts ≡ counts_of board.history.items job → (((length standing.draws == 0) ≡ false) ⊎ (0 < counts.issues + counts.checks)) → ((length standing.draws == 0) && (flying_issues board.history.items job.clone + flying_checks board.history.items job.clone == 0) && (not (has_rounds job) || is_closed (round_now standing.rounds))) ≡ false
    by_parts tally (inl left) =
        let flies = flying_issues board.history.items job.clone + flying_checks board.history.items job.clone in
        and_left ((length standing.draws == 0) && (flies == 0)) (not (has_rounds job) || is_closed (round_now standing.rounds))
        (and_left (length standing.draws == 0) (flies == 0) left)
    by_parts tally (inr some) =
        let flies = flying_issues board.history.items job.clone + flying_checks board.history.items job.clone in
        let issues : counts.issues ≡ flying_issues board.history.items job.clone = ap (λ (t : Counts). t.issues) tally in
        let checks : counts.checks ≡ flying_checks board.history.items job.clone = ap (λ (t : Counts). t.checks) tally in
        and_left ((length standing.draws == 0) && (flies == 0)) (not (has_rounds job) || is_closed (round_now standing.rounds))
        (and_right (length standing.draws == 0) (flies == 0) (ne_eqb flies 0 (λ none. omega (arith, none, issues, checks, some))))

-- where none is left and nothing flies, it is where the clone has no rounds or its round is closed
pub finished_where : (plan : Plan) (board : Board) (clone : ℕ) (standing : Standing) (counts : Counts) → IsRead plan board clone standing counts → (length standing.draws == 0) ≡ true → counts.issues ≡ 0 → counts.checks ≡ 0 → ((job : SubJob) → clone_of plan clone ≡ Some job → is_halted board.history.items job ≡ false) → (result : Bool) → ((job : SubJob) → clone_of plan clone ≡ Some job → result ≡ (not (has_rounds job) || is_closed (round_now standing.rounds))) → (job : SubJob) (own : Standing) → clone_of plan clone ≡ Some job → slice_get board.standings.items clone ≡ Some own → result ≡ pass_finished board.history.items (pass_of job own.pass)
finished_where plan board clone standing counts read over no_issue no_check runs result is_result job own at there =
    let same : standing ≡ own = same_Some standing own (sym read.standing ∙ there) in
    let history = board.history.items in
    let is = stands plan board clone read.kept job at standing read.standing in
    let tally = counted plan board clone read.kept job at counts read.counts in
    let flies = flying_issues history job.clone + flying_checks history job.clone in
    let issues : counts.issues ≡ flying_issues history job.clone = ap (λ (t : Counts). t.issues) tally in
    let checks : counts.checks ≡ flying_checks history job.clone = ap (λ (t : Counts). t.checks) tally in
    let none : (flies == 0) ≡ true = eq-eqb flies 0 (omega (arith, issues, checks, no_issue, no_check)) in
    let closed = not (has_rounds job) || is_closed (round_now standing.rounds) in
    let first : ((length standing.draws == 0) && (flies == 0)) ≡ true = and_from (length standing.draws == 0) (flies == 0) over none in
    subst (λ (s : Standing). result ≡ pass_finished history (pass_of job s.pass)) same
    (is_result job at ∙ sym (finished_by plan board clone read.kept job at standing is (runs job at) ∙ ap (λ (b : Bool). b && closed) first))

-- the rounds of the clone, as they are read
pub without_rounds : (plan : Plan) (clone : ℕ) (one : SubJob) (standing : Standing) (result : Bool) → clone_of plan clone ≡ Some one → result ≡ true → has_rounds one ≡ false → (job : SubJob) → clone_of plan clone ≡ Some job → result ≡ (not (has_rounds job) || is_closed (round_now standing.rounds))
without_rounds plan clone one standing result here is_true none job at =
    let same : has_rounds one ≡ has_rounds job = ap has_rounds (same_Some one job (sym here ∙ at)) in
    is_true ∙ sym (or_left (not (has_rounds job)) (is_closed (round_now standing.rounds)) (not_from_false (has_rounds job) (sym same ∙ none)))

pub with_rounds : (plan : Plan) (clone : ℕ) (one : SubJob) (standing : Standing) (result : Bool) → clone_of plan clone ≡ Some one → result ≡ is_closed (round_now standing.rounds) → has_rounds one ≡ true → (job : SubJob) → clone_of plan clone ≡ Some job → result ≡ (not (has_rounds job) || is_closed (round_now standing.rounds))
with_rounds plan clone one standing result here closed rounds job at =
    let same : has_rounds one ≡ has_rounds job = ap has_rounds (same_Some one job (sym here ∙ at)) in
    closed ∙ ap (λ (b : Bool). not b || is_closed (round_now standing.rounds)) (sym rounds ∙ same)

-- a clone isn't at rest while something of it flies or is awaited
pub busy : (plan : Plan) (board : Board) (clone : ℕ) (counts : Counts) → IsBoard plan board → slice_get board.tallies.counts.items clone ≡ Some counts → 0 < counts.issues + counts.checks + counts.verdicts → (job : SubJob) → clone_of plan clone ≡ Some job → false ≡ is_at_rest board.history.items job
busy plan board clone counts kept there some job at =
    let history = board.history.items in
    let tally = counted plan board clone kept job at counts there in
    let flies = flying_issues history job.clone + flying_checks history job.clone in
    let issues : counts.issues ≡ flying_issues history job.clone = ap (λ (t : Counts). t.issues) tally in
    let checks : counts.checks ≡ flying_checks history job.clone = ap (λ (t : Counts). t.checks) tally in
    let verdicts : counts.verdicts ≡ awaited history job.clone = ap (λ (t : Counts). t.verdicts) tally in
    sym (false_from_ne_true (is_at_rest history job) (λ rests.
    let parts = and_parts (is_over history job && (flies == 0)) (awaited history job.clone == 0) (sym (is_at_rest-counts history job) ∙ rests) in
    let none = eqb-true flies 0 (and_parts (is_over history job) (flies == 0) parts.0).1 in
    let judged = eqb-true (awaited history job.clone) 0 parts.1 in
    omega (arith, none, judged, issues, checks, verdicts, some)))

-- nothing of the clone flies or is awaited
pub record AreNone (counts : Counts) : Type 0 where
  pub issues : counts.issues ≡ 0
  pub checks : counts.checks ≡ 0
  pub verdicts : counts.verdicts ≡ 0

-- then it is at rest where it is over
rests_over : (plan : Plan) (board : Board) (clone : ℕ) (counts : Counts) → IsBoard plan board → slice_get board.tallies.counts.items clone ≡ Some counts → AreNone counts → (job : SubJob) → clone_of plan clone ≡ Some job → is_at_rest board.history.items job ≡ is_over board.history.items job
rests_over plan board clone counts kept there none job at =
    let history = board.history.items in
    let tally = counted plan board clone kept job at counts there in
    let flies = flying_issues history job.clone + flying_checks history job.clone in
    let issues : counts.issues ≡ flying_issues history job.clone = ap (λ (t : Counts). t.issues) tally in
    let checks : counts.checks ≡ flying_checks history job.clone = ap (λ (t : Counts). t.checks) tally in
    let verdicts : counts.verdicts ≡ awaited history job.clone = ap (λ (t : Counts). t.verdicts) tally in
    let first : (flies == 0) ≡ true = eq-eqb flies 0 (omega (arith, issues, checks, none.issues, none.checks)) in
    let second : (awaited history job.clone == 0) ≡ true = eq-eqb (awaited history job.clone) 0 (omega (arith, verdicts, none.verdicts)) in
    same_truth (is_at_rest history job) (is_over history job)
    (λ rests. (and_parts (is_over history job) (flies == 0) (and_parts (is_over history job && (flies == 0)) (awaited history job.clone == 0) (sym (is_at_rest-counts history job) ∙ rests)).0).0)
    (λ over. is_at_rest-counts history job ∙ and_from (is_over history job && (flies == 0)) (awaited history job.clone == 0) (and_from (is_over history job) (flies == 0) over first) second)

-- as a halted clone is
pub rests_halted : (plan : Plan) (board : Board) (clone : ℕ) (counts : Counts) → IsBoard plan board → slice_get board.tallies.counts.items clone ≡ Some counts → AreNone counts → counts.is_halted ≡ true → (job : SubJob) → clone_of plan clone ≡ Some job → true ≡ is_at_rest board.history.items job
rests_halted plan board clone counts kept there none halted job at =
    let history = board.history.items in
    let tally : is_halted history job ≡ counts.is_halted = sym (ap (λ (t : Counts). t.is_halted) (counted plan board clone kept job at counts there)) in
    sym (rests_over plan board clone counts kept there none job at ∙ or_left (is_halted history job) (clone_finished history job) (tally ∙ halted))

pub runs_on : (plan : Plan) (board : Board) (clone : ℕ) (counts : Counts) → IsBoard plan board → slice_get board.tallies.counts.items clone ≡ Some counts → counts.is_halted ≡ false → (job : SubJob) → clone_of plan clone ≡ Some job → is_halted board.history.items job ≡ false
runs_on plan board clone counts kept there runs job at =
    sym (ap (λ (t : Counts). t.is_halted) (counted plan board clone kept job at counts there)) ∙ runs

-- the pass that a clone is in is one of its passes
pub pass_within : (plan : Plan) (board : Board) (clone : ℕ) (standing : Standing) (job : SubJob) → IsBoard plan board → clone_of plan clone ≡ Some job → slice_get board.standings.items clone ≡ Some standing → standing.pass < job.passes
pass_within plan board clone standing job kept at there = (kept.standings.each clone job standing at there).in_pass.within

-- one that runs isn't at rest before its last pass
pub rests_later : (plan : Plan) (board : Board) (clone : ℕ) (standing : Standing) (counts : Counts) (one : SubJob) → IsRead plan board clone standing counts → AreNone counts → counts.is_halted ≡ false → clone_of plan clone ≡ Some one → standing.pass + 1 < one.passes → (job : SubJob) → clone_of plan clone ≡ Some job → false ≡ is_at_rest board.history.items job
rests_later plan board clone standing counts one read none runs here more job at =
    let history = board.history.items in
    let same : one.passes ≡ job.passes = ap (λ (j : SubJob). j.passes) (same_Some one job (sym here ∙ at)) in
    let going = runs_on plan board clone counts read.kept read.counts runs job at in
    let is = stands plan board clone read.kept job at standing read.standing in
    let other : (suc standing.pass == job.passes) ≡ false = ne_eqb (suc standing.pass) job.passes (λ last. omega (arith, last, same, more)) in
    sym (rests_over plan board clone counts read.kept read.counts none job at
    ∙ over_by plan board clone read.kept job at standing is going
    ∙ and_left (suc standing.pass == job.passes) (pass_finished history (pass_of job standing.pass)) other)

-- and in its last pass where that is finished
pub rests_last : (plan : Plan) (board : Board) (clone : ℕ) (standing : Standing) (counts : Counts) (one : SubJob) → IsRead plan board clone standing counts → AreNone counts → counts.is_halted ≡ false → clone_of plan clone ≡ Some one → one.passes ≤ standing.pass + 1 → (result : Bool) → ((job : SubJob) (own : Standing) → clone_of plan clone ≡ Some job → slice_get board.standings.items clone ≡ Some own → result ≡ pass_finished board.history.items (pass_of job own.pass)) → (job : SubJob) → clone_of plan clone ≡ Some job → result ≡ is_at_rest board.history.items job
rests_last plan board clone standing counts one read none runs here few result is_result job at =
    let history = board.history.items in
    let same : one.passes ≡ job.passes = ap (λ (j : SubJob). j.passes) (same_Some one job (sym here ∙ at)) in
    let going = runs_on plan board clone counts read.kept read.counts runs job at in
    let is = stands plan board clone read.kept job at standing read.standing in
    let within = pass_within plan board clone standing job read.kept at read.standing in
    let last : (suc standing.pass == job.passes) ≡ true = eq-eqb (suc standing.pass) job.passes (omega (arith, within, same, few)) in
    is_result job standing at read.standing
    ∙ sym (rests_over plan board clone counts read.kept read.counts none job at
    ∙ over_by plan board clone read.kept job at standing is going
    ∙ ap (λ (b : Bool). b && pass_finished history (pass_of job standing.pass)) last)

-- lists, one item further

take_next : {X : Type 0} (xs : List X) (i : ℕ) (x : X) → slice_get xs i ≡ Some x → take (suc i) xs ≡ take i xs ++ x ∷ []
take_next [] i x at = cc
take_next {X = X} (y ∷ xs) zero x at = ap (λ (z : X). z ∷ []) (same_Some y x at)
take_next {X = X} (y ∷ xs) (suc i) x at = ap (λ (zs : List X). y ∷ zs) (take_next xs i x at)

take_all : {X : Type 0} (n : ℕ) (xs : List X) → length xs ≤ n → take n xs ≡ xs
take_all zero [] h = refl
take_all (suc n) [] h = refl
take_all zero (x ∷ xs) h = absurd (omega (arith, h))
take_all {X = X} (suc n) (x ∷ xs) h = ap (λ (zs : List X). x ∷ zs) (take_all n xs (omega (arith, h)))

all_next : {X : Type 0} (test : X → Bool) (xs : List X) (i : ℕ) (x : X) → slice_get xs i ≡ Some x → list_all test (take (i + 1) xs) ≡ (list_all test (take i xs) && (test x && true))
all_next {X = X} test xs i x at =
    let plus_one : i + 1 ≡ suc i = omega arith in
    ap (λ (n : ℕ). list_all test (take n xs)) plus_one
    ∙ ap (list_all test) (take_next xs i x at) ∙ list_all-append test (take i xs) (x ∷ [])

-- a run is complete where each clone is at rest

abbrev still : List Event → SubJob → Bool
still history job = flying_issues history job.clone + flying_checks history job.clone == 0

abbrev judged : List Event → SubJob → Bool
judged history job = awaited history job.clone == 0

each_rests : (plan : Plan) (history : List Event) → IsPlanned plan → is_legal plan history ≡ true → is_complete plan history ≡ true → list_all (is_at_rest history) plan.clones ≡ true
each_rests plan history planned legal done =
    let flown = list_all (still history) plan.clones in
    let told = list_all (judged history) plan.clones in
    let parts = and_parts (flown && told) (list_all (is_over history) plan.clones) (sym (is_complete-counts plan history planned legal) ∙ done) in
    let two = and_parts flown told parts.0 in
    all_from (is_at_rest history) plan.clones (λ k job at.
    is_at_rest-counts history job
    ∙ and_from (is_over history job && still history job) (judged history job)
    (and_from (is_over history job) (still history job) (all_at (is_over history) plan.clones k job parts.1 at) (all_at (still history) plan.clones k job two.0 at))
    (all_at (judged history) plan.clones k job two.1 at))

-- what holds of a clone at rest
record RestParts (history : List Event) (job : SubJob) : Type 0 where
  over : is_over history job ≡ true
  flown : still history job ≡ true
  told : judged history job ≡ true

rest_parts : (history : List Event) (job : SubJob) → is_at_rest history job ≡ true → RestParts history job
rest_parts history job rest =
    let parts = and_parts (is_over history job && still history job) (judged history job) (sym (is_at_rest-counts history job) ∙ rest) in
    let two = and_parts (is_over history job) (still history job) parts.0 in
    record { over = two.0; flown = two.1; told = parts.1 }

all_complete : (plan : Plan) (history : List Event) → IsPlanned plan → is_legal plan history ≡ true → list_all (is_at_rest history) plan.clones ≡ true → is_complete plan history ≡ true
all_complete plan history planned legal all =
    let of_job = λ (k : ℕ) (job : SubJob) (at : slice_get plan.clones k ≡ Some job). rest_parts history job (all_at (is_at_rest history) plan.clones k job all at) in
    let flown = list_all (still history) plan.clones in
    let told = list_all (judged history) plan.clones in
    is_complete-counts plan history planned legal
    ∙ and_from (flown && told) (list_all (is_over history) plan.clones)
    (and_from flown told (all_from (still history) plan.clones (λ k job at. (of_job k job at).flown)) (all_from (judged history) plan.clones (λ k job at. (of_job k job at).told)))
    (all_from (is_over history) plan.clones (λ k job at. (of_job k job at).over))

complete_rests : (plan : Plan) (history : List Event) → IsPlanned plan → is_legal plan history ≡ true → is_complete plan history ≡ list_all (is_at_rest history) plan.clones
complete_rests plan history planned legal =
    same_truth (is_complete plan history) (list_all (is_at_rest history) plan.clones) (each_rests plan history planned legal) (all_complete plan history planned legal)

pub incomplete : (plan : Plan) (history : List Event) (i : ℕ) → IsPlanned plan → is_legal plan history ≡ true → i < length plan.clones → ((job : SubJob) → clone_of plan i ≡ Some job → false ≡ is_at_rest history job) → false ≡ is_complete plan history
incomplete plan history i planned legal within busy_one =
    let one = item_at plan.clones i within in
    sym (false_from_ne_true (is_complete plan history) (λ done.
    both_ways (is_at_rest history one.0) (sym (busy_one one.0 one.1))
    (all_at (is_at_rest history) plan.clones i one.0 (sym (complete_rests plan history planned legal) ∙ done) one.1)))

pub rests_next : (plan : Plan) (history : List Event) (i : ℕ) → i < length plan.clones → ((job : SubJob) → clone_of plan i ≡ Some job → true ≡ is_at_rest history job) → list_all (is_at_rest history) (take i plan.clones) ≡ true → list_all (is_at_rest history) (take (i + 1) plan.clones) ≡ true
rests_next plan history i within one_rests sofar =
    let one = item_at plan.clones i within in
    let rest = is_at_rest history in
    all_next rest plan.clones i one.0 one.1
    ∙ and_from (list_all rest (take i plan.clones)) (rest one.0 && true) sofar (and_from (rest one.0) true (sym (one_rests one.0 one.1)) refl)

-- the clones before one are at rest where each of them is
first_all : {X : Type 0} (p : X → Bool) (xs : List X) (n : ℕ) → ((k : ℕ) (x : X) → slice_get xs k ≡ Some x → k < n → p x ≡ true)
    → list_all p (take n xs) ≡ true
first_all p xs zero each = refl
first_all p [] (suc n) each = refl
first_all p (x ∷ xs) (suc n) each =
    and_from (p x) (list_all p (take n xs)) (each 0 x refl (omega arith))
    (first_all p xs n (λ k y at below. each (suc k) y at (omega (arith, below))))

pub rests_first : (plan : Plan) (history : List Event) (n : ℕ)
    → ((c : ℕ) (job : SubJob) → clone_of plan c ≡ Some job → c < n → is_at_rest history job ≡ true)
    → list_all (is_at_rest history) (take n plan.clones) ≡ true
rests_first plan history n each = first_all (is_at_rest history) plan.clones n each

pub complete : (plan : Plan) (history : List Event) (i : ℕ) → IsPlanned plan → is_legal plan history ≡ true → length plan.clones ≤ i → list_all (is_at_rest history) (take i plan.clones) ≡ true → true ≡ is_complete plan history
complete plan history i planned legal all sofar =
    sym (complete_rests plan history planned legal ∙ ap (list_all (is_at_rest history)) (sym (take_all i plan.clones all)) ∙ sofar)

-- the phase that is open

-- the first n of these clones let those of a phase through exactly where it is no later than this one
pub record IsOpenTo (history : List Event) (clones : List SubJob) (n phase : ℕ) : Type 0 where
  pub lets : (q : ℕ) → q ≤ 4294967295 → list_all (λ (other : SubJob). nat_le q other.phase || is_at_rest history other) (take n clones) ≡ nat_le q phase
  pub small : (k : ℕ) (job : SubJob) → k < n → slice_get clones k ≡ Some job → job.phase ≤ 4294967295

-- with one more of them, which is at rest or keeps its phase open
narrowed : (q a b n : ℕ) (rest : Bool) → ((rest ≡ true) × (n ≡ a)) ⊎ ((rest ≡ false) × (n ≡ min a b)) → (nat_le q a && ((nat_le q b || rest) && true)) ≡ nat_le q n
narrowed q a b n rest (inl same) =
    same_truth (nat_le q a && ((nat_le q b || rest) && true)) (nat_le q n)
    (λ both. le-leb q n (omega (arith, same.1, leb-true q a (and_parts (nat_le q a) ((nat_le q b || rest) && true) both).0)))
    (λ low. and_from (nat_le q a) ((nat_le q b || rest) && true) (le-leb q a (omega (arith, same.1, leb-true q n low))) (and_from (nat_le q b || rest) true (or_right (nat_le q b) rest same.0) refl))
narrowed q a b n rest (inr less) =
    same_truth (nat_le q a && ((nat_le q b || rest) && true)) (nat_le q n) there back
  where
    there : (nat_le q a && ((nat_le q b || rest) && true)) ≡ true → nat_le q n ≡ true
    there both =
        let parts = and_parts (nat_le q a) ((nat_le q b || rest) && true) both in
        let second : nat_le q b ≡ true = elim (or_cases (nat_le q b) rest (and_parts (nat_le q b || rest) true parts.1).0) [
          | inl low ↦ low
          | inr rests_on ↦ absurd (both_ways rest less.0 rests_on)
        ] in
        le-leb q n (omega (arith, less.1, le-min (leb-true q a parts.0) (leb-true q b second)))

    back : nat_le q n ≡ true → (nat_le q a && ((nat_le q b || rest) && true)) ≡ true
    back low =
        let below = leb-true q n low in
        and_from (nat_le q a) ((nat_le q b || rest) && true) (le-leb q a (omega (arith, less.1, below, min-le_left a b)))
        (and_from (nat_le q b || rest) true (or_left (nat_le q b) rest (le-leb q b (omega (arith, less.1, below, min-le_right a b)))) refl)

pub opens_next : (history : List Event) (clones : List SubJob) (i phase next : ℕ) (job : SubJob) → slice_get clones i ≡ Some job → job.phase ≤ 4294967295 → ((is_at_rest history job ≡ true) × (next ≡ phase)) ⊎ ((is_at_rest history job ≡ false) × (next ≡ min phase job.phase)) → IsOpenTo history clones i phase → IsOpenTo history clones (i + 1) next
opens_next history clones i phase next job here few step before = record { lets = lets; small = small }
  where
    lets : (q : ℕ) → q ≤ 4294967295 → list_all (λ (other : SubJob). nat_le q other.phase || is_at_rest history other) (take (i + 1) clones) ≡ nat_le q next
    lets q low =
        all_next (λ (other : SubJob). nat_le q other.phase || is_at_rest history other) clones i job here
        ∙ ap (λ (b : Bool). b && ((nat_le q job.phase || is_at_rest history job) && true)) (before.lets q low)
        ∙ narrowed q phase job.phase next (is_at_rest history job) step

    small : (k : ℕ) (other : SubJob) → k < i + 1 → slice_get clones k ≡ Some other → other.phase ≤ 4294967295
    small k other below at =
        elim (cases_eq k i) [
          | inl same ↦
              let equal : job ≡ other = same_Some job other (sym here ∙ ap (slice_get clones) (sym same) ∙ at) in
              subst (λ (j : SubJob). j.phase ≤ 4294967295) equal few
          | inr apart ↦
              elim (cases_lt k i) [
                | inl earlier ↦ before.small k other earlier at
                | inr high ↦ absurd (apart (omega (arith, below, high)))
              ]
        ]

pub opens_all : (plan : Plan) (history : List Event) (n phase : ℕ) → length plan.clones ≤ n → IsOpenTo history plan.clones n phase → (clone : ℕ) (job : SubJob) → clone_of plan clone ≡ Some job → phase_is_open plan history job ≡ nat_le job.phase phase
opens_all plan history n phase all sofar clone job at =
    let whole : take n plan.clones ≡ plan.clones = take_all n plan.clones all in
    let within : clone < length plan.clones = slice_get_within plan.clones clone job at in
    let low : job.phase ≤ 4294967295 = sofar.small clone job (omega (arith, within, all)) at in
    ap (list_all (λ (other : SubJob). nat_le job.phase other.phase || is_at_rest history other)) (sym whole) ∙ sofar.lets job.phase low

-- the clones that are passed by

pub rests_up_to : (plan : Plan) (history : List Event) (n : ℕ)
    → ((c : ℕ) (job : SubJob) → clone_of plan c ≡ Some job → c < n → is_at_rest history job ≡ true)
    → ((job : SubJob) → clone_of plan n ≡ Some job → is_at_rest history job ≡ true)
    → (c : ℕ) (job : SubJob) → clone_of plan c ≡ Some job → c < n + 1 → is_at_rest history job ≡ true
rests_up_to plan history n before here c job there below =
    elim (cases_eq c n) [
      | inl same ↦ here job (ap (clone_of plan) (sym same) ∙ there)
      | inr apart ↦
          elim (cases_lt c n) [
            | inl earlier ↦ before c job there earlier
            | inr high ↦ absurd (apart (omega (arith, below, high)))
          ]
    ]

-- none of the first n clones is of an earlier phase than this, unless it is at rest, and a clone is of this phase or an earlier one
pub record IsEarliest (plan : Plan) (history : List Event) (n clone phase : ℕ) : Type 0 where
  pub own : (job : SubJob) → clone_of plan clone ≡ Some job → job.phase ≤ phase
  pub others : (c : ℕ) (job : SubJob) → clone_of plan c ≡ Some job → c < n → job.phase < phase → is_at_rest history job ≡ true

pub earliest_none : (plan : Plan) (history : List Event) (phase : ℕ) → IsEarliest plan history 0 (length plan.clones) phase
earliest_none plan history phase = record {
  own = λ job there. absurd (omega (arith, slice_get_within plan.clones (length plan.clones) job there));
  others = λ c job there below before. absurd (omega (arith, below));
}

-- one clone further, which is at rest or of no earlier phase
pub earliest_same : (plan : Plan) (history : List Event) (n clone phase : ℕ) (one : SubJob) → IsEarliest plan history n clone phase
    → clone_of plan n ≡ Some one
    → (one.phase < phase → is_at_rest history one ≡ true)
    → IsEarliest plan history (n + 1) clone phase
earliest_same plan history n clone phase one was here rests = record {
  own = was.own;
  others = λ c job there below before.
      elim (cases_eq c n) [
        | inl same ↦
            let equal : one ≡ job = same_Some one job (sym here ∙ ap (clone_of plan) (sym same) ∙ there) in
            subst (λ (j : SubJob). j.phase < phase → is_at_rest history j ≡ true) equal rests before
        | inr apart ↦ was.others c job there (below_last c n below apart) before
      ];
}
  where
    below_last : (c n : ℕ) → c < n + 1 → (c ≡ n → ⊥) → c < n
    below_last c n below apart = omega (arith, below, apart)

-- or which is the one
pub earliest_here : (plan : Plan) (history : List Event) (n clone phase : ℕ) (one : SubJob) → IsEarliest plan history n clone phase
    → clone_of plan n ≡ Some one
    → one.phase < phase
    → IsEarliest plan history (n + 1) n one.phase
earliest_here plan history n clone phase one was here before_it = record {
  own = λ job there. let same = ap (λ (j : SubJob). j.phase) (same_Some one job (sym here ∙ there)) in omega (arith, same);
  others = λ c job there below before.
      elim (cases_eq c n) [
        | inl same ↦
            let equal = ap (λ (j : SubJob). j.phase) (same_Some one job (sym here ∙ ap (clone_of plan) (sym same) ∙ there)) in
            absurd (omega (arith, equal, before))
        | inr apart ↦ was.others c job there (below_last c n below apart) (omega (arith, before, before_it))
      ];
}
  where
    below_last : (c n : ℕ) → c < n + 1 → (c ≡ n → ⊥) → c < n
    below_last c n below apart = omega (arith, below, apart)

-- the phase of a clone that isn't at rest is open, and no later one, where all of earlier phases are
pub opens_by : (plan : Plan) (history : List Event) (e : ℕ) (first : SubJob) → clone_of plan e ≡ Some first
    → is_at_rest history first ≡ false
    → ((c : ℕ) (job : SubJob) → clone_of plan c ≡ Some job → job.phase < first.phase → is_at_rest history job ≡ true)
    → (job : SubJob)
    → phase_is_open plan history job ≡ nat_le job.phase first.phase
opens_by plan history e first there stirs rests job =
    same_truth (phase_is_open plan history job) (nat_le job.phase first.phase) low all
  where
    low : phase_is_open plan history job ≡ true → nat_le job.phase first.phase ≡ true
    low opened =
        elim (or_cases (nat_le job.phase first.phase) (is_at_rest history first)
        (all_at (λ (other : SubJob). nat_le job.phase other.phase || is_at_rest history other) plan.clones e first opened there)) [
          | inl below ↦ below
          | inr rest ↦ absurd (both_ways (is_at_rest history first) stirs rest)
        ]

    all : nat_le job.phase first.phase ≡ true → phase_is_open plan history job ≡ true
    all below =
        all_from (λ (other : SubJob). nat_le job.phase other.phase || is_at_rest history other) plan.clones
        (λ c other at.
        elim (cases_lt other.phase first.phase) [
          | inl earlier ↦ or_right (nat_le job.phase other.phase) (is_at_rest history other) (rests c other at earlier)
          | inr later ↦ or_left (nat_le job.phase other.phase) (is_at_rest history other)
              (le-leb job.phase other.phase (omega (arith, leb-true job.phase first.phase below, later)))
        ])

-- where all of earlier phases than the last are at rest, all phases up to it are open
pub opens_last : (plan : Plan) (history : List Event) (first : SubJob) (last : ℕ)
    → ((c : ℕ) (job : SubJob) → clone_of plan c ≡ Some job → job.phase < first.phase → is_at_rest history job ≡ true)
    → last ≤ first.phase
    → (job : SubJob) → job.phase ≤ last
    → phase_is_open plan history job ≡ nat_le job.phase last
opens_last plan history first last rests none_later job below =
    all_from (λ (other : SubJob). nat_le job.phase other.phase || is_at_rest history other) plan.clones
    (λ c other at.
    elim (cases_lt other.phase job.phase) [
      | inl earlier ↦ or_right (nat_le job.phase other.phase) (is_at_rest history other)
          (rests c other at (omega (arith, earlier, below, none_later)))
      | inr later ↦ or_left (nat_le job.phase other.phase) (is_at_rest history other) (le-leb job.phase other.phase later)
    ])
    ∙ sym (le-leb job.phase last below)
