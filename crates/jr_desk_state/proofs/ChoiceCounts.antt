-- A clone's step by its counts and its standing.
use Rattle.std.proofs.Common.{◌≡◌, ℕ, zero, suc, ◌+◌, ◌*◌, ◌^◌, ◌<◌, ◌≤◌, List, [], ◌∷◌, length, drop, get_or, Bool, true, false}
use Rattle.std.proofs.Common.{◌&&◌, ◌||◌, not, refl, sym, ◌∙◌, ap, subst, arith}
use Rattle.std.specs.Prelude.{Option, Some, None, IfSome, slice_get, nat_lt, nat_le, ◌==◌, is_some}
use Rattle.std.proofs.lemmas.Bool.{and_from, eq-eqb, ne_eqb, eqb-true, lt-ltb, le-ltb, lt-leb, or_left, and_left, and_right}
use Rattle.std.proofs.Math.ListN.{drop_of_length-le}
use Rattle.std.proofs.lemmas.Option.{slice_get_read}
use Rattle.jr_model.specs.declared.events.Event.{Event}
use Rattle.jr_model.specs.declared.workloads.Draw.{Draw}
use Rattle.jr_model.specs.Choice.{choice_of_clone}
use Rattle.jr_model.specs.Draws.{draws_of_job, draws_over}
use Rattle.jr_model.specs.History.{first_given}
use Rattle.jr_model.specs.Legal.{is_halted, has_room, phase_is_open}
use Rattle.jr_model.specs.Plan.{Plan, SubJob, clone_of}
use Rattle.jr_model.specs.Rounds.{pass_of, issued_count, has_rounds, no_issue_flies, pass_finished}
use Rattle.jr_model.specs.Tickets.{piece_fits}
use Rattle.jr_model.specs.Words.{pass_words}
use Rattle.jr_model.specs.PlanFacts.{IsPlanned}
use Rattle.jr_laws_draws.proofs.TheLaw.{pass_law, drawable_of}
use Rattle.jr_backlog.specs.CurrentRound.{current_round}
use Rattle.jr_backlog.specs.Deferred.{is_committed}
use Rattle.jr_model.proofs.PlaceLemmas.{got_dropped}
use Rattle.jr_model.proofs.ListLemmas.{all_got}
use Rattle.jr_desk_totals.specs.Tallies.{flying_issues, flying_checks}
use Rattle.jr_desk_totals.proofs.Compared.{tests_compared}
use Rattle.jr_desk_totals.proofs.Few.{counts_few}
use Rattle.jr_desk_totals.proofs.TallyMoves.{can_count, counts_are}
use Rattle.jr_laws_rounds.specs.Standing.{is_under_way, next_issue, take_up_write, step_in_pass}
use Rattle.jr_laws_rounds.proofs.StandingPasses.{done_parts}
use Rattle.jr_laws_steps.proofs.StartedFew.{started_small}
use Rattle.jr_desk_totals.specs.declared.tallies.Counts.{Counts}
use Rattle.jr_desk_totals.specs.Tallying.{counts_of}
use Rattle.jr_desk_state.specs.declared.board.Board.{Board}
use Rattle.jr_desk_state.specs.declared.standings.Standing.{Standing}
use Rattle.jr_desk_state.specs.Boards.{IsReady}
use Rattle.jr_desk_state.specs.Standings.{IsPrepared}
use Rattle.jr_desk_state.proofs.ChoiceMoves.{chosen, step_blocked, step_barred, step_checks, step_issues, next_unopened}
use Rattle.jr_desk_state.proofs.ChoiceBoards.{round_is}
use Rattle.jr_desk_state.proofs.StandingHere.{StandsHere, prepared, stands}

-- a clone's standing, and its counts
pub record CountsHere (plan : Plan) (board : Board) (c : ℕ) (job : SubJob) (standing : Standing) (counts : Counts) : Type 0 where
  pub here : StandsHere plan board c job standing
  pub are : counts ≡ counts_of board.history.items job

-- as they were read
pub counts_here : {plan : Plan} {board : Board} {c : ℕ} {job : SubJob} {standing : Standing} {counts : Counts}
    → StandsHere plan board c job standing → counts ≡ get_or board.tallies.counts.items c counts
    → CountsHere plan board c job standing counts
counts_here {plan = plan} {board = board} {c = c} {job = job} {counts = counts} here read =
    let history = board.history.items in
    let all = board.tallies.counts.items in
    let there = (can_count plan history board.tallies c job here.is.planned here.is.legal here.is.tallies here.planned).counts in
    record {
      here = here;
      are =
          counts_are plan history board.tallies c job counts here.is.tallies here.planned
          (slice_get_read all (length all) c counts refl there read);
    }

-- it is neither halted nor at its depth
pub record IsFree (job : SubJob) (counts : Counts) : Type 0 where
  pub runs : counts.is_halted ≡ false
  pub room : counts.issues + counts.checks < job.depth

-- its round is under way
pub record IsBusy (job : SubJob) (standing : Standing) : Type 0 where
  pub rounds : has_rounds job ≡ true
  pub settled : is_committed standing.rounds ≡ true
  pub waits : is_under_way standing.rounds.round ≡ true

pub free_here : {plan : Plan} {board : Board} {c : ℕ} {job : SubJob} {standing : Standing} {counts : Counts} {depth : ℕ}
    → CountsHere plan board c job standing counts → counts.is_halted ≡ false → counts.issues + counts.checks < depth → depth ≡ job.depth
    → IsFree job counts
free_here it runs room depth = record { runs = runs; room = omega (arith, room, depth) }

pub busy_here : {plan : Plan} {board : Board} {c : ℕ} {job : SubJob} {standing : Standing} {counts : Counts}
    → CountsHere plan board c job standing counts → IsReady plan board → has_rounds job ≡ true
    → is_under_way standing.rounds.round ≡ true → IsBusy job standing
busy_here it ready rounds waits = record { rounds = rounds; settled = (prepared it.here ready).settled; waits = waits }

blocked_full : (a b : Bool) → b ≡ false → (a || not b) ≡ true
blocked_full true b h = refl
blocked_full false b h = ap not h

unblocked : (a b : Bool) → a ≡ false → b ≡ true → (a || not b) ≡ false
unblocked a b first second = ap (λ x. x || not b) first ∙ ap not second

module _ {plan : Plan} {board : Board} {c : ℕ} {job : SubJob} {standing : Standing} {counts : Counts}
    (it : CountsHere plan board c job standing counts) where
  abbrev pub events : List Event
  events = board.history.items

  -- they are few
  pub few : counts.issues + counts.checks < 2 ^ 32
  few =
      let all = (counts_few plan events job.clone it.here.is.planned it.here.is.legal).ended in
      let small = started_small plan events it.here.is.planned it.here.is.legal in
      let issues : counts.issues ≡ flying_issues events job.clone = ap (λ (x : Counts). x.issues) it.are in
      let checks : counts.checks ≡ flying_checks events job.clone = ap (λ (x : Counts). x.checks) it.are in
      omega (arith, all, small, issues, checks)

  halted_is : is_halted events job ≡ counts.is_halted
  halted_is = sym (ap (λ (x : Counts). x.is_halted) it.are)

  pub runs_on : counts.is_halted ≡ false → is_halted events job ≡ false
  runs_on goes = halted_is ∙ goes

  room_is : has_room events job ≡ nat_lt (counts.issues + counts.checks) job.depth
  room_is =
      (tests_compared events job).room
      ∙ sym (ap {B = Bool} (λ (x : Counts). nat_lt (x.issues + x.checks) job.depth) it.are)

  quiet_is : no_issue_flies events job.clone ≡ (counts.issues == 0)
  quiet_is = (tests_compared events job).no_issue ∙ sym (ap {B = Bool} (λ (x : Counts). x.issues == 0) it.are)

  module _ (worker : ℕ) where
    step : choice_of_clone plan events worker job ≡ step_in_pass plan events worker job standing.pass
    step = chosen plan events worker c standing.pass job it.here.is.planned it.here.is.legal it.here.planned
        (stands it.here).in_pass

    blocked : (is_halted events job || not (has_room events job)) ≡ true
        → None ≡ choice_of_clone plan events worker job
    blocked by = sym (step ∙ step_blocked plan events worker job standing.pass by)

    pub none_halted : counts.is_halted ≡ true → None ≡ choice_of_clone plan events worker job
    none_halted halted =
        blocked (or_left (is_halted events job) (not (has_room events job)) (halted_is ∙ halted))

    pub none_full : job.depth ≤ counts.issues + counts.checks → None ≡ choice_of_clone plan events worker job
    none_full full =
        blocked (blocked_full (is_halted events job) (has_room events job)
        (room_is ∙ le-ltb (counts.issues + counts.checks) job.depth full))

    module _ (free : IsFree job counts) where
      unbarred : (is_halted events job || not (has_room events job)) ≡ false
      unbarred =
          unblocked (is_halted events job) (has_room events job) (runs_on free.runs)
          (room_is ∙ lt-ltb (counts.issues + counts.checks) job.depth free.room)

      round_of : has_rounds job ≡ true → is_committed standing.rounds ≡ true
          → is_under_way (current_round job events) ≡ is_under_way standing.rounds.round
      round_of rounds settled =
          sym (ap is_under_way (round_is (record { here = it.here; rounds = rounds; runs = runs_on free.runs }) settled))

      -- while its round is under way
      module _ (busy : IsBusy job standing) where
        pub waits_now : is_under_way (current_round job events) ≡ true
        waits_now = round_of busy.rounds busy.settled ∙ busy.waits

        both : (has_rounds job && is_under_way (current_round job events)) ≡ true
        both = and_from (has_rounds job) (is_under_way (current_round job events)) busy.rounds waits_now

        pub none_barred : 0 < counts.issues → None ≡ choice_of_clone plan events worker job
        none_barred some =
            sym (step ∙ step_barred plan events worker job standing.pass unbarred both
            (quiet_is ∙ ne_eqb counts.issues 0 (λ none. absurd (omega (arith, none, some)))))

        pub checks_first : counts.issues ≤ 0
            → first_given (take_up_write plan events worker job) (current_round job events).to_check
            ≡ choice_of_clone plan events worker job
        checks_first none =
            let quiet : counts.issues ≡ 0 = omega (arith, none) in
            sym (step ∙ step_checks plan events worker job standing.pass unbarred both (quiet_is ∙ eq-eqb counts.issues 0 quiet))

      -- and where it isn't, or there are no rounds
      pub none_waits : has_rounds job ≡ true → is_committed standing.rounds ≡ true → is_under_way standing.rounds.round ≡ false
          → (has_rounds job && is_under_way (current_round job events)) ≡ false
      none_waits rounds settled none =
          and_right (has_rounds job) (is_under_way (current_round job events)) (round_of rounds settled ∙ none)

      pub no_rounds : has_rounds job ≡ false → (has_rounds job && is_under_way (current_round job events)) ≡ false
      no_rounds none = and_left (has_rounds job) (is_under_way (current_round job events)) none

      module _ (none : (has_rounds job && is_under_way (current_round job events)) ≡ false) where
        pub issues_next : next_issue plan events worker job standing.pass
            ≡ choice_of_clone plan events worker job
        issues_next = sym (step ∙ step_issues plan events worker job standing.pass unbarred none)

        pub none_unopened : (phase : ℕ) → phase_is_open plan events job ≡ nat_le job.phase phase → phase < job.phase
            → None ≡ choice_of_clone plan events worker job
        none_unopened phase opens before =
            let unopened : nat_le job.phase phase ≡ false = lt-leb job.phase phase before in
            sym (next_unopened plan events worker job standing.pass (opens ∙ unopened)) ∙ issues_next

-- each draw of a planned clone can be looked for in flight
pub draws_fit : (plan : Plan) (c p n : ℕ) (job : SubJob) (draw : Option Draw) → IsPlanned plan → clone_of plan c ≡ Some job
    → draw ≡ slice_get (drop n (draws_of_job job p)) 0 → IfSome draw (λ (one : Draw). piece_fits one.piece ≡ true)
draws_fit plan c p n job None planned there first = tt
draws_fit plan c p n job (Some one) planned there first =
    let limits = planned.drafted.limited c job there in
    let law = pass_law job (drawable_of job limits) in
    let words = pass_words job p (4 * job.cells) in
    all_got (λ (d : Draw). piece_fits d.piece ≡ true) (draws_over job words) (n + 0) one (law.fits words)
    (got_dropped n (draws_of_job job p) 0 one (sym first))

pub first_left : {X : Type 0} (xs : List X) (n : ℕ) → slice_get (drop n xs) 0 ≡ slice_get xs n
first_left [] zero = refl
first_left [] (suc n) = refl
first_left (x ∷ xs) zero = refl
first_left (x ∷ xs) (suc n) = first_left xs n

module _ {plan : Plan} {board : Board} {c : ℕ} {job : SubJob} {standing : Standing} (here : StandsHere plan board c job standing) where
  abbrev pub past : List Event
  past = board.history.items

  -- the next draw of the pass that it is in
  pub draw_here : slice_get standing.draws 0 ≡ slice_get (draws_of_job job standing.pass) (issued_count past (pass_of job standing.pass))
  draw_here =
      ap (λ (draws : List Draw). slice_get draws 0) (stands here).draws
      ∙ first_left (draws_of_job job standing.pass) (issued_count past (pass_of job standing.pass))

  pub fits_here : (draw : Option Draw) → draw ≡ slice_get standing.draws 0 → IfSome draw (λ (one : Draw). piece_fits one.piece ≡ true)
  fits_here draw first =
      draws_fit plan c standing.pass (issued_count past (pass_of job standing.pass)) job draw here.is.planned here.planned
      (first ∙ ap (λ (draws : List Draw). slice_get draws 0) (stands here).draws)

  pub pass_below : standing.pass < 1000
  pass_below =
      let within = (stands here).in_pass.within in
      let most = (here.is.planned.drafted.limited c job here.planned).passes_most in
      omega (arith, within, most)

  -- the draws of the next pass, where they are made
  pub later_is : (draws : List Draw) → standing.later ≡ Some draws → draws ≡ draws_of_job job (suc standing.pass)
  later_is draws made = subst (λ (o : Option (List Draw)). IfSome o (λ ds. ds ≡ draws_of_job job (suc standing.pass))) made
      (stands here).later

  pub fits_later : (draws : List Draw) (draw : Option Draw) → standing.later ≡ Some draws → draw ≡ slice_get draws 0
      → IfSome draw (λ (one : Draw). piece_fits one.piece ≡ true)
  fits_later draws draw made first =
      draws_fit plan c (suc standing.pass) 0 job draw here.is.planned here.planned
      (first ∙ ap (λ (ds : List Draw). slice_get ds 0) (later_is draws made))

  over : pass_finished past (pass_of job standing.pass) ≡ true → standing.draws ≡ []
  over finished =
      let all = eqb-true (issued_count past (pass_of job standing.pass)) (length (draws_of_job job standing.pass))
      (done_parts past (pass_of job standing.pass) finished).issued in
      (stands here).draws
      ∙ drop_of_length-le (draws_of_job job standing.pass) (omega (arith, all))

  -- which are made where this pass is finished
  pub later_made : IsPrepared job standing → pass_finished past (pass_of job standing.pass) ≡ true → suc standing.pass < job.passes
      → standing.later ≡ None → ⊥
  later_made prepared finished follows none =
      let made : is_some standing.later ≡ true = prepared.later (over finished) follows in
      let empty : false ≡ true = sym (ap is_some none) ∙ made in
      cc
