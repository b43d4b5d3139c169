-- What the current round of a clone says of the groups of the pass that the clone is in.
use Rattle.std.proofs.Common.{◌≡◌, ℕ, ◌<◌, ◌≤◌, List, [], ◌∷◌, map, Bool, true, false, ◌&&◌, ◌||◌, not, refl, sym, ◌∙◌, ap, subst, arith, inl, inr}
use Rattle.std.specs.Prelude.{◌⊎◌, Option, Some, None, slice_get, nat_lt, ◌==◌, filter}
use Rattle.std.specs.List.{list_any, list_all, range_with_len}
use Rattle.std.proofs.lemmas.Bool.{and_parts, and_from, and_right, eq-eqb, lt-ltb, cases_lt, cases_order, not-true, not_from_true, not_from_false, or_left, or_right, or_cases, both_ways, false_from_ne_true, false≢true}
use Rattle.jr_model.specs.declared.events.Event.{Event}
use Rattle.jr_model.specs.declared.events.WriteId.{WriteId}
use Rattle.jr_model.specs.declared.workloads.Draw.{Draw}
use Rattle.jr_model.specs.Draws.{draws_of_job}
use Rattle.jr_model.specs.History.{same_write}
use Rattle.jr_model.specs.Plan.{Plan, SubJob, IsNumbered}
use Rattle.jr_model.specs.Rounds.{pass_of, write_id, is_write_draw, issued_count, all_issued, issued_among, is_settled, is_full, is_closed, waits_for_round, rounds_closed, pass_finished, has_rounds, group_of, group_count, group_index}
use Rattle.jr_model.proofs.LegalLaws.{same_write_refl, number_of_draw}
use Rattle.jr_model.proofs.Equality.{eq_write}
use Rattle.jr_model.proofs.PlaceLemmas.{any_found, any_at, got_made, got_filtered, made_at, ranged_at}
use Rattle.jr_model.proofs.PlanLemmas.{numbered_of}
use Rattle.jr_model.proofs.BoolLemmas.{same_truth}
use Rattle.jr_laws_quiet.proofs.Issues.{all_at, finished_parts}
use Rattle.jr_laws_quiet.proofs.Groups.{got_filter}
use Rattle.jr_laws_quiet.proofs.Members.{in_own_group, member_is, full_issued, index_mono}
use Rattle.jr_laws_quiet.proofs.Phases.{GroupsInTurn}
use Rattle.jr_backlog.specs.Rounds.{Round, is_due}
use Rattle.jr_backlog.specs.Rounds as kept
use Rattle.jr_backlog.specs.CurrentRound.{is_left, last_issued, round_up_to, current_round}
use Rattle.jr_laws_rounds.specs.Rounds.{HasRound}
use Rattle.jr_laws_rounds.specs.Standing.{is_under_way}
use Rattle.jr_laws_rounds.proofs.CurrentPhases.{IsLast, LastIs, all_finished, groups_turn}
use Rattle.jr_laws_rounds.proofs.CurrentLast.{last_is}
use Rattle.jr_laws_rounds.proofs.CurrentRounds.{round_in, due_is_full, closed_is, closed_empties, member_settled, nothing_under_way, waited_for, waiting_group, waits_with}

-- the writes of a list of draws are of the pass
all_in_pass : (job : SubJob) (p : ℕ) (draws : List Draw) → list_all (λ (write : WriteId). (write.clone == job.clone) && (write.pass == p)) (map (write_id (pass_of job p)) draws) ≡ true
all_in_pass job p [] = refl
all_in_pass job p (d ∷ draws) =
    and_from ((job.clone == job.clone) && (p == p)) (list_all (λ (write : WriteId). (write.clone == job.clone) && (write.pass == p)) (map (write_id (pass_of job p)) draws))
    (and_from (job.clone == job.clone) (p == p) (eq-eqb job.clone job.clone refl) (eq-eqb p p refl))
    (all_in_pass job p draws)

-- where each is full, all are closed exactly where none is full and not closed
all_or_none : (full closed : ℕ → Bool) (gs : List ℕ) → ((g : ℕ) → full g ≡ true) → list_all closed gs ≡ not (list_any (λ (g : ℕ). full g && not (closed g)) gs)
all_or_none full closed [] each = refl
all_or_none full closed (g ∷ gs) each =
    one (closed g) (full g) (list_all closed gs) (list_any (λ (i : ℕ). full i && not (closed i)) gs) (each g) (all_or_none full closed gs each)
  where
    one : (c f r a : Bool) → f ≡ true → r ≡ not a → (c && r) ≡ not ((f && not c) || a)
    one true true r a is rest = rest
    one false true r a is rest = refl
    one c false r a is rest = absurd (false≢true is)

-- the group of the write that was issued last
abbrev last_group : SubJob → WriteId → ℕ
last_group job w = group_index (pass_of job w.pass) w.number

module _ (h : List Event) (job : SubJob) (w : WriteId) (last : IsLast job h w) where
  last_within : last_group job w < group_count (pass_of job w.pass)
  last_within = (in_own_group job w.pass w.number last.draw last.drawn last.writes).1

  -- a write of its pass that was issued stands in its group, or in one before
  not_beyond : (d : Draw) → slice_get (draws_of_job job w.pass) d.number ≡ Some d → is_write_draw d ≡ true → d.number < issued_count h (pass_of job w.pass) → group_index (pass_of job w.pass) d.number ≤ last_group job w
  not_beyond d drawn writes issued =
      elim (last.furthest w.pass d.number d drawn writes issued) [
        | inl before ↦ absurd (omega (arith, before))
        | inr here ↦ index_mono job w.pass d.number w.number here.1
      ]

  module _ (groups : GroupsInTurn job h) (rounds : has_rounds job ≡ true) where
    -- so a group that isn't closed, and has a write that was issued, is its own
    is_own : (d : Draw) → slice_get (draws_of_job job w.pass) d.number ≡ Some d → is_write_draw d ≡ true → d.number < issued_count h (pass_of job w.pass) → is_closed h (pass_of job w.pass) (group_index (pass_of job w.pass) d.number) ≡ false → group_index (pass_of job w.pass) d.number ≡ last_group job w
    is_own d drawn writes issued still =
        let g = group_index (pass_of job w.pass) d.number in
        let low = not_beyond d drawn writes issued in
        elim (cases_lt g (last_group job w)) [
          | inl before ↦ absurd (both_ways (is_closed h (pass_of job w.pass) g) still (groups w.pass w.number g rounds last.issued before))
          | inr above ↦ omega (arith, low, above)
        ]

    -- where the pass of the last write waits
    own_waits : waits_for_round h (pass_of job w.pass) ≡ is_under_way (round_in job h w.pass (last_group job w))
    own_waits =
        same_truth (waits_for_round h (pass_of job w.pass)) (is_under_way (round_in job h w.pass (last_group job w))) to from
      where
        to : waits_for_round h (pass_of job w.pass) ≡ true → is_under_way (round_in job h w.pass (last_group job w)) ≡ true
        to waits =
            let pass = pass_of job w.pass in
            let own = last_group job w in
            let x = waiting_group h job w.pass waits in
            let d = waited_for h job w.pass x.group x.below x.full x.unclosed in
            let unclosed : is_closed h pass (group_index pass d.draw.number) ≡ false = ap (is_closed h pass) d.index ∙ x.unclosed in
            let same : x.group ≡ own = sym d.index ∙ is_own d.draw d.drawn d.writes d.issued unclosed in
            let full : is_full h pass own ≡ true = ap (is_full h pass) (sym same) ∙ x.full in
            let still : is_closed h pass own ≡ false = ap (is_closed h pass) (sym same) ∙ x.unclosed in
            and_from (is_due (round_in job h w.pass own)) (not (kept.is_closed (round_in job h w.pass own)))
            (due_is_full h job w.pass own ∙ full)
            (not_from_false (kept.is_closed (round_in job h w.pass own)) (closed_is h job w.pass own last_within full ∙ still))

        from : is_under_way (round_in job h w.pass (last_group job w)) ≡ true → waits_for_round h (pass_of job w.pass) ≡ true
        from going =
            let own = last_group job w in
            let parts = and_parts (is_due (round_in job h w.pass own)) (not (kept.is_closed (round_in job h w.pass own))) going in
            let full : is_full h (pass_of job w.pass) own ≡ true = sym (due_is_full h job w.pass own) ∙ parts.0 in
            let still : is_closed h (pass_of job w.pass) own ≡ false =
            sym (closed_is h job w.pass own last_within full) ∙ not-true (kept.is_closed (round_in job h w.pass own)) parts.1 in
            waits_with h job w.pass own rounds last_within full still

    -- what is left of its group, where that is full
    own_left : (k : ℕ) (draw : Draw)
        → slice_get (draws_of_job job w.pass) k ≡ Some draw
        → is_write_draw draw ≡ true
        → (is_due (round_in job h w.pass (last_group job w)) && list_any (same_write (write_id (pass_of job w.pass) draw)) (round_in job h w.pass (last_group job w)).to_check)
        ≡ (is_full h (pass_of job w.pass) (group_index (pass_of job w.pass) draw.number) && not (is_settled h (write_id (pass_of job w.pass) draw)))
    own_left k draw at writes =
        same_truth (is_due (round_in job h w.pass own) && list_any (same_write name) (round_in job h w.pass own).to_check)
        (is_full h (pass_of job w.pass) (group_index (pass_of job w.pass) draw.number) && not (is_settled h name)) to from
      where
        own : ℕ
        own = last_group job w

        name : WriteId
        name = write_id (pass_of job w.pass) draw

        group : List Draw
        group = group_of (pass_of job w.pass) own

        drawn : slice_get (draws_of_job job w.pass) draw.number ≡ Some draw
        drawn = ap (slice_get (draws_of_job job w.pass)) (number_of_draw job w.pass k draw at) ∙ at

        to : (is_due (round_in job h w.pass own) && list_any (same_write name) (round_in job h w.pass own).to_check) ≡ true → (is_full h (pass_of job w.pass) (group_index (pass_of job w.pass) draw.number) && not (is_settled h name)) ≡ true
        to both =
            let pass = pass_of job w.pass in
            let parts = and_parts (is_due (round_in job h w.pass own)) (list_any (same_write name) (round_in job h w.pass own).to_check) both in
            let hit = any_found (same_write name) (round_in job h w.pass own).to_check parts.1 in
            let made = got_made (write_id pass) (filter (is_left h pass) group) hit.0 hit.1 hit.2 in
            let there = got_filtered (is_left h pass) group hit.0 made.0 made.1 in
            let same : name ≡ write_id pass made.0 = eq_write name hit.1 hit.3 ∙ sym made.2 in
            let number : draw.number ≡ made.0.number = ap (λ (x : WriteId). x.number) same in
            let member = member_is job w.pass own made.0 (record { place = there.0; at = there.1 }) last_within in
            let index : group_index pass draw.number ≡ own = ap (group_index pass) number ∙ member.index in
            let full : is_full h pass own ≡ true = sym (due_is_full h job w.pass own) ∙ parts.0 in
            let left = and_parts (nat_lt made.0.number (issued_count h pass)) (not (is_settled h (write_id pass made.0))) there.2 in
            and_from (is_full h pass (group_index pass draw.number)) (not (is_settled h name))
            (ap (is_full h pass) index ∙ full)
            (ap (λ (x : WriteId). not (is_settled h x)) same ∙ left.1)

        from : (is_full h (pass_of job w.pass) (group_index (pass_of job w.pass) draw.number) && not (is_settled h name)) ≡ true → (is_due (round_in job h w.pass own) && list_any (same_write name) (round_in job h w.pass own).to_check) ≡ true
        from both =
            let pass = pass_of job w.pass in
            let g = group_index pass draw.number in
            let parts = and_parts (is_full h pass g) (not (is_settled h name)) both in
            let unsettled : is_settled h name ≡ false = not-true (is_settled h name) parts.1 in
            let inside = in_own_group job w.pass draw.number draw drawn writes in
            let issued = full_issued h job w.pass g draw parts.0 inside.0 inside.1 in
            let still : is_closed h pass g ≡ false =
            false_from_ne_true (is_closed h pass g) (λ closed. both_ways (is_settled h name) unsettled (member_settled h job w.pass g draw closed inside.0)) in
            let same : g ≡ own = is_own draw drawn writes issued still in
            let here : slice_get group inside.0.place ≡ Some draw = ap (λ (i : ℕ). slice_get (group_of pass i) inside.0.place) (sym same) ∙ inside.0.at in
            let left : is_left h pass draw ≡ true =
            and_from (nat_lt draw.number (issued_count h pass)) (not (is_settled h name)) (lt-ltb draw.number (issued_count h pass) issued) parts.1 in
            let found = got_filter (is_left h pass) group inside.0.place draw here left in
            let there = made_at (write_id pass) (filter (is_left h pass) group) found.0 draw found.1 in
            and_from (is_due (round_in job h w.pass own)) (list_any (same_write name) (round_in job h w.pass own).to_check)
            (due_is_full h job w.pass own ∙ ap (is_full h pass) (sym same) ∙ parts.0)
            (any_at (same_write name) (round_in job h w.pass own).to_check found.0 name there (same_write_refl name))

-- no write of the pass was issued
abbrev NoneIn : SubJob → List Event → ℕ → Type 0
NoneIn job h p =
    (k : ℕ) (d : Draw) → slice_get (draws_of_job job p) k ≡ Some d → is_write_draw d ≡ true → k < issued_count h (pass_of job p) → ⊥

-- so no group of it waits
none_waits : (h : List Event) (job : SubJob) (p : ℕ) → NoneIn job h p → waits_for_round h (pass_of job p) ≡ false
none_waits h job p none =
    false_from_ne_true (waits_for_round h (pass_of job p))
    (λ waits.
    let x = waiting_group h job p waits in
    let d = waited_for h job p x.group x.below x.full x.unclosed in
    none d.draw.number d.draw d.drawn d.writes d.issued)

-- and no write of it is to check
none_left : (h : List Event) (job : SubJob) (p k : ℕ) (draw : Draw) (round : Round) → round.to_check ≡ [] → NoneIn job h p → slice_get (draws_of_job job p) k ≡ Some draw → is_write_draw draw ≡ true → (is_due round && list_any (same_write (write_id (pass_of job p) draw)) round.to_check) ≡ (is_full h (pass_of job p) (group_index (pass_of job p) draw.number) && not (is_settled h (write_id (pass_of job p) draw)))
none_left h job p k draw round empty none at writes =
    let pass = pass_of job p in
    let name = write_id pass draw in
    let g = group_index pass draw.number in
    let drawn : slice_get (draws_of_job job p) draw.number ≡ Some draw = ap (slice_get (draws_of_job job p)) (number_of_draw job p k draw at) ∙ at in
    let inside = in_own_group job p draw.number draw drawn writes in
    and_right (is_due round) (list_any (same_write name) round.to_check) (ap (list_any (same_write name)) empty)
    ∙ sym (false_from_ne_true (is_full h pass g && not (is_settled h name))
    (λ both.
    let parts = and_parts (is_full h pass g) (not (is_settled h name)) both in
    none draw.number draw drawn writes (full_issued h job p g draw parts.0 inside.0 inside.1)))

module _ (plan : Plan) (h : List Event) (job : SubJob) (pass : ℕ) (has : HasRound plan h job pass) where
  numbered : IsNumbered plan
  numbered = numbered_of plan has.planned

  groups : GroupsInTurn job h
  groups = groups_turn plan numbered job has.there h has.legal

  last : LastIs job h (last_issued job.clone h)
  last = last_is plan numbered job has.there h has.legal

  -- the passes before this one are finished
  earlier_done : (p : ℕ) → p < pass → pass_finished h (pass_of job p) ≡ true
  earlier_done p before =
      let within = has.in_pass.within in
      all_finished h job p pass before (omega (arith, within)) has.in_pass.before

  earlier_issued : (p : ℕ) → p < pass → all_issued h (pass_of job p) ≡ true
  earlier_issued p before =
      eq-eqb (issued_count h (pass_of job p)) _ (finished_parts h (pass_of job p) (earlier_done p before)).issued

  earlier_closed : (p g : ℕ) → p < pass → g < group_count (pass_of job p) → is_closed h (pass_of job p) g ≡ true
  earlier_closed p g before below =
      let closed : ℕ → Bool = λ (i : ℕ). is_closed h (pass_of job p) i in
      let gs = range_with_len 0 (group_count (pass_of job p)) in
      elim (or_cases (not (has_rounds job)) (list_all closed gs) (finished_parts h (pass_of job p) (earlier_done p before)).closed) [
        | inl none ↦ absurd (both_ways (not (has_rounds job)) (not_from_true (has_rounds job) has.rounds) none)
        | inr all ↦ all_at closed gs g g all (ranged_at 0 (group_count (pass_of job p)) g below ∙ ap Some (omega arith))
      ]

  -- the last write is of this pass, or of one before that has nothing left
  last_cases : (w : WriteId) → IsLast job h w → (w.pass ≡ pass) ⊎ ((w.pass < pass) × ((round_up_to job h (Some w)).to_check ≡ []) × NoneIn job h pass)
  last_cases w of_it =
      elim (cases_order w.pass pass) [
        | inl same ↦ inl same
        | inr other ↦
            elim other [
              | inl before ↦
                  inr (
                    before,
                    closed_empties h job w.pass (last_group job w) (earlier_closed w.pass (last_group job w) before (last_within h job w of_it)),
                    λ k d drawn writes issued. beyond before (of_it.furthest pass k d drawn writes issued),
                  )
              | inr after ↦ let none = has.in_pass.after w.pass after in let some = of_it.issued in absurd (omega (arith, none, some))
            ]
      ]
    where
      beyond : {k : ℕ} → w.pass < pass → (pass < w.pass) ⊎ ((pass ≡ w.pass) × (k ≤ w.number)) → ⊥
      beyond before (inl after) = absurd (omega (arith, before, after))
      beyond before (inr same) = let one = same.0 in absurd (omega (arith, before, one))

  waits_by : (o : Option WriteId) → LastIs job h o → waits_for_round h (pass_of job pass) ≡ is_under_way (round_up_to job h o)
  waits_by None none = none_waits h job pass (none pass) ∙ sym (nothing_under_way (round_up_to job h None) refl)
  waits_by (Some w) of_it =
      elim (last_cases w of_it) [
        | inl same ↦
            subst (λ (p : ℕ). waits_for_round h (pass_of job p) ≡ is_under_way (round_up_to job h (Some w))) same
            (own_waits h job w of_it groups has.rounds)
        | inr done ↦ none_waits h job pass done.2 ∙ sym (nothing_under_way (round_up_to job h (Some w)) done.1)
      ]

  waits_is : waits_for_round h (pass_of job pass) ≡ is_under_way (current_round job h)
  waits_is = waits_by (last_issued job.clone h) last

  in_pass_by : (o : Option WriteId) → LastIs job h o → list_all (λ (write : WriteId). (write.clone == job.clone) && (write.pass == pass)) (round_up_to job h o).to_check ≡ true
  in_pass_by None none = refl
  in_pass_by (Some w) of_it =
      elim (last_cases w of_it) [
        | inl same ↦
            subst (λ (p : ℕ). list_all (λ (write : WriteId). (write.clone == job.clone) && (write.pass == p)) (round_up_to job h (Some w)).to_check ≡ true) same
            (all_in_pass job w.pass (filter (is_left h (pass_of job w.pass)) (group_of (pass_of job w.pass) (last_group job w))))
        | inr done ↦ ap (list_all (λ (write : WriteId). (write.clone == job.clone) && (write.pass == pass))) done.1
      ]

  left_by : (k : ℕ) (draw : Draw) (o : Option WriteId)
      → LastIs job h o
      → slice_get (draws_of_job job pass) k ≡ Some draw
      → is_write_draw draw ≡ true
      → (is_due (round_up_to job h o) && list_any (same_write (write_id (pass_of job pass) draw)) (round_up_to job h o).to_check)
      ≡ (is_full h (pass_of job pass) (group_index (pass_of job pass) draw.number) && not (is_settled h (write_id (pass_of job pass) draw)))
  left_by k draw None none at writes = none_left h job pass k draw (round_up_to job h None) refl (none pass) at writes
  left_by k draw (Some w) of_it at writes =
      elim (last_cases w of_it) [
        | inl same ↦
            subst
            (λ (p : ℕ). slice_get (draws_of_job job p) k ≡ Some draw → (is_due (round_up_to job h (Some w)) && list_any (same_write (write_id (pass_of job p) draw)) (round_up_to job h (Some w)).to_check) ≡ (is_full h (pass_of job p) (group_index (pass_of job p) draw.number) && not (is_settled h (write_id (pass_of job p) draw))))
            same (λ there. own_left h job w of_it groups has.rounds k draw there writes) at
        | inr done ↦ none_left h job pass k draw (round_up_to job h (Some w)) done.1 done.2 at writes
      ]

  -- where all draws of the pass were issued the round is due
  due_by : (o : Option WriteId) → LastIs job h o → all_issued h (pass_of job pass) ≡ true → is_due (round_up_to job h o) ≡ true
  due_by None none all =
      or_right (nat_lt 0 job.backlog && (0 == job.backlog)) (all_issued h (pass_of job 0))
      (elim (cases_lt 0 pass) [
        | inl later ↦ earlier_issued 0 later
        | inr here ↦ let first : pass ≡ 0 = omega (arith, here) in ap (λ (p : ℕ). all_issued h (pass_of job p)) (sym first) ∙ all
      ])
  due_by (Some w) of_it all =
      or_right (nat_lt 0 job.backlog && ((round_up_to job h (Some w)).count == job.backlog)) (all_issued h (pass_of job w.pass))
      (elim (last_cases w of_it) [
        | inl same ↦ ap (λ (p : ℕ). all_issued h (pass_of job p)) same ∙ all
        | inr done ↦ earlier_issued w.pass done.0
      ])

  closed_at_end_is : all_issued h (pass_of job pass) ≡ true → rounds_closed h (pass_of job pass) ≡ kept.is_closed (current_round job h)
  closed_at_end_is all =
      let here = pass_of job pass in
      let gs = range_with_len 0 (group_count here) in
      let closed : ℕ → Bool = λ (g : ℕ). is_closed h here g in
      let full : ℕ → Bool = λ (g : ℕ). is_full h here g in
      let waits : ℕ → Bool = λ (g : ℕ). full g && not (closed g) in
      let each : (g : ℕ) → full g ≡ true = λ g. or_left (all_issued h here) (nat_lt 0 job.backlog && (issued_among h here (group_of here g) == job.backlog)) all in
      let due = due_by (last_issued job.clone h) last all in
      ap (λ (b : Bool). not b || list_all closed gs) has.rounds
      ∙ all_or_none full closed gs each
      ∙ ap not (sym (ap (λ (b : Bool). b && list_any waits gs) has.rounds))
      ∙ ap not waits_is
      ∙ ap (λ (b : Bool). not (b && not (kept.is_closed (current_round job h)))) due
      ∙ twice (kept.is_closed (current_round job h))
    where
      twice : (b : Bool) → not (not b) ≡ b
      twice true = refl
      twice false = refl

pub waits-law : (plan : Plan) (history : List Event) (job : SubJob) (pass : ℕ) → HasRound plan history job pass → waits_for_round history (pass_of job pass) ≡ is_under_way (current_round job history)
waits-law plan history job pass has = waits_is plan history job pass has

pub closed_at_end-law : (plan : Plan) (history : List Event) (job : SubJob) (pass : ℕ) → HasRound plan history job pass → all_issued history (pass_of job pass) ≡ true → rounds_closed history (pass_of job pass) ≡ kept.is_closed (current_round job history)
closed_at_end-law plan history job pass has all = closed_at_end_is plan history job pass has all

pub left_in_pass-law : (plan : Plan) (history : List Event) (job : SubJob) (pass : ℕ) → HasRound plan history job pass → list_all (λ (write : WriteId). (write.clone == job.clone) && (write.pass == pass)) (current_round job history).to_check ≡ true
left_in_pass-law plan history job pass has = in_pass_by plan history job pass has (last_issued job.clone history) (last plan history job pass has)

pub left_unsettled-law : (plan : Plan) (history : List Event) (job : SubJob) (pass k : ℕ) (draw : Draw)
    → HasRound plan history job pass
    → slice_get (draws_of_job job pass) k ≡ Some draw
    → is_write_draw draw ≡ true
    → (is_due (current_round job history) && list_any (same_write (write_id (pass_of job pass) draw)) (current_round job history).to_check)
    ≡ (is_full history (pass_of job pass) (group_index (pass_of job pass) draw.number) && not (is_settled history (write_id (pass_of job pass) draw)))
left_unsettled-law plan history job pass k draw has at writes =
    left_by plan history job pass has k draw (last_issued job.clone history) (last plan history job pass has) at writes
