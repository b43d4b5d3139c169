-- Writes whose group is full and that aren't settled: what is checked or skipped next, and what a check in flight is of. The
-- current round has each of them to check.
use Rattle.std.proofs.Common.{◌≡◌, ℕ, ◌<◌, List, [], ◌∷◌, ◌++◌, Bool, true, false, cond, ◌&&◌, ◌||◌, not, refl, sym, ◌∙◌, ap, subst, arith, inl, inr}
use Rattle.std.specs.Prelude.{◌⊎◌, Option, Some, None, slice_get, ◌==◌}
use Rattle.std.specs.Option.{option_or}
use Rattle.std.specs.List.{list_any}
use Rattle.std.proofs.lemmas.Bool.{and_parts, and_from, cases_order, eq-eqb, not-true, not_from_false, false_from_ne_true, both_ways}
use Rattle.std.proofs.lemmas.Option.{same_Some}
use Rattle.jr_model.specs.declared.events.Event.{Event}
use Rattle.jr_model.specs.declared.events.Event.TheVariants.{Issue, Probe, Skip, End, Verdict}
use Rattle.jr_model.specs.declared.events.IssueKind.{IssueKind}
use Rattle.jr_model.specs.declared.events.IssueKind.TheVariants as issue
use Rattle.jr_model.specs.declared.events.Outcome.{Outcome}
use Rattle.jr_model.specs.declared.events.Started.{Started}
use Rattle.jr_model.specs.declared.events.WriteId.{WriteId}
use Rattle.jr_model.specs.declared.tickets.TicketKind.TheVariants as ticket
use Rattle.jr_model.specs.declared.workloads.Draw.{Draw}
use Rattle.jr_model.specs.Draws.{draws_of_job}
use Rattle.jr_model.specs.History.{started, started_by, end_of, outcome_of, in_flight_of, is_probe, kind_for, same_write}
use Rattle.jr_model.specs.Legal.{is_legal, may_happen, may_take_up, takes_up}
use Rattle.jr_model.specs.Plan.{Plan, SubJob, clone_of}
use Rattle.jr_model.specs.Rounds.{pass_of, write_id, is_write_draw, issued_count, has_rounds, group_index, is_full, is_settled, is_probe_of, settles}
use Rattle.jr_model.proofs.LegalLaws.{is_legal-more, same_write_refl, number_of_draw}
use Rattle.jr_model.proofs.SerialLaws.{first_given-append}
use Rattle.jr_model.proofs.Equality.{eq_write}
use Rattle.jr_model.specs.PlanFacts.{IsPlanned}
use Rattle.jr_model.proofs.HistoryLemmas.{by_events}
use Rattle.jr_model.proofs.PlanLemmas.{numbered_of}
use Rattle.jr_laws_steps.proofs.OnceLaws.{is_taken_up, started_once-law}
use Rattle.jr_laws_steps.proofs.StartedLemmas.{started-other, started_stays}
use Rattle.jr_laws_steps.proofs.StepLaws.{may_probe_of, may_skip_of}
use Rattle.jr_laws_quiet.proofs.Checks.{settled_taken}
use Rattle.jr_laws_quiet.proofs.Members.{in_own_group, full_issued}
use Rattle.jr_laws_quiet.proofs.Phases.{open_parts}
use Rattle.jr_backlog.specs.Rounds.{is_due, is_to_check}
use Rattle.jr_backlog.specs.CurrentRound.{current_round}
use Rattle.jr_laws_rounds.specs.Rounds.{HasRound}
use Rattle.jr_laws_rounds.specs.Standing.{IsInPass}
use Rattle.jr_laws_rounds.proofs.ChoiceSteps.{can_take, unbegun_not_taken}
use Rattle.jr_laws_rounds.proofs.CurrentLaws.{left_unsettled-law}
use Rattle.jr_laws_rounds.proofs.CurrentPhases.{full_longer}
use Rattle.jr_laws_rounds.proofs.KeptSettled.{settled_after}
use Rattle.jr_laws_rounds.proofs.StandingFlights.{FliesOf, flies_there, flew_or_starts}
use Rattle.jr_laws_rounds.proofs.StandingPasses.{TakeIn, take_in, done_parts, none_taken, at_number, started_counts}
use Rattle.jr_laws_rounds.proofs.StandingSteps.{finished_before}

-- a write of the clone whose group is full, and that isn't settled
pub record IsLeft (job : SubJob) (h : List Event) (w : WriteId) : Type 0 where
  pub draw : Draw
  pub drawn : slice_get (draws_of_job job w.pass) w.number ≡ Some draw
  pub writes : is_write_draw draw ≡ true
  pub rounds : has_rounds job ≡ true
  pub full : is_full h (pass_of job w.pass) (group_index (pass_of job w.pass) draw.number) ≡ true
  pub unsettled : is_settled h w ≡ false

-- a draw of the clone by its name
named : (job : SubJob) (w : WriteId) (draw : Draw)
    → w.clone ≡ job.clone
    → slice_get (draws_of_job job w.pass) w.number ≡ Some draw
    → write_id (pass_of job w.pass) draw ≡ w
named job w draw own drawn =
    let made : ℕ → ℕ → WriteId = λ c n. record { clone = c; pass = w.pass; number = n } in
    ap (λ (c : ℕ). made c draw.number) (sym own) ∙ ap (made w.clone) (number_of_draw job w.pass w.number draw drawn)

-- what was taken up never, isn't settled
untaken_unsettled : (h : List Event) (w : WriteId) → list_any (takes_up w) h ≡ false → is_settled h w ≡ false
untaken_unsettled h w new =
    false_from_ne_true (is_settled h w) (λ settled. both_ways (list_any (takes_up w) h) new (settled_taken h w settled))

never_taken : (plan : Plan) (job : SubJob) (h : List Event) (w : WriteId) → w.clone ≡ job.clone → TakeIn plan job h w → list_any (takes_up w) h ≡ false
never_taken plan job h w own take =
    let can = can_take plan h (pass_of job w.pass) take.draw take.may in
    subst (λ (x : WriteId). list_any (takes_up x) h ≡ false) (named job w take.draw own take.drawn)
    (not-true (list_any (takes_up (write_id (pass_of job w.pass) take.draw)) h) can.new)

-- what may be checked or skipped is such a write
pub left_where_taken : (plan : Plan) (job : SubJob) (h : List Event) (w : WriteId) → w.clone ≡ job.clone → TakeIn plan job h w → IsLeft job h w
left_where_taken plan job h w own take =
    let can = can_take plan h (pass_of job w.pass) take.draw take.may in
    record {
      draw = take.draw;
      drawn = take.drawn;
      writes = can.writes;
      rounds = can.rounds;
      full = (open_parts h (pass_of job w.pass) (group_index (pass_of job w.pass) take.draw.number) can.opened).full;
      unsettled = untaken_unsettled h w (never_taken plan job h w own take);
    }

-- the current round still has it to check
pub left_to_check : (plan : Plan) (h : List Event) (job : SubJob) (w : WriteId)
    → HasRound plan h job w.pass
    → w.clone ≡ job.clone
    → IsLeft job h w
    → is_to_check (current_round job h) w ≡ true
left_to_check plan h job w round own left =
    let pass = pass_of job w.pass in
    let name = write_id pass left.draw in
    let g = group_index pass left.draw.number in
    let same : name ≡ w = named job w left.draw own left.drawn in
    let unsettled : is_settled h name ≡ false = subst (λ (x : WriteId). is_settled h x ≡ false) (sym same) left.unsettled in
    let both : (is_full h pass g && not (is_settled h name)) ≡ true =
    and_from (is_full h pass g) (not (is_settled h name)) left.full (not_from_false (is_settled h name) unsettled) in
    let law = left_unsettled-law plan h job w.pass w.number left.draw round left.drawn left.writes in
    subst (λ (x : WriteId). is_to_check (current_round job h) x ≡ true) same
    (and_parts (is_due (current_round job h)) (is_to_check (current_round job h) name) (law ∙ both)).1

module _ (plan : Plan) (planned : IsPlanned plan) (job : SubJob) (there : clone_of plan job.clone ≡ Some job) where
  -- what may be taken up is of the pass that the clone is in, and was issued
  pub taken_in_pass : (h : List Event) (w : WriteId) (p : ℕ) → TakeIn plan job h w → IsInPass h job p → w.pass ≡ p
  taken_in_pass h w p take in_pass =
      elim (cases_order w.pass p) [
        | inl same ↦ same
        | inr other ↦
            elim other [
              | inl earlier ↦
                  absurd (both_ways (may_take_up plan h (pass_of job w.pass) take.draw)
                  (none_taken plan h job w.pass w.number take.draw take.drawn
                  (done_parts h (pass_of job w.pass) (finished_before h job p w.pass in_pass earlier)).closed)
                  take.may)
              | inr later ↦
                  absurd (both_ways (may_take_up plan h (pass_of job w.pass) take.draw)
                  (unbegun_not_taken plan h job w.pass w.number take.draw take.drawn (in_pass.after w.pass later))
                  take.may)
            ]
      ]

  pub taken_was_issued : (h : List Event) (w : WriteId) → TakeIn plan job h w → w.number < issued_count h (pass_of job w.pass)
  taken_was_issued h w take =
      let pass = pass_of job w.pass in
      let g = group_index pass take.draw.number in
      let can = can_take plan h pass take.draw take.may in
      let inside = in_own_group job w.pass take.draw.number take.draw (at_number job w.pass w.number take.draw take.drawn) can.writes in
      let issued = full_issued h job w.pass g take.draw (open_parts h pass g can.opened).full inside.0 inside.1 in
      omega (arith, issued, number_of_draw job w.pass w.number take.draw take.drawn)

  -- a write that is left stays so at an event that doesn't settle it
  left_longer : (h : List Event) (e : Event) (w : WriteId)
      → is_legal plan h ≡ true
      → may_happen plan h e ≡ true
      → IsLeft job h w
      → settles (started h) w e ≡ false
      → IsLeft job (h ++ e ∷ []) w
  left_longer h e w legal may left apart = record {
    draw = left.draw;
    drawn = left.drawn;
    writes = left.writes;
    rounds = left.rounds;
    full =
        full_longer plan (numbered_of plan planned) job there h e w.pass (group_index (pass_of job w.pass) left.draw.number) legal may
        left.full;
    unsettled = settled_after plan h e w legal may ∙ ap (λ (b : Bool). b || settles (started h) w e) left.unsettled ∙ apart;
  }

  -- a check of this write
  abbrev checks : WriteId → Started → Bool
  checks w io = is_probe io.kind && same_write io.write w

  no_check : (d : IssueKind) → is_probe (kind_for d) ≡ true → ⊥
  no_check issue.Read h = cc
  no_check issue.Write h = cc
  no_check issue.ReadCheck h = cc

  -- a write whose check an event starts
  left_where_probed : (h : List Event) (e : Event) (w : WriteId) (io : Started)
      → may_happen plan h e ≡ true
      → w.clone ≡ job.clone
      → started_by e ≡ Some io
      → checks w io ≡ true
      → IsLeft job h w
  left_where_probed h (Issue worker dir write piece) w io may own starts check =
      let s : Started = record { worker = worker; kind = kind_for dir; write = write; piece = piece } in
      let probe = (and_parts (is_probe io.kind) (same_write io.write w) check).0 in
      absurd (no_check dir (ap (λ (x : Started). is_probe x.kind) (same_Some s io starts) ∙ probe))
  left_where_probed h (Probe worker write piece) w io may own starts check =
      let s : Started = record { worker = worker; kind = ticket.Probe; write = write; piece = piece } in
      let its_write = eq_write io.write w (and_parts (is_probe io.kind) (same_write io.write w) check).1 in
      let same : write ≡ w = ap (λ (x : Started). x.write) (same_Some s io starts) ∙ its_write in
      let clone : write.clone ≡ job.clone = ap (λ (x : WriteId). x.clone) same ∙ own in
      subst (λ (x : WriteId). IsLeft job h x) same
      (left_where_taken plan job h write clone (take_in plan planned job there h write (may_probe_of plan h worker write piece may).0 clone))
  left_where_probed h (Skip worker write) w io may own starts check = cc
  left_where_probed h (End worker id outcome) w io may own starts check = cc
  left_where_probed h (Verdict worker id verdict) w io may own starts check = cc

  none_after : (a b : Option Outcome) → option_or a b ≡ None → (a ≡ None) × (b ≡ None)
  none_after None b h = (refl, h)
  none_after (Some x) b h = cc

  -- an event after which a check of the write is in flight doesn't settle it
  not_settled_by : (h : List Event) (e : Event) (w : WriteId)
      → is_legal plan h ≡ true
      → may_happen plan h e ≡ true
      → w.clone ≡ job.clone
      → FliesOf (h ++ e ∷ []) job.clone (checks w)
      → settles (started h) w e ≡ false
  not_settled_by h (Issue worker dir write piece) w legal may own f = refl
  not_settled_by h (Probe worker write piece) w legal may own f = refl
  not_settled_by h (Verdict worker io verdict) w legal may own f = refl
  not_settled_by h (Skip worker write) w legal may own f =
      false_from_ne_true (same_write write w) (λ hit.
      let e = Skip worker write in
      let check = and_parts (is_probe f.io.kind) (same_write f.io.write w) f.passes in
      let same : write ≡ w = eq_write write w hit in
      let clone : write.clone ≡ job.clone = ap (λ (x : WriteId). x.clone) same ∙ own in
      let new = never_taken plan job h write clone (take_in plan planned job there h write (may_skip_of plan h worker write may) clone) in
      let at : slice_get (started h) f.id ≡ Some f.io =
      subst (λ (ios : List Started). slice_get ios f.id ≡ Some f.io) (started-other h e refl) f.at in
      let taken : list_any (takes_up w) h ≡ true =
      subst (λ (x : WriteId). list_any (takes_up x) h ≡ true) (eq_write f.io.write w check.1) (is_taken_up h f.id f.io at check.0) in
      both_ways (list_any (takes_up w) h) (subst (λ (x : WriteId). list_any (takes_up x) h ≡ false) same new) taken)
  not_settled_by h (End worker id outcome) w legal may own f = by_io (slice_get (started h) id) refl
    where
      over : id ≡ f.id → ⊥
      over same =
          let split = none_after (outcome_of h f.id) (outcome_of (End worker id outcome ∷ []) f.id)
          (sym (first_given-append (end_of f.id) h (End worker id outcome ∷ [])) ∙ f.going) in
          let now : Some outcome ≡ None =
          sym (ap (λ (b : Bool). option_or (cond b (Some outcome) None) None) (eq-eqb id f.id same)) ∙ split.1 in
          cc

      by_io : (o : Option Started) → slice_get (started h) id ≡ o → is_probe_of w (slice_get (started h) id) ≡ false
      by_io None at = ap (is_probe_of w) at
      by_io (Some io) at =
          ap (is_probe_of w) at
          ∙ false_from_ne_true (checks w io) (λ hit.
          let one = and_parts (is_probe io.kind) (same_write io.write w) hit in
          let check = and_parts (is_probe f.io.kind) (same_write f.io.write w) f.passes in
          let same : io.write ≡ f.io.write = eq_write io.write w one.1 ∙ sym (eq_write f.io.write w check.1) in
          over (started_once-law plan (h ++ End worker id outcome ∷ []) id f.id io f.io planned
          (is_legal-more plan h (End worker id outcome) legal may)
          (started_stays h (End worker id outcome ∷ []) id io at) f.at
          (ap (same_write io.write) (sym same) ∙ same_write_refl io.write)
          (one.0 ∙ sym check.0)))

  -- a write of which a check is in flight is left
  pub left_in_flight : (h : List Event)
      → is_legal plan h ≡ true
      → (w : WriteId)
      → w.clone ≡ job.clone
      → FliesOf h job.clone (checks w)
      → IsLeft job h w
  left_in_flight h legal =
      by_events plan
      (λ (front : List Event). (w : WriteId) → w.clone ≡ job.clone → FliesOf front job.clone (checks w) → IsLeft job front w)
      (λ w own f. nothing w f)
      (λ front e front_legal known may w own f.
      left_longer front e w front_legal may (before front e w may own (known w own) (flew_or_starts front e job.clone (checks w) f))
      (not_settled_by front e w front_legal may own f))
      h legal
    where
      nothing : (w : WriteId) → FliesOf [] job.clone (checks w) → IsLeft job [] w
      nothing w f = let none : None ≡ Some f.io = f.at in cc

      before : (front : List Event) (e : Event) (w : WriteId)
          → may_happen plan front e ≡ true
          → w.clone ≡ job.clone
          → (FliesOf front job.clone (checks w) → IsLeft job front w)
          → FliesOf front job.clone (checks w)
          ⊎ ((io : Started) × (started_by e ≡ Some io) × (io.write.clone ≡ job.clone) × (checks w io ≡ true))
          → IsLeft job front w
      before front e w may own known (inl flew) = known flew
      before front e w may own known (inr new) = left_where_probed front e w new.0 may own new.1 new.3

  -- what is in flight is of the pass that the clone is in
  pub flies_in_pass : (h : List Event) (p : ℕ) (test : Started → Bool)
      → is_legal plan h ≡ true
      → IsInPass h job p
      → (f : FliesOf h job.clone test)
      → f.io.write.pass ≡ p
  flies_in_pass h p test legal in_pass f =
      elim (cases_order f.io.write.pass p) [
        | inl same ↦ same
        | inr other ↦
            elim other [
              | inl earlier ↦ absurd (rests earlier)
              | inr later ↦
                  let some = started_counts plan planned job there h f.id f.io legal f.at f.clone in
                  let none = in_pass.after f.io.write.pass later in
                  absurd (omega (arith, some, none))
            ]
      ]
    where
      rests : f.io.write.pass < p → ⊥
      rests earlier =
          let q = f.io.write.pass in
          let of_pass : Started → Bool = λ (io : Started). io.write.pass == q in
          let done = done_parts h (pass_of job q) (finished_before h job p q in_pass earlier) in
          both_ways (list_any of_pass (in_flight_of h job.clone))
          (not-true (list_any of_pass (in_flight_of h job.clone)) done.rests)
          (flies_there h job.clone of_pass (record {
            id = f.id;
            io = f.io;
            at = f.at;
            going = f.going;
            clone = f.clone;
            passes = eq-eqb q q refl;
          }))
