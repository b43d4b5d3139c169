-- Histories with nothing in flight: there is room, nothing is in the way, and what was taken up is settled.
use Rattle.std.proofs.Common.{◌≡◌, ℕ, ◌+◌, ◌≤◌, List, [], length, Bool, true, false, cond, not, refl, sym, ◌∙◌, ap, subst, arith}
use Rattle.std.specs.Prelude.{Option, Some, None, slice_get, filter, nat_lt, ◌==◌, is_none}
use Rattle.std.specs.List.{list_any, list_all}
use Rattle.std.proofs.lemmas.Bool.{and_from, lt-ltb, eqb-true}
use Rattle.jr_model.specs.declared.blocks.Piece.{Piece}
use Rattle.jr_model.specs.declared.events.Event.{Event}
use Rattle.jr_model.specs.declared.events.Event.TheVariants.{Issue, Probe, Skip, End, Verdict}
use Rattle.jr_model.specs.declared.events.Outcome.{Outcome}
use Rattle.jr_model.specs.declared.events.Started.{Started}
use Rattle.jr_model.specs.declared.events.WriteId.{WriteId}
use Rattle.jr_model.specs.declared.tickets.TicketKind.TheVariants as ticket
use Rattle.jr_model.specs.History.{started, started_by, end_of, outcome_of, if_flying, in_flight, in_flight_of, is_of_clone, is_probe, same_write}
use Rattle.jr_model.specs.Legal.{has_room, waits_for, is_clear, takes_up}
use Rattle.jr_model.specs.Plan.{Plan, SubJob}
use Rattle.jr_model.specs.Rounds.{Pass, is_probe_of, settles, is_settled, no_issue_flies, nothing_flies_of, nothing_flies_in}
use Rattle.jr_model.proofs.LegalLaws.{first_given-some}
use Rattle.jr_model.proofs.PlaceLemmas.{any_found, any_at, kept_at, none_kept}

pub length_by_none : {X : Type 0} (xs : List X) → xs ≡ [] → (length xs == 0) ≡ true
length_by_none xs h = ap (λ ys. length ys == 0) h

none_only_if : {X : Type 0} (b : Bool) (x : X) → cond b (Some x) None ≡ None → b ≡ false
none_only_if true x h = cc
none_only_if false x h = refl

some_of : {X : Type 0} (o : Option X) → is_none o ≡ false → (x : X) × (o ≡ Some x)
some_of None h = cc
some_of (Some x) h = (x, refl)

-- nothing is in flight
module _ (history : List Event) (rests : in_flight history ≡ []) where
  pub none_in_flight_of : (c : ℕ) → in_flight_of history c ≡ []
  none_in_flight_of c = ap (filter (is_of_clone c)) rests

  pub room_at_rest : (job : SubJob) → 1 ≤ job.depth → has_room history job ≡ true
  room_at_rest job depth =
      ap (λ (ios : List Started). nat_lt (length ios) job.depth) (none_in_flight_of job.clone) ∙ lt-ltb 0 job.depth (omega (arith, depth))

  pub clear_at_rest : (plan : Plan) (job : SubJob) (writes : Bool) (piece : Piece) → is_clear plan history job writes piece ≡ true
  clear_at_rest plan job writes piece = ap (λ (ios : List Started). not (list_any (waits_for plan job writes piece) ios)) rests

  pub no_issue_at_rest : (c : ℕ) → no_issue_flies history c ≡ true
  no_issue_at_rest c = ap (list_all (λ (io : Started). is_probe io.kind)) (none_in_flight_of c)

  pub none_of_clone_at_rest : (c : ℕ) → nothing_flies_of history c ≡ true
  none_of_clone_at_rest c = length_by_none (in_flight_of history c) (none_in_flight_of c)

  pub none_of_pass_at_rest : (pass : Pass) → nothing_flies_in history pass ≡ true
  none_of_pass_at_rest pass =
      ap (λ (ios : List Started). not (list_any (λ (io : Started). io.write.pass == pass.number) ios)) (none_in_flight_of pass.job.clone)

  -- each I/O that was started has ended
  pub each_ended : (id : ℕ) (io : Started) → slice_get (started history) id ≡ Some io → (outcome : Outcome) × (outcome_of history id ≡ Some outcome)
  each_ended id io at =
      let same : 0 + id ≡ id = omega arith in
      some_of (outcome_of history id)
      (none_only_if (is_none (outcome_of history id)) io
      (subst (λ (n : ℕ). if_flying history (n, io) ≡ None) same (none_kept (if_flying history) 0 (started history) id io rests at)))

  -- a check that was started is a check that ended
  pub check_settled : (id : ℕ) (io : Started) (write : WriteId) → slice_get (started history) id ≡ Some io → is_probe io.kind ≡ true → same_write io.write write ≡ true → is_settled history write ≡ true
  check_settled id io write at check same =
      let ended = each_ended id io at in
      let event = first_given-some (end_of id) history ended.0 ended.1 in
      any_at (settles (started history) write) history event.0 event.1 event.2 (by_end event.1 ended.0 event.3)
    where
      of_write : is_probe_of write (slice_get (started history) id) ≡ true
      of_write =
          subst (λ (o : Option Started). is_probe_of write o ≡ true) (sym at) (and_from (is_probe io.kind) (same_write io.write write) check same)

      hit : (b : Bool) (x y : Outcome) → cond b (Some x) None ≡ Some y → b ≡ true
      hit true x y h = refl
      hit false x y h = cc

      by_end : (e : Event) (outcome : Outcome) → end_of id e ≡ Some outcome → settles (started history) write e ≡ true
      by_end (Issue worker dir issued piece) outcome h = cc
      by_end (Probe worker probed piece) outcome h = cc
      by_end (Skip worker skipped) outcome h = cc
      by_end (Verdict worker judged verdict) outcome h = cc
      by_end (End worker ended given) outcome h =
          subst (λ (n : ℕ). is_probe_of write (slice_get (started history) n) ≡ true) (sym (eqb-true ended id (hit (ended == id) given outcome h))) of_write

  -- a write that was checked or skipped is settled
  pub taken_up_settled : (write : WriteId) → list_any (takes_up write) history ≡ true → is_settled history write ≡ true
  taken_up_settled write h =
      let taken = any_found (takes_up write) history h in
      by_event taken.0 taken.1 taken.2 taken.3
    where
      by_event : (k : ℕ) (e : Event) → slice_get history k ≡ Some e → takes_up write e ≡ true → is_settled history write ≡ true
      by_event k (Issue worker dir issued piece) at takes = cc
      by_event k (End worker ended given) at takes = cc
      by_event k (Verdict worker judged verdict) at takes = cc
      by_event k (Skip worker skipped) at takes =
          any_at (settles (started history) write) history k (Skip worker skipped) at takes
      by_event k (Probe worker probed piece) at takes =
          let io : Started = record { worker = worker; kind = ticket.Probe; write = probed; piece = piece } in
          let place = kept_at started_by history k (Probe worker probed piece) io at refl in
          check_settled place.0 io write place.1 refl takes
