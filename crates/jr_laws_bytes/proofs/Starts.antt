-- What a legal history says of an event at its place: what an I/O was started for, and that it was clear then.
use Rattle.std.proofs.Common.{◌≡◌, ℕ, zero, suc, ◌+◌, List, [], ◌∷◌, ◌++◌, Bool, true, false, cond, ◌&&◌, not, refl, sym, ◌∙◌, ap, subst, arith, append_assoc, append-nil, add-zero}
use Rattle.std.specs.Prelude.{Option, Some, None, slice_get, filter_map, is_none, ◌==◌}
use Rattle.std.specs.List.{list_any, enumerate_from, cons_option}
use Rattle.std.proofs.lemmas.Bool.{and_parts, or_parts, false≢true}
use Rattle.std.proofs.lemmas.Option.{same_Some}
use Rattle.jr_model.specs.declared.events.IssueKind.TheVariants.{Read, Write, ReadCheck}
use Rattle.jr_model.specs.declared.blocks.Piece.{Piece}
use Rattle.jr_model.specs.declared.events.Event.{Event}
use Rattle.jr_model.specs.declared.events.Event.TheVariants.{Issue, Probe, Skip, End, Verdict}
use Rattle.jr_model.specs.declared.events.IssueKind.{IssueKind}
use Rattle.jr_model.specs.declared.events.Outcome.{Outcome}
use Rattle.jr_model.specs.declared.events.Started.{Started}
use Rattle.jr_model.specs.declared.events.WriteId.{WriteId}
use Rattle.jr_model.specs.declared.tickets.TicketKind.TheVariants as ticket
use Rattle.jr_model.specs.declared.workloads.Draw.{Draw}
use Rattle.jr_model.specs.Draws.{draws_of_job}
use Rattle.jr_model.specs.History.{started, started_by, outcome_of, in_flight, if_flying, is_probe, kind_for, same_write, same_piece}
use Rattle.jr_model.specs.Honest.{before_start}
use Rattle.jr_model.specs.LastWrite.{is_intact}
use Rattle.jr_model.specs.Legal.{may_happen, may_take_up, may_issue, legal_after, is_legal, is_clear, step_of, step_of_draw, step_of_clone, same_issue, is_this_issue, is_this_probe, takes_up, is_halted, has_room, phase_is_open}
use Rattle.jr_model.specs.Plan.{Plan, SubJob, clone_of, issued_as}
use Rattle.jr_model.specs.Rounds.{Pass, pass_of, write_id, is_write_draw, issued_count, has_rounds, group_index, is_open, waits_for_round, is_current}
use Rattle.jr_model.proofs.Equality.{eq_piece, eq_write, eq_issue}

-- induction over legal histories

-- an event of a legal history may happen after those before it
pub legal_at : (plan : Plan) (before front : List Event) (e : Event) (rest : List Event) → legal_after plan before (front ++ e ∷ rest) ≡ true → may_happen plan (before ++ front) e ≡ true
legal_at plan before [] e rest h =
    subst (λ (all : List Event). may_happen plan all e ≡ true) (sym (append-nil before))
    (and_parts (may_happen plan before e) (legal_after plan (before ++ e ∷ []) rest) h).0
legal_at plan before (x ∷ front) e rest h =
    subst (λ (all : List Event). may_happen plan all e ≡ true) (append_assoc before (x ∷ []) front)
    (legal_at plan (before ++ x ∷ []) front e rest
    (and_parts (may_happen plan before x) (legal_after plan (before ++ x ∷ []) (front ++ e ∷ rest)) h).1)

-- how an I/O was started

-- the event that started it, and the history around it
pub record StartsAt (history : List Event) (io : ℕ) (s : Started) : Type 0 where
  pub event : Event
  pub rest : List Event
  pub starts : started_by event ≡ Some s
  pub split : history ≡ before_start history io ++ event ∷ rest

pub starts_at : (history : List Event) (io : ℕ) (s : Started) → slice_get (started history) io ≡ Some s → StartsAt history io s
starts_at [] io s h = cc
starts_at (Issue worker dir write piece ∷ history) zero s h = record {
  event = Issue worker dir write piece;
  rest = history;
  starts = h;
  split = refl;
}
starts_at (Issue worker dir write piece ∷ history) (suc io) s h =
    let later = starts_at history io s h in record {
      event = later.event;
      rest = later.rest;
      starts = later.starts;
      split = ap (λ (all : List Event). Issue worker dir write piece ∷ all) later.split;
    }
starts_at (Probe worker write piece ∷ history) zero s h = record {
  event = Probe worker write piece;
  rest = history;
  starts = h;
  split = refl;
}
starts_at (Probe worker write piece ∷ history) (suc io) s h =
    let later = starts_at history io s h in record {
      event = later.event;
      rest = later.rest;
      starts = later.starts;
      split = ap (λ (all : List Event). Probe worker write piece ∷ all) later.split;
    }
starts_at (Skip worker write ∷ history) zero s h =
    let later = starts_at history zero s h in record {
      event = later.event;
      rest = later.rest;
      starts = later.starts;
      split = ap (λ (all : List Event). Skip worker write ∷ all) later.split;
    }
starts_at (Skip worker write ∷ history) (suc io) s h =
    let later = starts_at history (suc io) s h in record {
      event = later.event;
      rest = later.rest;
      starts = later.starts;
      split = ap (λ (all : List Event). Skip worker write ∷ all) later.split;
    }
starts_at (End worker id outcome ∷ history) zero s h =
    let later = starts_at history zero s h in record {
      event = later.event;
      rest = later.rest;
      starts = later.starts;
      split = ap (λ (all : List Event). End worker id outcome ∷ all) later.split;
    }
starts_at (End worker id outcome ∷ history) (suc io) s h =
    let later = starts_at history (suc io) s h in record {
      event = later.event;
      rest = later.rest;
      starts = later.starts;
      split = ap (λ (all : List Event). End worker id outcome ∷ all) later.split;
    }
starts_at (Verdict worker id verdict ∷ history) zero s h =
    let later = starts_at history zero s h in record {
      event = later.event;
      rest = later.rest;
      starts = later.starts;
      split = ap (λ (all : List Event). Verdict worker id verdict ∷ all) later.split;
    }
starts_at (Verdict worker id verdict ∷ history) (suc io) s h =
    let later = starts_at history (suc io) s h in record {
      event = later.event;
      rest = later.rest;
      starts = later.starts;
      split = ap (λ (all : List Event). Verdict worker id verdict ∷ all) later.split;
    }

-- draw k of a pass of this clone, over this piece
pub record IsDrawOf (plan : Plan) (write : WriteId) (piece : Piece) (job : SubJob) (draw : Draw) : Type 0 where
  pub planned : clone_of plan write.clone ≡ Some job
  pub drawn : slice_get (draws_of_job job write.pass) write.number ≡ Some draw
  pub lies : draw.piece ≡ piece

-- a check was started: for a write of a clone with rounds, that was intact
pub record IsCheckable (plan : Plan) (before : List Event) (write : WriteId) (piece : Piece) : Type 0 where
  pub job : SubJob
  pub draw : Draw
  pub names : IsDrawOf plan write piece job draw
  pub rounds : has_rounds job ≡ true
  pub intact : is_intact before write piece ≡ true

-- an I/O was issued: a draw
pub record IsIssuable (plan : Plan) (before : List Event) (dir : IssueKind) (write : WriteId) (piece : Piece) : Type 0 where
  pub job : SubJob
  pub draw : Draw
  pub names : IsDrawOf plan write piece job draw
  pub way : issued_as job draw.dir ≡ dir

found_draw : (plan : Plan) (before : List Event) (worker : ℕ) (pass : Pass) (test : Option Event → Bool) → test None ≡ false → (o : Option Draw) → test (step_of_draw plan before worker pass o) ≡ true → (draw : Draw) × (o ≡ Some draw) × (test (step_of plan before worker pass draw) ≡ true)
found_draw plan before worker pass test none None h = absurd (false≢true (sym none ∙ h))
found_draw plan before worker pass test none (Some draw) h = (draw, refl, h)

found_step : (plan : Plan) (before : List Event) (worker : ℕ) (write : WriteId) (test : Option Event → Bool) → test None ≡ false → (o : Option SubJob) → test (step_of_clone plan before worker write o) ≡ true → (job : SubJob) × (draw : Draw) × (o ≡ Some job) × (slice_get (draws_of_job job write.pass) write.number ≡ Some draw) × (test (step_of plan before worker (pass_of job write.pass) draw) ≡ true)
found_step plan before worker write test none None h = absurd (false≢true (sym none ∙ h))
found_step plan before worker write test none (Some job) h =
    let found = found_draw plan before worker (pass_of job write.pass) test none (slice_get (draws_of_job job write.pass) write.number) h in
    (job, found.0, refl, found.1, found.2)

-- a step that is this check
checked : (write : WriteId) (piece : Piece) (a b c : Bool) (w : WriteId) (p : Piece) (worker : ℕ) (dir : IssueKind) → is_this_probe write piece (cond a (Some (cond b (Probe worker w p) (Skip worker w))) (cond c (Some (Issue worker dir w p)) None)) ≡ true → (a ≡ true) × (b ≡ true) × (w ≡ write) × (p ≡ piece)
checked write piece true true c w p worker dir h =
    let parts = and_parts (same_write w write) (same_piece p piece) h in
    (refl, refl, eq_write w write parts.0, eq_piece p piece parts.1)
checked write piece true false c w p worker dir h = cc
checked write piece false b true w p worker dir h = cc
checked write piece false b false w p worker dir h = cc

-- a step that is this issue
issued : (dir : IssueKind) (write : WriteId) (piece : Piece) (a b c : Bool) (w : WriteId) (p : Piece) (worker : ℕ) (d : IssueKind) → is_this_issue dir write piece (cond a (Some (cond b (Probe worker w p) (Skip worker w))) (cond c (Some (Issue worker d w p)) None)) ≡ true → (c ≡ true) × (d ≡ dir) × (w ≡ write) × (p ≡ piece)
issued dir write piece true true c w p worker d h = cc
issued dir write piece true false c w p worker d h = cc
issued dir write piece false b true w p worker d h =
    let parts = and_parts (same_issue d dir && same_write w write) (same_piece p piece) h in
    let more = and_parts (same_issue d dir) (same_write w write) parts.0 in
    (refl, eq_issue d dir more.0, eq_write w write more.1, eq_piece p piece parts.1)
issued dir write piece false b false w p worker d h = cc

pub checkable : (plan : Plan) (before : List Event) (worker : ℕ) (write : WriteId) (piece : Piece) → may_happen plan before (Probe worker write piece) ≡ true → IsCheckable plan before write piece
checkable plan before worker write piece may =
    let found = found_step plan before worker write (is_this_probe write piece) refl (clone_of plan write.clone) may in
    let job = found.0 in
    let draw = found.1 in
    let pass = pass_of job write.pass in
    let here = checked write piece (may_take_up plan before pass draw) (is_intact before (write_id pass draw) draw.piece) (may_issue plan before pass draw) (write_id pass draw) draw.piece worker (issued_as job draw.dir) found.4 in
    let rounds = has_rounds job in
    let fresh = not (list_any (takes_up (write_id pass draw)) before) in
    let going = not (is_halted before job) in
    let room = has_room before job in
    let clear = is_clear plan before job false draw.piece in
    let opened = is_open before pass (group_index pass draw.number) in
    let six = and_parts (is_write_draw draw && rounds && fresh && going && room && clear) opened here.0 in
    let five = and_parts (is_write_draw draw && rounds && fresh && going && room) clear six.0 in
    let four = and_parts (is_write_draw draw && rounds && fresh && going) room five.0 in
    let three = and_parts (is_write_draw draw && rounds && fresh) going four.0 in
    let two = and_parts (is_write_draw draw && rounds) fresh three.0 in
    let one = and_parts (is_write_draw draw) rounds two.0 in record {
      job = job;
      draw = draw;
      names = record { planned = found.2; drawn = found.3; lies = here.3 };
      rounds = one.1;
      intact = subst (λ (w : WriteId). is_intact before w piece ≡ true) here.2 (subst (λ (p : Piece). is_intact before (write_id pass draw) p ≡ true) here.3 here.1);
    }

pub issuable : (plan : Plan) (before : List Event) (worker : ℕ) (dir : IssueKind) (write : WriteId) (piece : Piece) → may_happen plan before (Issue worker dir write piece) ≡ true → IsIssuable plan before dir write piece
issuable plan before worker dir write piece may =
    let found = found_step plan before worker write (is_this_issue dir write piece) refl (clone_of plan write.clone) may in
    let job = found.0 in
    let draw = found.1 in
    let pass = pass_of job write.pass in
    let here = issued dir write piece (may_take_up plan before pass draw) (is_intact before (write_id pass draw) draw.piece) (may_issue plan before pass draw) (write_id pass draw) draw.piece worker (issued_as job draw.dir) found.4 in
    let next = draw.number == issued_count before pass in
    let going = not (is_halted before job) in
    let room = has_room before job in
    let clear = is_clear plan before job (is_write_draw draw) draw.piece in
    let current = is_current before pass in
    let free = not (waits_for_round before pass) in
    let six = and_parts (next && going && room && clear && current && free) (phase_is_open plan before job) here.0 in
    let five = and_parts (next && going && room && clear && current) free six.0 in
    let four = and_parts (next && going && room && clear) current five.0 in
    let three = and_parts (next && going && room) clear four.0 in record {
      job = job;
      draw = draw;
      names = record { planned = found.2; drawn = found.3; lies = here.3 };
      way = here.1;
    }

-- what started an I/O of a legal history

pub probe_event : (e : Event) (s : Started) → started_by e ≡ Some s → is_probe s.kind ≡ true → e ≡ Probe s.worker s.write s.piece
probe_event (Issue worker Read write piece) s starts probe = absurd (false≢true (ap (λ (x : Started). is_probe x.kind) (same_Some (record { worker = worker; kind = ticket.Read; write = write; piece = piece }) s starts) ∙ probe))
probe_event (Issue worker Write write piece) s starts probe = absurd (false≢true (ap (λ (x : Started). is_probe x.kind) (same_Some (record { worker = worker; kind = ticket.Write; write = write; piece = piece }) s starts) ∙ probe))
probe_event (Issue worker ReadCheck write piece) s starts probe = absurd (false≢true (ap (λ (x : Started). is_probe x.kind) (same_Some (record { worker = worker; kind = ticket.ReadCheck; write = write; piece = piece }) s starts) ∙ probe))
probe_event (Probe worker write piece) s starts probe = ap (λ (x : Started). Probe x.worker x.write x.piece) (same_Some (record { worker = worker; kind = ticket.Probe; write = write; piece = piece }) s starts)
probe_event (Skip worker write) s starts probe = cc
probe_event (End worker io outcome) s starts probe = cc
probe_event (Verdict worker io verdict) s starts probe = cc

-- a check of a legal history might be started where it was
pub check_started : (plan : Plan) (history : List Event) (io : ℕ) (s : Started) → is_legal plan history ≡ true → slice_get (started history) io ≡ Some s → is_probe s.kind ≡ true → IsCheckable plan (before_start history io) s.write s.piece
check_started plan history io s legal at probe =
    let found = starts_at history io s at in
    let before = before_start history io in
    let may : may_happen plan before found.event ≡ true =
    legal_at plan [] before found.event found.rest (subst (λ (all : List Event). is_legal plan all ≡ true) found.split legal) in
    checkable plan before s.worker s.write s.piece (subst (λ (e : Event). may_happen plan before e ≡ true) (probe_event found.event s found.starts probe) may)

-- what was started was started for a draw of the plan
pub draw_started : (plan : Plan) (history : List Event) (io : ℕ) (s : Started) → is_legal plan history ≡ true → slice_get (started history) io ≡ Some s → (job : SubJob) × (draw : Draw) × IsDrawOf plan s.write s.piece job draw
draw_started plan history io s legal at =
    let found = starts_at history io s at in
    let before = before_start history io in
    let may : may_happen plan before found.event ≡ true =
    legal_at plan [] before found.event found.rest (subst (λ (all : List Event). is_legal plan all ≡ true) found.split legal) in
    drawn_for plan before found.event s found.starts may
  where
    drawn_for : (plan : Plan) (before : List Event) (e : Event) (s : Started) → started_by e ≡ Some s → may_happen plan before e ≡ true → (job : SubJob) × (draw : Draw) × IsDrawOf plan s.write s.piece job draw
    drawn_for plan before (Issue worker dir write piece) s starts may =
        let found = issuable plan before worker dir write piece may in
        subst (λ (x : Started). (job : SubJob) × (draw : Draw) × IsDrawOf plan x.write x.piece job draw)
        (same_Some (record { worker = worker; kind = kind_for dir; write = write; piece = piece }) s starts)
        (found.job, found.draw, found.names)
    drawn_for plan before (Probe worker write piece) s starts may =
        let found = checkable plan before worker write piece may in
        subst (λ (x : Started). (job : SubJob) × (draw : Draw) × IsDrawOf plan x.write x.piece job draw)
        (same_Some (record { worker = worker; kind = ticket.Probe; write = write; piece = piece }) s starts)
        (found.job, found.draw, found.names)
    drawn_for plan before (Skip worker write) s starts may = cc
    drawn_for plan before (End worker io outcome) s starts may = cc
    drawn_for plan before (Verdict worker io verdict) s starts may = cc

-- what flies

any_rest : {X : Type 0} (f : X → Bool) (o : Option X) (xs : List X) → list_any f (cons_option o xs) ≡ false → list_any f xs ≡ false
any_rest f None xs h = h
any_rest f (Some x) xs h = (or_parts (f x) (list_any f xs) h).1

none_flies_from : (f : Started → Bool) (history : List Event) (n : ℕ) (xs : List Started) (k : ℕ) (s : Started) → slice_get xs k ≡ Some s → outcome_of history (n + k) ≡ None → list_any f (filter_map (if_flying history) (enumerate_from n xs)) ≡ false → f s ≡ false
none_flies_from f history n [] k s at unended none = cc
none_flies_from f history n (x ∷ xs) zero s at unended none =
    let here : outcome_of history n ≡ None = rw add-zero at unended in
    let flying : if_flying history (n, x) ≡ Some x = ap (λ (o : Option Outcome). cond (is_none o) (Some x) None) here in
    let rest = filter_map (if_flying history) (enumerate_from (n + 1) xs) in
    let parts = or_parts (f x) (list_any f rest) (subst (λ (o : Option Started). list_any f (cons_option o rest) ≡ false) flying none) in
    subst (λ (y : Started). f y ≡ false) (same_Some x s at) parts.0
none_flies_from f history n (x ∷ xs) (suc k) s at unended none =
    let next : n + 1 + k ≡ n + suc k = omega arith in
    none_flies_from f history (n + 1) xs k s at (subst (λ (i : ℕ). outcome_of history i ≡ None) (sym next) unended)
    (any_rest f (if_flying history (n, x)) (filter_map (if_flying history) (enumerate_from (n + 1) xs)) none)

-- what flies doesn't pass a test that nothing in flight passes
pub none_of_flying : (history : List Event) (test : Started → Bool) (io : ℕ) (s : Started) → list_any test (in_flight history) ≡ false → slice_get (started history) io ≡ Some s → outcome_of history io ≡ None → test s ≡ false
none_of_flying history test io s none at unended =
    none_flies_from test history 0 (started history) io s at
    (subst (λ (i : ℕ). outcome_of history i ≡ None) (sym (zero_more io)) unended) none
  where
    zero_more : (n : ℕ) → 0 + n ≡ n
    zero_more n = omega arith
