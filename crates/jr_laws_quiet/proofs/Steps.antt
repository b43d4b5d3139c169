-- Induction along a legal history in which nothing goes wrong, and what its steps are.
use Rattle.std.proofs.Common.{◌≡◌, ℕ, zero, suc, ◌<◌, ◌≤◌, List, [], ◌∷◌, ◌++◌, length, Bool, true, false, cond, ◌&&◌, not, refl, sym, ◌∙◌, ap, subst, arith, inl, inr, append_assoc, append-nil, length-append, ◌*◌}
use Rattle.std.specs.Prelude.{◌⊎◌, Option, Some, None, slice_get, nat_lt, is_none}
use Rattle.std.specs.List.{list_all, cons_option}
use Rattle.std.proofs.lemmas.Bool.{and_parts, and_from, lt-ltb, ltb-true}
use Rattle.std.proofs.lemmas.List.Folds.{list_all-append}
use Rattle.jr_model.specs.declared.blocks.Dir.{Dir}
use Rattle.jr_model.specs.declared.blocks.Dir.TheVariants as direction
use Rattle.jr_model.specs.declared.blocks.Piece.{Piece}
use Rattle.jr_model.specs.declared.events.Event.{Event}
use Rattle.jr_model.specs.declared.events.Event.TheVariants.{Issue, Probe, Skip, End, Verdict}
use Rattle.jr_model.specs.declared.events.IssueKind.{IssueKind}
use Rattle.jr_model.specs.declared.events.IssueKind.TheVariants as issue
use Rattle.jr_model.specs.declared.events.Started.{Started}
use Rattle.jr_model.specs.declared.events.Verdict.TheVariants.{Good, Bad, Void}
use Rattle.jr_model.specs.declared.events.Outcome.TheVariants.{Whole}
use Rattle.jr_model.specs.declared.events.WriteId.{WriteId}
use Rattle.jr_model.specs.declared.workloads.Draw.{Draw}
use Rattle.jr_model.specs.Draws.{draws_of_job, fresh_progress}
use Rattle.jr_model.specs.History.{started, started_by, kind_for, outcome_of, flies, is_judged, is_write, ended_whole, same_write, same_piece}
use Rattle.jr_model.specs.LastWrite.{is_intact}
use Rattle.jr_model.specs.Legal.{is_fault, is_legal, legal_after, may_happen, end_fits, verdict_fits, may_issue, may_take_up, step_of_draw, step_of_clone, same_issue, is_this_issue, is_this_probe, is_this_skip}
use Rattle.jr_model.specs.Plan.{Plan, SubJob, IsNumbered, clone_of, checks_reads, issued_as}
use Rattle.jr_model.specs.Races.{has_raced}
use Rattle.jr_model.specs.Rounds.{Pass, pass_of, write_id, is_write_draw}
use Rattle.jr_model.specs.Words.{pass_words}
use Rattle.jr_model.proofs.LegalLaws.{is_legal-more, number-draws_from}
use Rattle.jr_model.proofs.SerialLaws.{IsWell, whole_some}
use Rattle.jr_model.proofs.Equality.{eq_issue, eq_piece}
use Rattle.jr_model.proofs.ListLemmas.{all_weaker}
use Rattle.jr_model.proofs.HistoryLemmas.{legal_is_well, started-more, by_events}

-- nothing goes wrong with the event, and its verdict, if it is one, is good
abbrev pub is_fine : Event → Bool
is_fine (End worker io outcome) = not (is_fault outcome)
is_fine (Verdict worker io Good) = true
is_fine (Verdict worker io (Bad what)) = false
is_fine (Verdict worker io Void) = false
is_fine (Issue worker kind write piece) = true
is_fine (Probe worker write piece) = true
is_fine (Skip worker write) = true

abbrev pub are_fine : List Event → Bool
are_fine history = list_all is_fine history

-- an event that may happen after a legal history, with nothing wrong so far
pub record IsStep (plan : Plan) (history : List Event) (e : Event) : Type 0 where
  pub legal : is_legal plan history ≡ true
  pub may : may_happen plan history e ≡ true
  pub quiet : are_fine history ≡ true
  pub calm : is_fine e ≡ true

-- what holds of the empty history, and after each event that may happen, holds of every legal history
legal_from : (plan : Plan) (P : List Event → Type 0) → ((h : List Event) (e : Event) → is_legal plan h ≡ true → may_happen plan h e ≡ true → P h → P (h ++ e ∷ [])) → (before events : List Event) → is_legal plan before ≡ true → legal_after plan before events ≡ true → P before → P (before ++ events)
legal_from plan P step before [] so_far legal start = subst P (sym (append-nil before)) start
legal_from plan P step before (e ∷ events) so_far legal start =
    let parts = and_parts (may_happen plan before e) (legal_after plan (before ++ e ∷ []) events) legal in
    subst P (append_assoc before (e ∷ []) events)
    (legal_from plan P step (before ++ e ∷ []) events (is_legal-more plan before e so_far parts.0) parts.1 (step before e so_far parts.0 start))

pub each_legal : (plan : Plan) (P : List Event → Type 0) → P [] → ((h : List Event) (e : Event) → is_legal plan h ≡ true → may_happen plan h e ≡ true → P h → P (h ++ e ∷ [])) → (history : List Event) → is_legal plan history ≡ true → P history
each_legal plan P start step history legal = legal_from plan P step [] history refl legal start

pub along_from : (plan : Plan) (P : List Event → Type 0) → ((h : List Event) (e : Event) → IsStep plan h e → P h → P (h ++ e ∷ [])) → (before events : List Event) → is_legal plan before ≡ true → legal_after plan before events ≡ true → are_fine before ≡ true → are_fine events ≡ true → P before → P (before ++ events)
along_from plan P step before [] so_far legal quiet calm start = subst P (sym (append-nil before)) start
along_from plan P step before (e ∷ events) so_far legal quiet calm start =
    let parts = and_parts (may_happen plan before e) (legal_after plan (before ++ e ∷ []) events) legal in
    let calms = and_parts (is_fine e) (are_fine events) calm in
    let next = step before e (record { legal = so_far; may = parts.0; quiet = quiet; calm = calms.0 }) start in
    subst P (append_assoc before (e ∷ []) events)
    (along_from plan P step (before ++ e ∷ []) events (is_legal-more plan before e so_far parts.0) parts.1
    (list_all-append is_fine before (e ∷ []) ∙ and_from (are_fine before) (is_fine e && true) quiet (and_from (is_fine e) true calms.0 refl))
    calms.1 next)

-- what holds of the empty history, and after each step, holds of every legal history in which nothing goes wrong
pub along : (plan : Plan) (P : List Event → Type 0) → P [] → ((h : List Event) (e : Event) → IsStep plan h e → P h → P (h ++ e ∷ [])) → (history : List Event) → is_legal plan history ≡ true → are_fine history ≡ true → P history
along plan P start step history legal quiet = along_from plan P step [] history refl legal refl quiet start

pub well_of : (plan : Plan) (history : List Event) → is_legal plan history ≡ true → are_fine history ≡ true → IsWell plan history
well_of plan history legal quiet = legal_is_well plan history legal

-- the event speaks of an I/O among the first n
abbrev pub refers : ℕ → Event → Bool
refers n (End worker io outcome) = nat_lt io n
refers n (Verdict worker io verdict) = nat_lt io n
refers n (Issue worker kind write piece) = true
refers n (Probe worker write piece) = true
refers n (Skip worker write) = true

pub refers_more : (n m : ℕ) (e : Event) → n ≤ m → refers n e ≡ true → refers m e ≡ true
refers_more n m (End worker io outcome) le h =
    let below : io < n = ltb-true io n h in
    lt-ltb io m (omega (arith, below, le))
refers_more n m (Verdict worker io verdict) le h =
    let below : io < n = ltb-true io n h in
    lt-ltb io m (omega (arith, below, le))
refers_more n m (Issue worker kind write piece) le h = refl
refers_more n m (Probe worker write piece) le h = refl
refers_more n m (Skip worker write) le h = refl

-- an I/O that is ended or judged was started
pub refers_next : (plan : Plan) (h : List Event) (e : Event) → is_legal plan h ≡ true → may_happen plan h e ≡ true → refers (length (started h)) e ≡ true
refers_next plan h (End worker io outcome) legal may =
    (and_parts (nat_lt io (length (started h))) (is_none (outcome_of h io)) (and_parts (flies h io) (end_fits worker outcome (slice_get (started h) io)) may).0).0
refers_next plan h (Verdict worker io verdict) legal may =
    let parts = and_parts (ended_whole (outcome_of h io) && not (is_judged h io)) (verdict_fits plan (has_raced h io) verdict (slice_get (started h) io)) may in
    let ended = and_parts (ended_whole (outcome_of h io)) (not (is_judged h io)) parts.0 in
    lt-ltb io (length (started h)) ((legal_is_well plan h legal).ends io Whole (whole_some (outcome_of h io) ended.0))
refers_next plan h (Issue worker kind write piece) legal may = refl
refers_next plan h (Probe worker write piece) legal may = refl
refers_next plan h (Skip worker write) legal may = refl

pub refers_now : (plan : Plan) (h : List Event) (e : Event) → IsStep plan h e → refers (length (started h)) e ≡ true
refers_now plan h e step = refers_next plan h e step.legal step.may

pub refer_all : (plan : Plan) (history : List Event) → is_legal plan history ≡ true → list_all (refers (length (started history))) history ≡ true
refer_all plan history legal = by_events plan (λ (h : List Event). list_all (refers (length (started h))) h ≡ true) refl grows history legal
  where
    grows : (h : List Event) (e : Event) → is_legal plan h ≡ true → list_all (refers (length (started h))) h ≡ true → may_happen plan h e ≡ true → list_all (refers (length (started (h ++ e ∷ [])))) (h ++ e ∷ []) ≡ true
    grows h e legal_h so_far may =
        let n = length (started h) in
        let m = length (started (h ++ e ∷ [])) in
        let le : n ≤ m = omega (arith, ap length (started-more h e), length-append (started h) (cons_option (started_by e) [])) in
        list_all-append (refers m) h (e ∷ [])
        ∙ and_from (list_all (refers m) h) (refers m e && true) (all_weaker (refers n) (refers m) h (λ x. refers_more n m x le) so_far)
        (and_from (refers m e) true (refers_more n m e le (refers_next plan h e legal_h may)) refl)

pub all_refer : (plan : Plan) (history : List Event) → is_legal plan history ≡ true → are_fine history ≡ true → list_all (refers (length (started history))) history ≡ true
all_refer plan history legal quiet = refer_all plan history legal

-- an I/O in a list with one more is that one, or an earlier one
pub got_push : {X : Type 0} (xs : List X) (x y : X) (k : ℕ) → slice_get (xs ++ x ∷ []) k ≡ Some y → (slice_get xs k ≡ Some y) ⊎ ((k ≡ length xs) × (x ≡ y))
got_push [] x y zero h = inr (refl, some_same x y h)
  where
    some_same : {Z : Type 0} (u v : Z) → Some u ≡ Some v → u ≡ v
    some_same u v g = cc
got_push [] x y (suc k) h = cc
got_push (z ∷ xs) x y zero h = inl h
got_push (z ∷ xs) x y (suc k) h =
    elim (got_push xs x y k h) [
      | inl before ↦ inl before
      | inr last ↦ inr (ap suc last.0, last.1)
    ]

-- the worth of an event by the I/O that it speaks of is the same where more I/Os are started
abbrev pub Agrees : {X : Type 0} → (List Started → Event → X) → Type 0
Agrees F = (ios more : List Started) (e : Event) → refers (length ios) e ≡ true → F (ios ++ more) e ≡ F ios e

-- the event names this draw of the plan
pub record IsNamed (plan : Plan) (write : WriteId) (job : SubJob) (draw : Draw) : Type 0 where
  pub planned : clone_of plan write.clone ≡ Some job
  pub drawn : slice_get (draws_of_job job write.pass) write.number ≡ Some draw
  pub clone : job.clone ≡ write.clone
  pub number : draw.number ≡ write.number
  pub name : write_id (pass_of job write.pass) draw ≡ write

pub named : (plan : Plan) (write : WriteId) (job : SubJob) (draw : Draw) → IsNumbered plan → clone_of plan write.clone ≡ Some job → slice_get (draws_of_job job write.pass) write.number ≡ Some draw → IsNamed plan write job draw
named plan write job draw numbered planned drawn =
    let clone = numbered write.clone job planned in
    let number : draw.number ≡ write.number = omega (arith, number-draws_from job (fresh_progress job) (pass_words job write.pass (4 * job.cells)) write.number draw drawn) in
    let make : ℕ → ℕ → WriteId = λ (c k : ℕ). record { clone = c; pass = write.pass; number = k } in
    record {
      planned = planned;
      drawn = drawn;
      clone = clone;
      number = number;
      name = ap (λ (c : ℕ). make c draw.number) clone ∙ ap (λ (k : ℕ). make write.clone k) number;
    }

-- what a draw is issued as writes where the draw does
pub write_kind : (job : SubJob) (d : Draw) → is_write (kind_for (issued_as job d.dir)) ≡ is_write_draw d
write_kind job d = by_dir d.dir
  where
    by_check : (b : Bool) → is_write (kind_for (cond b issue.ReadCheck issue.Read)) ≡ false
    by_check true = refl
    by_check false = refl

    by_dir : (dir : Dir) → is_write (kind_for (issued_as job dir)) ≡ is_write_draw (record { number = d.number; dir = dir; piece = d.piece; seed = d.seed })
    by_dir direction.Read = by_check (checks_reads job)
    by_dir direction.Write = refl

-- a draw's issue
pub record IsIssue (plan : Plan) (h : List Event) (kind : IssueKind) (write : WriteId) (piece : Piece) : Type 0 where
  pub job : SubJob
  pub draw : Draw
  pub names : IsNamed plan write job draw
  pub kind_is : issued_as job draw.dir ≡ kind
  pub piece_is : draw.piece ≡ piece
  pub may : may_issue plan h (pass_of job write.pass) draw ≡ true

-- a draw's check or skip
pub record IsTakeUp (plan : Plan) (h : List Event) (intact : Bool) (write : WriteId) : Type 0 where
  pub job : SubJob
  pub draw : Draw
  pub names : IsNamed plan write job draw
  pub may : may_take_up plan h (pass_of job write.pass) draw ≡ true
  pub intact_is : is_intact h (write_id (pass_of job write.pass) draw) draw.piece ≡ intact

pub issue_of : (plan : Plan) (h : List Event) (worker : ℕ) (kind : IssueKind) (write : WriteId) (piece : Piece) → IsNumbered plan → may_happen plan h (Issue worker kind write piece) ≡ true → IsIssue plan h kind write piece
issue_of plan h worker kind write piece numbered may = by_clone (clone_of plan write.clone) refl may
  where
    by_cases : (pass : Pass) (draw : Draw) (taken intact may_be : Bool) → is_this_issue kind write piece (cond taken (Some (cond intact (Probe worker (write_id pass draw) draw.piece) (Skip worker (write_id pass draw)))) (cond may_be (Some (Issue worker (issued_as pass.job draw.dir) (write_id pass draw) draw.piece)) None)) ≡ true → (may_be ≡ true) × (issued_as pass.job draw.dir ≡ kind) × (draw.piece ≡ piece)
    by_cases pass draw true true may_be g = cc
    by_cases pass draw true false may_be g = cc
    by_cases pass draw false intact false g = cc
    by_cases pass draw false intact true g =
        let parts = and_parts (same_issue (issued_as pass.job draw.dir) kind && same_write (write_id pass draw) write) (same_piece draw.piece piece) g in
        let front = and_parts (same_issue (issued_as pass.job draw.dir) kind) (same_write (write_id pass draw) write) parts.0 in
        (refl, eq_issue (issued_as pass.job draw.dir) kind front.0, eq_piece draw.piece piece parts.1)

    by_draw : (job : SubJob) → clone_of plan write.clone ≡ Some job → (o : Option Draw) → slice_get (draws_of_job job write.pass) write.number ≡ o → is_this_issue kind write piece (step_of_draw plan h worker (pass_of job write.pass) o) ≡ true → IsIssue plan h kind write piece
    by_draw job planned None drawn g = cc
    by_draw job planned (Some draw) drawn g =
        let pass = pass_of job write.pass in
        let found = by_cases pass draw (may_take_up plan h pass draw) (is_intact h (write_id pass draw) draw.piece) (may_issue plan h pass draw) g in
        record { job = job; draw = draw; names = named plan write job draw numbered planned drawn; kind_is = found.1; piece_is = found.2; may = found.0 }

    by_clone : (o : Option SubJob) → clone_of plan write.clone ≡ o → is_this_issue kind write piece (step_of_clone plan h worker write o) ≡ true → IsIssue plan h kind write piece
    by_clone None planned g = cc
    by_clone (Some job) planned g = by_draw job planned (slice_get (draws_of_job job write.pass) write.number) refl g

-- a draw's check, over its piece
pub record IsProbe (plan : Plan) (h : List Event) (write : WriteId) (piece : Piece) : Type 0 where
  pub take : IsTakeUp plan h true write
  pub piece_is : take.draw.piece ≡ piece

pub probed_of : (plan : Plan) (h : List Event) (worker : ℕ) (write : WriteId) (piece : Piece) → IsNumbered plan → may_happen plan h (Probe worker write piece) ≡ true → IsProbe plan h write piece
probed_of plan h worker write piece numbered may = by_clone (clone_of plan write.clone) refl may
  where
    by_cases : (pass : Pass) (draw : Draw) (taken intact may_be : Bool) → is_this_probe write piece (cond taken (Some (cond intact (Probe worker (write_id pass draw) draw.piece) (Skip worker (write_id pass draw)))) (cond may_be (Some (Issue worker (issued_as pass.job draw.dir) (write_id pass draw) draw.piece)) None)) ≡ true → (taken ≡ true) × (intact ≡ true) × (draw.piece ≡ piece)
    by_cases pass draw true true may_be g =
        (refl, refl, eq_piece draw.piece piece (and_parts (same_write (write_id pass draw) write) (same_piece draw.piece piece) g).1)
    by_cases pass draw true false may_be g = cc
    by_cases pass draw false intact false g = cc
    by_cases pass draw false intact true g = cc

    by_draw : (job : SubJob) → clone_of plan write.clone ≡ Some job → (o : Option Draw) → slice_get (draws_of_job job write.pass) write.number ≡ o → is_this_probe write piece (step_of_draw plan h worker (pass_of job write.pass) o) ≡ true → IsProbe plan h write piece
    by_draw job planned None drawn g = cc
    by_draw job planned (Some draw) drawn g =
        let pass = pass_of job write.pass in
        let found = by_cases pass draw (may_take_up plan h pass draw) (is_intact h (write_id pass draw) draw.piece) (may_issue plan h pass draw) g in
        record {
          take = record { job = job; draw = draw; names = named plan write job draw numbered planned drawn; may = found.0; intact_is = found.1 };
          piece_is = found.2;
        }

    by_clone : (o : Option SubJob) → clone_of plan write.clone ≡ o → is_this_probe write piece (step_of_clone plan h worker write o) ≡ true → IsProbe plan h write piece
    by_clone None planned g = cc
    by_clone (Some job) planned g = by_draw job planned (slice_get (draws_of_job job write.pass) write.number) refl g

pub probe_of : (plan : Plan) (h : List Event) (worker : ℕ) (write : WriteId) (piece : Piece) → IsNumbered plan → may_happen plan h (Probe worker write piece) ≡ true → IsTakeUp plan h true write
probe_of plan h worker write piece numbered may = (probed_of plan h worker write piece numbered may).take

pub skip_of : (plan : Plan) (h : List Event) (worker : ℕ) (write : WriteId) → IsNumbered plan → may_happen plan h (Skip worker write) ≡ true → IsTakeUp plan h false write
skip_of plan h worker write numbered may = by_clone (clone_of plan write.clone) refl may
  where
    by_cases : (pass : Pass) (draw : Draw) (taken intact may_be : Bool) → is_this_skip write (cond taken (Some (cond intact (Probe worker (write_id pass draw) draw.piece) (Skip worker (write_id pass draw)))) (cond may_be (Some (Issue worker (issued_as pass.job draw.dir) (write_id pass draw) draw.piece)) None)) ≡ true → (taken ≡ true) × (intact ≡ false)
    by_cases pass draw true true may_be g = cc
    by_cases pass draw true false may_be g = (refl, refl)
    by_cases pass draw false intact false g = cc
    by_cases pass draw false intact true g = cc

    by_draw : (job : SubJob) → clone_of plan write.clone ≡ Some job → (o : Option Draw) → slice_get (draws_of_job job write.pass) write.number ≡ o → is_this_skip write (step_of_draw plan h worker (pass_of job write.pass) o) ≡ true → IsTakeUp plan h false write
    by_draw job planned None drawn g = cc
    by_draw job planned (Some draw) drawn g =
        let pass = pass_of job write.pass in
        let found = by_cases pass draw (may_take_up plan h pass draw) (is_intact h (write_id pass draw) draw.piece) (may_issue plan h pass draw) g in
        record { job = job; draw = draw; names = named plan write job draw numbered planned drawn; may = found.0; intact_is = found.1 }

    by_clone : (o : Option SubJob) → clone_of plan write.clone ≡ o → is_this_skip write (step_of_clone plan h worker write o) ≡ true → IsTakeUp plan h false write
    by_clone None planned g = cc
    by_clone (Some job) planned g = by_draw job planned (slice_get (draws_of_job job write.pass) write.number) refl g
