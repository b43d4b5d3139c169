-- The history of one worker over a right memory is legal.
use Rattle.std.proofs.Common.{◌≡◌, ℕ, zero, suc, ◌*◌, ◌<◌, ◌≤◌, List, [], ◌∷◌, ◌++◌, length, Bool, true, false, cond, ◌&&◌, ◌||◌, not, refl, sym, ◌∙◌, ap, subst, arith, inl, inr, append_assoc, append-nil, length-append}
use Rattle.std.specs.Prelude.{Option, Some, None, slice_get, nat_lt, ◌==◌, is_none}
use Rattle.std.specs.Option.{option_or}
use Rattle.std.specs.List.{list_any, cons_option}
use Rattle.std.proofs.lemmas.Bool.{and_parts, and_from, cases_eq, eq-eqb, eqb-true, lt-ltb, ltb-true, false_from_ne_true, or_cases}
use Rattle.std.proofs.lemmas.List.Elements.{filter_map-append}
use Rattle.jr_model.specs.declared.blocks.Piece.{Piece}
use Rattle.jr_model.specs.declared.events.Event.{Event}
use Rattle.jr_model.specs.declared.events.Event.TheVariants.{Issue, Probe, Skip, End, Verdict}
use Rattle.jr_model.specs.declared.events.IssueKind.{IssueKind}
use Rattle.jr_model.specs.declared.events.IssueKind.TheVariants as issue
use Rattle.jr_model.specs.declared.events.Outcome.{Outcome}
use Rattle.jr_model.specs.declared.events.Outcome.TheVariants.{Whole, Failed, Short}
use Rattle.jr_model.specs.declared.events.Verdict.{Verdict as GivenVerdict}
use Rattle.jr_model.specs.declared.events.Verdict.TheVariants.{Good}
use Rattle.jr_model.specs.declared.events.WriteId.{WriteId}
use Rattle.jr_model.specs.declared.tickets.TicketKind.TheVariants as ticket
use Rattle.jr_model.specs.Choice.{choice}
use Rattle.jr_model.specs.History.{first_given, Started, started, started_by, end_of, outcome_of, flies, is_verdict_on, is_judged, ended_whole, is_judged_kind}
use Rattle.jr_model.specs.Legal.{is_legal, may_happen, end_fits, verdict_fits, job_says}
use Rattle.jr_model.specs.Plan.{Plan, SubJob, IsNumbered, clone_of, issued_as}
use Rattle.jr_model.specs.Serial.{carried_out, goes_on, memory_after, serial_after, serial_history, stored_for}
use Rattle.jr_model.specs.Races.{has_raced}
use Rattle.jr_model.proofs.MachineLaws.{job_says_fits, range_short}
use Rattle.jr_model.proofs.RaceLaws.{raced_other, still_unraced}
use Rattle.jr_model.proofs.LegalLaws.{is_legal-more, choice_may_happen, choice_is_step, cases_step_of, starts_planned}
use Rattle.jr_model.specs.Machine.{seed_of_draw, verdict_on, work_of}
use Rattle.jr_model.specs.Draws.{draws_of}
use Rattle.jr_model.specs.Replies.{FileBytes}
use Rattle.jr_model.specs.Rounds.{pass_of, write_id}
use Rattle.jr_model.proofs.OptionLemmas.{or_some, none_from}
use Rattle.jr_model.proofs.PlaceLemmas.{got_last}

-- an I/O that ended was started
abbrev pub EndsWereStarted : List Event → Type 0
EndsWereStarted history = (io : ℕ) (o : Outcome) → outcome_of history io ≡ Some o → io < length (started history)

-- a check that was judged was started
abbrev pub JudgedWereStarted : List Event → Type 0
JudgedWereStarted history = (io : ℕ) → is_judged history io ≡ true → io < length (started history)

pub or_assoc : {Z : Type 0} (a b c : Option Z) → option_or a (option_or b c) ≡ option_or (option_or a b) c
or_assoc None b c = refl
or_assoc (Some z) b c = refl

pub first_given-append : {X Y : Type 0} (f : X → Option Y) (xs ys : List X) → first_given f (xs ++ ys) ≡ option_or (first_given f xs) (first_given f ys)
first_given-append f [] ys = refl
first_given-append f (x ∷ xs) ys =
    ap (option_or (f x)) (first_given-append f xs ys) ∙ or_assoc (f x) (first_given f xs) (first_given f ys)

pub any-append : {X : Type 0} (f : X → Bool) (xs ys : List X) → list_any f (xs ++ ys) ≡ (list_any f xs || list_any f ys)
any-append f [] ys = refl
any-append f (x ∷ xs) ys = ap (λ b. f x || b) (any-append f xs ys) ∙ or_or (f x) (list_any f xs) (list_any f ys)
  where
    or_or : (a b c : Bool) → (a || (b || c)) ≡ ((a || b) || c)
    or_or true b c = refl
    or_or false b c = refl

-- what is started is only added to
pub longer : (history : List Event) (e : Event) → length (started history) ≤ length (started (history ++ e ∷ []))
longer history e =
    let parts = filter_map-append started_by history (e ∷ []) in
    omega (arith, ap length parts, length-append (started history) (started (e ∷ [])))

pub cond_some : (b : Bool) (o p : Outcome) → cond b (Some o) None ≡ Some p → b ≡ true
cond_some true o p h = refl
cond_some false o p h = cc

-- an event that ends an I/O may happen only while it flies
pub end_was_started : (plan : Plan) (history : List Event) (e : Event) (io : ℕ) (o : Outcome) → may_happen plan history e ≡ true → option_or (end_of io e) None ≡ Some o → io < length (started history)
end_was_started plan history (Issue worker kind write piece) io o may h = cc
end_was_started plan history (Probe worker write piece) io o may h = cc
end_was_started plan history (Skip worker write) io o may h = cc
end_was_started plan history (Verdict worker id verdict) io o may h = cc
end_was_started plan history (End worker id outcome) io o may h =
    let hit = or_some (cond (id == io) (Some outcome) None) None o h in
    let same : id ≡ io = eqb-true id io (elim hit [ inl e ↦ cond_some (id == io) outcome o e | inr e ↦ none_some o e ]) in
    let flying = and_parts (flies history id) (end_fits worker outcome (slice_get (started history) id)) may in
    let started_it = and_parts (nat_lt id (length (started history))) (is_none (outcome_of history id)) flying.0 in
    subst (λ (n : ℕ). n < length (started history)) same (ltb-true id (length (started history)) started_it.0)
  where
    none_some : (p : Outcome) → None ≡ Some p → (id == io) ≡ true
    none_some p g = cc

pub ends-more : (plan : Plan) (history : List Event) (e : Event) → EndsWereStarted history → may_happen plan history e ≡ true → EndsWereStarted (history ++ e ∷ [])
ends-more plan history e ends may io o h =
    let here : io < length (started history) =
    elim (or_some (outcome_of history io) (first_given (end_of io) (e ∷ [])) o (sym (first_given-append (end_of io) history (e ∷ [])) ∙ h)) [
      | inl before ↦ ends io o before
      | inr now ↦ end_was_started plan history e io o may now
    ] in
    omega (arith, here, longer history e)

pub whole_some : (o : Option Outcome) → ended_whole o ≡ true → o ≡ Some Whole
whole_some None h = cc
whole_some (Some Whole) h = refl
whole_some (Some Failed) h = cc
whole_some (Some (Short n)) h = cc

pub judge_was_started : (plan : Plan) (history : List Event) (e : Event) (io : ℕ) → EndsWereStarted history → may_happen plan history e ≡ true → (is_verdict_on io e || false) ≡ true → io < length (started history)
judge_was_started plan history (Issue worker kind write piece) io ends may h = cc
judge_was_started plan history (Probe worker write piece) io ends may h = cc
judge_was_started plan history (Skip worker write) io ends may h = cc
judge_was_started plan history (End worker id outcome) io ends may h = cc
judge_was_started plan history (Verdict worker id verdict) io ends may h =
    let same : id ≡ io = eqb-true id io (or_false (id == io) h) in
    let parts = and_parts (ended_whole (outcome_of history id) && not (is_judged history id)) (verdict_fits plan (has_raced history id) verdict (slice_get (started history) id)) may in
    let ended = and_parts (ended_whole (outcome_of history id)) (not (is_judged history id)) parts.0 in
    subst (λ (n : ℕ). n < length (started history)) same (ends id Whole (whole_some (outcome_of history id) ended.0))
  where
    or_false : (b : Bool) → (b || false) ≡ true → b ≡ true
    or_false true g = refl
    or_false false g = g

pub judged-more : (plan : Plan) (history : List Event) (e : Event) → EndsWereStarted history → JudgedWereStarted history → may_happen plan history e ≡ true → JudgedWereStarted (history ++ e ∷ [])
judged-more plan history e ends judged may io h =
    let here : io < length (started history) =
    elim (or_cases (is_judged history io) (list_any (is_verdict_on io) (e ∷ [])) (sym (any-append (is_verdict_on io) history (e ∷ [])) ∙ h)) [
      | inl before ↦ judged io before
      | inr now ↦ judge_was_started plan history e io ends may now
    ] in
    omega (arith, here, longer history e)

-- a legal history, in which what ended or was judged was started
pub record IsWell (plan : Plan) (history : List Event) : Type 0 where
  pub legal : is_legal plan history ≡ true
  pub ends : EndsWereStarted history
  pub judged : JudgedWereStarted history

pub well-more : (plan : Plan) (history : List Event) (e : Event) → IsWell plan history → may_happen plan history e ≡ true → IsWell plan (history ++ e ∷ [])
well-more plan history e well may = record {
  legal = is_legal-more plan history e well.legal may;
  ends = ends-more plan history e well.ends may;
  judged = judged-more plan history e well.ends well.judged may;
}

-- all that was started has ended
abbrev pub AllEnded : List Event → Type 0
AllEnded history = (io : ℕ) → io < length (started history) → is_none (outcome_of history io) ≡ false

whole_is_some : (o : Option Outcome) → ended_whole o ≡ true → is_none o ≡ false
whole_is_some None h = cc
whole_is_some (Some x) h = refl

-- what has ended stays so
pub still_ended : (history events : List Event) (io : ℕ) → is_none (outcome_of history io) ≡ false → is_none (outcome_of (history ++ events) io) ≡ false
still_ended history events io ended = ap is_none (first_given-append (end_of io) history events) ∙ kept (outcome_of history io) (first_given (end_of io) events) ended
  where
    kept : (a b : Option Outcome) → is_none a ≡ false → is_none (option_or a b) ≡ false
    kept None b h = cc
    kept (Some x) b h = refl

-- where an event starts nothing, all is as much at rest as before
pub rested-other : (history : List Event) (e : Event) → started_by e ≡ None → AllEnded history → AllEnded (history ++ e ∷ [])
rested-other history e nothing rested io below =
    let same : started (history ++ e ∷ []) ≡ started history =
    filter_map-append started_by history (e ∷ []) ∙ ap (λ (o : Option Started). started history ++ cons_option o []) nothing ∙ append-nil (started history) in
    still_ended history (e ∷ []) io (rested io (subst (λ (ios : List Started). io < length ios) same below))

-- a history that is well, with nothing in flight, in which nothing raced
pub record IsRested (plan : Plan) (history : List Event) : Type 0 where
  pub well : IsWell plan history
  pub rested : AllEnded history
  pub unraced : (io : ℕ) → has_raced history io ≡ false

-- the I/O that an event starts ends whole by its own worker
module _ (plan : Plan) (history : List Event) (e : Event) (s : Started) (well : IsWell plan history) (starts : started_by e ≡ Some s) (unended : end_of (length (started history)) e ≡ None) (unjudged : is_verdict_on (length (started history)) e ≡ false) (rested : AllEnded history) (unraced : (io : ℕ) → has_raced history io ≡ false) where
  now_started : started (history ++ e ∷ []) ≡ started history ++ s ∷ []
  now_started =
      filter_map-append started_by history (e ∷ []) ∙ ap (λ (o : Option Started). started history ++ cons_option o []) starts

  started_last : slice_get (started (history ++ e ∷ [])) (length (started history)) ≡ Some s
  started_last =
      ap (λ (ios : List Started). slice_get ios (length (started history))) now_started ∙ got_last (started history) s

  no_outcome : outcome_of (history ++ e ∷ []) (length (started history)) ≡ None
  no_outcome =
      first_given-append (end_of (length (started history))) history (e ∷ [])
      ∙ ap (λ (o : Option Outcome). option_or o (option_or (end_of (length (started history)) e) None))
      (none_from (outcome_of history (length (started history))) (λ (p : Outcome) (h : outcome_of history (length (started history)) ≡ Some p). let below : length (started history) < length (started history) = well.ends (length (started history)) p h in omega (arith, below)))
      ∙ ap (λ (o : Option Outcome). option_or o None) unended

  may_end_whole : s.worker ≡ 0 → may_happen plan (history ++ e ∷ []) (End 0 (length (started history)) Whole) ≡ true
  may_end_whole worker =
      let io = length (started history) in
      let later = history ++ e ∷ [] in
      let within : io < length (started later) = omega (arith, ap length now_started, length-append (started history) (s ∷ [])) in
      and_from (flies later io) (end_fits 0 Whole (slice_get (started later) io))
      (and_from (nat_lt io (length (started later))) (is_none (outcome_of later io)) (lt-ltb io (length (started later)) within)
      (ap is_none no_outcome))
      (subst (λ (o : Option Started). end_fits 0 Whole o ≡ true) (sym started_last)
      (and_from (s.worker == 0) true (eq-eqb s.worker 0 worker) refl))

  -- the event and its end
  well_ended : s.worker ≡ 0 → may_happen plan history e ≡ true → IsWell plan ((history ++ e ∷ []) ++ End 0 (length (started history)) Whole ∷ [])
  well_ended worker may =
      well-more plan (history ++ e ∷ []) (End 0 (length (started history)) Whole) (well-more plan history e well may) (may_end_whole worker)

  ended_whole_now : ended_whole (outcome_of ((history ++ e ∷ []) ++ End 0 (length (started history)) Whole ∷ []) (length (started history))) ≡ true
  ended_whole_now =
      let io = length (started history) in
      ap ended_whole
      (first_given-append (end_of io) (history ++ e ∷ []) (End 0 io Whole ∷ [])
      ∙ ap (λ (o : Option Outcome). option_or o (option_or (end_of io (End 0 io Whole)) None)) no_outcome
      ∙ ap (λ (b : Bool). option_or (cond b (Some Whole) None) None) (eq-eqb io io refl))

  not_judged_now : is_judged ((history ++ e ∷ []) ++ End 0 (length (started history)) Whole ∷ []) (length (started history)) ≡ false
  not_judged_now =
      let io = length (started history) in
      any-append (is_verdict_on io) (history ++ e ∷ []) (End 0 io Whole ∷ [])
      ∙ ap (λ (b : Bool). b || (false || false))
      (any-append (is_verdict_on io) history (e ∷ [])
      ∙ ap (λ (b : Bool). b || (is_verdict_on io e || false))
      (false_from_ne_true (is_judged history io) (λ (h : is_judged history io ≡ true). let below : io < io = well.judged io h in omega (arith, below)))
      ∙ ap (λ (b : Bool). false || (b || false)) unjudged)

  started_then : slice_get (started ((history ++ e ∷ []) ++ End 0 (length (started history)) Whole ∷ [])) (length (started history)) ≡ Some s
  started_then =
      let io = length (started history) in
      ap (λ (ios : List Started). slice_get ios io)
      (filter_map-append started_by (history ++ e ∷ []) (End 0 io Whole ∷ []) ∙ append-nil (started (history ++ e ∷ [])))
      ∙ started_last

  -- nothing has raced, since nothing was in flight
  unraced_now : (io : ℕ) → has_raced ((history ++ e ∷ []) ++ End 0 (length (started history)) Whole ∷ []) io ≡ false
  unraced_now io =
      raced_other (history ++ e ∷ []) (End 0 (length (started history)) Whole) io refl
      ∙ still_unraced history e s io starts rested (unraced io)

  -- a verdict that may be said of it may follow
  may_be_said : (said : GivenVerdict) → is_judged_kind s.kind ≡ true → job_says (clone_of plan s.write.clone) s.kind s.piece.len said ≡ true → may_happen plan ((history ++ e ∷ []) ++ End 0 (length (started history)) Whole ∷ []) (Verdict 0 (length (started history)) said) ≡ true
  may_be_said said judged says =
      let io = length (started history) in
      let later = (history ++ e ∷ []) ++ End 0 io Whole ∷ [] in
      and_from (ended_whole (outcome_of later io) && not (is_judged later io)) (verdict_fits plan (has_raced later io) said (slice_get (started later) io))
      (and_from (ended_whole (outcome_of later io)) (not (is_judged later io)) ended_whole_now (ap not not_judged_now))
      (subst (λ (b : Bool). verdict_fits plan b said (slice_get (started later) io) ≡ true) (sym (unraced_now io))
      (subst (λ (o : Option Started). verdict_fits plan false said o ≡ true) (sym started_then)
      (and_from (is_judged_kind s.kind) (job_says (clone_of plan s.write.clone) s.kind s.piece.len said) judged says)))

  -- all has ended again
  rested_then : AllEnded ((history ++ e ∷ []) ++ End 0 (length (started history)) Whole ∷ [])
  rested_then io below =
      let n = length (started history) in
      let grown : started ((history ++ e ∷ []) ++ End 0 n Whole ∷ []) ≡ started history ++ s ∷ [] =
      filter_map-append started_by (history ++ e ∷ []) (End 0 n Whole ∷ []) ∙ append-nil (started (history ++ e ∷ [])) ∙ now_started in
      elim (cases_eq io n) [
        | inl same ↦
            ap (λ (k : ℕ). is_none (outcome_of ((history ++ e ∷ []) ++ End 0 n Whole ∷ []) k)) same
            ∙ whole_is_some (outcome_of ((history ++ e ∷ []) ++ End 0 n Whole ∷ []) n) ended_whole_now
        | inr apart ↦
            let within : io < n = omega (arith, below, ap length grown, length-append (started history) (s ∷ []), apart) in
            still_ended (history ++ e ∷ []) (End 0 n Whole ∷ []) io (still_ended history (e ∷ []) io (rested io within))
      ]

  -- the event, its end, and a verdict that may be said of it
  well_judged : (said : GivenVerdict) → s.worker ≡ 0 → may_happen plan history e ≡ true → is_judged_kind s.kind ≡ true → job_says (clone_of plan s.write.clone) s.kind s.piece.len said ≡ true → IsRested plan (history ++ e ∷ End 0 (length (started history)) Whole ∷ Verdict 0 (length (started history)) said ∷ [])
  well_judged said worker may judged says =
      let io = length (started history) in
      let ended = (history ++ e ∷ []) ++ End 0 io Whole ∷ [] in
      subst (λ (all : List Event). IsRested plan all) (append_assoc history (e ∷ []) (End 0 io Whole ∷ Verdict 0 io said ∷ []))
      (subst (λ (all : List Event). IsRested plan all) (append_assoc (history ++ e ∷ []) (End 0 io Whole ∷ []) (Verdict 0 io said ∷ []))
      (record {
        well = well-more plan ended (Verdict 0 io said) (well_ended worker may) (may_be_said said judged says);
        rested = rested-other ended (Verdict 0 io said) refl rested_then;
        unraced = λ id. raced_other ended (Verdict 0 io said) id refl ∙ unraced_now id;
      }))

  -- the event and its end alone
  well_unjudged : s.worker ≡ 0 → may_happen plan history e ≡ true → IsRested plan (history ++ e ∷ End 0 (length (started history)) Whole ∷ [])
  well_unjudged worker may =
      subst (λ (all : List Event). IsRested plan all) (append_assoc history (e ∷ []) (End 0 (length (started history)) Whole ∷ []))
      (record { well = well_ended worker may; rested = rested_then; unraced = unraced_now })

-- the bytes that a memory has of a piece are no more than the piece's
pub stored_short : (memory : List FileBytes) (s : Started) → length (stored_for memory s) ≤ s.piece.len
stored_short memory s = range_short (slice_get memory s.piece.file) s.piece.offset s.piece.len

-- a check may be good
says_good : (job : Option SubJob) (found : SubJob) (len : ℕ) → job ≡ Some found → job_says job ticket.Probe len Good ≡ true
says_good None found len planned = cc
says_good (Some job) found len planned = refl

-- of a checked read may be said what its bytes say
says_own : (plan : Plan) (s : Started) (found : SubJob) (bytes : List ℕ) → clone_of plan s.write.clone ≡ Some found → is_judged_kind s.kind ≡ true → length bytes ≤ s.piece.len → job_says (clone_of plan s.write.clone) s.kind s.piece.len (verdict_on plan s bytes) ≡ true
says_own plan s found bytes planned judged short =
    job_says_fits (clone_of plan s.write.clone) found s (seed_of_draw (slice_get (draws_of plan s.write.clone s.write.pass) s.write.number)) bytes planned judged short

-- a choice that is carried out leaves a legal history
pub well_issue : (plan : Plan) (history : List Event) (kind : IssueKind) (write : WriteId) (piece : Piece) → IsRested plan history → may_happen plan history (Issue 0 kind write piece) ≡ true → IsRested plan (history ++ carried_out plan history (Issue 0 kind write piece))
well_issue plan history issue.Read write piece well may =
    well_unjudged plan history (Issue 0 issue.Read write piece) (record { worker = 0; kind = ticket.Read; write = write; piece = piece }) well.well refl refl refl well.rested well.unraced refl may
well_issue plan history issue.Write write piece well may =
    well_unjudged plan history (Issue 0 issue.Write write piece) (record { worker = 0; kind = ticket.Write; write = write; piece = piece }) well.well refl refl refl well.rested well.unraced refl may
well_issue plan history issue.ReadCheck write piece well may =
    let e = Issue 0 issue.ReadCheck write piece in
    let s : Started = record { worker = 0; kind = ticket.ReadCheck; write = write; piece = piece } in
    let planned = starts_planned plan history e s may refl in
    let bytes = stored_for (memory_after plan history) s in
    well_judged plan history e s well.well refl refl refl well.rested well.unraced (verdict_on plan s bytes) refl may refl
    (says_own plan s planned.0 bytes planned.1 refl (stored_short (memory_after plan history) s))

pub well_probe : (plan : Plan) (history : List Event) (write : WriteId) (piece : Piece) → IsRested plan history → may_happen plan history (Probe 0 write piece) ≡ true → IsRested plan (history ++ carried_out plan history (Probe 0 write piece))
well_probe plan history write piece well may =
    let e = Probe 0 write piece in
    let s : Started = record { worker = 0; kind = ticket.Probe; write = write; piece = piece } in
    let planned = starts_planned plan history e s may refl in
    well_judged plan history e s well.well refl refl refl well.rested well.unraced Good refl may refl (says_good (clone_of plan write.clone) planned.0 piece.len planned.1)

pub well_choice : (plan : Plan) (history : List Event) (e : Event) → IsNumbered plan → IsRested plan history → choice plan history 0 ≡ Some e → IsRested plan (history ++ carried_out plan history e)
well_choice plan history e numbered well chosen =
    let may = choice_may_happen plan history 0 e numbered chosen in
    let step = choice_is_step plan history 0 e numbered chosen in
    let pass = pass_of step.0 step.1 in
    elim (cases_step_of plan history 0 pass step.2 e step.3) [
      | inl probe ↦
          subst (λ (x : Event). IsRested plan (history ++ carried_out plan history x)) (sym probe)
          (well_probe plan history (write_id pass step.2) step.2.piece well (subst (λ (x : Event). may_happen plan history x ≡ true) probe may))
      | inr other ↦
          elim other [
            | inl skip ↦
                subst (λ (x : Event). IsRested plan (history ++ carried_out plan history x)) (sym skip)
                (record {
                  well = well-more plan history (Skip 0 (write_id pass step.2)) well.well (subst (λ (x : Event). may_happen plan history x ≡ true) skip may);
                  rested = rested-other history (Skip 0 (write_id pass step.2)) refl well.rested;
                  unraced = λ id. raced_other history (Skip 0 (write_id pass step.2)) id refl ∙ well.unraced id;
                })
            | inr issued ↦
                subst (λ (x : Event). IsRested plan (history ++ carried_out plan history x)) (sym issued)
                (well_issue plan history (issued_as step.0 step.2.dir) (write_id pass step.2) step.2.piece well (subst (λ (x : Event). may_happen plan history x ≡ true) issued may))
          ]
    ]

pub well_goes_on : (plan : Plan) (rest : List Event → List Event) (history : List Event) (o : Option Event) → ((longer : List Event) → IsRested plan longer → IsRested plan (rest longer)) → IsNumbered plan → IsRested plan history → choice plan history 0 ≡ o → IsRested plan (goes_on plan rest history o)
well_goes_on plan rest history None keeps numbered well chosen = well
well_goes_on plan rest history (Some e) keeps numbered well chosen =
    keeps (history ++ carried_out plan history e) (well_choice plan history e numbered well chosen)

pub well_serial : (limit : ℕ) (plan : Plan) (history : List Event) → IsNumbered plan → IsRested plan history → IsRested plan (serial_after limit plan history)
well_serial zero plan history numbered well = well
well_serial (suc limit) plan history numbered well =
    well_goes_on plan (serial_after limit plan) history (choice plan history 0)
    (λ (more : List Event) (still : IsRested plan more). well_serial limit plan more numbered still) numbered well refl

-- the history of one worker is legal, and nothing races in it
pub rested_serial : (plan : Plan) → IsNumbered plan → IsRested plan (serial_history plan)
rested_serial plan numbered =
    (well_serial (2 * work_of plan) plan [] numbered (record {
      well = record { legal = refl; ends = λ io o h. none_some io o h; judged = λ io h. none_true io h };
      rested = λ io below. absurd (omega (arith, below));
      unraced = λ io. refl;
    }))
  where
    none_some : (io : ℕ) (o : Outcome) → None ≡ Some o → io < 0
    none_some io o h = cc

    none_true : (io : ℕ) → false ≡ true → io < 0
    none_true io h = cc

pub legal_serial : (plan : Plan) → IsNumbered plan → is_legal plan (serial_history plan) ≡ true
legal_serial plan numbered = (rested_serial plan numbered).well.legal
