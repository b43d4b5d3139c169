-- Where no clone declines, nothing races; and where nothing races, no verdict is void. What an event makes of a block's last
-- write, whoever declines.
use Rattle.std.proofs.Common.{◌≡◌, ℕ, zero, suc, ◌<◌, List, [], ◌∷◌, ◌++◌, length, Bool, true, false, cond, ◌&&◌, ◌||◌, not, refl, sym, ◌∙◌, ap, subst, append-nil}
use Rattle.std.specs.Prelude.{Option, Some, None, slice_get, nat_lt, ◌==◌, is_none, is_some, fold}
use Rattle.std.specs.Option.{option_or}
use Rattle.std.specs.List.{list_any, cons_option}
use Rattle.std.proofs.lemmas.Bool.{and_parts, and_from, eq-eqb, or_left, or_right, or_parts, both_ways, not-true, false_from_ne_true}
use Rattle.std.proofs.lemmas.List.Folds.{list_all-append}
use Rattle.std.proofs.lemmas.List.Sums.{fold_push}
use Rattle.jr_model.specs.declared.blocks.Piece.{Piece}
use Rattle.jr_model.specs.declared.events.Event.{Event}
use Rattle.jr_model.specs.declared.events.Event.TheVariants.{Issue, Probe, Skip, End, Verdict}
use Rattle.jr_model.specs.declared.events.IssueKind.{IssueKind}
use Rattle.jr_model.specs.declared.events.Outcome.{Outcome}
use Rattle.jr_model.specs.declared.events.Started.{Started}
use Rattle.jr_model.specs.declared.events.Verdict.TheVariants.{Good, Bad, Void}
use Rattle.jr_model.specs.declared.events.WriteId.{WriteId}
use Rattle.jr_model.specs.declared.tickets.TicketKind.{TicketKind}
use Rattle.jr_model.specs.declared.tickets.TicketKind.TheVariants as ticket
use Rattle.jr_model.specs.History.{started, started_by, kind_for, end_of, first_given, outcome_of, flies, in_flight, is_judged, is_judged_kind, is_write, ended_whole}
use Rattle.jr_model.specs.LastWrite.{last_after, last_after_end, last_write}
use Rattle.jr_model.specs.Legal.{is_legal, may_happen, conflicts, is_void, job_says, verdict_fits}
use Rattle.jr_model.specs.Pieces.{pieces_overlap}
use Rattle.jr_model.specs.Plan.{Plan, SubJob, IsNumbered, clone_of}
use Rattle.jr_model.specs.Races.{writes_over, writes_over_io, races_by, has_raced}
use Rattle.jr_model.specs.Rounds.{is_write_draw, pass_of}
use Rattle.jr_model.proofs.RaceLaws.{raced_push, raced_other, raced_for_good}
use Rattle.jr_model.proofs.PieceLemmas.{overlap_turned}
use Rattle.jr_model.proofs.PlaceLemmas.{got_longer}
use Rattle.jr_model.proofs.HistoryLemmas.{legal_is_well, started-more}
use Rattle.jr_laws_quiet.specs.Quiet.{NothingRaced, is_calm, is_quiet}
use Rattle.jr_laws_quiet.specs.Declining.{none_declines}
use Rattle.jr_laws_quiet.proofs.Steps.{is_fine, are_fine, each_legal, issue_of, probed_of, write_kind}
use Rattle.jr_laws_quiet.proofs.Issues.{may_issue_parts, may_take_up_parts}
use Rattle.jr_laws_quiet.proofs.Flights.{is_free, clear_is_free, found_flying}
use Rattle.jr_laws_quiet.proofs.Ends.{has_ended}

-- where nothing passes the weaker test, nothing passes the stronger
none_pass : {X : Type 0} (p q : X → Bool) (xs : List X) → ((x : X) → p x ≡ true → q x ≡ true) → list_any q xs ≡ false → list_any p xs ≡ false
none_pass p q [] weaker none = refl
none_pass p q (x ∷ xs) weaker none =
    let here : q x ≡ false = false_from_ne_true (q x) (λ hit. both_ways (list_any q (x ∷ xs)) none (or_left (q x) (list_any q xs) hit)) in
    let rest : list_any q xs ≡ false = false_from_ne_true (list_any q xs) (λ hit. both_ways (list_any q (x ∷ xs)) none (or_right (q x) (list_any q xs) hit)) in
    ap (λ (b : Bool). b || list_any p xs) (false_from_ne_true (p x) (λ hit. both_ways (q x) here (weaker x hit)))
    ∙ none_pass p q xs weaker rest

-- what starts free of all that is in flight makes nothing race
module _ (h : List Event) (new : Started) (free : is_free h (is_write new.kind) new.piece ≡ true) where
  none_conflicts : list_any (conflicts (is_write new.kind) new.piece) (in_flight h) ≡ false
  none_conflicts = not-true (list_any (conflicts (is_write new.kind) new.piece) (in_flight h)) free

  over_new : (other : Started) → writes_over new.piece other ≡ true → conflicts (is_write new.kind) new.piece other ≡ true
  over_new other over =
      let parts = and_parts (is_write other.kind) (pieces_overlap other.piece new.piece) over in
      and_from (is_write new.kind || is_write other.kind) (pieces_overlap other.piece new.piece)
      (or_right (is_write new.kind) (is_write other.kind) parts.0) parts.1

  over_other : (io : ℕ) (o : Option Started) → slice_get (started h) io ≡ o → (writes_over_io o new && flies h io) ≡ true → ⊥
  over_other io None at over = cc
  over_other io (Some other) at over =
      let parts = and_parts (writes_over other.piece new) (flies h io) over in
      let hit = and_parts (is_write new.kind) (pieces_overlap new.piece other.piece) parts.0 in
      let flying = and_parts (nat_lt io (length (started h))) (is_none (outcome_of h io)) parts.1 in
      both_ways (list_any (conflicts (is_write new.kind) new.piece) (in_flight h)) none_conflicts
      (found_flying h (conflicts (is_write new.kind) new.piece) io other at (none_ended (outcome_of h io) flying.1)
      (and_from (is_write new.kind || is_write other.kind) (pieces_overlap other.piece new.piece)
      (or_left (is_write new.kind) (is_write other.kind) hit.0) (overlap_turned new.piece other.piece hit.1)))
    where
      none_ended : (o : Option Outcome) → is_none o ≡ true → is_some o ≡ false
      none_ended None g = refl
      none_ended (Some x) g = cc

  makes_none : (io : ℕ) → races_by h io (Some new) ≡ false
  makes_none io = by (length (started h) == io)
    where
      by : (b : Bool) → cond b (list_any (writes_over new.piece) (in_flight h)) (writes_over_io (slice_get (started h) io) new && flies h io) ≡ false
      by true = none_pass (writes_over new.piece) (conflicts (is_write new.kind) new.piece) (in_flight h) over_new none_conflicts
      by false =
          false_from_ne_true (writes_over_io (slice_get (started h) io) new && flies h io)
          (λ over. over_other io (slice_get (started h) io) refl over)

module _ (plan : Plan) (numbered : IsNumbered plan) (none : none_declines plan ≡ true) where
  races_none : (h : List Event) (e : Event) (io : ℕ) → may_happen plan h e ≡ true → races_by h io (started_by e) ≡ false
  races_none h (Issue worker kind write piece) io may =
      let issue = issue_of plan h worker kind write piece numbered may in
      let clear = (may_issue_parts plan h (pass_of issue.job write.pass) issue.draw issue.may).clear in
      let writes : is_write_draw issue.draw ≡ is_write (kind_for kind) =
      sym (write_kind issue.job issue.draw) ∙ ap (λ (k : IssueKind). is_write (kind_for k)) issue.kind_is in
      makes_none h (record { worker = worker; kind = kind_for kind; write = write; piece = piece })
      (subst (λ (p : Piece). is_free h (is_write (kind_for kind)) p ≡ true) issue.piece_is
      (subst (λ (w : Bool). is_free h w issue.draw.piece ≡ true) writes
      (clear_is_free plan h write.clone issue.job (is_write_draw issue.draw) issue.draw.piece none issue.names.planned clear)))
      io
  races_none h (Probe worker write piece) io may =
      let probe = probed_of plan h worker write piece numbered may in
      let take = probe.take in
      let clear = (may_take_up_parts plan h (pass_of take.job write.pass) take.draw take.may).clear in
      makes_none h (record { worker = worker; kind = ticket.Probe; write = write; piece = piece })
      (subst (λ (p : Piece). is_free h false p ≡ true) probe.piece_is
      (clear_is_free plan h write.clone take.job false take.draw.piece none take.names.planned clear))
      io
  races_none h (Skip worker write) io may = refl
  races_none h (End worker id outcome) io may = refl
  races_none h (Verdict worker id verdict) io may = refl

  -- where no clone declines, nothing races
  pub unraced : (history : List Event) → is_legal plan history ≡ true → NothingRaced history
  unraced history legal io = each_legal plan (λ (h : List Event). has_raced h io ≡ false) refl step history legal
    where
      step : (h : List Event) (e : Event) → is_legal plan h ≡ true → may_happen plan h e ≡ true → has_raced h io ≡ false → has_raced (h ++ e ∷ []) io ≡ false
      step h e legal_h may before =
          raced_push h e io
          ∙ ap (λ (b : Bool). b || races_by h io (started_by e)) before
          ∙ races_none h e io may

-- where nothing raced in a history, nothing had before its last event
pub raced_before : (h : List Event) (e : Event) → NothingRaced (h ++ e ∷ []) → NothingRaced h
raced_before h e raceless io = (or_parts (has_raced h io) (races_by h io (started_by e)) (sym (raced_push h e io) ∙ raceless io)).0

-- and what the event starts overlaps no write in flight
pub overlaps_none : (h : List Event) (e : Event) (new : Started) (id : ℕ) (s : Started) → started_by e ≡ Some new → NothingRaced (h ++ e ∷ []) → slice_get (started h) id ≡ Some s → has_ended h id ≡ false → is_write s.kind ≡ true → pieces_overlap s.piece new.piece ≡ true → ⊥
overlaps_none h e new id s starts raceless at flying writes overlap =
    let n = length (started h) in
    let own : races_by h n (started_by e) ≡ false = (or_parts (has_raced h n) (races_by h n (started_by e)) (sym (raced_push h e n) ∙ raceless n)).1 in
    let none : list_any (writes_over new.piece) (in_flight h) ≡ false =
    sym (ap (λ (b : Bool). cond b (list_any (writes_over new.piece) (in_flight h)) (writes_over_io (slice_get (started h) n) new && flies h n)) (eq-eqb n n refl))
    ∙ sym (ap (races_by h n) starts)
    ∙ own in
    both_ways (list_any (writes_over new.piece) (in_flight h)) none
    (found_flying h (writes_over new.piece) id s at flying (and_from (is_write s.kind) (pieces_overlap s.piece new.piece) writes overlap))

-- where nothing raced, no verdict is void, so where nothing goes wrong each is good
module _ (plan : Plan) where
  never_void : (job : Option SubJob) (kind : TicketKind) (len : ℕ) → job_says job kind len Void ≡ false
  never_void None kind len = refl
  never_void (Some job) ticket.Probe len = refl
  never_void (Some job) ticket.ReadCheck len = refl
  never_void (Some job) ticket.Read len = refl
  never_void (Some job) ticket.Write len = refl

  fine_now : (h : List Event) (e : Event) → NothingRaced h → may_happen plan h e ≡ true → is_calm e ≡ true → is_fine e ≡ true
  fine_now h (Verdict worker io Good) raceless may calm = refl
  fine_now h (Verdict worker io (Bad what)) raceless may calm = cc
  fine_now h (Verdict worker io Void) raceless may calm =
      absurd (fits (slice_get (started h) io) (and_parts (ended_whole (outcome_of h io) && not (is_judged h io)) (verdict_fits plan (has_raced h io) Void (slice_get (started h) io)) may).1)
    where
      fits : (o : Option Started) → verdict_fits plan (has_raced h io) Void o ≡ true → ⊥
      fits None g = cc
      fits (Some s) g =
          let says = job_says (clone_of plan s.write.clone) s.kind s.piece.len Void in
          let said = (and_parts (is_judged_kind s.kind) (cond (has_raced h io) (is_void Void) says) g).1 in
          both_ways says (never_void (clone_of plan s.write.clone) s.kind s.piece.len)
          (subst (λ (r : Bool). cond r (is_void Void) says ≡ true) (raceless io) said)
  fine_now h (End worker io outcome) raceless may calm = calm
  fine_now h (Issue worker kind write piece) raceless may calm = refl
  fine_now h (Probe worker write piece) raceless may calm = refl
  fine_now h (Skip worker write) raceless may calm = refl

  fine_step : (h : List Event) (e : Event) → is_legal plan h ≡ true → may_happen plan h e ≡ true → (NothingRaced h → is_quiet h ≡ true → are_fine h ≡ true) → NothingRaced (h ++ e ∷ []) → is_quiet (h ++ e ∷ []) ≡ true → are_fine (h ++ e ∷ []) ≡ true
  fine_step h e legal may so_far raceless quiet =
      let before = raced_before h e raceless in
      let parts = and_parts (is_quiet h) (is_calm e && true) (sym (list_all-append is_calm h (e ∷ [])) ∙ quiet) in
      let calm = (and_parts (is_calm e) true parts.1).0 in
      list_all-append is_fine h (e ∷ [])
      ∙ and_from (are_fine h) (is_fine e && true) (so_far before parts.0)
      (and_from (is_fine e) true (fine_now h e before may calm) refl)

  pub quiet_is_fine : (history : List Event) → NothingRaced history → is_legal plan history ≡ true → is_quiet history ≡ true → are_fine history ≡ true
  quiet_is_fine history raceless legal quiet =
      each_legal plan (λ (h : List Event). NothingRaced h → is_quiet h ≡ true → are_fine h ≡ true) (λ none calm. refl) fine_step history legal raceless quiet

-- an I/O whose end stands in the history has ended
pub end_is_there : (h : List Event) (k worker io : ℕ) (outcome : Outcome) → slice_get h k ≡ Some (End worker io outcome) → is_none (outcome_of h io) ≡ false
end_is_there [] k worker io outcome at = cc
end_is_there (x ∷ h) zero worker io outcome at =
    let same : x ≡ End worker io outcome = cc in
    subst (λ (e : Event). is_none (option_or (end_of io e) (first_given (end_of io) h)) ≡ false) (sym same)
    (ap (λ (b : Bool). is_none (option_or (cond b (Some outcome) None) (first_given (end_of io) h))) (eq-eqb io io refl))
end_is_there (x ∷ h) (suc k) worker io outcome at = later (end_of io x) (first_given (end_of io) h) (end_is_there h k worker io outcome at)
  where
    later : (a b : Option Outcome) → is_none b ≡ false → is_none (option_or a b) ≡ false
    later None b g = g
    later (Some y) b g = refl

-- two folds over events that they take alike
fold_same : {X : Type 0} (f g : X → Event → X) (x : X) (events : List Event) → ((k : ℕ) (e : Event) (y : X) → slice_get events k ≡ Some e → f y e ≡ g y e) → fold f x events ≡ fold g x events
fold_same f g x [] same = refl
fold_same f g x (e ∷ events) same =
    ap (λ y. fold f y events) (same 0 e x refl) ∙ fold_same f g (g x e) events (λ k d y at. same (suc k) d y at)

-- one more event leaves what has ended as it was started, and raced or not as it had
module _ (plan : Plan) (h : List Event) (legal : is_legal plan h ≡ true) (e : Event) where
  pub stays_ended : (k worker io : ℕ) (outcome : Outcome) → slice_get h k ≡ Some (End worker io outcome) → (has_raced (h ++ e ∷ []) io ≡ has_raced h io) × (slice_get (started (h ++ e ∷ [])) io ≡ slice_get (started h) io)
  stays_ended k worker io outcome at =
      let ended = end_is_there h k worker io outcome at in
      let below : io < length (started h) = by_outcome (outcome_of h io) refl ended in
      let rests : flies h io ≡ false = ap (λ (n : Bool). nat_lt io (length (started h)) && n) ended ∙ and_none (nat_lt io (length (started h))) in (
        raced_for_good h e io below rests,
        ap (λ (ios : List Started). slice_get ios io) (started-more h e) ∙ got_longer (started h) (cons_option (started_by e) []) io below,
      )
    where
      by_outcome : (o : Option Outcome) → outcome_of h io ≡ o → is_none o ≡ false → io < length (started h)
      by_outcome None is g = cc
      by_outcome (Some x) is g = (legal_is_well plan h legal).ends io x is

      and_none : (c : Bool) → (c && false) ≡ false
      and_none true = refl
      and_none false = refl

  -- and so does an event that starts nothing
  pub stays_started : (io : ℕ) → started_by e ≡ None → (has_raced (h ++ e ∷ []) io ≡ has_raced h io) × (slice_get (started (h ++ e ∷ [])) io ≡ slice_get (started h) io)
  stays_started io nothing = (
    raced_other h e io nothing,
    ap (λ (ios : List Started). slice_get ios io)
        (started-more h e ∙ ap (λ (o : Option Started). started h ++ cons_option o []) nothing ∙ append-nil (started h)),
  )

-- so what a history's events make of a block's last write is the same after one more event
module _ (plan : Plan) (h : List Event) (legal : is_legal plan h ≡ true) (e : Event) (f b : ℕ) where
  at_end : (io : ℕ) (outcome : Outcome) (last : Option WriteId) → (has_raced (h ++ e ∷ []) io ≡ has_raced h io) × (slice_get (started (h ++ e ∷ [])) io ≡ slice_get (started h) io) → last_after_end (has_raced (h ++ e ∷ []) io) (slice_get (started (h ++ e ∷ [])) io) outcome f b last ≡ last_after_end (has_raced h io) (slice_get (started h) io) outcome f b last
  at_end io outcome last same =
      ap (λ (r : Bool). last_after_end r (slice_get (started (h ++ e ∷ [])) io) outcome f b last) same.0
      ∙ ap (λ (o : Option Started). last_after_end (has_raced h io) o outcome f b last) same.1

  same_then : (k : ℕ) (x : Event) (last : Option WriteId) → slice_get h k ≡ Some x → last_after (has_raced (h ++ e ∷ [])) (started (h ++ e ∷ [])) f b last x ≡ last_after (has_raced h) (started h) f b last x
  same_then k (End worker io outcome) last at = at_end io outcome last (stays_ended plan h legal e k worker io outcome at)
  same_then k (Issue worker kind write piece) last at = refl
  same_then k (Probe worker write piece) last at = refl
  same_then k (Skip worker write) last at = refl
  same_then k (Verdict worker io verdict) last at = refl

  -- and what the new event itself makes of it
  own_end : (x : Event) (last : Option WriteId) → x ≡ e → last_after (has_raced (h ++ e ∷ [])) (started (h ++ e ∷ [])) f b last x ≡ last_after (has_raced h) (started h) f b last x
  own_end (End worker io outcome) last is = at_end io outcome last (stays_started plan h legal e io (ap started_by (sym is)))
  own_end (Issue worker kind write piece) last is = refl
  own_end (Probe worker write piece) last is = refl
  own_end (Skip worker write) last is = refl
  own_end (Verdict worker io verdict) last is = refl

  pub last_write_push : last_write (h ++ e ∷ []) f b ≡ last_after (has_raced h) (started h) f b (last_write h f b) e
  last_write_push =
      let raced = has_raced (h ++ e ∷ []) in
      let ios = started (h ++ e ∷ []) in
      fold_push (last_after raced ios f b) None h e
      ∙ ap (λ (o : Option WriteId). last_after raced ios f b o e)
      (fold_same (last_after raced ios f b) (last_after (has_raced h) (started h) f b) None h same_then)
      ∙ own_end e (last_write h f b) refl
