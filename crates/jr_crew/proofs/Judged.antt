-- With verifiers: each verdict of the history is that on the bytes that its worker's engine gave.
use Rattle.std.proofs.Common.{◌≡◌, ℕ, zero, suc, ◌+◌, List, [], ◌∷◌, ◌++◌, length, map, Bool, true, false, cond, not, ◌&&◌, ◌||◌, refl, sym, ◌∙◌, ap, subst, arith, inl, inr, append_assoc}
use Rattle.std.specs.Prelude.{◌⊎◌, Option, Some, None, Contains, slice_get, filter_map, is_some, ◌==◌}
use Rattle.std.specs.List.{cons_option}
use Rattle.std.specs.Option.{option_or}
use Rattle.std.proofs.lemmas.Bool.{and_parts, eq-eqb, eqb-true}
use Rattle.std.proofs.lemmas.List.{map-append}
use Rattle.std.proofs.lemmas.List.Elements.{Contains-push_cases}
use Rattle.std.proofs.lemmas.Option.{cond_some, get_or_from_slice_get, same_Some, slice_get_within}
use Rattle.jr_model.specs.declared.events.Event.{Event}
use Rattle.jr_model.specs.declared.events.Event.TheVariants.{Issue, Probe, Skip, End, Verdict}
use Rattle.jr_model.specs.declared.events.Outcome.{Outcome}
use Rattle.jr_model.specs.declared.events.Outcome.TheVariants.{Whole, Failed, Short}
use Rattle.jr_model.specs.declared.events.Started.{Started}
use Rattle.jr_model.specs.declared.events.Verdict.{Verdict as GivenVerdict}
use Rattle.jr_model.specs.declared.tickets.Ticket.{Ticket}
use Rattle.jr_model.specs.declared.tickets.TicketKind.{TicketKind}
use Rattle.jr_model.specs.declared.tickets.TicketKind.TheVariants as ticket
use Rattle.jr_model.specs.History.{started, end_of, first_given, outcome_of, ended_whole, is_judged, is_judged_kind, if_awaiting}
use Rattle.jr_model.specs.Legal.{is_legal, is_void, legal_after, may_happen}
use Rattle.jr_model.specs.Plan.{Plan}
use Rattle.jr_model.specs.Replies.{EngineState}
use Rattle.jr_model.proofs.LegalLaws.{first_given-some}
use Rattle.jr_model.proofs.MachineLaws.{got_front}
use Rattle.jr_model.proofs.SerialLaws.{first_given-append}
use Rattle.jr_engines.specs.Answers.{AnswerParts}
use Rattle.jr_header.specs.Served.{answer_verdict, is_to_judge, is_whole_check}
use Rattle.jr_crew_channel.specs.declared.parcel.Parcel.{Parcel}
use Rattle.jr_crew_channel.specs.declared.parcel.Parcel.TheVariants.{Check}
use Rattle.jr_crew_channel.specs.declared.parcel.PassState.{PassState}
use Rattle.jr_crew_channel.specs.PassStates.{with_put}
use Rattle.jr_laws_steps.proofs.Grown.{end_names}
use Rattle.jr_model.proofs.PlaceLemmas.{none_kept}
use Rattle.jr_model.proofs.BoolLemmas.{same_truth}
use Rattle.jr_laws_steps.proofs.StartedLemmas.{started-append}
use Rattle.jr_desk_tickets.specs.Kept.{tickets_of}
use Rattle.jr_desk_tickets.proofs.OwnTickets.{got_ticket, own_started}
use Rattle.jr_crew_books.specs.declared.books.Done.{Done}
use Rattle.jr_crew_books.specs.Books.{done_by, done_with, dones_of, verdict_by, verdict_in}
use Rattle.jr_crew_books.specs.Finished.{AllFinished}
use Rattle.jr_crew_threads.specs.Judging.{IsSourced}
use Rattle.jr_crew.specs.Crews.{AreCallsFor, IsSaidOf}
use Rattle.jr_crew.specs.Working.{AreAnswered, AreDone, IsDoneOf, all_handed_on, handed_on}
use Rattle.jr_crew_threads.specs.Parts.{one_part}
use Rattle.jr_crew.proofs.Worked.{calls_done, said_by}

-- what a worker completed, where these are the parcels that it handed over
pub record IsPutBy (plan : Plan) (history : List Event) (worker : ℕ) (put : List Parcel) : Type 0 where
  pub answers : List AnswerParts
  pub done : AreDone false answers [] (dones_of plan false history worker)
  pub handed : put ≡ (all_handed_on false answers one_part).put

-- an item at a place of a list is among its items
among_at : {X : Type 0} (xs : List X) (k : ℕ) (x : X) → slice_get xs k ≡ Some x → Contains xs x
among_at xs k x at = (k, slice_get_within xs k x at, get_or_from_slice_get xs k x x at)

-- a parcel that was put was there before, or is of one of the answers, which is to be judged
handed_from : (answers : List AnswerParts) (before : PassState) (a : AnswerParts) → Contains (all_handed_on false answers before).put (Check a) → Contains before.put (Check a) ⊎ ((k : ℕ) × (slice_get answers k ≡ Some a) × (is_to_judge a ≡ true))
handed_from [] before a h = inl h
handed_from (first ∷ answers) before a h =
    elim (handed_from answers (handed_on false first before) a h) [
      | inl earlier ↦ one (is_to_judge first) refl earlier
      | inr later ↦ inr (suc later.0, later.1, later.2)
    ]
  where
    same_check : Check first ≡ Check a → first ≡ a
    same_check same = cc

    one : (b : Bool) → is_to_judge first ≡ b → Contains (cond b (with_put before (Check first)) before).put (Check a) → Contains before.put (Check a) ⊎ ((k : ℕ) × (slice_get (first ∷ answers) k ≡ Some a) × (is_to_judge a ≡ true))
    one true is earlier =
        elim (Contains-push_cases before.put (Check first) (Check a) earlier) [
          | inl old ↦ inl old
          | inr same ↦ let this : first ≡ a = same_check same in inr (0, ap Some this, subst (λ (x : AnswerParts). is_to_judge x ≡ true) this is)
        ]
    one false is earlier = inl earlier

-- the last item of a list
last_at : (old : List Done) (d : Done) → slice_get (old ++ d ∷ []) (length old) ≡ Some d
last_at [] d = refl
last_at (x ∷ old) d = last_at old d

-- a book keeps its items
stays_done : (inline : Bool) (answers : List AnswerParts) (old new : List Done) (k : ℕ) (d : Done) → AreDone inline answers old new → slice_get old k ≡ Some d → slice_get new k ≡ Some d
stays_done inline [] old new k d are at = ap (λ (book : List Done). slice_get book k) are ∙ at
stays_done inline (first ∷ answers) old new k d are at =
    stays_done inline answers (old ++ are.0 ∷ []) new k d are.2 (got_front old (are.0 ∷ []) k d at)

-- what the book has of the answer at a place
done_at : (inline : Bool) (answers : List AnswerParts) (old new : List Done) (k : ℕ) (a : AnswerParts) → AreDone inline answers old new → slice_get answers k ≡ Some a → (d : Done) × IsDoneOf inline a d × (slice_get new (length old + k) ≡ Some d)
done_at inline [] old new k a are at = cc
done_at inline (first ∷ answers) old new zero a are at =
    let place : length old + 0 ≡ length old = omega arith in (
      are.0,
      subst (λ (x : AnswerParts). IsDoneOf inline x are.0) (same_Some first a at) are.1,
      ap (slice_get new) place ∙ stays_done inline answers (old ++ are.0 ∷ []) new (length old) are.0 are.2 (last_at old are.0),
    )
done_at inline (first ∷ answers) old new (suc k) a are at =
    let more = done_at inline answers (old ++ are.0 ∷ []) new k a are.2 at in
    let place : length old + suc k ≡ length (old ++ are.0 ∷ []) + k = omega (arith, one_longer old are.0) in
    (more.0, more.1, ap (slice_get new) place ∙ more.2)
  where
    one_longer : (xs : List Done) (d : Done) → length (xs ++ d ∷ []) ≡ length xs + 1
    one_longer [] d = refl
    one_longer (x ∷ xs) d = omega (arith, one_longer xs d)

-- what is done of answers where nothing is judged is done of them where something is said of each item
done_so : (f : Done → Done) (answers : List AnswerParts) (old new : List Done) → AreDone false answers old new → ((k : ℕ) (a : AnswerParts) (d : Done) → slice_get answers k ≡ Some a → IsDoneOf false a d → IsDoneOf true a (f d)) → AreDone true answers (map f old) (map f new)
done_so f [] old new are each = ap (map f) are
done_so f (first ∷ answers) old new are each = (
  f are.0,
  each 0 first are.0 refl are.1,
  subst (λ (book : List Done). AreDone true answers book (map f new)) (map-append f old (are.0 ∷ []))
      (done_so f answers (old ++ are.0 ∷ []) new are.2 (λ k. each (suc k))),
)

-- where an item that is kept comes from
kept_from : {X Y : Type 0} (f : X → Option Y) (xs : List X) (k : ℕ) (y : Y) → slice_get (filter_map f xs) k ≡ Some y → (j : ℕ) × (x : X) × (slice_get xs j ≡ Some x) × (f x ≡ Some y)
kept_from f [] k y at = cc
kept_from {X} {Y} f (x ∷ xs) k y at = by (λ n there. kept_from f xs n y there) (f x) refl k at
  where
    by : ((n : ℕ) → slice_get (filter_map f xs) n ≡ Some y → (j : ℕ) × (z : X) × (slice_get xs j ≡ Some z) × (f z ≡ Some y)) → (o : Option Y) → f x ≡ o → (n : ℕ) → slice_get (cons_option o (filter_map f xs)) n ≡ Some y → (j : ℕ) × (z : X) × (slice_get (x ∷ xs) j ≡ Some z) × (f z ≡ Some y)
    by later None is n there = let more = later n there in (suc more.0, more.1, more.2, more.3)
    by later (Some u) is zero there = (0, x, refl, is ∙ there)
    by later (Some u) is (suc n) there = let more = later n there in (suc more.0, more.1, more.2, more.3)

-- two places of what is kept are one where those that they come from are
one_kept : {X Y : Type 0} (f : X → Option Y) (xs : List X) (k l : ℕ) (y z : Y) → slice_get (filter_map f xs) k ≡ Some y → slice_get (filter_map f xs) l ≡ Some z → ((i j : ℕ) (a b : X) → slice_get xs i ≡ Some a → slice_get xs j ≡ Some b → f a ≡ Some y → f b ≡ Some z → i ≡ j) → k ≡ l
one_kept f [] k l y z at there one = cc
one_kept {X} {Y} f (x ∷ xs) k l y z at there one =
    by
    (λ n m h g. one_kept f xs n m y z h g (λ i j a b p q r s. back i j (one (suc i) (suc j) a b p q r s)))
    (f x) refl k l at there
  where
    back : (i j : ℕ) → suc i ≡ suc j → i ≡ j
    back i j h = omega (arith, h)

    by : ((n m : ℕ) → slice_get (filter_map f xs) n ≡ Some y → slice_get (filter_map f xs) m ≡ Some z → n ≡ m) → (o : Option Y) → f x ≡ o → (n m : ℕ) → slice_get (cons_option o (filter_map f xs)) n ≡ Some y → slice_get (cons_option o (filter_map f xs)) m ≡ Some z → n ≡ m
    by rest None is n m h g = rest n m h g
    by rest (Some u) is zero zero h g = refl
    by rest (Some u) is zero (suc m) h g =
        let later = kept_from f xs m z g in
        let same : 0 ≡ suc later.0 = one 0 (suc later.0) x later.1 refl later.2 (is ∙ h) later.3 in
        absurd (omega (arith, same))
    by rest (Some u) is (suc n) zero h g =
        let later = kept_from f xs n y h in
        let same : suc later.0 ≡ 0 = one (suc later.0) 0 later.1 x later.2 refl later.3 (is ∙ g) in
        absurd (omega (arith, same))
    by rest (Some u) is (suc n) (suc m) h g = ap suc (rest n m h g)

-- where an I/O has ended, none of the events that follow is its end
none_later : (plan : Plan) (events before : List Event) (io : ℕ) (o : Outcome) → legal_after plan before events ≡ true → outcome_of before io ≡ Some o → (k w : ℕ) (p : Outcome) → slice_get events k ≡ Some (End w io p) → ⊥
none_later plan [] before io o legal ended k w p at = cc
none_later plan (e ∷ events) before io o legal ended zero w p at =
    let may = and_parts (may_happen plan before e) (legal_after plan (before ++ e ∷ []) events) legal in
    let flies = (end_names plan before w io p (subst (λ (x : Event). may_happen plan before x ≡ true) (same_Some e (End w io p) at) may.0)).flies in
    let wrong : None ≡ Some o = sym flies ∙ ended in
    cc
none_later plan (e ∷ events) before io o legal ended (suc k) w p at =
    none_later plan events (before ++ e ∷ []) io o
    (and_parts (may_happen plan before e) (legal_after plan (before ++ e ∷ []) events) legal).1
    (first_given-append (end_of io) before (e ∷ []) ∙ ap (λ (q : Option Outcome). option_or q (first_given (end_of io) (e ∷ []))) ended)
    k w p at

-- how an I/O has ended, where this event is its end and none before was
ends_so : (before after : List Event) (w io : ℕ) (o : Outcome) → outcome_of before io ≡ None → outcome_of (before ++ End w io o ∷ after) io ≡ Some o
ends_so before after w io o flies =
    first_given-append (end_of io) before (End w io o ∷ after)
    ∙ ap (λ (q : Option Outcome). option_or q (first_given (end_of io) (End w io o ∷ after))) flies
    ∙ ap (λ (b : Bool). option_or (cond b (Some o) None) (outcome_of after io)) (eq-eqb io io refl)

-- an I/O that this worker started has ended so
pub record IsEnded (history : List Event) (worker io : ℕ) (outcome : Outcome) : Type 0 where
  pub one : Started
  pub there : slice_get (started history) io ≡ Some one
  pub mine : one.worker ≡ worker
  pub ended : outcome_of history io ≡ Some outcome

-- the end of an I/O in a legal history is the worker's that started it, and says how it ended
has_ended : (plan : Plan) (history events before : List Event) → before ++ events ≡ history → legal_after plan before events ≡ true → (k w io : ℕ) (o : Outcome) → slice_get events k ≡ Some (End w io o) → IsEnded history w io o
has_ended plan history [] before same legal k w io o at = cc
has_ended plan history (e ∷ events) before same legal zero w io o at =
    let is : e ≡ End w io o = same_Some e (End w io o) at in
    let may = and_parts (may_happen plan before e) (legal_after plan (before ++ e ∷ []) events) legal in
    let names = end_names plan before w io o (subst (λ (x : Event). may_happen plan before x ≡ true) is may.0) in
    let whole : before ++ End w io o ∷ events ≡ history = ap (λ (x : Event). before ++ x ∷ events) (sym is) ∙ same in
    record {
      one = names.ended;
      there = ap (λ (h : List Event). slice_get (started h) io) (sym whole)
          ∙ ap (λ (ios : List Started). slice_get ios io) (started-append before (End w io o ∷ events))
          ∙ got_front (started before) (started (End w io o ∷ events)) io names.ended names.there;
      mine = names.worker_is;
      ended = ap (λ (h : List Event). outcome_of h io) (sym whole) ∙ ends_so before events w io o names.flies;
    }
has_ended plan history (e ∷ events) before same legal (suc k) w io o at =
    has_ended plan history events (before ++ e ∷ []) (append_assoc before (e ∷ []) events ∙ same)
    (and_parts (may_happen plan before e) (legal_after plan (before ++ e ∷ []) events) legal).1 k w io o at

-- an I/O ends once
one_end : (plan : Plan) (events before : List Event) → legal_after plan before events ≡ true → (i j w v io : ℕ) (o p : Outcome) → slice_get events i ≡ Some (End w io o) → slice_get events j ≡ Some (End v io p) → i ≡ j
one_end plan [] before legal i j w v io o p at there = cc
one_end plan (e ∷ events) before legal i j w v io o p at there =
    by (λ n m h g. one_end plan events (before ++ e ∷ []) may.1 n m w v io o p h g) i j at there
  where
    may : (may_happen plan before e ≡ true) × (legal_after plan (before ++ e ∷ []) events ≡ true)
    may = and_parts (may_happen plan before e) (legal_after plan (before ++ e ∷ []) events) legal

    ended : (u : ℕ) (q : Outcome) → e ≡ End u io q → outcome_of (before ++ e ∷ []) io ≡ Some q
    ended u q is =
        ap (λ (x : Event). outcome_of (before ++ x ∷ []) io) is
        ∙ ends_so before [] u io q (end_names plan before u io q (subst (λ (x : Event). may_happen plan before x ≡ true) is may.0)).flies

    by : ((n m : ℕ) → slice_get events n ≡ Some (End w io o) → slice_get events m ≡ Some (End v io p) → n ≡ m) → (n m : ℕ) → slice_get (e ∷ events) n ≡ Some (End w io o) → slice_get (e ∷ events) m ≡ Some (End v io p) → n ≡ m
    by rest zero zero h g = refl
    by rest zero (suc m) h g = absurd (none_later plan events (before ++ e ∷ []) io o may.1 (ended w o (same_Some e (End w io o) h)) m v p g)
    by rest (suc n) zero h g = absurd (none_later plan events (before ++ e ∷ []) io p may.1 (ended v p (same_Some e (End v io p) g)) n w o h)
    by rest (suc n) (suc m) h g = ap suc (rest n m h g)

-- a verdict that a check has was given by an event
given_by : (history : List Event) (io : ℕ) (v : GivenVerdict) → verdict_in history io ≡ Some v → (w : ℕ) × Contains history (Verdict w io v)
given_by history io v given =
    let found = first_given-some (verdict_by io) history v given in
    let is = event_is found.1 found.3 in
    (is.0, subst (Contains history) is.1 (among_at history found.0 found.1 found.2))
  where
    event_is : (e : Event) → verdict_by io e ≡ Some v → (w : ℕ) × (e ≡ Verdict w io v)
    event_is (Issue w dir write piece) h = cc
    event_is (Probe w write piece) h = cc
    event_is (Skip w write) h = cc
    event_is (End w id outcome) h = cc
    event_is (Verdict w id x) h =
        let parts = cond_some (id == io) x v h in
        (w, ap (λ (n : ℕ). Verdict w n x) (eqb-true id io parts.0) ∙ ap (Verdict w io) parts.1)

-- what was judged has its verdict
judged_some : (history : List Event) (io : ℕ) → is_judged history io ≡ true → is_some (verdict_in history io) ≡ true
judged_some [] io h = cc
judged_some (Issue w dir write piece ∷ history) io h = judged_some history io h
judged_some (Probe w write piece ∷ history) io h = judged_some history io h
judged_some (Skip w write ∷ history) io h = judged_some history io h
judged_some (End w id outcome ∷ history) io h = judged_some history io h
judged_some (Verdict w id v ∷ history) io h = by (id == io) h (λ rest. judged_some history io rest)
  where
    by : (b : Bool) → (b || is_judged history io) ≡ true → (is_judged history io ≡ true → is_some (verdict_in history io) ≡ true) → is_some (option_or (cond b (Some v) None) (verdict_in history io)) ≡ true
    by true h rest = refl
    by false h rest = rest h

-- a check that ended whole is of a kind that is judged
whole_check : (kind : TicketKind) (outcome : Outcome) → is_whole_check kind outcome ≡ true → (is_judged_kind kind ≡ true) × (ended_whole (Some outcome) ≡ true)
whole_check ticket.Read outcome h = cc
whole_check ticket.Write outcome h = cc
whole_check ticket.Probe Whole h = (refl, refl)
whole_check ticket.Probe Failed h = cc
whole_check ticket.Probe (Short n) h = cc
whole_check ticket.ReadCheck Whole h = (refl, refl)
whole_check ticket.ReadCheck Failed h = cc
whole_check ticket.ReadCheck (Short n) h = cc

-- what awaits no verdict was judged, where it is to be
waits_none : (kind whole judged : Bool) (s : Started) → cond (kind && whole && not judged) (Some s) None ≡ None → kind ≡ true → whole ≡ true → judged ≡ true
waits_none true true true s h p q = refl
waits_none true true false s h p q = cc
waits_none true false judged s h p q = cc
waits_none false whole judged s h p q = cc

-- where a history has settled, a check that ended whole was judged
settled_judged : (history : List Event) (io : ℕ) (s : Started) → AllFinished history → slice_get (started history) io ≡ Some s → is_judged_kind s.kind ≡ true → ended_whole (outcome_of history io) ≡ true → is_judged history io ≡ true
settled_judged history io s settled at kind whole =
    let place : 0 + io ≡ io = omega arith in
    let none : if_awaiting history (io, s) ≡ None =
    subst (λ (n : ℕ). if_awaiting history (n, s) ≡ None) place (none_kept (if_awaiting history) 0 (started history) io s settled.judged at) in
    waits_none (is_judged_kind s.kind) (ended_whole (outcome_of history io)) (is_judged history io) s none kind whole

-- a ticket has the number that it stands at
own_number : (plan : Plan) (history : List Event) (io : ℕ) (t : Ticket) → slice_get (tickets_of plan history) io ≡ Some t → t.id ≡ io
own_number plan history io t at =
    let got = got_ticket plan 0 (started history) io t at in
    let number : 0 + io ≡ t.id = ap (λ (x : Ticket). x.id) got.2 in
    omega (arith, number)

-- an item of a book with the verdict that the history has
abbrev with_said : List Event → Done → Done
with_said history done = record { ticket = done.ticket; outcome = done.outcome; verdict = verdict_in history done.ticket.id }

-- an item of a worker's book is of an end of that worker's, and its ticket is the one that stands at its number
done_is : (plan : Plan) (history : List Event) (worker : ℕ) (e : Event) (d : Done) → done_by plan false history worker e ≡ Some d → (e ≡ End worker d.ticket.id d.outcome) × (slice_get (tickets_of plan history) d.ticket.id ≡ Some d.ticket)
done_is plan history worker (Issue w dir write piece) d h = cc
done_is plan history worker (Probe w write piece) d h = cc
done_is plan history worker (Skip w write) d h = cc
done_is plan history worker (Verdict w io v) d h = cc
done_is plan history worker (End w io outcome) d h = by (w == worker) refl (slice_get (tickets_of plan history) io) refl h
  where
    by : (b : Bool) → (w == worker) ≡ b → (o : Option Ticket) → slice_get (tickets_of plan history) io ≡ o → cond b (done_with outcome None o) None ≡ Some d → (End w io outcome ≡ End worker d.ticket.id d.outcome) × (slice_get (tickets_of plan history) d.ticket.id ≡ Some d.ticket)
    by false other o at is = cc
    by true mine None at is = cc
    by true mine (Some t) at is =
        let number : t.id ≡ io = own_number plan history io t at in
        subst (λ (x : Done). (End w io outcome ≡ End worker x.ticket.id x.outcome) × (slice_get (tickets_of plan history) x.ticket.id ≡ Some x.ticket))
        (same_Some (record { ticket = t; outcome = outcome; verdict = None }) d is) (
          ap (λ (n : ℕ). End n io outcome) (eqb-true w worker mine) ∙ ap (λ (n : ℕ). End worker n outcome) (sym number),
          ap (slice_get (tickets_of plan history)) number ∙ at,
        )

-- a worker's book where workers judge is its book where they don't, with the verdicts of the history
dones_said : (plan : Plan) (history : List Event) (worker : ℕ) (events : List Event) → map (with_said history) (filter_map (done_by plan false history worker) events) ≡ filter_map (done_by plan true history worker) events
dones_said plan history worker [] = refl
dones_said plan history worker (Issue w dir write piece ∷ events) = dones_said plan history worker events
dones_said plan history worker (Probe w write piece ∷ events) = dones_said plan history worker events
dones_said plan history worker (Skip w write ∷ events) = dones_said plan history worker events
dones_said plan history worker (Verdict w io v ∷ events) = dones_said plan history worker events
dones_said plan history worker (End w io outcome ∷ events) =
    by (w == worker) (slice_get (tickets_of plan history) io) (own_number plan history io)
    (filter_map (done_by plan false history worker) events) (filter_map (done_by plan true history worker) events) (dones_said plan history worker events)
  where
    by : (b : Bool) (o : Option Ticket) → ((t : Ticket) → o ≡ Some t → t.id ≡ io) → (plain said : List Done) → map (with_said history) plain ≡ said → map (with_said history) (cons_option (cond b (done_with outcome None o) None) plain) ≡ cons_option (cond b (done_with outcome (verdict_in history io) o) None) said
    by true None number plain said same = same
    by true (Some t) number plain said same =
        ap (λ (n : ℕ). record { ticket = t; outcome = outcome; verdict = verdict_in history n } ∷ map (with_said history) plain) (number t refl)
        ∙ ap (λ (book : List Done). record { ticket = t; outcome = outcome; verdict = verdict_in history io } ∷ book) same
    by false o number plain said same = same

-- what a history says of an item of a worker's book: its end, and that it was started as its ticket says
pub record IsBooked (history : List Event) (worker : ℕ) (t : Ticket) (outcome : Outcome) : Type 0 where
  pub is : IsEnded history worker t.id outcome
  pub kind : is.one.kind ≡ t.kind

-- what has one number is of one worker's
same_owner : (history : List Event) (j w : ℕ) (t u : Ticket) (o p : Outcome) → IsBooked history j t o → IsBooked history w u p → t.id ≡ u.id → j ≡ w
same_owner history j w t u o p one other number =
    let same : one.is.one ≡ other.is.one =
    same_Some one.is.one other.is.one (sym one.is.there ∙ ap (slice_get (started history)) number ∙ other.is.there) in
    sym one.is.mine ∙ ap (λ (s : Started). s.worker) same ∙ other.is.mine

module _ (plan : Plan) (history : List Event) (legal : is_legal plan history ≡ true) (worker : ℕ) (answers : List AnswerParts) (done : AreDone false answers [] (dones_of plan false history worker)) where
  -- each answer is of an I/O of the worker's that ended so
  booked : (k : ℕ) (a : AnswerParts) → slice_get answers k ≡ Some a → IsBooked history worker a.ticket a.outcome
  booked k a at =
      let its = done_at false answers [] (dones_of plan false history worker) k a done at in
      let from = kept_from (done_by plan false history worker) history (length {A = Done} [] + k) its.0 its.2 in
      let facts = done_is plan history worker from.1 its.0 from.3 in
      let is = has_ended plan history history [] refl legal from.0 worker its.0.ticket.id its.0.outcome (from.2 ∙ ap Some facts.0) in
      let own = own_started plan history its.0.ticket facts.1 in
      let one : is.one ≡ own.0 = same_Some is.one own.0 (sym is.there ∙ own.1) in
      let here : IsBooked history worker its.0.ticket its.0.outcome =
      record { is = is; kind = ap (λ (s : Started). s.kind) one ∙ ap (λ (t : Ticket). t.kind) own.2 } in
      subst (λ (o : Outcome). IsBooked history worker a.ticket o) its.1.outcome
      (subst (λ (t : Ticket). IsBooked history worker t its.0.outcome) its.1.ticket here)

  -- two answers of one number are one
  same_answer : (k l : ℕ) (a b : AnswerParts) → slice_get answers k ≡ Some a → slice_get answers l ≡ Some b → a.ticket.id ≡ b.ticket.id → a ≡ b
  same_answer k l a b at there number =
      let book = dones_of plan false history worker in
      let none = length {A = Done} [] in
      let d = done_at false answers [] book k a done at in
      let e = done_at false answers [] book l b done there in
      let id : d.0.ticket.id ≡ e.0.ticket.id =
      ap (λ (t : Ticket). t.id) d.1.ticket ∙ number ∙ ap (λ (t : Ticket). t.id) (sym e.1.ticket) in
      let place : none + k ≡ none + l =
      one_kept (done_by plan false history worker) history (none + k) (none + l) d.0 e.0 d.2 e.2
      (λ i j x y p q r s.
      one_end plan history [] legal i j worker worker d.0.ticket.id d.0.outcome e.0.outcome
      (p ∙ ap Some (done_is plan history worker x d.0 r).0)
      (q ∙ ap Some (done_is plan history worker y e.0 s).0 ∙ ap (λ (n : ℕ). Some (End worker n e.0.outcome)) (sym id))) in
      let same : k ≡ l = omega (arith, place) in
      same_Some a b (sym at ∙ ap (slice_get answers) same ∙ there)

-- what is not nothing is something
some_of : {X : Type 0} (o : Option X) → is_some o ≡ true → (x : X) × (o ≡ Some x)
some_of None h = cc
some_of (Some x) h = (x, refl)

-- the answer is to be judged, and the verdict is that on its bytes, unless its check raced
pub record IsTold (answer : AnswerParts) (verdict : GivenVerdict) : Type 0 where
  pub checked : is_to_judge answer ≡ true
  pub says : is_void verdict ≡ false → verdict ≡ answer_verdict answer

module _ (plan : Plan) (history : List Event) (legal : is_legal plan history ≡ true) (puts : List (List Parcel)) (by_puts : (i : ℕ) (put : List Parcel) → slice_get puts i ≡ Some put → IsPutBy plan history i put) (worker : ℕ) (put : List Parcel) (there : slice_get puts worker ≡ Some put) (answers : List AnswerParts) (done : AreDone false answers [] (dones_of plan false history worker)) (handed : put ≡ (all_handed_on false answers one_part).put) where
  -- what was put is one of these answers, which is to be judged
  put_answer : (given : List AnswerParts) (a : AnswerParts) → Contains (all_handed_on false given one_part).put (Check a) → (k : ℕ) × (slice_get given k ≡ Some a) × (is_to_judge a ≡ true)
  put_answer given a among =
      elim (handed_from given one_part a among) [
        | inl none ↦ absurd (omega (arith, none.1))
        | inr found ↦ found
      ]

  -- a check that a worker handed over is of an I/O of its own
  booked_put : (i : ℕ) (given : List Parcel) (a : AnswerParts) → IsPutBy plan history i given → Contains given (Check a) → IsBooked history i a.ticket a.outcome
  booked_put i given a theirs among =
      let first = put_answer theirs.answers a (subst (λ (xs : List Parcel). Contains xs (Check a)) theirs.handed among) in
      booked plan history legal i theirs.answers theirs.done first.0 a first.1

  -- where this worker handed over a check with an answer's number, it is that answer
  told_own : (k : ℕ) (a b : AnswerParts) → slice_get answers k ≡ Some a → Contains put (Check b) → a.ticket.id ≡ b.ticket.id → (b ≡ a) × (is_to_judge b ≡ true)
  told_own k a b at among number =
      let found = put_answer answers b (subst (λ (xs : List Parcel). Contains xs (Check b)) handed among) in
      (same_answer plan history legal worker answers done found.0 k b a found.1 at (sym number), found.2)

  -- a verdict on an answer of this worker's is on what this worker handed over
  told_here : (k : ℕ) (a : AnswerParts) → slice_get answers k ≡ Some a → (v : GivenVerdict) → IsSourced puts a.ticket.id v → IsTold a v
  told_here k a at v source =
      let mine : source.at ≡ worker =
      same_owner history source.at worker source.answer.ticket a.ticket source.answer.outcome a.outcome
      (booked_put source.at source.put source.answer (by_puts source.at source.put source.there) source.among)
      (booked plan history legal worker answers done k a at) (sym source.number) in
      let same : source.put ≡ put = same_Some source.put put (sym source.there ∙ ap (slice_get puts) mine ∙ there) in
      let own : (source.answer ≡ a) × (is_to_judge source.answer ≡ true) =
      told_own k a source.answer at (subst (λ (xs : List Parcel). Contains xs (Check source.answer)) same source.among) source.number in
      subst (λ (x : AnswerParts). IsTold x v) own.0 (record { checked = own.1; says = source.says })

  -- a verdict that the history has on an answer of this worker's
  told : ((w io : ℕ) (v : GivenVerdict) → Contains history (Verdict w io v) → IsSourced puts io v) → (k : ℕ) (a : AnswerParts) → slice_get answers k ≡ Some a → (v : GivenVerdict) → verdict_in history a.ticket.id ≡ Some v → IsTold a v
  told sourced k a at v given =
      let event = given_by history a.ticket.id v given in
      told_here k a at v (sourced event.0 a.ticket.id v event.1)

  -- an answer that is to be judged has a verdict
  has_verdict : AllFinished history → (k : ℕ) (a : AnswerParts) → slice_get answers k ≡ Some a → is_to_judge a ≡ true → is_some (verdict_in history a.ticket.id) ≡ true
  has_verdict settled k a at checked =
      let own = booked plan history legal worker answers done k a at in
      let parts = whole_check a.ticket.kind a.outcome checked in
      judged_some history a.ticket.id
      (settled_judged history a.ticket.id own.is.one settled own.is.there (ap is_judged_kind own.kind ∙ parts.0) (ap ended_whole own.is.ended ∙ parts.1))

  -- what the history says of an answer
  said_of : AllFinished history → ((w io : ℕ) (v : GivenVerdict) → Contains history (Verdict w io v) → IsSourced puts io v) → (k : ℕ) (a : AnswerParts) → slice_get answers k ≡ Some a → IsSaidOf true a (verdict_in history a.ticket.id)
  said_of settled sourced k a at =
      said_by true a (verdict_in history a.ticket.id)
      (same_truth (is_some (verdict_in history a.ticket.id)) (is_to_judge a)
      (λ some. let v = some_of (verdict_in history a.ticket.id) some in (told sourced k a at v.0 v.1).checked)
      (λ checked. has_verdict settled k a at checked))
      (λ v given. (told sourced k a at v given).says)

-- where each verdict is on a check that a worker handed over, the calls of each worker's engine were judged so
pub calls_judged : (plan : Plan) (history : List Event) → is_legal plan history ≡ true → AllFinished history
    → (puts : List (List Parcel))
    → ((i : ℕ) (put : List Parcel) → slice_get puts i ≡ Some put → IsPutBy plan history i put)
    → ((w io : ℕ) (v : GivenVerdict) → Contains history (Verdict w io v) → IsSourced puts io v)
    → (worker : ℕ) (put : List Parcel) → slice_get puts worker ≡ Some put
    → (before after : EngineState) (answers : List AnswerParts)
    → AreAnswered before answers after
    → AreDone false answers [] (dones_of plan false history worker)
    → put ≡ (all_handed_on false answers one_part).put
    → AreCallsFor true before (dones_of plan true history worker) after
calls_judged plan history legal settled puts by_puts sourced worker put there before after answers answered done handed =
    let said = done_so (with_said history) answers [] (dones_of plan false history worker) done
    (λ (k : ℕ) (a : AnswerParts) (d : Done) (at : slice_get answers k ≡ Some a) (is : IsDoneOf false a d).
    record {
      ticket = is.ticket;
      outcome = is.outcome;
      verdict = subst (λ (t : Ticket). IsSaidOf true a (verdict_in history t.id)) (sym is.ticket)
          (said_of plan history legal puts by_puts worker put there answers done handed settled sourced k a at);
    }) in
    calls_done true before [] before answers after (dones_of plan true history worker) refl answered
    (subst (λ (book : List Done). AreDone true answers [] book) (dones_said plan history worker history) said)
