-- What a desk keeps beside its history goes on agreeing with it.
use Rattle.std.proofs.Common.{◌≡◌, ℕ, ◌+◌, ◌≤◌, List, [], ◌∷◌, ◌++◌, length, map, Bool, true, false, ◌&&◌, not, refl, sym, ◌∙◌, ap, subst, arith, append_assoc, append-nil}
use Rattle.std.specs.Prelude.{Option, Some, None, slice_get, is_none, nat_lt, ◌==◌}
use Rattle.std.specs.Bool.{MatchBool}
use Rattle.std.specs.List.{enumerate_from, cons_option}
use Rattle.std.proofs.lemmas.Bool.{and_from, eq-eqb, lt-ltb}
use Rattle.std.proofs.lemmas.List.{map-append}
use Rattle.jr_model.specs.declared.blocks.Piece.{Piece}
use Rattle.jr_model.specs.declared.events.Event.{Event}
use Rattle.jr_model.specs.declared.events.Event.TheVariants.{Issue, Probe, Skip, End, Verdict}
use Rattle.jr_model.specs.declared.events.Outcome.{Outcome}
use Rattle.jr_model.specs.declared.events.Started.{Started}
use Rattle.jr_model.specs.declared.events.WriteId.{WriteId}
use Rattle.jr_model.specs.declared.tickets.Ticket.{Ticket}
use Rattle.jr_model.specs.History.{started, started_by, flies, outcome_of, is_judged, is_judged_kind, ended_whole}
use Rattle.jr_model.specs.Judgement.{verdict_of}
use Rattle.jr_model.specs.Legal.{is_legal, may_happen, outcome_fits, end_fits, verdict_fits, job_says}
use Rattle.jr_model.specs.Machine.{Appends, is_skip, said_of}
use Rattle.jr_model.specs.Races.{has_raced}
use Rattle.jr_model.specs.declared.contents.Expected.{Expected}
use Rattle.jr_model.specs.declared.contents.Method.{Method}
use Rattle.jr_model.specs.declared.events.Verdict.{Verdict as GivenVerdict}
use Rattle.std.proofs.lemmas.List.Elements.{filter_map-append}
use Rattle.jr_model.specs.Plan.{Plan, SubJob, IsNumbered}
use Rattle.jr_model.proofs.LegalLaws.{is_legal-more, choice_may_happen}
use Rattle.jr_model.proofs.MachineLaws.{job_says_fits, is_said, said_fits}
use Rattle.jr_model.specs.PlanFacts.{IsPlanned}
use Rattle.jr_model.proofs.PlanLemmas.{numbered_of}
use Rattle.jr_model.proofs.ListLemmas.{enumerate_more}
use Rattle.jr_model.proofs.PlaceLemmas.{got_last}
use Rattle.jr_model.proofs.HistoryLemmas.{skip_starts_none}
use Rattle.jr_laws_steps.proofs.DrawnLaws.{started_fit-law}
use Rattle.jr_laws_steps.proofs.StartedLemmas.{started_below}
use Rattle.jr_desk_tickets.specs.Kept.{IsOwn, tickets_of}
use Rattle.jr_desk_tickets.specs.Tickets.{method_of, seed_of, expected_by, ticket_of}
use Rattle.jr_desk_tickets.proofs.OwnTickets.{own_started}
use Rattle.jr_desk_state.specs.Takes.{IsChosen, last_started, ticket_for}

-- tickets

-- where one more is started, one more ticket is handed out
pub tickets_more : (plan : Plan) (before after : List Event) (io : Option Started) → started after ≡ started before ++ cons_option io [] → tickets_of plan after ≡ tickets_of plan before ++ cons_option (ticket_for plan (length (started before)) io) []
tickets_more plan before after None more =
    ap (λ (ios : List Started). map (ticket_of plan) (enumerate_from 0 ios)) (more ∙ append-nil (started before))
    ∙ sym (append-nil (tickets_of plan before))
tickets_more plan before after (Some io) more =
    let same : 0 + length (started before) ≡ length (started before) = omega arith in
    ap (λ (ios : List Started). map (ticket_of plan) (enumerate_from 0 ios)) more
    ∙ ap (map (ticket_of plan)) (enumerate_more 0 (started before) io)
    ∙ map-append (ticket_of plan) (enumerate_from 0 (started before)) ((0 + length (started before), io) ∷ [])
    ∙ ap (λ (k : ℕ). tickets_of plan before ++ ticket_of plan (k, io) ∷ []) same

-- what is chosen

by_skip : (b : Bool) (A B C : Type 0) → MatchBool b A B → (A → C) → (B → C) → C
by_skip true A B C m f g = f m
by_skip false A B C m f g = g m

legal_appends : (plan : Plan) (worker : ℕ) (before events : List Event) → IsNumbered plan → is_legal plan before ≡ true → Appends plan worker before events → is_legal plan (before ++ events) ≡ true
legal_appends plan worker before [] numbered legal appends = subst (λ (h : List Event). is_legal plan h ≡ true) (sym (append-nil before)) legal
legal_appends plan worker before (e ∷ events) numbered legal appends =
    let next = is_legal-more plan before e legal (choice_may_happen plan before worker e numbered appends.0) in
    by_skip (is_skip e) (Appends plan worker (before ++ e ∷ []) events) (events ≡ []) (is_legal plan (before ++ e ∷ events) ≡ true) appends.1
    (λ (more : Appends plan worker (before ++ e ∷ []) events).
    subst (λ (h : List Event). is_legal plan h ≡ true) (append_assoc before (e ∷ []) events)
    (legal_appends plan worker (before ++ e ∷ []) events numbered next more))
    (λ (last : events ≡ []). subst (λ (rest : List Event). is_legal plan (before ++ e ∷ rest) ≡ true) (sym last) next)

pub by_is_skip : (e : Event) (A B C : Type 0) → MatchBool (is_skip e) A B → (is_skip e ≡ true → A → C) → (is_skip e ≡ false → B → C) → C
by_is_skip (Skip worker write) A B C m f g = f refl m
by_is_skip (Issue worker dir write piece) A B C m f g = g refl m
by_is_skip (Probe worker write piece) A B C m f g = g refl m
by_is_skip (End worker io outcome) A B C m f g = g refl m
by_is_skip (Verdict worker io verdict) A B C m f g = g refl m

pub last-skip : (e : Event) (rest : List Event) → is_skip e ≡ true → last_started (e ∷ rest) ≡ last_started rest
last-skip e [] skip = skip_starts_none e skip
last-skip e (next ∷ rest) skip = refl

started_appends : (plan : Plan) (worker : ℕ) (before events : List Event) → Appends plan worker before events → started events ≡ cons_option (last_started events) []
started_appends plan worker before [] appends = refl
started_appends plan worker before (e ∷ events) appends =
    by_is_skip e (Appends plan worker (before ++ e ∷ []) events) (events ≡ []) (started (e ∷ events) ≡ cons_option (last_started (e ∷ events)) []) appends.1
    (λ (skip : is_skip e ≡ true) (more : Appends plan worker (before ++ e ∷ []) events).
    ap (λ (io : Option Started). cons_option io (started events)) (skip_starts_none e skip)
    ∙ started_appends plan worker (before ++ e ∷ []) events more
    ∙ ap (λ (io : Option Started). cons_option io []) (sym (last-skip e events skip)))
    (λ (other : is_skip e ≡ false) (last : events ≡ []). subst (λ (rest : List Event). started (e ∷ rest) ≡ cons_option (last_started (e ∷ rest)) []) (sym last) refl)

pub chosen_legal : (plan : Plan) (worker : ℕ) (before history : List Event) (io : Option Started) → IsPlanned plan → is_legal plan before ≡ true → IsChosen plan worker before history io → is_legal plan history ≡ true
chosen_legal plan worker before history io planned legal chosen =
    subst (λ (h : List Event). is_legal plan h ≡ true) (sym chosen.1)
    (legal_appends plan worker before chosen.0 (numbered_of plan planned) legal chosen.2)

-- it starts at most one
pub chosen_started : (plan : Plan) (worker : ℕ) (before history : List Event) (io : Option Started) → IsChosen plan worker before history io → started history ≡ started before ++ cons_option io []
chosen_started plan worker before history io chosen =
    ap started chosen.1 ∙ filter_map-append started_by before chosen.0
    ∙ ap (λ (ios : List Started). started before ++ ios) (started_appends plan worker before chosen.0 chosen.2)
    ∙ ap (λ (o : Option Started). started before ++ cons_option o []) (sym chosen.3)

-- what a take starts lies at the end of all that is started
pub chosen_at : (plan : Plan) (worker : ℕ) (before history : List Event) (io : Started) → IsChosen plan worker before history (Some io) → slice_get (started history) (length (started before)) ≡ Some io
chosen_at plan worker before history io chosen =
    ap (λ (ios : List Started). slice_get ios (length (started before))) (chosen_started plan worker before history (Some io) chosen)
    ∙ got_last (started before) io

-- an end and a verdict

pub may_end : (plan : Plan) (history : List Event) (t : Ticket) (outcome : Outcome) → IsOwn plan history t → is_none (outcome_of history t.id) ≡ true → outcome_fits outcome t.piece.len ≡ true → may_happen plan history (End t.worker t.id outcome) ≡ true
may_end plan history t outcome own unended fits =
    let io = own_started plan history t own in
    let worker : io.0.worker ≡ t.worker = ap (λ (x : Ticket). x.worker) io.2 in
    let len : io.0.piece.len ≡ t.piece.len = ap (λ (x : Ticket). x.piece.len) io.2 in
    and_from (flies history t.id) (end_fits t.worker outcome (slice_get (started history) t.id))
    (and_from (nat_lt t.id (length (started history))) (is_none (outcome_of history t.id))
    (lt-ltb t.id (length (started history)) (started_below history t.id io.0 io.1)) unended)
    (subst (λ (o : Option Started). end_fits t.worker outcome o ≡ true) (sym io.1)
    (and_from (io.0.worker == t.worker) (outcome_fits outcome io.0.piece.len) (eq-eqb io.0.worker t.worker worker)
    (subst (λ (n : ℕ). outcome_fits outcome n ≡ true) (sym len) fits)))

pub may_judge : (plan : Plan) (history : List Event) (t : Ticket) (by : ℕ) (bytes : List ℕ) (raced : Bool) → raced ≡ has_raced history t.id → IsPlanned plan → is_legal plan history ≡ true → IsOwn plan history t → is_judged history t.id ≡ false → ended_whole (outcome_of history t.id) ≡ true → is_judged_kind t.kind ≡ true → length bytes ≤ t.piece.len → may_happen plan history (Verdict by t.id (said_of raced (verdict_of t.method t.write t.piece t.expected bytes))) ≡ true
may_judge plan history t by bytes raced race planned legal own unjudged whole judged short =
    let io = own_started plan history t own in
    let fits = started_fit-law plan history t.id io.0 planned legal io.1 in
    let job = fits.0 in
    let s = io.0 in
    let seed = seed_of plan s in
    let is_check : is_judged_kind s.kind ≡ true = ap is_judged_kind (ap (λ (x : Ticket). x.kind) io.2) ∙ judged in
    let method : job.method ≡ t.method = ap method_of (sym fits.1.planned) ∙ ap (λ (x : Ticket). x.method) io.2 in
    let len : s.piece.len ≡ t.piece.len = ap (λ (x : Ticket). x.piece.len) io.2 in
    let expects : expected_by s.kind job.method s seed ≡ t.expected =
    ap (λ (o : Option SubJob). expected_by s.kind (method_of o) s seed) (sym fits.1.planned)
    ∙ ap (λ (x : Ticket). x.expected) io.2 in
    let said = verdict_of t.method t.write t.piece t.expected bytes in
    let write : s.write ≡ t.write = ap (λ (x : Ticket). x.write) io.2 in
    let piece : s.piece ≡ t.piece = ap (λ (x : Ticket). x.piece) io.2 in
    let says : job_says (Some job) s.kind s.piece.len said ≡ true =
    subst (λ (v : GivenVerdict). job_says (Some job) s.kind s.piece.len v ≡ true)
    (ap (λ (x : Expected). verdict_of job.method s.write s.piece x bytes) expects ∙ ap (λ (m : Method). verdict_of m s.write s.piece t.expected bytes) method
    ∙ ap (λ (w : WriteId). verdict_of t.method w s.piece t.expected bytes) write ∙ ap (λ (p : Piece). verdict_of t.method t.write p t.expected bytes) piece)
    (job_says_fits (Some job) job s seed bytes refl is_check (omega (arith, short, len))) in
    let given = said_of raced said in
    and_from (ended_whole (outcome_of history t.id) && not (is_judged history t.id)) (verdict_fits plan (has_raced history t.id) given (slice_get (started history) t.id))
    (and_from (ended_whole (outcome_of history t.id)) (not (is_judged history t.id)) whole (ap not unjudged))
    (subst (λ (r : Bool). verdict_fits plan r given (slice_get (started history) t.id) ≡ true) race
    (subst (λ (o : Option Started). verdict_fits plan raced given o ≡ true) (sym io.1)
    (and_from (is_judged_kind s.kind) (is_said plan raced given s) is_check
    (said_fits plan raced s said
    (subst (λ (o : Option SubJob). job_says o s.kind s.piece.len said ≡ true) (sym fits.1.planned) says)))))
