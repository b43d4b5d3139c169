-- What a take answers: a ticket that fits, a right wait, or the end of the run.
use Rattle.std.proofs.Common.{◌≡◌, ◌⊎◌, ℕ, ◌<◌, List, [], ◌∷◌, ◌++◌, length, Bool, true, false, ◌&&◌, refl, sym, ◌∙◌, ap, subst, arith, inl, inr, append_assoc, append-nil}
use Rattle.std.specs.Prelude.{Option, Some, None, cond, nat_lt, nat_eq, ◌==◌}
use Rattle.std.specs.Option.{option_or}
use Rattle.std.specs.List.{list_all}
use Rattle.std.specs.Cmp.Lexicographic.{pointwise}
use Rattle.std.proofs.lemmas.Bool.{and_parts, and_from, eq-eqb, lt-ltb, false_from_ne_true}
use Rattle.jr_model.specs.declared.contents.Expected.TheVariants as expected
use Rattle.jr_model.specs.declared.contents.Method.{Method}
use Rattle.jr_model.specs.declared.contents.VerifyKind.{VerifyKind}
use Rattle.jr_model.specs.declared.contents.VerifyKind.TheVariants as verify
use Rattle.jr_model.specs.declared.events.Event.{Event}
use Rattle.jr_model.specs.declared.events.Outcome.{Outcome}
use Rattle.jr_model.specs.declared.events.Started.{Started}
use Rattle.jr_model.specs.declared.tickets.Ticket.{Ticket}
use Rattle.jr_model.specs.declared.tickets.TicketKind.{TicketKind}
use Rattle.jr_model.specs.declared.tickets.TicketKind.TheVariants as ticket
use Rattle.jr_model.specs.Choice.{choice}
use Rattle.jr_model.specs.Content.{block_version, expected_of, expected_pattern, header_of}
use Rattle.jr_model.specs.History.{first_given, started, started_by, end_of, outcome_of, in_flight, awaiting, is_judged_kind}
use Rattle.jr_model.specs.Legal.{is_legal, is_complete, is_over}
use Rattle.jr_model.specs.Machine.{Appends, is_skip}
use Rattle.jr_model.specs.Plan.{Plan, SubJob, IsNumbered, clone_of, is_verified}
use Rattle.jr_model.specs.Rounds.{pass_of}
use Rattle.jr_model.specs.Tickets.{piece_fits, has_pattern, is_header, is_pattern, is_seed, interval_fits, chunks_fit, suits_kind, suits_method, ticket_fits}
use Rattle.jr_model.proofs.LegalLaws.{choice_is_step, cases_step_of}
use Rattle.jr_model.proofs.SerialLaws.{first_given-append}
use Rattle.jr_model.specs.PlanFacts.{IsPlanned}
use Rattle.jr_model.proofs.ListLemmas.{none_by_length}
use Rattle.jr_model.proofs.PlanLemmas.{numbered_of}
use Rattle.jr_model.proofs.BoolLemmas.{never_both}
use Rattle.jr_model.proofs.OptionLemmas.{none_from}
use Rattle.jr_model.proofs.HistoryLemmas.{ends_were_started}
use Rattle.jr_header.specs.Served.{ExpectsOwn}
use Rattle.jr_laws_steps.specs.Drawn.{FitsPlan}
use Rattle.jr_laws_steps.proofs.DrawnLaws.{started_fit-law}
use Rattle.jr_laws_steps.proofs.IdleLaws.{idle_is_over}
use Rattle.jr_laws_steps.proofs.RestLaws.{each_ended}
use Rattle.jr_desk_tickets.specs.Tickets.{method_of, seed_of, expected_by, ticket_of}
use Rattle.jr_desk_state.specs.Takes.{IsChosen, HandsOutOwn, last_started, ticket_for, answer_with, handing, is_fitting, is_finished, WaitsRightly}
use Rattle.jr_desk_state.proofs.Keeping.{by_is_skip, last-skip, chosen_at, chosen_legal}

-- a ticket fits

same_self : (xs : List ℕ) → pointwise nat_eq xs xs ≡ true
same_self [] = refl
same_self (x ∷ xs) = and_from (nat_eq x x) (pointwise nat_eq xs xs) (eq-eqb x x refl) (same_self xs)

suits_pattern : (pattern : Option (List ℕ)) → has_pattern verify.Pattern pattern ≡ true → is_pattern pattern (expected_pattern pattern) ≡ true
suits_pattern None h = cc
suits_pattern (Some p) h = same_self p

-- one header, or the seed of those of the chunks
suits_headers : (one : Bool) (header : List ℕ) (seed : ℕ) → cond one (is_header (cond one (expected.Header header) (expected.Seed seed))) (is_seed (cond one (expected.Header header) (expected.Seed seed))) ≡ true
suits_headers true header seed = refl
suits_headers false header seed = refl

suits : (kind : VerifyKind) (method : Method) (io : Started) (seed : ℕ) → is_verified kind ≡ true → has_pattern kind method.pattern ≡ true → suits_method kind method (expected_of kind method io.write io.piece seed) ≡ true
suits verify.Plain method io seed v h = cc
suits verify.Pattern method io seed v h = suits_pattern method.pattern h
suits verify.Md5 method io seed v h = suits_headers (method.interval == 0) (header_of block_version method io.write io.piece seed) seed
suits verify.Sha1 method io seed v h = suits_headers (method.interval == 0) (header_of block_version method io.write io.piece seed) seed
suits verify.Sha256 method io seed v h = suits_headers (method.interval == 0) (header_of block_version method io.write io.piece seed) seed

suits-kind : (kind : TicketKind) (job : SubJob) (io : Started) (seed : ℕ) → (is_judged_kind kind ≡ true → is_verified job.method.kind ≡ true) → has_pattern job.method.kind job.method.pattern ≡ true → suits_kind kind job.method (expected_by kind job.method io seed) ≡ true
suits-kind ticket.Read job io seed v h = refl
suits-kind ticket.Write job io seed v h = refl
suits-kind ticket.ReadCheck job io seed v h = v refl
suits-kind ticket.Probe job io seed v h = suits job.method.kind job.method io seed (v refl) h

-- whole chunks, whatever the ticket's kind
cut_kind : (kind : TicketKind) (method : Method) (len : ℕ) → interval_fits method.kind method.interval len ≡ true → chunks_fit kind method len ≡ true
cut_kind ticket.Read method len h = refl
cut_kind ticket.ReadCheck method len h = refl
cut_kind ticket.Write method len h = h
cut_kind ticket.Probe method len h = h

pub fits_by : (plan : Plan) (id : ℕ) (io : Started) (job : SubJob) → FitsPlan plan io job → ticket_fits (ticket_of plan (id, io)) ≡ true
fits_by plan id io job fits =
    let seed = seed_of plan io in
    subst (λ (o : Option SubJob). (piece_fits io.piece && nat_lt io.write.pass 1000 && has_pattern (method_of o).kind (method_of o).pattern && chunks_fit io.kind (method_of o) io.piece.len && suits_kind io.kind (method_of o) (expected_by io.kind (method_of o) io seed)) ≡ true)
    (sym fits.planned)
    (and_from (piece_fits io.piece && nat_lt io.write.pass 1000 && has_pattern job.method.kind job.method.pattern && chunks_fit io.kind job.method io.piece.len) (suits_kind io.kind job.method (expected_by io.kind job.method io seed))
    (and_from (piece_fits io.piece && nat_lt io.write.pass 1000 && has_pattern job.method.kind job.method.pattern) (chunks_fit io.kind job.method io.piece.len)
    (and_from (piece_fits io.piece && nat_lt io.write.pass 1000) (has_pattern job.method.kind job.method.pattern)
    (and_from (piece_fits io.piece) (nat_lt io.write.pass 1000) fits.fits (lt-ltb io.write.pass 1000 fits.pass)) fits.pattern)
    (cut_kind io.kind job.method io.piece.len fits.interval))
    (suits-kind io.kind job io seed fits.verified fits.pattern))

handing_fits : (kind : TicketKind) (t : Ticket) → ticket_fits t ≡ true → is_fitting (handing kind t) ≡ true
handing_fits ticket.Read t h = h
handing_fits ticket.Write t h = h
handing_fits ticket.ReadCheck t h = h
handing_fits ticket.Probe t h = h

none_fits : (complete : Bool) → is_fitting (answer_with complete None) ≡ true
none_fits true = refl
none_fits false = refl

pub answer_fits : (plan : Plan) (worker : ℕ) (before history : List Event) (io : Option Started) (complete : Bool) → IsPlanned plan → is_legal plan before ≡ true → IsChosen plan worker before history io → is_fitting (answer_with complete (ticket_for plan (length (started before)) io)) ≡ true
answer_fits plan worker before history None complete planned legal chosen = none_fits complete
answer_fits plan worker before history (Some io) complete planned legal chosen =
    let id = length (started before) in
    let fits = started_fit-law plan history id io planned
    (chosen_legal plan worker before history (Some io) planned legal chosen) (chosen_at plan worker before history io chosen) in
    handing_fits io.kind (ticket_of plan (id, io)) (fits_by plan id io fits.0 fits.1)

-- what is handed out expects nothing, or what its own write put there

expects_own : (plan : Plan) (id : ℕ) (io : Started) → ExpectsOwn (ticket_of plan (id, io))
expects_own plan id io = by io.kind
  where
    method : Method
    method = method_of (clone_of plan io.write.clone)

    seed : ℕ
    seed = seed_of plan io

    by : (kind : TicketKind) → (expected_by kind method io seed ≡ expected.Nothing) ⊎ (expected_by kind method io seed ≡ expected_of method.kind method io.write io.piece seed)
    by ticket.Read = inl refl
    by ticket.Write = inl refl
    by ticket.ReadCheck = inl refl
    by ticket.Probe = inr refl

handing_own : (kind : TicketKind) (t : Ticket) → ExpectsOwn t → HandsOutOwn (handing kind t)
handing_own ticket.Read t own = own
handing_own ticket.Write t own = own
handing_own ticket.ReadCheck t own = own
handing_own ticket.Probe t own = own

none_own : (complete : Bool) → HandsOutOwn (answer_with complete None)
none_own true = tt
none_own false = tt

pub answer_own : (plan : Plan) (id : ℕ) (io : Option Started) (complete : Bool) → HandsOutOwn (answer_with complete (ticket_for plan id io))
answer_own plan id None complete = none_own complete
answer_own plan id (Some io) complete = handing_own io.kind (ticket_of plan (id, io)) (expects_own plan id io)

-- what was started flies

no_end : (plan : Plan) (history : List Event) (worker id : ℕ) (e : Event) → IsNumbered plan → choice plan history worker ≡ Some e → end_of id e ≡ None
no_end plan history worker id e numbered chosen =
    let step = choice_is_step plan history worker e numbered chosen in
    elim (cases_step_of plan history worker (pass_of step.0 step.1) step.2 e step.3) [
      | inl probe ↦ subst (λ (x : Event). end_of id x ≡ None) (sym probe) refl
      | inr other ↦
          elim other [
            | inl skip ↦ subst (λ (x : Event). end_of id x ≡ None) (sym skip) refl
            | inr issue ↦ subst (λ (x : Event). end_of id x ≡ None) (sym issue) refl
          ]
    ]

pub no_ends : (plan : Plan) (worker id : ℕ) (before events : List Event) → IsNumbered plan → Appends plan worker before events → first_given (end_of id) events ≡ None
no_ends plan worker id before [] numbered appends = refl
no_ends plan worker id before (e ∷ events) numbered appends =
    ap (λ (o : Option Outcome). option_or o (first_given (end_of id) events)) (no_end plan before worker id e numbered appends.0)
    ∙ by_is_skip e (Appends plan worker (before ++ e ∷ []) events) (events ≡ []) (first_given (end_of id) events ≡ None) appends.1
    (λ (skip : is_skip e ≡ true) (more : Appends plan worker (before ++ e ∷ []) events). no_ends plan worker id (before ++ e ∷ []) events numbered more)
    (λ (other : is_skip e ≡ false) (last : events ≡ []). ap (first_given (end_of id)) last)

no_some : (o : Outcome) → None ≡ Some o → ⊥
no_some o h = cc

unended : (plan : Plan) (worker : ℕ) (before history : List Event) (io : Option Started) → IsPlanned plan → is_legal plan before ≡ true → IsChosen plan worker before history io → outcome_of history (length (started before)) ≡ None
unended plan worker before history io planned legal chosen =
    let id = length (started before) in
    ap (λ (h : List Event). outcome_of h id) chosen.1
    ∙ first_given-append (end_of id) before chosen.0
    ∙ ap (λ (o : Option Outcome). option_or o (first_given (end_of id) chosen.0))
    (none_from (outcome_of before id) (λ (p : Outcome) (h : outcome_of before id ≡ Some p). let below : id < id = ends_were_started plan before legal id p h in omega (arith, below)))
    ∙ no_ends plan worker id before chosen.0 (numbered_of plan planned) chosen.2

incomplete : (plan : Plan) (worker : ℕ) (before history : List Event) (io : Started) → IsPlanned plan → is_legal plan before ≡ true → IsChosen plan worker before history (Some io) → is_complete plan history ≡ false
incomplete plan worker before history io planned legal chosen =
    false_from_ne_true (is_complete plan history)
    (λ (whole : is_complete plan history ≡ true).
    let parts = and_parts ((length (in_flight history) == 0) && (length (awaiting history) == 0)) (list_all (is_over history) plan.clones) whole in
    let rests = none_by_length (in_flight history) (and_parts (length (in_flight history) == 0) (length (awaiting history) == 0) parts.0).0 in
    let ended = each_ended history rests (length (started before)) io (chosen_at plan worker before history io chosen) in
    no_some ended.0 (sym (unended plan worker before history (Some io) planned legal chosen) ∙ ended.1))

handing_goes_on : (kind : TicketKind) (t : Ticket) → is_finished (handing kind t) ≡ false
handing_goes_on ticket.Read t = refl
handing_goes_on ticket.Write t = refl
handing_goes_on ticket.ReadCheck t = refl
handing_goes_on ticket.Probe t = refl

idle_finished : (complete : Bool) → is_finished (answer_with complete None) ≡ complete
idle_finished true = refl
idle_finished false = refl

-- the run is finished where it is complete
pub answer_finished : (plan : Plan) (worker : ℕ) (before history : List Event) (io : Option Started) → IsPlanned plan → is_legal plan before ≡ true → IsChosen plan worker before history io → is_finished (answer_with (is_complete plan history) (ticket_for plan (length (started before)) io)) ≡ is_complete plan history
answer_finished plan worker before history None planned legal chosen = idle_finished (is_complete plan history)
answer_finished plan worker before history (Some io) planned legal chosen =
    handing_goes_on io.kind (ticket_of plan (length (started before), io)) ∙ sym (incomplete plan worker before history io planned legal chosen)

-- it waits where nothing may be started, and something is to come

starts_or_skips : (plan : Plan) (history : List Event) (worker : ℕ) (e : Event) → IsNumbered plan → choice plan history worker ≡ Some e → started_by e ≡ None → is_skip e ≡ true
starts_or_skips plan history worker e numbered chosen =
    let step = choice_is_step plan history worker e numbered chosen in
    elim (cases_step_of plan history worker (pass_of step.0 step.1) step.2 e step.3) [
      | inl probe ↦ subst (λ (x : Event). started_by x ≡ None → is_skip x ≡ true) (sym probe) (λ h. cc)
      | inr other ↦
          elim other [
            | inl skip ↦ subst (λ (x : Event). started_by x ≡ None → is_skip x ≡ true) (sym skip) (λ h. refl)
            | inr issue ↦ subst (λ (x : Event). started_by x ≡ None → is_skip x ≡ true) (sym issue) (λ h. cc)
          ]
    ]

none_left : (plan : Plan) (worker : ℕ) (before events : List Event) → IsNumbered plan → Appends plan worker before events → last_started events ≡ None → choice plan (before ++ events) worker ≡ None
none_left plan worker before [] numbered appends none = subst (λ (h : List Event). choice plan h worker ≡ None) (sym (append-nil before)) appends
none_left plan worker before (e ∷ events) numbered appends none =
    by_is_skip e (Appends plan worker (before ++ e ∷ []) events) (events ≡ []) (choice plan (before ++ e ∷ events) worker ≡ None) appends.1
    (λ (skip : is_skip e ≡ true) (more : Appends plan worker (before ++ e ∷ []) events).
    subst (λ (h : List Event). choice plan h worker ≡ None) (append_assoc before (e ∷ []) events)
    (none_left plan worker (before ++ e ∷ []) events numbered more (sym (last-skip e events skip) ∙ none)))
    (λ (other : is_skip e ≡ false) (last : events ≡ []).
    let starts : started_by e ≡ None = subst (λ (rest : List Event). last_started (e ∷ rest) ≡ None) last none in
    absurd (never_both (is_skip e) (starts_or_skips plan before worker e numbered appends.0 starts) other))

handing_waits : (plan : Plan) (worker : ℕ) (history : List Event) (kind : TicketKind) (t : Ticket) → WaitsRightly plan worker history (handing kind t)
handing_waits plan worker history ticket.Read t = tt
handing_waits plan worker history ticket.Write t = tt
handing_waits plan worker history ticket.ReadCheck t = tt
handing_waits plan worker history ticket.Probe t = tt

waits_if : (plan : Plan) (worker : ℕ) (history : List Event) (b : Bool) → (b ≡ false → (choice plan history worker ≡ None) × ¬ ((in_flight history ≡ []) × (awaiting history ≡ []))) → WaitsRightly plan worker history (answer_with b None)
waits_if plan worker history true f = tt
waits_if plan worker history false f = f refl

pub answer_waits : (plan : Plan) (worker : ℕ) (before history : List Event) (io : Option Started) → IsPlanned plan → is_legal plan before ≡ true → IsChosen plan worker before history io → WaitsRightly plan worker history (answer_with (is_complete plan history) (ticket_for plan (length (started before)) io))
answer_waits plan worker before history (Some io) planned legal chosen =
    handing_waits plan worker history io.kind (ticket_of plan (length (started before), io))
answer_waits plan worker before history None planned legal chosen =
    let idle : choice plan history worker ≡ None =
    subst (λ (h : List Event). choice plan h worker ≡ None) (sym chosen.1)
    (none_left plan worker before chosen.0 (numbered_of plan planned) chosen.2 (sym chosen.3)) in
    waits_if plan worker history (is_complete plan history)
    (λ (unfinished : is_complete plan history ≡ false). (
      idle,
      λ (rests : (in_flight history ≡ []) × (awaiting history ≡ [])).
          never_both (is_complete plan history)
          (idle_is_over plan history worker planned (chosen_legal plan worker before history None planned legal chosen) idle rests.0 rests.1) unfinished,
    ))
