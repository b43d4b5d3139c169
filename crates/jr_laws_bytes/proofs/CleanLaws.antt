-- Nothing goes wrong in the history of one worker over a right memory, but what a checked read finds.
use Rattle.std.proofs.Common.{◌≡◌, ℕ, zero, suc, ◌*◌, List, [], ◌∷◌, ◌++◌, length, Bool, true, false, ◌&&◌, ◌||◌, refl, sym, ◌∙◌, ap, subst, inl, inr, append_assoc, append-nil, get_or}
use Rattle.std.specs.Prelude.{Option, Some, None, slice_get}
use Rattle.std.specs.List.{list_any, cons_option}
use Rattle.std.proofs.lemmas.Bool.{and_right, or_parts}
use Rattle.std.proofs.lemmas.List.Elements.{filter_map-append}
use Rattle.std.proofs.lemmas.List.Folds.{list_any_none}
use Rattle.std.proofs.lemmas.Option.{slice_get-get_or, same_Some}
use Rattle.jr_model.specs.declared.blocks.Dir.{Dir}
use Rattle.jr_model.specs.declared.blocks.Dir.TheVariants as direction
use Rattle.jr_model.specs.declared.events.Event.{Event}
use Rattle.jr_model.specs.declared.events.Event.TheVariants.{Issue, Probe, Skip, End, Verdict}
use Rattle.jr_model.specs.declared.events.Started.{Started}
use Rattle.jr_model.specs.declared.workloads.Draw.{Draw}
use Rattle.jr_model.specs.declared.tickets.TicketKind.{TicketKind}
use Rattle.jr_model.specs.declared.tickets.TicketKind.TheVariants as ticket
use Rattle.jr_model.specs.Choice.{choice, choice_of_clone, choice_of_pass}
use Rattle.jr_model.specs.History.{started, started_by, is_judged_kind, is_probe}
use Rattle.jr_model.specs.Legal.{is_bad, is_legal, step_of}
use Rattle.jr_model.specs.Machine.{verdict_on, work_of}
use Rattle.jr_model.specs.Plan.{Plan, SubJob, checks_reads, clone_of}
use Rattle.jr_model.specs.PlanFacts.{IsPlanned}
use Rattle.jr_model.specs.Replies.{FileBytes}
use Rattle.jr_model.specs.Rounds.{Pass, passes_of}
use Rattle.jr_model.specs.Serial.{carried_out, ends_as, followed_by, goes_on, memory_after, serial_after, serial_history, stored_for}
use Rattle.jr_model.proofs.LegalLaws.{first_given-some, cases_step_of}
use Rattle.jr_model.proofs.SerialLaws.{any-append, legal_serial}
use Rattle.jr_model.proofs.PlanLemmas.{numbered_of}
use Rattle.jr_laws_steps.specs.Drawn.{is_kind_of}
use Rattle.jr_laws_steps.proofs.DrawnLaws.{started_are_drawn-law}
use Rattle.jr_laws_bytes.specs.Checks.{is_check, is_miscompare, has_miscompare}
use Rattle.jr_laws_bytes.specs.Clean.{is_faulty_end, has_fault}
use Rattle.jr_laws_bytes.specs.BadVerdicts.{is_bad_verdict, has_bad}
use Rattle.jr_laws_bytes.proofs.Verdicts.{judged_check}

-- what is chosen is the step of some draw
step_of_choice : (plan : Plan) (history : List Event) (e : Event) → choice plan history 0 ≡ Some e → (pass : Pass) × (draw : Draw) × (step_of plan history 0 pass draw ≡ Some e)
step_of_choice plan history e chosen =
    let of_clone = first_given-some (choice_of_clone plan history 0) plan.clones e chosen in
    let of_pass = first_given-some (choice_of_pass plan history 0) (passes_of of_clone.1) e of_clone.3 in
    let of_draw = first_given-some (step_of plan history 0 of_pass.1) of_pass.1.draws e of_pass.3 in
    (of_pass.1, of_draw.1, of_draw.3)

-- it starts or skips: it ends and judges nothing
record IsStart (e : Event) : Type 0 where
  pub whole : is_faulty_end e ≡ false
  pub unjudged : (ios : List Started) → is_miscompare ios e ≡ false

start_of_choice : (plan : Plan) (history : List Event) (e : Event) → choice plan history 0 ≡ Some e → IsStart e
start_of_choice plan history e chosen =
    let step = step_of_choice plan history e chosen in
    elim (cases_step_of plan history 0 step.0 step.1 e step.2) [
      | inl probe ↦ subst (λ (x : Event). IsStart x) (sym probe) (record { whole = refl; unjudged = λ ios. refl })
      | inr other ↦
          elim other [
            | inl skip ↦ subst (λ (x : Event). IsStart x) (sym skip) (record { whole = refl; unjudged = λ ios. refl })
            | inr issue ↦ subst (λ (x : Event). IsStart x) (sym issue) (record { whole = refl; unjudged = λ ios. refl })
          ]
    ]

-- no fault

ends_whole : (plan : Plan) (memory : List FileBytes) (id : ℕ) (io : Started) (kind : TicketKind) → has_fault (ends_as plan memory id io kind) ≡ false
ends_whole plan memory id io ticket.Read = refl
ends_whole plan memory id io ticket.Write = refl
ends_whole plan memory id io ticket.Probe = refl
ends_whole plan memory id io ticket.ReadCheck = refl

followed_whole : (plan : Plan) (memory : List FileBytes) (id : ℕ) (o : Option Started) → has_fault (followed_by plan memory id o) ≡ false
followed_whole plan memory id None = refl
followed_whole plan memory id (Some io) = ends_whole plan memory id io io.kind

whole_more : (plan : Plan) (history : List Event) (e : Event) → IsStart e → has_fault history ≡ false → has_fault (history ++ carried_out plan history e) ≡ false
whole_more plan history e starts whole =
    any-append is_faulty_end history (carried_out plan history e)
    ∙ ap (λ (b : Bool). b || has_fault (carried_out plan history e)) whole
    ∙ ap (λ (b : Bool). b || has_fault (followed_by plan (memory_after plan history) (length (started history)) (started_by e))) starts.whole
    ∙ followed_whole plan (memory_after plan history) (length (started history)) (started_by e)

-- no bad verdict on a check

-- whatever is started later
abbrev AreGood : List Event → Type 0
AreGood history = (later : List Started) → list_any (is_miscompare (started history ++ later)) history ≡ false

got_next : (before later : List Started) (io : Started) → slice_get (before ++ io ∷ later) (length before) ≡ Some io
got_next [] later io = refl
got_next (first ∷ before) later io = got_next before later io

-- what follows an I/O starts nothing more
started_of_ends : (plan : Plan) (memory : List FileBytes) (id : ℕ) (io : Started) (kind : TicketKind) → started (ends_as plan memory id io kind) ≡ []
started_of_ends plan memory id io ticket.Read = refl
started_of_ends plan memory id io ticket.Write = refl
started_of_ends plan memory id io ticket.Probe = refl
started_of_ends plan memory id io ticket.ReadCheck = refl

started_of_followed : (plan : Plan) (memory : List FileBytes) (id : ℕ) (o : Option Started) → started (followed_by plan memory id o) ≡ []
started_of_followed plan memory id None = refl
started_of_followed plan memory id (Some io) = started_of_ends plan memory id io io.kind

ends_good : (plan : Plan) (memory : List FileBytes) (before later : List Started) (io : Started) (kind : TicketKind) → io.kind ≡ kind → list_any (is_miscompare (before ++ io ∷ later)) (ends_as plan memory (length before) io kind) ≡ false
ends_good plan memory before later io ticket.Read is = refl
ends_good plan memory before later io ticket.Write is = refl
ends_good plan memory before later io ticket.Probe is = refl
ends_good plan memory before later io ticket.ReadCheck is =
    let said = verdict_on plan io (stored_for memory io) in
    ap (λ (o : Option Started). (is_bad said && is_check o) || false) (got_next before later io)
    ∙ ap (λ (k : TicketKind). (is_bad said && is_probe k) || false) is
    ∙ ap (λ (b : Bool). b || false) (and_right (is_bad said) false refl)

followed_good : (plan : Plan) (memory : List FileBytes) (before later : List Started) (o : Option Started) → list_any (is_miscompare (before ++ cons_option o later)) (followed_by plan memory (length before) o) ≡ false
followed_good plan memory before later None = refl
followed_good plan memory before later (Some io) = ends_good plan memory before later io io.kind refl

good_more : (plan : Plan) (history : List Event) (e : Event) → IsStart e → AreGood history → AreGood (history ++ carried_out plan history e)
good_more plan history e starts good later =
    let memory = memory_after plan history in
    let id = length (started history) in
    let more = followed_by plan memory id (started_by e) in
    let ios = started history ++ cons_option (started_by e) later in
    let same : started (history ++ e ∷ more) ++ later ≡ ios =
    ap (λ (all : List Started). all ++ later) (filter_map-append started_by history (e ∷ more))
    ∙ append_assoc (started history) (cons_option (started_by e) (started more)) later
    ∙ ap (λ (tail : List Started). started history ++ (cons_option (started_by e) tail ++ later)) (started_of_followed plan memory id (started_by e))
    ∙ ap (λ (tail : List Started). started history ++ tail) (one_before (started_by e)) in
    ap (λ (all : List Started). list_any (is_miscompare all) (history ++ e ∷ more)) same
    ∙ any-append (is_miscompare ios) history (e ∷ more)
    ∙ ap (λ (b : Bool). b || (is_miscompare ios e || list_any (is_miscompare ios) more)) (good (cons_option (started_by e) later))
    ∙ ap (λ (b : Bool). b || list_any (is_miscompare ios) more) (starts.unjudged ios)
    ∙ followed_good plan memory (started history) later (started_by e)
  where
    one_before : (o : Option Started) → (cons_option o [] ++ later) ≡ cons_option o later
    one_before None = refl
    one_before (Some io) = refl

-- both of the history of one worker so far
record IsClean (history : List Event) : Type 0 where
  pub whole : has_fault history ≡ false
  pub good : AreGood history

clean_goes_on : (plan : Plan) (rest : List Event → List Event) (history : List Event) (o : Option Event) → ((longer : List Event) → IsClean longer → IsClean (rest longer)) → IsClean history → choice plan history 0 ≡ o → IsClean (goes_on plan rest history o)
clean_goes_on plan rest history None keeps clean chosen = clean
clean_goes_on plan rest history (Some e) keeps clean chosen =
    let starts = start_of_choice plan history e chosen in
    keeps (history ++ carried_out plan history e) (record { whole = whole_more plan history e starts clean.whole; good = good_more plan history e starts clean.good })

clean_serial : (limit : ℕ) (plan : Plan) (history : List Event) → IsClean history → IsClean (serial_after limit plan history)
clean_serial zero plan history clean = clean
clean_serial (suc limit) plan history clean =
    clean_goes_on plan (serial_after limit plan) history (choice plan history 0)
    (λ (more : List Event) (still : IsClean more). clean_serial limit plan more still) clean refl

pub serial_clean : (plan : Plan) → (has_fault (serial_history plan) ≡ false) × (has_miscompare (serial_history plan) ≡ false)
serial_clean plan =
    let history = serial_history plan in
    let clean = clean_serial (2 * work_of plan) plan [] (record { whole = refl; good = λ later. refl }) in
    let good : has_miscompare history ≡ false = ap (λ (ios : List Started). list_any (is_miscompare ios) history) (sym (append-nil (started history))) ∙ clean.good [] in
    (clean.whole, good)

-- where no clone checks its reads, what gets a verdict is a check
checks_alone : (kind : TicketKind) (d : Dir) (job : SubJob) → checks_reads job ≡ false → is_kind_of kind d job ≡ true → is_judged_kind kind ≡ true → is_probe kind ≡ true
checks_alone ticket.Probe d job none is judged = refl
checks_alone ticket.ReadCheck direction.Read job none is judged = sym none ∙ is
checks_alone ticket.ReadCheck direction.Write job none is judged = is
checks_alone ticket.Read d job none is judged = judged
checks_alone ticket.Write d job none is judged = judged

good_event : (plan : Plan) (history : List Event) (place : ℕ) (e : Event) → IsPlanned plan → ((c : ℕ) (job : SubJob) → clone_of plan c ≡ Some job → checks_reads job ≡ false) → is_legal plan history ≡ true → slice_get history place ≡ Some e → is_miscompare (started history) e ≡ false → is_bad_verdict e ≡ false
good_event plan history place (Verdict by io verdict) planned none legal at good =
    let found = judged_check plan history place by io verdict legal at in
    let s = found.0 in
    let drawn = started_are_drawn-law plan history io s planned legal found.1 in
    let probe : is_probe s.kind ≡ true = checks_alone s.kind drawn.1.dir drawn.0 (none s.write.clone drawn.0 drawn.2.planned) drawn.2.kind found.2 in
    sym (and_one (is_bad verdict)) ∙ ap (λ (b : Bool). is_bad verdict && b) (sym probe) ∙ sym (ap (λ (o : Option Started). is_bad verdict && is_check o) found.1) ∙ good
  where
    and_one : (b : Bool) → (b && true) ≡ b
    and_one true = refl
    and_one false = refl
good_event plan history place (Issue worker kind write piece) planned none legal at good = refl
good_event plan history place (Probe worker write piece) planned none legal at good = refl
good_event plan history place (Skip worker write) planned none legal at good = refl
good_event plan history place (End worker io outcome) planned none legal at good = refl

pub serial_good : (plan : Plan) → IsPlanned plan → ((c : ℕ) (job : SubJob) → clone_of plan c ≡ Some job → checks_reads job ≡ false) → has_bad (serial_history plan) ≡ false
serial_good plan planned none =
    let history = serial_history plan in
    let clean = serial_clean plan in
    list_any_none is_bad_verdict history
    (λ place d within.
    let at = slice_get-get_or history place d within in
    good_event plan history place (get_or history place d) planned none (legal_serial plan (numbered_of plan planned)) at
    (none_of (is_miscompare (started history)) history place (get_or history place d) clean.1 at))
  where
    none_of : {X : Type 0} (f : X → Bool) (xs : List X) (k : ℕ) (x : X) → list_any f xs ≡ false → slice_get xs k ≡ Some x → f x ≡ false
    none_of f [] k x h at = cc
    none_of f (y ∷ ys) zero x h at = ap f (sym (same_Some y x at)) ∙ (or_parts (f y) (list_any f ys) h).0
    none_of f (y ∷ ys) (suc k) x h at = none_of f ys k x (or_parts (f y) (list_any f ys) h).1 at
