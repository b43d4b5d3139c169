-- A run so far whose memory holds the last writes and whose checks gave what their writes put there stays so.
use Rattle.std.proofs.Common.{◌≡◌, ℕ, zero, suc, ◌<◌, ◌≤◌, List, [], ◌∷◌, ◌++◌, length, Bool, true, false, cond, ◌&&◌, refl, sym, ◌∙◌, ap, subst, arith, inl, inr, append_assoc, append-nil}
use Rattle.std.specs.Prelude.{Option, Some, None, slice_get, ◌==◌}
use Rattle.std.specs.Option.{option_or}
use Rattle.std.specs.List.{list_any}
use Rattle.std.proofs.lemmas.Bool.{and_left, and_right, cases_Bool, ltb-true, or_from, or_parts, false≢true, cond_both, cases_eq, eq-eqb, ne_eqb}
use Rattle.std.proofs.lemmas.Option.{same_Some}
use Rattle.jr_model.specs.declared.events.Event.{Event}
use Rattle.jr_model.specs.declared.events.Event.TheVariants.{Issue, Probe, Skip, End, Verdict}
use Rattle.jr_model.specs.declared.events.Outcome.{Outcome}
use Rattle.jr_model.specs.declared.events.Started.{Started}
use Rattle.jr_model.specs.declared.events.Verdict.{Verdict as GivenVerdict}
use Rattle.jr_model.specs.declared.events.WriteId.{WriteId}
use Rattle.jr_model.specs.declared.tickets.TicketKind.TheVariants as ticket
use Rattle.jr_model.specs.Choice.{choice}
use Rattle.jr_model.specs.History.{started, started_by, end_of, outcome_of, is_probe, is_write, ended_whole}
use Rattle.jr_model.specs.Honest.{IsWholeCheck}
use Rattle.jr_model.specs.LastWrite.{last_after}
use Rattle.jr_model.specs.Legal.{is_legal, is_bad}
use Rattle.jr_model.specs.Machine.{is_skip, choices_after, content_of_io, bytes_read, said_of, verdict_on}
use Rattle.jr_model.specs.Plan.{Plan, IsNumbered}
use Rattle.jr_model.specs.Replies.{FileBytes, memory_with}
use Rattle.jr_model.specs.Rounds.{pass_of}
use Rattle.jr_model.proofs.LegalLaws.{legal_front, is_legal-more, choice_may_happen, choice_is_step, cases_step_of}
use Rattle.jr_model.proofs.SerialLaws.{first_given-append, whole_some}
use Rattle.jr_model.proofs.RaceLaws.{raced_push, raced_other}
use Rattle.jr_model.specs.PlanFacts.{IsPlanned}
use Rattle.jr_model.specs.Races.{races_by, has_raced}
use Rattle.jr_model.proofs.PlaceLemmas.{got_longer}
use Rattle.jr_model.proofs.HistoryLemmas.{outcome_of-stays, ends_were_started}
use Rattle.jr_laws_bytes.specs.Checks.{is_check, is_miscompare, has_miscompare}
use Rattle.jr_laws_bytes.specs.Memory.{CoversFiles, HoldsLastWrites}
use Rattle.jr_laws_steps.proofs.Grown.{is_known, found-more}
use Rattle.jr_laws_bytes.proofs.Starts.{legal_at, draw_started}
use Rattle.jr_laws_bytes.proofs.Contents.{lies_in_file}
use Rattle.jr_laws_bytes.proofs.LastWrites.{started_cases}
use Rattle.jr_laws_bytes.proofs.Memories.{covers_piece, covers_part, covers_files-memory_with, holds_write, holds_on, holds_read, holds_none}
use Rattle.jr_laws_bytes.proofs.Verdicts.{good_on_own}

-- each check that ended whole gave what its write put there
abbrev pub ChecksGaveTheirOwn : Plan → List Event → (ℕ → List ℕ) → Type 0
ChecksGaveTheirOwn plan history read = (io : ℕ) (s : Started) → IsWholeCheck history io s → read io ≡ content_of_io plan s

-- a history and a memory of a run so far: the memory holds the last writes, checks gave what their writes put there,
-- and no verdict is Bad
pub record IsQuiet (plan : Plan) (history : List Event) (memory : List FileBytes) (read : ℕ → List ℕ) : Type 0 where
  pub legal : is_legal plan history ≡ true
  pub covered : CoversFiles plan memory
  pub holds : HoldsLastWrites plan history memory
  pub own : ChecksGaveTheirOwn plan history read
  pub good : has_miscompare history ≡ false

-- one event more

-- a check that ended whole, and not by the last event, had before
whole_before : (plan : Plan) (history : List Event) (e : Event) (io : ℕ) (s : Started) → is_legal plan history ≡ true → end_of io e ≡ None → IsWholeCheck (history ++ e ∷ []) io s → IsWholeCheck history io s
whole_before plan history e io s legal other check =
    let whole : ended_whole (outcome_of history io) ≡ true = ap ended_whole (sym (outcome_of-stays history e io other)) ∙ check.2 in
    let below : io < length (started history) = ends_were_started plan history legal io _ (whole_some (outcome_of history io) whole) in
    let unraced = (or_parts (has_raced history io) (races_by history io (started_by e)) (sym (raced_push history e io) ∙ check.3)).0 in
    elim (started_cases history e io s check.0) [
      | inl old ↦ (old, check.1, whole, unraced)
      | inr new ↦ absurd (omega (arith, below, new.0))
    ]

-- more that was started makes no difference to what was judged before
miscompare_agrees : (ios more : List Started) (e : Event) → is_known (length ios) e ≡ true → is_miscompare (ios ++ more) e ≡ is_miscompare ios e
miscompare_agrees ios more (Verdict worker io verdict) known =
    ap (λ (o : Option Started). is_bad verdict && is_check o) (got_longer ios more io (ltb-true io (length ios) known))
miscompare_agrees ios more (Issue worker kind write piece) known = refl
miscompare_agrees ios more (Probe worker write piece) known = refl
miscompare_agrees ios more (Skip worker write) known = refl
miscompare_agrees ios more (End worker io outcome) known = refl

pub no_worse : (plan : Plan) (history : List Event) (e : Event) → is_legal plan (history ++ e ∷ []) ≡ true → has_miscompare history ≡ false → is_miscompare (started history) e ≡ false → has_miscompare (history ++ e ∷ []) ≡ false
no_worse plan history e legal good fine =
    found-more plan history e (legal_front plan [] history (e ∷ []) legal) (legal_at plan [] history e [] legal) is_miscompare miscompare_agrees
    ∙ or_from (list_any (is_miscompare (started history)) history) (is_miscompare (started history) e) good fine

-- an event that ends nothing and finds no check bad, where these I/Os are started
pub record IsHarmless (ios : List Started) (e : Event) : Type 0 where
  pub ends : (io : ℕ) → end_of io e ≡ None
  pub keeps : (raced : ℕ → Bool) (all : List Started) (file block : ℕ) (last : Option WriteId) → last_after raced all file block last e ≡ last
  pub fine : is_miscompare ios e ≡ false

pub quiet-more : (plan : Plan) (history : List Event) (e : Event) (memory : List FileBytes) (read : ℕ → List ℕ) → is_legal plan (history ++ e ∷ []) ≡ true → IsHarmless (started history) e → IsQuiet plan history memory read → IsQuiet plan (history ++ e ∷ []) memory read
quiet-more plan history e memory read legal harmless quiet = record {
  legal = legal;
  covered = quiet.covered;
  holds = holds_on plan history memory e quiet.legal (λ file block last. harmless.keeps (has_raced history) (started history) file block last) quiet.holds;
  own = λ io s check. quiet.own io s (whole_before plan history e io s quiet.legal (harmless.ends io) check);
  good = no_worse plan history e legal quiet.good harmless.fine;
}

-- what is chosen to be started or skipped is harmless
pub harmless_choice : (plan : Plan) (history : List Event) (worker : ℕ) (e : Event) → IsNumbered plan → choice plan history worker ≡ Some e → IsHarmless (started history) e
harmless_choice plan history worker e numbered chosen =
    let found = choice_is_step plan history worker e numbered chosen in
    elim (cases_step_of plan history worker (pass_of found.0 found.1) found.2 e found.3) [
      | inl probe ↦ subst (λ (x : Event). IsHarmless (started history) x) (sym probe) (record { ends = λ io. refl; keeps = λ raced ios file block last. refl; fine = refl })
      | inr other ↦
          elim other [
            | inl skip ↦ subst (λ (x : Event). IsHarmless (started history) x) (sym skip) (record { ends = λ io. refl; keeps = λ raced ios file block last. refl; fine = refl })
            | inr issue ↦ subst (λ (x : Event). IsHarmless (started history) x) (sym issue) (record { ends = λ io. refl; keeps = λ raced ios file block last. refl; fine = refl })
          ]
    ]

-- what a take appends leaves it quiet
pub quiet_choices : (limit : ℕ) (plan : Plan) (worker : ℕ) (history : List Event) (memory : List FileBytes) (read : ℕ → List ℕ) (o : Option Event) → IsNumbered plan → choice plan history worker ≡ o → IsQuiet plan history memory read → IsQuiet plan (history ++ choices_after limit plan worker history o) memory read
quiet_choices limit plan worker history memory read None numbered same quiet = rw append-nil quiet
quiet_choices zero plan worker history memory read (Some e) numbered same quiet =
    quiet-more plan history e memory read (is_legal-more plan history e quiet.legal (choice_may_happen plan history worker e numbered same))
    (harmless_choice plan history worker e numbered same) quiet
quiet_choices (suc limit) plan worker history memory read (Some e) numbered same quiet =
    let next = history ++ e ∷ [] in
    let longer : IsQuiet plan next memory read =
    quiet-more plan history e memory read (is_legal-more plan history e quiet.legal (choice_may_happen plan history worker e numbered same))
    (harmless_choice plan history worker e numbered same) quiet in
    let rest = choices_after limit plan worker next (choice plan next worker) in
    cond_both (is_skip e) (e ∷ rest) (e ∷ []) (λ (events : List Event). IsQuiet plan (history ++ events) memory read)
    (λ skipped. subst (λ (all : List Event). IsQuiet plan all memory read) (append_assoc history (e ∷ []) rest)
    (quiet_choices limit plan worker next memory read (choice plan next worker) numbered refl longer))
    (λ begun. longer)

-- the verdict on the bytes of a check or checked read that ended whole is harmless
pub harmless_verdict : (plan : Plan) (history : List Event) (memory : List FileBytes) (read : ℕ → List ℕ) (by io : ℕ) (s : Started) → IsPlanned plan → IsQuiet plan history memory read → slice_get (started history) io ≡ Some s → ended_whole (outcome_of history io) ≡ true → IsHarmless (started history) (Verdict by io (said_of (has_raced history io) (verdict_on plan s (read io))))
harmless_verdict plan history memory read by io s planned quiet at whole = record {
  ends = λ n. refl;
  keeps = λ raced ios file block last. refl;
  fine = ap (λ (o : Option Started). is_bad said && is_check o) at
      ∙ elim (cases_Bool (is_probe s.kind)) [
        | inl probe ↦ and_left (is_bad said) (is_probe s.kind) (not_bad probe)
        | inr other ↦ and_right (is_bad said) (is_probe s.kind) other
      ];
}
  where
    said : GivenVerdict
    said = said_of (has_raced history io) (verdict_on plan s (read io))

    not_bad : is_probe s.kind ≡ true → is_bad said ≡ false
    not_bad probe =
        elim (cases_Bool (has_raced history io)) [
          | inl raced ↦ ap (λ (r : Bool). is_bad (said_of r (verdict_on plan s (read io)))) raced
          | inr unraced ↦
              ap (λ (r : Bool). is_bad (said_of r (verdict_on plan s (read io)))) unraced
              ∙ ap is_bad (ap (verdict_on plan s) (quiet.own io s (at, probe, whole, unraced)) ∙ good_on_own plan history io s planned quiet.legal at probe)
        ]

-- at first nothing happened, and a memory that covers the plan's files holds all that was written
pub quiet_first : (plan : Plan) (memory : List FileBytes) (read : ℕ → List ℕ) → CoversFiles plan memory → IsQuiet plan [] memory read
quiet_first plan memory read covered = record {
  legal = refl;
  covered = covered;
  holds = holds_none plan memory;
  own = λ io s check. no_check io s check.0;
  good = refl;
}
  where
    no_check : {P : Type 0} (io : ℕ) (s : Started) → slice_get {X = Started} [] io ≡ Some s → P
    no_check io s h = cc

-- the ends of I/Os

-- what the I/O that the last event ends was started as
ended_now : (history : List Event) (worker id : ℕ) (outcome : Outcome) (io x : Started) → slice_get (started history) id ≡ Some io → slice_get (started (history ++ End worker id outcome ∷ [])) id ≡ Some x → io ≡ x
ended_now history worker id outcome io x at later =
    elim (started_cases history (End worker id outcome) id x later) [
      | inl old ↦ same_Some io x (sym at ∙ old)
      | inr new ↦ absurd (none_some new.1)
    ]
  where
    none_some : None ≡ Some x → ⊥
    none_some e = cc

not_ended : (worker id io : ℕ) (outcome : Outcome) → (id ≡ io → ⊥) → end_of io (End worker id outcome) ≡ None
not_ended worker id io outcome other = ap (λ (b : Bool). cond b (Some outcome) None) (ne_eqb id io other)

whole_now : (history : List Event) (worker id : ℕ) (outcome : Outcome) → outcome_of history id ≡ None → ended_whole (outcome_of (history ++ End worker id outcome ∷ []) id) ≡ true → ended_whole (Some outcome) ≡ true
whole_now history worker id outcome unended whole =
    sym
    (ap ended_whole
    (first_given-append (end_of id) history (End worker id outcome ∷ [])
    ∙ ap (λ (o : Option Outcome). option_or o (option_or (cond (id == id) (Some outcome) None) None)) unended
    ∙ ap (λ (b : Bool). option_or (cond b (Some outcome) None) None) (eq-eqb id id refl)))
    ∙ whole

-- a read or check ends; where it is a check that ends whole it gave what its write put there
pub quiet_read : (plan : Plan) (history : List Event) (memory : List FileBytes) (kept : List (ℕ × List ℕ)) (id : ℕ) (outcome : Outcome) (io : Started) (bytes : List ℕ) → is_legal plan (history ++ End io.worker id outcome ∷ []) ≡ true → slice_get (started history) id ≡ Some io → is_write io.kind ≡ false → outcome_of history id ≡ None → (is_probe io.kind ≡ true → ended_whole (Some outcome) ≡ true → has_raced history id ≡ false → bytes ≡ content_of_io plan io) → IsQuiet plan history memory (bytes_read kept) → IsQuiet plan (history ++ End io.worker id outcome ∷ []) memory (bytes_read ((id, bytes) ∷ kept))
quiet_read plan history memory kept id outcome io bytes legal at reads unended given quiet =
    let e = End io.worker id outcome in record {
      legal = legal;
      covered = quiet.covered;
      holds = holds_read plan history memory io.worker id outcome io quiet.legal at reads quiet.holds;
      own = λ n s check.
          elim (cases_eq id n) [
            | inl same ↦
                let here : IsWholeCheck (history ++ e ∷ []) id s = subst (λ (k : ℕ). IsWholeCheck (history ++ e ∷ []) k s) (sym same) check in
                let is : io ≡ s = ended_now history io.worker id outcome io s at here.0 in
                ap (λ (b : Bool). cond b bytes (bytes_read kept n)) (eq-eqb id n same)
                ∙ given (subst (λ (x : Started). is_probe x.kind ≡ true) (sym is) here.1) (whole_now history io.worker id outcome unended here.2)
                (sym (raced_other history e id refl) ∙ here.3)
                ∙ ap (content_of_io plan) is
            | inr other ↦
                ap (λ (b : Bool). cond b bytes (bytes_read kept n)) (ne_eqb id n other)
                ∙ quiet.own n s (whole_before plan history e n s quiet.legal (not_ended io.worker id n outcome other) check)
          ];
      good = no_worse plan history e legal quiet.good refl;
    }

-- a write ends; it stored its content where it ends whole
pub quiet_write : (plan : Plan) (history : List Event) (memory : List FileBytes) (read : ℕ → List ℕ) (id : ℕ) (outcome : Outcome) (io : Started) (new : List ℕ) → IsPlanned plan → is_legal plan (history ++ End io.worker id outcome ∷ []) ≡ true → slice_get (started history) id ≡ Some io → io.kind ≡ ticket.Write → length new ≤ io.piece.len → (ended_whole (Some outcome) ≡ true → new ≡ content_of_io plan io) → IsQuiet plan history memory read → IsQuiet plan (history ++ End io.worker id outcome ∷ []) (memory_with memory io.piece.file io.piece.offset new) read
quiet_write plan history memory read id outcome io new planned legal at writes short content quiet =
    let e = End io.worker id outcome in
    let drawn = draw_started plan history id io quiet.legal at in
    let whole_piece = covers_piece plan memory io.piece quiet.covered (lies_in_file plan io.write io.piece drawn.0 drawn.1 planned drawn.2) in
    let within = covers_part memory io.piece.file io.piece.offset io.piece.len io.piece.offset (length new) whole_piece (omega arith) (omega (arith, short)) in record {
      legal = legal;
      covered = covers_files-memory_with plan memory io.piece.file io.piece.offset new within quiet.covered;
      holds = holds_write plan history memory io.worker id outcome io new planned quiet.legal at (ap is_write writes) quiet.covered quiet.holds short content;
      own = λ n s check.
          elim (cases_eq id n) [
            | inl same ↦
                let here : IsWholeCheck (history ++ e ∷ []) id s = subst (λ (k : ℕ). IsWholeCheck (history ++ e ∷ []) k s) (sym same) check in
                let is : io ≡ s = ended_now history io.worker id outcome io s at here.0 in
                absurd (false≢true (ap is_probe (sym writes) ∙ ap (λ (x : Started). is_probe x.kind) is ∙ here.1))
            | inr other ↦ quiet.own n s (whole_before plan history e n s quiet.legal (not_ended io.worker id n outcome other) check)
          ];
      good = no_worse plan history e legal quiet.good refl;
    }
