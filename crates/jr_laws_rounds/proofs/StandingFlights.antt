-- What flies of a clone: an I/O that was started and hasn't ended. What an event changes of it, and of what is settled.
use Rattle.std.proofs.Common.{◌≡◌, ℕ, ◌+◌, List, [], ◌∷◌, ◌++◌, Bool, true, cond, refl, sym, ◌∙◌, ap, subst, arith, inl, inr}
use Rattle.std.specs.Prelude.{◌⊎◌, Option, Some, None, slice_get, is_none}
use Rattle.std.specs.Option.{option_or}
use Rattle.std.specs.List.{list_any, cons_option, enumerate_from}
use Rattle.std.proofs.lemmas.Bool.{eqb-true, eq-eqb, or_left}
use Rattle.std.proofs.lemmas.List.Folds.{list_any-append}
use Rattle.std.proofs.lemmas.Option.{same_Some}
use Rattle.jr_model.specs.declared.events.Event.{Event}
use Rattle.jr_model.specs.declared.events.Outcome.{Outcome}
use Rattle.jr_model.specs.declared.events.Started.{Started}
use Rattle.jr_model.specs.declared.events.WriteId.{WriteId}
use Rattle.jr_model.specs.History.{started, started_by, end_of, outcome_of, if_flying, in_flight, in_flight_of, is_of_clone}
use Rattle.jr_model.specs.Legal.{is_legal}
use Rattle.jr_model.specs.Plan.{Plan}
use Rattle.jr_model.specs.Rounds.{settles, is_settled}
use Rattle.jr_model.proofs.SerialLaws.{first_given-append}
use Rattle.jr_model.proofs.PlaceLemmas.{any_found, any_at, got_filtered, kept_at}
use Rattle.jr_model.proofs.HistoryLemmas.{started-more}
use Rattle.jr_laws_steps.proofs.StartedLemmas.{got_more, started-starts, started-other}
use Rattle.jr_laws_quiet.proofs.Groups.{got_filter}
use Rattle.jr_laws_quiet.proofs.Steps.{refer_all}
use Rattle.jr_laws_quiet.proofs.Phases.{any_agrees}
use Rattle.jr_laws_rounds.proofs.StandingLists.{got_kept, numbered_at}

-- an I/O of the clone in flight that passes a test
pub record FliesOf (history : List Event) (c : ℕ) (test : Started → Bool) : Type 0 where
  pub id : ℕ
  pub io : Started
  pub at : slice_get (started history) id ≡ Some io
  pub going : outcome_of history id ≡ None
  pub clone : io.write.clone ≡ c
  pub passes : test io ≡ true

some_if : {X : Type 0} (o : Option Outcome) (x y : X) → cond (is_none o) (Some x) None ≡ Some y → (o ≡ None) × (x ≡ y)
some_if None x y h = (refl, same_Some x y h)
some_if (Some outcome) x y h = cc

pub flies_found : (history : List Event) (c : ℕ) (test : Started → Bool) → list_any test (in_flight_of history c) ≡ true → FliesOf history c test
flies_found history c test h =
    let found = any_found test (in_flight_of history c) h in
    let of_clone = got_filtered (is_of_clone c) (in_flight history) found.0 found.1 found.2 in
    let kept = got_kept (if_flying history) 0 (started history) of_clone.0 found.1 of_clone.1 in
    let same : 0 + kept.0 ≡ kept.0 = omega arith in
    let flying : cond (is_none (outcome_of history kept.0)) (Some kept.1) None ≡ Some found.1 =
    subst (λ (n : ℕ). if_flying history (n, kept.1) ≡ Some found.1) same kept.3 in
    let is = some_if (outcome_of history kept.0) kept.1 found.1 flying in
    record {
      id = kept.0;
      io = found.1;
      at = kept.2 ∙ ap Some is.1;
      going = is.0;
      clone = eqb-true found.1.write.clone c of_clone.2;
      passes = found.3;
    }

pub flies_there : (history : List Event) (c : ℕ) (test : Started → Bool) → FliesOf history c test → list_any test (in_flight_of history c) ≡ true
flies_there history c test f =
    let numbered = numbered_at 0 (started history) f.id f.io f.at in
    let same : 0 + f.id ≡ f.id = omega arith in
    let gives : if_flying history (0 + f.id, f.io) ≡ Some f.io =
    subst (λ (n : ℕ). if_flying history (n, f.io) ≡ Some f.io) (sym same)
    (ap (λ (o : Option Outcome). cond (is_none o) (Some f.io) None) f.going) in
    let kept = kept_at (if_flying history) (enumerate_from 0 (started history)) f.id (0 + f.id, f.io) f.io numbered gives in
    let of_clone = got_filter (is_of_clone c) (in_flight history) kept.0 f.io kept.1 (eq-eqb f.io.write.clone c f.clone) in
    any_at test (in_flight_of history c) of_clone.0 f.io of_clone.1 f.passes

none_before : (a b : Option Outcome) → option_or a b ≡ None → a ≡ None
none_before None b h = refl
none_before (Some x) b h = cc

-- what was in flight before an event, or is started by it
pub flew_or_starts : (history : List Event) (e : Event) (c : ℕ) (test : Started → Bool) → FliesOf (history ++ e ∷ []) c test → FliesOf history c test ⊎ ((io : Started) × (started_by e ≡ Some io) × (io.write.clone ≡ c) × (test io ≡ true))
flew_or_starts history e c test f = by_start (started_by e) refl
  where
    going_before : outcome_of history f.id ≡ None
    going_before =
        none_before (outcome_of history f.id) (outcome_of (e ∷ []) f.id) (sym (first_given-append (end_of f.id) history (e ∷ [])) ∙ f.going)

    flew : slice_get (started history) f.id ≡ Some f.io → FliesOf history c test
    flew at = record { id = f.id; io = f.io; at = at; going = going_before; clone = f.clone; passes = f.passes }

    by_start : (o : Option Started) → started_by e ≡ o → FliesOf history c test ⊎ ((io : Started) × (started_by e ≡ Some io) × (io.write.clone ≡ c) × (test io ≡ true))
    by_start None nothing =
        inl (flew (subst (λ (ios : List Started). slice_get ios f.id ≡ Some f.io) (started-other history e nothing) f.at))
    by_start (Some io) starts =
        elim (got_more (started history) io f.id f.io (subst (λ (ios : List Started). slice_get ios f.id ≡ Some f.io) (started-starts history e io starts) f.at)) [
          | inl before ↦ inl (flew before)
          | inr last ↦ inr (f.io, starts ∙ ap Some (sym last.1), f.clone, f.passes)
        ]

-- what is settled stays so
pub stays_settled : (plan : Plan) (h : List Event) (e : Event) (w : WriteId) → is_legal plan h ≡ true → is_settled h w ≡ true → is_settled (h ++ e ∷ []) w ≡ true
stays_settled plan h e w legal settled =
    let ios = started (h ++ e ∷ []) in
    list_any-append (settles ios w) h (e ∷ [])
    ∙ or_left (list_any (settles ios w) h) (list_any (settles ios w) (e ∷ []))
    (ap (λ (s : List Started). list_any (settles s w) h) (started-more h e)
    ∙ any_agrees w (started h) (cons_option (started_by e) []) h (refer_all plan h legal)
    ∙ settled)
