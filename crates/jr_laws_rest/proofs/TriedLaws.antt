-- What a clone tried in its first pass is the front of the draws of that pass.
use Rattle.std.proofs.Common.{◌≡◌, ℕ, ◌+◌, max, List, [], ◌∷◌, ◌++◌, map, take, Bool, true, false, cond, refl, ap, sym, ◌∙◌, subst, arith, inl, inr, add-zero, append-nil, append_assoc}
use Rattle.std.specs.Prelude.{Option, Some, None, ◌==◌, ◌&&◌, fold, slice_get, if◌then◌else◌}
use Rattle.std.specs.List.{cons_option, take-map}
use Rattle.std.proofs.lemmas.Bool.{and_parts, cases_Bool, eqb-true}
use Rattle.std.proofs.lemmas.List.Elements.{filter_map-append}
use Rattle.std.proofs.lemmas.Option.{same_Some}
use Rattle.jr_model.specs.declared.blocks.Piece.{Piece}
use Rattle.jr_model.specs.declared.events.Event.{Event}
use Rattle.jr_model.specs.declared.events.Event.TheVariants.{Issue, Probe, Skip, End, Verdict}
use Rattle.jr_model.specs.declared.events.IssueKind.{IssueKind}
use Rattle.jr_model.specs.declared.events.WriteId.{WriteId}
use Rattle.jr_model.specs.declared.workloads.Draw.{Draw}
use Rattle.jr_model.specs.Draws.{draws_of_job}
use Rattle.jr_model.specs.Legal.{is_legal, legal_after, may_happen}
use Rattle.jr_model.specs.Pieces.{piece_end}
use Rattle.jr_model.specs.Plan.{Plan, SubJob, clone_of}
use Rattle.jr_model.specs.Rounds.{pass_of, issues_of, issued_count}
use Rattle.jr_model.proofs.ListLemmas.{map_more}
use Rattle.jr_laws_steps.proofs.DrawnLaws.{issuable, issued_count-more}
use Rattle.jr_laws_steps.proofs.IssueLaws.{numbered_draws}
use Rattle.jr_laws_steps.proofs.StepLaws.{may_issue_of}
use Rattle.jr_rounds_rest.specs.Left.{further, is_in_order, reached}
use Rattle.jr_laws_rest.specs.Tried.{IsRow, row_end, tries, try_by}
use Rattle.jr_laws_rest.proofs.DrawnRows.{drawn_row, piece_of}
use Rattle.jr_laws_rest.proofs.Rows.{row_take}

module _ (plan : Plan) (job : SubJob) (there : clone_of plan job.clone ≡ Some job) where
  -- the draws of the first pass, as far as they were issued
  abbrev IsFront : List Event → Type 0
  IsFront history = tries history job.clone ≡ map piece_of (take (issued_count history (pass_of job 0)) (draws_of_job job 0))

  tries_more : (history : List Event) (e : Event) → tries (history ++ e ∷ []) job.clone ≡ tries history job.clone ++ cons_option (try_by job.clone e) []
  tries_more history e = filter_map-append (try_by job.clone) history (e ∷ [])

  -- an event that tries nothing
  front_stays : (history : List Event) (e : Event) → try_by job.clone e ≡ None → issues_of (pass_of job 0) e ≡ false → IsFront history → IsFront (history ++ e ∷ [])
  front_stays history e none other front =
      let count : issued_count (history ++ e ∷ []) (pass_of job 0) ≡ issued_count history (pass_of job 0) =
      issued_count-more history (pass_of job 0) e
      ∙ ap (λ (b : Bool). issued_count history (pass_of job 0) + cond b 1 0) other ∙ add-zero (issued_count history (pass_of job 0)) in
      tries_more history e
      ∙ ap (λ (o : Option Piece). tries history job.clone ++ cons_option o []) none
      ∙ append-nil (tries history job.clone)
      ∙ front
      ∙ ap (λ (k : ℕ). map piece_of (take k (draws_of_job job 0))) (sym count)

  -- the next draw
  front_grows : (history : List Event) (worker : ℕ) (kind : IssueKind) (write : WriteId) (piece : Piece) → may_happen plan history (Issue worker kind write piece) ≡ true
      → ((write.clone == job.clone) && (write.pass == 0)) ≡ true → IsFront history → IsFront (history ++ Issue worker kind write piece ∷ [])
  front_grows history worker kind write piece may mine front =
      let e = Issue worker kind write piece in
      let k = issued_count history (pass_of job 0) in
      let draws : List Draw = draws_of_job job 0 in
      let parts = and_parts (write.clone == job.clone) (write.pass == 0) mine in
      let clone : write.clone ≡ job.clone = eqb-true write.clone job.clone parts.0 in
      let pass : write.pass ≡ 0 = eqb-true write.pass 0 parts.1 in
      let step = may_issue_of plan history worker kind write piece may in
      let is : step.job ≡ job = same_Some step.job job (sym step.named.planned ∙ ap (clone_of plan) clone ∙ there) in
      let drawn : slice_get draws write.number ≡ Some step.draw =
      ap (λ (p : ℕ). slice_get (draws_of_job job p) write.number) (sym pass)
      ∙ ap (λ (j : SubJob). slice_get (draws_of_job j write.pass) write.number) (sym is) ∙ step.named.drawn in
      let counted : step.draw.number ≡ k =
      (issuable plan history (pass_of step.job write.pass) step.draw step.may).number
      ∙ ap (λ (j : SubJob). issued_count history (pass_of j write.pass)) is
      ∙ ap (λ (p : ℕ). issued_count history (pass_of job p)) pass in
      let numbered = numbered_draws job 0 write.number step.draw drawn in
      let number : write.number ≡ k = omega (arith, counted, numbered) in
      let here : slice_get draws k ≡ Some step.draw = ap (λ (n : ℕ). slice_get draws n) (sym number) ∙ drawn in
      let count : issued_count (history ++ e ∷ []) (pass_of job 0) ≡ k + 1 =
      issued_count-more history (pass_of job 0) e ∙ ap (λ (b : Bool). k + cond b 1 0) mine in
      tries_more history e
      ∙ ap (λ (b : Bool). tries history job.clone ++ cons_option (if b then Some piece else None) []) mine
      ∙ ap (λ (ps : List Piece). ps ++ piece ∷ []) front
      ∙ ap (λ (p : Piece). map piece_of (take k draws) ++ p ∷ []) (sym step.same_place)
      ∙ sym (map_more piece_of draws k step.draw here)
      ∙ ap (λ (n : ℕ). map piece_of (take n draws)) (sym count)

  front_step : (history : List Event) (e : Event) → may_happen plan history e ≡ true → IsFront history → IsFront (history ++ e ∷ [])
  front_step history (Issue worker kind write piece) may front =
      elim (cases_Bool ((write.clone == job.clone) && (write.pass == 0))) [
        | inl mine ↦ front_grows history worker kind write piece may mine front
        | inr other ↦ front_stays history (Issue worker kind write piece) (ap (λ (b : Bool). cond {A = Option Piece} b (Some piece) None) other) other front
      ]
  front_step history (Probe worker write piece) may front = front_stays history (Probe worker write piece) refl refl front
  front_step history (Skip worker write) may front = front_stays history (Skip worker write) refl refl front
  front_step history (End worker io outcome) may front = front_stays history (End worker io outcome) refl refl front
  front_step history (Verdict worker io verdict) may front = front_stays history (Verdict worker io verdict) refl refl front

  fronts : (before events : List Event) → legal_after plan before events ≡ true → IsFront before → IsFront (before ++ events)
  fronts before [] legal front = subst IsFront (sym (append-nil before)) front
  fronts before (e ∷ events) legal front =
      let parts = and_parts (may_happen plan before e) (legal_after plan (before ++ e ∷ []) events) legal in
      subst IsFront (append_assoc before (e ∷ []) events) (fronts (before ++ e ∷ []) events parts.1 (front_step before e parts.0 front))

  pub front_is : (history : List Event) → is_legal plan history ≡ true → tries history job.clone ≡ map piece_of (take (issued_count history (pass_of job 0)) (draws_of_job job 0))
  front_is history legal = fronts [] history legal refl

-- how far the tries of a row come
module _ (c file : ℕ) where
  -- one issue more at the front
  comes_by : (b : Bool) (piece : Piece) (history : List Event) → ((from : ℕ) → IsRow file from (tries history c) → row_end from (tries history c) ≡ fold (further c) from history)
      → (from : ℕ) → IsRow file from (cons_option (if b then Some piece else None) (tries history c))
      → row_end from (cons_option (if b then Some piece else None) (tries history c)) ≡ fold (further c) (if b then max from (piece_end piece) else from) history
  comes_by false piece history rest from row = rest from row
  comes_by true piece history rest from row =
      let end : piece_end piece ≡ max from (piece_end piece) = omega (arith, row.1) in
      rest (piece_end piece) row.2 ∙ ap (λ (n : ℕ). fold (further c) n history) end

  comes : (history : List Event) (from : ℕ) → IsRow file from (tries history c) → row_end from (tries history c) ≡ fold (further c) from history
  comes [] from row = refl
  comes (Issue worker kind write piece ∷ history) from row = comes_by ((write.clone == c) && (write.pass == 0)) piece history (comes history) from row
  comes (Probe worker write piece ∷ history) from row = comes history from row
  comes (Skip worker write ∷ history) from row = comes history from row
  comes (End worker io outcome ∷ history) from row = comes history from row
  comes (Verdict worker io verdict ∷ history) from row = comes history from row

pub tried_in_a_row-law : (plan : Plan) (history : List Event) (job : SubJob) → is_legal plan history ≡ true → clone_of plan job.clone ≡ Some job
    → is_in_order job.io_type ≡ true → IsRow job.file job.start (tries history job.clone) × (row_end job.start (tries history job.clone) ≡ reached history job)
tried_in_a_row-law plan history job legal there ordered =
    let k = issued_count history (pass_of job 0) in
    let draws : List Draw = draws_of_job job 0 in
    let front : tries history job.clone ≡ take k (map piece_of draws) = front_is plan job there history legal ∙ sym (take-map piece_of k draws) in
    let row : IsRow job.file job.start (tries history job.clone) =
    subst (λ (ps : List Piece). IsRow job.file job.start ps) (sym front) (row_take job.file job.start k (map piece_of draws) (drawn_row job 0 ordered)) in
    (row, comes job.clone job.file history job.start row)
