-- A take on its way: skips alone were appended so far, and the choice is the next thing to append.
use Rattle.std.proofs.Common.{◌≡◌, ℕ, List, [], ◌∷◌, ◌++◌, length, true, false, refl, sym, ◌∙◌, ap, subst, append-nil, inl, inr}
use Rattle.std.specs.Prelude.{Option, Some, None}
use Rattle.std.proofs.lemmas.List.Elements.{filter_map-append}
use Rattle.jr_model.specs.declared.blocks.Piece.{Piece}
use Rattle.jr_model.specs.declared.events.Event.{Event}
use Rattle.jr_model.specs.declared.events.Event.TheVariants.{Issue, Probe, Skip, End, Verdict}
use Rattle.jr_model.specs.declared.events.IssueKind.{IssueKind}
use Rattle.jr_model.specs.declared.events.Started.{Started}
use Rattle.jr_model.specs.declared.events.WriteId.{WriteId}
use Rattle.jr_model.specs.declared.tickets.Ticket.{Ticket}
use Rattle.jr_model.specs.Choice.{choice}
use Rattle.jr_model.specs.History.{started, started_by}
use Rattle.jr_model.specs.Legal.{may_happen}
use Rattle.jr_model.specs.Machine.{is_skip}
use Rattle.jr_model.specs.Plan.{Plan}
use Rattle.jr_model.specs.Rounds.{pass_of}
use Rattle.jr_model.proofs.LegalLaws.{choice_is_step, choice_may_happen, cases_step_of}
use Rattle.jr_model.specs.PlanFacts.{IsPlanned}
use Rattle.jr_model.proofs.PlanLemmas.{numbered_of}
use Rattle.jr_desk_tickets.specs.Tickets.{ticket_of}
use Rattle.jr_desk_state.specs.declared.board.Board.{Board}
use Rattle.jr_desk_state.specs.Boards.{IsBoard, IsReady}
use Rattle.jr_desk_state.specs.Takes.{IsChosen, ticket_for}
use Rattle.jr_desk_state.proofs.Leading.{LeadsTo, leads_on, chosen_none, chosen_last}

-- so far
pub record IsTaking (plan : Plan) (worker : ℕ) (before : List Event) (board : Board) : Type 0 where
  pub index : IsBoard plan board
  pub ready : IsReady plan board
  pub leads : LeadsTo plan worker before board.history.items
  pub nothing : started board.history.items ≡ started before

-- after a skip that was the choice
pub taking_on : (plan : Plan) (worker : ℕ) (before : List Event) (old new : Board) (write : WriteId) → IsTaking plan worker before old
    → choice plan old.history.items worker ≡ Some (Skip worker write)
    → IsBoard plan new → IsReady plan new → new.history.items ≡ old.history.items ++ Skip worker write ∷ []
    → IsTaking plan worker before new
taking_on plan worker before old new write taking chosen is ready history = record {
  index = is;
  ready = ready;
  leads =
      subst (λ (h : List Event). LeadsTo plan worker before h) (sym history)
      (leads_on plan worker before old.history.items (Skip worker write) taking.leads chosen refl);
  nothing =
      ap started history ∙ filter_map-append started_by old.history.items (Skip worker write ∷ [])
      ∙ append-nil (started old.history.items) ∙ taking.nothing;
}

-- the end of a take where there is no choice
pub taken_none : (plan : Plan) (worker : ℕ) (before : List Event) (board : Board) → IsTaking plan worker before board
    → choice plan board.history.items worker ≡ None
    → (io : Option Started) × IsChosen plan worker before board.history.items io × (None ≡ ticket_for plan (length (started before)) io)
taken_none plan worker before board taking none = (None, chosen_none plan worker before board.history.items taking.leads none, refl)

-- and where the choice starts something
pub taken_one : (plan : Plan) (worker : ℕ) (before : List Event) (old new : Board) (e : Event) (io : Started) (t : Ticket) → IsTaking plan worker before old
    → choice plan old.history.items worker ≡ Some e → is_skip e ≡ false → started_by e ≡ Some io
    → new.history.items ≡ old.history.items ++ e ∷ [] → t ≡ ticket_of plan (length (started old.history.items), io)
    → (got : Option Started) × IsChosen plan worker before new.history.items got × (Some t ≡ ticket_for plan (length (started before)) got)
taken_one plan worker before old new e io t taking chosen other starts history is = (
  Some io,
  subst (λ (h : List Event). IsChosen plan worker before h (Some io)) (sym history)
      (subst (λ (o : Option Started). IsChosen plan worker before (old.history.items ++ e ∷ []) o) starts
      (chosen_last plan worker before old.history.items e taking.leads chosen other)),
  ap Some is ∙ ap (λ (ios : List Started). Some (ticket_of plan (length ios, io))) taking.nothing,
)

-- the choice is a step of this worker
abbrev pub IsStepOf : ℕ → Event → Type 0
IsStepOf worker (Issue by dir write piece) = by ≡ worker
IsStepOf worker (Probe by write piece) = by ≡ worker
IsStepOf worker (Skip by write) = by ≡ worker
IsStepOf worker (End by io outcome) = ⊥
IsStepOf worker (Verdict by io verdict) = ⊥

pub chosen_step : (plan : Plan) (history : List Event) (worker : ℕ) (e : Event) → IsPlanned plan → choice plan history worker ≡ Some e → IsStepOf worker e
chosen_step plan history worker e planned chosen =
    let step = choice_is_step plan history worker e (numbered_of plan planned) chosen in
    elim (cases_step_of plan history worker (pass_of step.0 step.1) step.2 e step.3) [
      | inl probe ↦ subst (IsStepOf worker) (sym probe) refl
      | inr other ↦
          elim other [
            | inl skip ↦ subst (IsStepOf worker) (sym skip) refl
            | inr issue ↦ subst (IsStepOf worker) (sym issue) refl
          ]
    ]

pub chosen_may : (plan : Plan) (history : List Event) (worker : ℕ) (e : Event) → IsPlanned plan → choice plan history worker ≡ Some e → may_happen plan history e ≡ true
chosen_may plan history worker e planned chosen = choice_may_happen plan history worker e (numbered_of plan planned) chosen

-- the choice is made by this worker
pub chosen_skip : (plan : Plan) (history : List Event) (worker by : ℕ) (write : WriteId) → IsPlanned plan
    → choice plan history worker ≡ Some (Skip by write) → choice plan history worker ≡ Some (Skip worker write)
chosen_skip plan history worker by write planned chosen =
    chosen ∙ ap (λ (w : ℕ). Some (Skip w write)) (chosen_step plan history worker (Skip by write) planned chosen)

pub chosen_issue : (plan : Plan) (history : List Event) (worker by : ℕ) (dir : IssueKind) (write : WriteId) (piece : Piece) → IsPlanned plan
    → choice plan history worker ≡ Some (Issue by dir write piece) → choice plan history worker ≡ Some (Issue worker dir write piece)
chosen_issue plan history worker by dir write piece planned chosen =
    chosen ∙ ap (λ (w : ℕ). Some (Issue w dir write piece)) (chosen_step plan history worker (Issue by dir write piece) planned chosen)

pub chosen_probe : (plan : Plan) (history : List Event) (worker by : ℕ) (write : WriteId) (piece : Piece) → IsPlanned plan
    → choice plan history worker ≡ Some (Probe by write piece) → choice plan history worker ≡ Some (Probe worker write piece)
chosen_probe plan history worker by write piece planned chosen =
    chosen ∙ ap (λ (w : ℕ). Some (Probe w write piece)) (chosen_step plan history worker (Probe by write piece) planned chosen)
