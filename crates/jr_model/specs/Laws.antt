-- Claimed: laws over the definitions alone: what holds of every plan, history and list of steps.
use Rattle.std.specs.Prelude.{◌≡◌, ◌≤◌, ℕ, true, List, [], ◌∷◌, ◌++◌, length, Option, Some}
use Rattle.jr_model.specs.declared.blocks.Piece.{Piece}
use Rattle.jr_model.specs.declared.contents.Method.{Method}
use Rattle.jr_model.specs.declared.contents.VerifyKind.{VerifyKind}
use Rattle.jr_model.specs.declared.events.Event.{Event}
use Rattle.jr_model.specs.declared.events.WriteId.{WriteId}
use Rattle.jr_model.specs.declared.steps.Step.{Step}
use Rattle.jr_model.specs.Choice.{choice}
use Rattle.jr_model.specs.Content.{expected_of}
use Rattle.jr_model.specs.Judgement.{verdict_of, own_verdict_of}
use Rattle.jr_model.specs.Legal.{is_legal, may_happen, kind_says, own_says}
use Rattle.jr_model.specs.Machine.{first_state, machine_run}
use Rattle.jr_model.specs.Plan.{Plan, IsNumbered}
use Rattle.jr_model.specs.Serial.{serial_history}

-- what is chosen to be started may happen
abbrev pub ChoiceMayHappen : Type 0
ChoiceMayHappen =
    (plan : Plan) (history : List Event) (worker : ℕ) (event : Event)
    → IsNumbered plan
    → choice plan history worker ≡ Some event
    → may_happen plan history event ≡ true

-- what a legal history began with is legal
abbrev pub FrontIsLegal : Type 0
FrontIsLegal = (plan : Plan) (front rest : List Event) → is_legal plan (front ++ rest) ≡ true → is_legal plan front ≡ true

-- an event that may happen makes a legal history a longer legal one
abbrev pub LegalGoesOn : Type 0
LegalGoesOn =
    (plan : Plan) (history : List Event) (event : Event)
    → is_legal plan history ≡ true
    → may_happen plan history event ≡ true
    → is_legal plan (history ++ event ∷ []) ≡ true

-- the verdict on a check's bytes, no more than its piece has, is one that its kind can find
abbrev pub VerdictIsOfItsKind : Type 0
VerdictIsOfItsKind =
    (method : Method) (write : WriteId) (piece : Piece) (seed : ℕ) (bytes : List ℕ)
    → length bytes ≤ piece.len
    → kind_says method.kind method.interval piece.len (verdict_of method write piece (expected_of method.kind method write piece seed) bytes) ≡ true

-- and so is the verdict on bytes by what they say of themselves
abbrev pub OwnVerdictIsOfItsKind : Type 0
OwnVerdictIsOfItsKind =
    (kind : VerifyKind) (pattern : Option (List ℕ)) (piece : Piece) (bytes : List ℕ)
    → length bytes ≤ piece.len
    → own_says kind piece.len (own_verdict_of kind pattern piece bytes) ≡ true

-- whatever steps are made, in any order and refused ones among them, the machine's history is legal
abbrev pub EveryRunIsLegal : Type 0
EveryRunIsLegal =
    (plan : Plan) (steps : List Step)
    → IsNumbered plan
    → is_legal plan (machine_run plan (first_state plan) steps).state.history ≡ true

-- what one worker does over a memory that keeps what is written is legal
abbrev pub SerialIsLegal : Type 0
SerialIsLegal = (plan : Plan) → IsNumbered plan → is_legal plan (serial_history plan) ≡ true
