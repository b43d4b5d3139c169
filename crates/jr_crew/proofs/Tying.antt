-- The calls of an engine go on being what a worker completed, as its history grows.
use Rattle.std.proofs.Common.{◌≡◌, ℕ, List, [], ◌∷◌, ◌++◌, Bool, true, false, subst}
use Rattle.std.specs.Prelude.{◌==◌, slice_get, Some}
use Rattle.std.specs.Bool.{MatchBool}
use Rattle.jr_model.specs.declared.events.Event.{Event}
use Rattle.jr_model.specs.declared.events.Event.TheVariants.{Issue, Probe, Skip, End, Verdict}
use Rattle.jr_model.specs.declared.events.Outcome.{Outcome}
use Rattle.jr_model.specs.declared.events.Started.{Started}
use Rattle.jr_model.specs.Plan.{Plan}
use Rattle.jr_model.specs.Tied.{KnownEngine, called, IsOnBytes, TiedAlong}
use Rattle.jr_model.proofs.MachineLaws.{got_front}
use Rattle.jr_crew.proofs.Chosen.{IsStep}

both : (b : Bool) (A B C D : Type 0) → (A → C) → (B → D) → MatchBool b A B → MatchBool b C D
both true A B C D f g m = f m
both false A B C D f g m = g m

-- the end of an I/O is the engine's next call
abbrev pub IsNextCall : Plan → List Started → KnownEngine → ℕ → Outcome → (KnownEngine → Type 0) → Type 0
IsNextCall plan ios before io outcome After =
    (s : Started) × (slice_get ios io ≡ Some s) × ((called plan before io s.kind s).outcome ≡ outcome) × After (called plan before io s.kind s).engine

-- more I/Os may be started
pub tied_more : (plan : Plan) (inline : Bool) (worker : ℕ) (ios more : List Started) (before : KnownEngine) (events : List Event) (after : KnownEngine) → TiedAlong plan inline worker ios before events after → TiedAlong plan inline worker (ios ++ more) before events after
tied_more plan inline worker ios more before [] after tied = tied
tied_more plan inline worker ios more before (End w io outcome ∷ events) after tied =
    both (w == worker)
    (IsNextCall plan ios before io outcome (λ (e : KnownEngine). TiedAlong plan inline worker ios e events after))
    (TiedAlong plan inline worker ios before events after)
    (IsNextCall plan (ios ++ more) before io outcome (λ (e : KnownEngine). TiedAlong plan inline worker (ios ++ more) e events after))
    (TiedAlong plan inline worker (ios ++ more) before events after)
    (λ call. (
      call.0,
      got_front ios more io call.0 call.1,
      call.2,
      tied_more plan inline worker ios more (called plan before io call.0.kind call.0).engine events after call.3,
    ))
    (λ rest. tied_more plan inline worker ios more before events after rest) tied
tied_more plan inline worker ios more before (Verdict w io verdict ∷ events) after tied = (
  both inline (IsOnBytes plan worker ios before io verdict) (Unit {0}) (IsOnBytes plan worker (ios ++ more) before io verdict) (Unit {0})
      (λ said. (said.0, got_front ios more io said.0 said.1, said.2))
      (λ u. u) tied.0,
  tied_more plan inline worker ios more before events after tied.1,
)
tied_more plan inline worker ios more before (Issue w dir write piece ∷ events) after tied = tied_more plan inline worker ios more before events after tied
tied_more plan inline worker ios more before (Probe w write piece ∷ events) after tied = tied_more plan inline worker ios more before events after tied
tied_more plan inline worker ios more before (Skip w write ∷ events) after tied = tied_more plan inline worker ios more before events after tied

-- the calls of further events follow
pub tied_on : (plan : Plan) (inline : Bool) (worker : ℕ) (ios : List Started) (before : KnownEngine) (xs : List Event) (middle : KnownEngine) (ys : List Event) (after : KnownEngine) → TiedAlong plan inline worker ios before xs middle → TiedAlong plan inline worker ios middle ys after → TiedAlong plan inline worker ios before (xs ++ ys) after
tied_on plan inline worker ios before [] middle ys after front back =
    subst (λ (e : KnownEngine). TiedAlong plan inline worker ios e ys after) front back
tied_on plan inline worker ios before (End w io outcome ∷ xs) middle ys after front back =
    both (w == worker)
    (IsNextCall plan ios before io outcome (λ (e : KnownEngine). TiedAlong plan inline worker ios e xs middle))
    (TiedAlong plan inline worker ios before xs middle)
    (IsNextCall plan ios before io outcome (λ (e : KnownEngine). TiedAlong plan inline worker ios e (xs ++ ys) after))
    (TiedAlong plan inline worker ios before (xs ++ ys) after)
    (λ call. (
      call.0,
      call.1,
      call.2,
      tied_on plan inline worker ios (called plan before io call.0.kind call.0).engine xs middle ys after call.3 back,
    ))
    (λ rest. tied_on plan inline worker ios before xs middle ys after rest back) front
tied_on plan inline worker ios before (Verdict w io verdict ∷ xs) middle ys after front back =
    (front.0, tied_on plan inline worker ios before xs middle ys after front.1 back)
tied_on plan inline worker ios before (Issue w dir write piece ∷ xs) middle ys after front back = tied_on plan inline worker ios before xs middle ys after front back
tied_on plan inline worker ios before (Probe w write piece ∷ xs) middle ys after front back = tied_on plan inline worker ios before xs middle ys after front back
tied_on plan inline worker ios before (Skip w write ∷ xs) middle ys after front back = tied_on plan inline worker ios before xs middle ys after front back

-- a step is no call
pub tied_step : (plan : Plan) (inline : Bool) (worker by : ℕ) (ios : List Started) (before : KnownEngine) (e : Event) (events : List Event) (after : KnownEngine) → IsStep by e → TiedAlong plan inline worker ios before events after → TiedAlong plan inline worker ios before (e ∷ events) after
tied_step plan inline worker by ios before (Issue w dir write piece) events after step tied = tied
tied_step plan inline worker by ios before (Probe w write piece) events after step tied = tied
tied_step plan inline worker by ios before (Skip w write) events after step tied = tied
tied_step plan inline worker by ios before (End w io outcome) events after step tied = absurd step
tied_step plan inline worker by ios before (Verdict w io verdict) events after step tied = absurd step
