-- Claimed: what it is to be in flight beside a write over the same bytes (of this project).
use Rattle.std.specs.Prelude.{◌≡◌, ℕ, true, List, ◌++◌, Some, slice_get}
use Rattle.jr_model.specs.declared.events.Event.{Event}
use Rattle.jr_model.specs.declared.events.Started.{Started}
use Rattle.jr_model.specs.History.{started, flies}
use Rattle.jr_model.specs.Legal.{is_legal}
use Rattle.jr_model.specs.Plan.{Plan}
use Rattle.jr_model.specs.Races.{has_raced, writes_over}

-- after some front of the history both I/Os were in flight
pub record WereBeside (history : List Event) (io other : ℕ) : Type 0 where
  pub front : List Event
  pub rest : List Event
  pub parts : history ≡ front ++ rest
  pub one : flies front io ≡ true
  pub both : flies front other ≡ true

-- another I/O was in flight beside it, a write where it lies
pub record WasWrittenOver (history : List Event) (io : ℕ) : Type 0 where
  pub other : ℕ
  pub apart : other ≡ io → ⊥
  pub own : Started
  pub write : Started
  pub at : slice_get (started history) io ≡ Some own
  pub there : slice_get (started history) other ≡ Some write
  pub over : writes_over own.piece write ≡ true
  pub beside : WereBeside history io other

-- what has raced in a legal history was written over while it flew
abbrev pub RacedIsWrittenOver : Type 0
RacedIsWrittenOver =
    (plan : Plan) (history : List Event) (io : ℕ)
    → is_legal plan history ≡ true
    → has_raced history io ≡ true
    → WasWrittenOver history io

-- and what was has raced
abbrev pub WrittenOverHasRaced : Type 0
WrittenOverHasRaced = (history : List Event) (io : ℕ) → WasWrittenOver history io → has_raced history io ≡ true
