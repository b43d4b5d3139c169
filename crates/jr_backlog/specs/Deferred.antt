-- Believed: a round of which the write that was issued last, or the end of the pass, may still have to be put in.
use Rattle.std.specs.Prelude.{Bool, false, not, ◌&&◌, Option, Some, None, is_none, if◌then◌else◌}
use Rattle.jr_model.specs.declared.events.WriteId.{WriteId}
use Rattle.jr_backlog.specs.Rounds.{Round, with_written, with_exhausted}

-- a round, the write that is still to be put in, and whether all draws were issued since
pub record Deferred : Type 0 where
  pub round : Round
  pub waiting : Option WriteId
  pub ended : Bool

-- nothing is to be put in
abbrev pub is_committed : Deferred → Bool
is_committed d = is_none d.waiting && not d.ended

-- the round with the write that waits, if one does
abbrev pub with_waiting : Option WriteId → Round → Round
with_waiting None round = round
with_waiting (Some write) round = with_written round write

-- the round once all is put in
abbrev pub round_now : Deferred → Round
round_now d = if d.ended then with_exhausted (with_waiting d.waiting d.round) else with_waiting d.waiting d.round

-- all of this round is put in
abbrev pub committed_round : Round → Deferred
committed_round round = record { round = round; waiting = None; ended = false }

-- a draw was issued, which is a write or not, and the last one of its pass or not
abbrev pub with_draw : Deferred → Option WriteId → Bool → Deferred
with_draw d write ended = record d { waiting = write; ended = ended }
