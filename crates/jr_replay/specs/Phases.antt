-- Internal: what is asked of a draw, but for its phase.
use Rattle.std.specs.Prelude.{◌==◌, Bool, not, ◌&&◌, List}
use Rattle.jr_model.specs.declared.events.Event.{Event}
use Rattle.jr_model.specs.declared.workloads.Draw.{Draw}
use Rattle.jr_model.specs.Legal.{has_room, is_clear, is_halted}
use Rattle.jr_model.specs.Plan.{Plan}
use Rattle.jr_model.specs.Rounds.{Pass, is_current, is_write_draw, issued_count, waits_for_round}

-- the draw may be issued where its phase is open
abbrev pub is_its_turn : Plan → List Event → Pass → Draw → Bool
is_its_turn plan history pass draw =
    (draw.number == issued_count history pass)
    && not (is_halted history pass.job)
    && has_room history pass.job
    && is_clear plan history pass.job (is_write_draw draw) draw.piece
    && is_current history pass
    && not (waits_for_round history pass)
