-- Internal: the ends of writes, and the last write of a block by them.
use Rattle.std.specs.Prelude.{ℕ, Bool, not, ◌&&◌, List, Option, Some, None, slice_get, if◌then◌else◌}
use Rattle.jr_model.specs.declared.events.Event.{Event}
use Rattle.jr_model.specs.declared.events.Event.TheVariants.{Issue, Probe, Skip, End, Verdict}
use Rattle.jr_model.specs.declared.events.Started.{Started}
use Rattle.jr_model.specs.declared.events.WriteId.{WriteId}
use Rattle.jr_model.specs.History.{is_write, ended_whole}
use Rattle.jr_model.specs.LastWrite.{covers_block}
use Rattle.jr_replay_history.specs.declared.marks.WriteEnd.{WriteEnd}

-- the end of I/O number io, where it is a write
abbrev pub if_write : ℕ → Option Started → Bool → Option WriteEnd
if_write io None whole = None
if_write io (Some started) whole =
    if is_write started.kind
    then Some (record { io = io; write = started.write; piece = started.piece; whole = whole })
    else None

-- the end of a write that an event is, where these I/Os are started
abbrev pub write_end : List Started → Event → Option WriteEnd
write_end ios (End worker io outcome) = if_write io (slice_get ios io) (ended_whole (Some outcome))
write_end ios (Issue worker kind write piece) = None
write_end ios (Probe worker write piece) = None
write_end ios (Skip worker write) = None
write_end ios (Verdict worker io verdict) = None

-- the end of a write over the block
abbrev pub is_over_block : ℕ → ℕ → WriteEnd → Bool
is_over_block file block end = covers_block end.piece file block

-- the write, where it ended whole and is none of those that raced
abbrev pub if_whole : (ℕ → Bool) → WriteEnd → Option WriteId
if_whole raced end = if end.whole && not (raced end.io) then Some end.write else None

-- what the end of a write makes of the block's last write
abbrev pub last_by : (ℕ → Bool) → ℕ → ℕ → Option WriteId → WriteEnd → Option WriteId
last_by raced file block last end = if is_over_block file block end then if_whole raced end else last
