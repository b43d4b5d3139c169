-- Believed: when a block can be filled, and a chunk of it be compared (of this project).
use Rattle.std.specs.Prelude.{◌≡◌, ◌≤◌, ◌<◌, ◌+◌, ◌*◌, ◌==◌, ℕ, Bool, not, true, false}
use Rattle.jr_model.specs.declared.blocks.Piece.{Piece}
use Rattle.jr_model.specs.declared.contents.VerifyKind.{VerifyKind}
use Rattle.jr_model.specs.declared.contents.VerifyKind.TheVariants as verify
use Rattle.jr_model.specs.declared.contents.Expected.TheVariants as expected
use Rattle.jr_model.specs.declared.tickets.Ticket.{Ticket}
use Rattle.jr_model.specs.declared.tickets.TicketKind.TheVariants as kind
use Rattle.jr_model.specs.Content.{chunk_at, chunk_seed, chunks_in}
use Rattle.jr_model.specs.Tickets.{ticket_fits}
use Rattle.jr_after.specs.declared.writes.Named.{Named}
use Rattle.jr_after.specs.declared.writes.PlannedWrite.{PlannedWrite}
use Rattle.jr_after.specs.Writes.{bytes_in}

-- the ticket of a write
abbrev pub ticket_of : PlannedWrite → Ticket
ticket_of planned = record {
  id = 0;
  worker = 0;
  kind = kind.Write;
  write = planned.write;
  piece = planned.piece;
  seed = planned.seed;
  method = planned.method;
  expected = expected.Nothing;
}

-- the write can be carried out, the chunk lies within its piece, and a room of so many bytes has its block
pub record CanHold (chunk : Piece) (room : ℕ) (named : Named) : Type 0 where
  pub fits : ticket_fits (ticket_of named.planned) ≡ true
  pub from : named.planned.piece.offset ≤ chunk.offset
  pub till : chunk.offset + chunk.len ≤ named.planned.piece.offset + named.planned.piece.len
  pub holds : named.planned.piece.len ≤ room

-- blocks of this kind are cut into chunks at this interval
abbrev pub is_cut : VerifyKind → ℕ → Bool
is_cut verify.Plain interval = false
is_cut verify.Pattern interval = false
is_cut verify.Md5 interval = not (interval == 0)
is_cut verify.Sha1 interval = not (interval == 0)
is_cut verify.Sha256 interval = not (interval == 0)

-- the part lies in chunk i of the write
pub record IsInChunk (planned : PlannedWrite) (part : Piece) (i : ℕ) : Type 0 where
  pub cut : is_cut planned.method.kind planned.method.interval ≡ true
  pub there : i < chunks_in planned.method.interval planned.piece
  pub from : planned.piece.offset + i * planned.method.interval ≤ part.offset
  pub till : part.offset + part.len ≤ planned.piece.offset + i * planned.method.interval + planned.method.interval

-- chunk i of the write as a write of its own
abbrev pub chunk_alone : PlannedWrite → ℕ → PlannedWrite
chunk_alone planned i = record {
  write = planned.write;
  piece = chunk_at planned.method.interval planned.piece i;
  seed = chunk_seed planned.seed i;
  method = planned.method;
}

-- another write, which can be carried out, that puts the same bytes into a part of it, and no more bytes than this one
pub record IsNarrowed (planned : PlannedWrite) (part : Piece) (narrow : PlannedWrite) : Type 0 where
  pub fits : ticket_fits (ticket_of narrow) ≡ true
  pub from : narrow.piece.offset ≤ part.offset
  pub till : part.offset + part.len ≤ narrow.piece.offset + narrow.piece.len
  pub fewer : narrow.piece.len ≤ planned.piece.len
  pub same : bytes_in narrow part ≡ bytes_in planned part
