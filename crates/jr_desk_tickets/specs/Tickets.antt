-- Believed: the tickets that a desk hands out (of this project).
use Rattle.std.specs.Prelude.{◌≡◌, ◌<◌, ℕ, true, slice_get, Option, Some, None}
use Rattle.jr_model.specs.declared.contents.Method.{Method}
use Rattle.jr_model.specs.declared.contents.VerifyKind.TheVariants as verify
use Rattle.jr_model.specs.declared.events.Started.{Started}
use Rattle.jr_model.specs.declared.tickets.Ticket.{Ticket}
use Rattle.jr_model.specs.Draws.{draws_of}
use Rattle.jr_model.specs.Machine.{seed_of_draw}
pub use Rattle.jr_model.specs.Machine.{expected_by}
use Rattle.jr_model.specs.Plan.{Plan, SubJob, clone_of}
use Rattle.jr_model.specs.Tickets.{piece_fits, has_pattern, interval_fits}

-- how the blocks of a clone are made and verified
abbrev pub method_of : Option SubJob → Method
method_of None = record { kind = verify.Plain; pattern = None; interval = 0 }
method_of (Some job) = job.method

-- the seed of the filler of an I/O's draw
abbrev pub seed_of : Plan → Started → ℕ
seed_of plan io = seed_of_draw (slice_get (draws_of plan io.write.clone io.write.pass) io.write.number)

-- the ticket of an I/O or check and its number: the worker, kind, draw and piece as it was started, and the seed, method and
-- expected bytes as the plan has them
abbrev pub ticket_of : Plan → ℕ × Started → Ticket
ticket_of plan numbered =
    let io = numbered.1 in
    let method = method_of (clone_of plan io.write.clone) in
    let seed = seed_of plan io in
    record {
      id = numbered.0;
      worker = io.worker;
      kind = io.kind;
      write = io.write;
      piece = io.piece;
      seed = seed;
      method = method;
      expected = expected_by io.kind method io seed;
    }

-- its piece, its pass and its clone's method are such that it can be carried out
pub record CanBeServed (plan : Plan) (io : Started) : Type 0 where
  pub piece : piece_fits io.piece ≡ true
  pub pass : io.write.pass < 1000
  pub pattern : has_pattern (method_of (clone_of plan io.write.clone)).kind (method_of (clone_of plan io.write.clone)).pattern ≡ true
  pub interval : interval_fits (method_of (clone_of plan io.write.clone)).kind (method_of (clone_of plan io.write.clone)).interval io.piece.len ≡ true
