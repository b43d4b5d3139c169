-- What a ticket is served with, and what is said of its bytes, are those of its I/O.
use Rattle.std.proofs.Common.{◌≡◌, ℕ, List, refl, sym, subst}
use Rattle.std.specs.Prelude.{Option, Some}
use Rattle.jr_model.specs.declared.events.Started.{Started}
use Rattle.jr_model.specs.Content.{content_of}
use Rattle.jr_model.specs.Judgement.{verdict_of}
use Rattle.jr_model.specs.Machine.{content_in_job, content_of_io, verdict_in_job, verdict_on}
use Rattle.jr_model.specs.Plan.{Plan, SubJob, clone_of}
use Rattle.jr_header.specs.Served.{ticket_content}
use Rattle.jr_desk_tickets.specs.Tickets.{method_of, seed_of, expected_by, ticket_of}

-- the bytes of a ticket's write are those of its I/O
pub content_is : (plan : Plan) (id : ℕ) (io : Started) (job : SubJob) → clone_of plan io.write.clone ≡ Some job → ticket_content (ticket_of plan (id, io)) ≡ content_of_io plan io
content_is plan id io job planned =
    let seed = seed_of plan io in
    let Same : Option SubJob → Type 0 = λ (o : Option SubJob). content_of (method_of o).kind (method_of o) io.write io.piece seed ≡ content_in_job o io.write io.piece seed in
    subst Same (sym planned) refl

-- and the verdict on the answer to an I/O is that on the bytes of the I/O
pub verdict_is : (plan : Plan) (io : Started) (job : SubJob) (bytes : List ℕ) → clone_of plan io.write.clone ≡ Some job → verdict_on plan io bytes ≡ verdict_of (method_of (clone_of plan io.write.clone)) io.write io.piece (expected_by io.kind (method_of (clone_of plan io.write.clone)) io (seed_of plan io)) bytes
verdict_is plan io job bytes planned =
    let seed = seed_of plan io in
    let Same : Option SubJob → Type 0 = λ (o : Option SubJob). verdict_in_job o io seed bytes ≡ verdict_of (method_of o) io.write io.piece (expected_by io.kind (method_of o) io seed) bytes in
    subst Same (sym planned) refl
