-- One call of an engine with a known memory for a ticket is the call of its I/O.
use Rattle.std.proofs.Common.{◌≡◌, ℕ, suc, ◌+◌, List, replicate, Bool, true, false, cond, refl, sym, ◌∙◌, ap, subst, arith}
use Rattle.std.specs.Prelude.{Some}
use Rattle.std.proofs.lemmas.Bool.{eq-eqb}
use Rattle.jr_model.specs.declared.events.Started.{Started}
use Rattle.jr_model.specs.declared.replies.Reply.{Reply}
use Rattle.jr_model.specs.declared.tickets.TicketKind.{TicketKind}
use Rattle.jr_model.specs.declared.tickets.TicketKind.TheVariants as ticket
use Rattle.jr_model.specs.Machine.{content_of_io, bytes_read}
use Rattle.jr_model.specs.Plan.{Plan, SubJob, clone_of}
use Rattle.jr_model.specs.Replies.{EngineState, FileBytes, asked, memory_with, next_reply, reply_to_write}
use Rattle.jr_model.specs.Tied.{KnownEngine, called}
use Rattle.jr_engines.specs.Answers.{AnswerParts, Leaves}
use Rattle.jr_header.specs.Served.{asked_with, is_whole_check}
use Rattle.jr_desk_tickets.specs.Tickets.{ticket_of}
use Rattle.jr_desk_state.proofs.Serving.{content_is}
use Rattle.jr_crew.specs.Runs.{known_engine}

abbrev engine_of : List FileBytes → List (ℕ × Reply) → ℕ → List (ℕ × List ℕ) → KnownEngine
engine_of memory script calls kept = record { memory = memory; script = script; calls = calls; read_back = kept }

same_engine : (a b : List FileBytes) (s t : List (ℕ × Reply)) (m n : ℕ) (kept : List (ℕ × List ℕ)) → a ≡ b → s ≡ t → m ≡ n → engine_of a s m kept ≡ engine_of b t n kept
same_engine a b s t m n kept p q r =
    ap (λ (x : List FileBytes). engine_of x s m kept) p
    ∙ ap (λ (x : List (ℕ × Reply)). engine_of b x m kept) q
    ∙ ap (λ (x : ℕ). engine_of b t x kept) r

-- what an engine left is what the call of an I/O of this kind leaves, and its answer is that call's
pub record IsCall (plan : Plan) (engine next : EngineState) (kept : List (ℕ × List ℕ)) (id : ℕ) (io : Started) (kind : TicketKind) (answer : AnswerParts) : Type 0 where
  pub outcome : (called plan (known_engine engine kept) id kind io).outcome ≡ answer.outcome
  pub leaves : known_engine next (called plan (known_engine engine kept) id kind io).engine.read_back ≡ (called plan (known_engine engine kept) id kind io).engine
  pub bytes : is_whole_check kind answer.outcome ≡ true → bytes_read (called plan (known_engine engine kept) id kind io).engine.read_back id ≡ answer.bytes

-- what a call of this kind is asked with
abbrev pub data_for : Plan → ℕ → Started → TicketKind → List ℕ
data_for plan id io kind = asked_with kind (ticket_of plan (id, io)) (replicate io.piece.len 0)

pub is_call : (plan : Plan) (engine next : EngineState) (kept : List (ℕ × List ℕ)) (id : ℕ) (io : Started) (kind : TicketKind) (answer : AnswerParts) (job : SubJob) → clone_of plan io.write.clone ≡ Some job → Leaves (asked (next_reply engine) engine.memory kind io.piece (data_for plan id io kind)) answer next → next.script ≡ engine.script → next.calls ≡ engine.calls + 1 → IsCall plan engine next kept id io kind answer
is_call plan engine next kept id io ticket.Read answer job planned leaves script calls =
    let after = called plan (known_engine engine kept) id ticket.Read io in record {
      outcome = sym leaves.outcome;
      leaves = same_engine next.memory engine.memory next.script engine.script next.calls (suc engine.calls) after.engine.read_back
          leaves.memory script (omega (arith, calls));
      bytes = λ (h : false ≡ true). cc;
    }
is_call plan engine next kept id io ticket.Probe answer job planned leaves script calls =
    let after = called plan (known_engine engine kept) id ticket.Probe io in record {
      outcome = sym leaves.outcome;
      leaves = same_engine next.memory engine.memory next.script engine.script next.calls (suc engine.calls) after.engine.read_back
          leaves.memory script (omega (arith, calls));
      bytes = λ h.
          ap (λ (b : Bool). cond b (asked (next_reply engine) engine.memory ticket.Probe io.piece (replicate io.piece.len 0)).bytes (bytes_read kept id)) (eq-eqb id id refl)
          ∙ sym leaves.bytes;
    }
is_call plan engine next kept id io ticket.ReadCheck answer job planned leaves script calls =
    let after = called plan (known_engine engine kept) id ticket.ReadCheck io in record {
      outcome = sym leaves.outcome;
      leaves = same_engine next.memory engine.memory next.script engine.script next.calls (suc engine.calls) after.engine.read_back
          leaves.memory script (omega (arith, calls));
      bytes = λ h.
          ap (λ (b : Bool). cond b (asked (next_reply engine) engine.memory ticket.ReadCheck io.piece (replicate io.piece.len 0)).bytes (bytes_read kept id)) (eq-eqb id id refl)
          ∙ sym leaves.bytes;
    }
is_call plan engine next kept id io ticket.Write answer job planned leaves script calls =
    let after = called plan (known_engine engine kept) id ticket.Write io in
    let left : Leaves (asked (next_reply engine) engine.memory ticket.Write io.piece (content_of_io plan io)) answer next =
    subst (λ (bytes : List ℕ). Leaves (asked (next_reply engine) engine.memory ticket.Write io.piece bytes) answer next) (content_is plan id io job planned) leaves in record {
      outcome = sym left.outcome;
      leaves = same_engine next.memory (memory_with engine.memory io.piece.file io.piece.offset (reply_to_write (next_reply engine) (content_of_io plan io)).stored)
          next.script engine.script next.calls (suc engine.calls) after.engine.read_back left.memory script (omega (arith, calls));
      bytes = λ (h : false ≡ true). cc;
    }
