use Rattle.std.proofs.Common.{◌≡◌, ◌+◌, ◌-◌, ◌≤◌, ℕ, List, length, drop, take, subst, arith, length-drop}
use Rattle.std.proofs.lemmas.Bool.{false≢true}
use Rattle.std.proofs.lemmas.List.{take_rest}
use Rattle.jr_model.specs.Replies.{placed}
use Rattle.jr_io_blocks.proofs.MoveLemmas.{written_more}
use Rattle.jr_io_blocks.proofs.moving.write_whole.Goals.{in-Ok, in-Err}
use Rattle.jr_io_blocks.proofs.moving.write_whole.Goals as goal

-- what was handed to a call is all of the buffer that isn't written yet
of_the_rest : (now after : List ℕ) (offset d n : ℕ) (buffer : List ℕ) → (offset + length (take (length buffer - d) (drop d buffer)) ≤ length now → after ≡ placed now offset (take n (take (length buffer - d) (drop d buffer)))) → offset + length (drop d buffer) ≤ length now → after ≡ placed now offset (take n (drop d buffer))
of_the_rest now after offset d n buffer =
    subst (λ (z : List ℕ). (offset + length (take (length buffer - d) (drop d buffer)) ≤ length now → after ≡ placed now offset (take n (take (length buffer - d) (drop d buffer)))) → offset + length z ≤ length now → after ≡ placed now offset (take n z)) (take_rest buffer d) (λ h. h)

pub loop-preserved : goal.loop-preserved
loop-preserved g c =
    let most : c.loop.done ≤ length c.args.buf.now = c.loop.invariant.most in
    let rest = take_rest c.args.buf.now c.loop.done in
    let left = length-drop c.loop.done c.args.buf.now in
    elim c.match-write.branch [
      | in-Ok w ↦
          let taken : w.in-Ok.taken ≤ length (drop c.loop.done c.args.buf.now) =
          subst (λ (z : List ℕ). w.in-Ok.taken ≤ length z) rest w.in-Ok.ensures.most
          in
          written_more _ _ _ c.args.offset c.loop.counter c.loop.done w.in-Ok.taken c.match-write.done c.args.buf.now c.loop.invariant c.write.ensures.known c.write.ensures.stays c.write.ensures.named w.done-is
          (λ sound. omega (arith, w.in-Ok.taken-test.1))
          (omega (arith, taken, left, most))
          (λ known. of_the_rest _ _ (c.args.offset + c.loop.done) c.loop.done w.in-Ok.taken c.args.buf.now (w.in-Ok.ensures.part known))
      | in-Err w ↦
          written_more _ _ _ c.args.offset c.loop.counter c.loop.done 0 c.match-write.done c.args.buf.now c.loop.invariant c.write.ensures.known c.write.ensures.stays c.write.ensures.named (omega (arith, w.done-is))
          (λ sound. absurd (false≢true (w.in-Err.ensures.sound sound)))
          (omega (arith, most))
          (λ known. of_the_rest _ _ (c.args.offset + c.loop.done) c.loop.done 0 c.args.buf.now (w.in-Err.ensures.part known))
    ]

-- what stands there after an error is what was written before it
pub returns-in-Err-2-clause-bytes : goal.returns-in-Err-2-clause-bytes
returns-in-Err-2-clause-bytes g c = λ known inside.
    let most : c.loop.done ≤ length c.args.buf.now = c.loop.invariant.most in
    let so_far =
    written_more _ _ (g.F.Positioned.view c.write.new.file) c.args.offset c.loop.counter c.loop.done 0 c.loop.done c.args.buf.now c.loop.invariant c.write.ensures.known c.write.ensures.stays c.write.ensures.named (omega arith)
    (λ sound. absurd (false≢true (c.in-Err-2.ensures.sound sound)))
    (omega (arith, most))
    (λ told. of_the_rest _ _ (c.args.offset + c.loop.done) c.loop.done 0 c.args.buf.now (c.in-Err-2.ensures.part told)) in
    record { count = c.loop.done; most = most; answered = tt; stored = so_far.stored known inside }
