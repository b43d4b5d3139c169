use Rattle.std.proofs.Common.{refl, arith}
use Rattle.std.proofs.lemmas.Bool.{false≢true}
use Rattle.jr_io_blocks.proofs.MoveLemmas.{read_more}
use Rattle.jr_io_blocks.proofs.moving.read_whole.Goals.{in-Ok, in-Err}
use Rattle.jr_io_blocks.proofs.moving.read_whole.Goals as goal

pub loop-preserved : goal.loop-preserved
loop-preserved g c =
    elim c.match-read.branch [
      | in-Ok w ↦
          read_more _ _ _ c.args.offset c.loop.counter c.loop.done w.in-Ok.got c.match-read.done c.loop.buf c.read.new.buf _ c.loop.invariant c.read.ensures.known w.done-is
          (λ sound. omega (arith, w.in-Ok.got-test.1))
          (omega (arith, w.in-Ok.ensures.most, c.read.auto.buf))
          (λ known. (w.in-Ok.ensures.part known).within)
          (λ known. (w.in-Ok.ensures.part known).got)
      | in-Err w ↦
          read_more _ _ _ c.args.offset c.loop.counter c.loop.done 0 c.match-read.done c.loop.buf c.read.new.buf _ c.loop.invariant c.read.ensures.known (omega (arith, w.done-is))
          (λ sound. absurd (false≢true (w.in-Err.ensures.sound sound)))
          (omega arith)
          (λ known. omega arith)
          (λ known. refl)
    ]
