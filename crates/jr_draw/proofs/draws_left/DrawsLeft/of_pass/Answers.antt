use Rattle.std.proofs.Common.{arith}
use Rattle.jr_model.specs.Draws.{draws_of_job}
use Rattle.jr_model.specs.Words.{words_from}
use Rattle.jr_draw.proofs.ComingFacts.{next_taken}
use Rattle.jr_draw.proofs.draws_left.DrawsLeft.of_pass.Goals as goal

pub invariant_of-result : goal.invariant_of-result
invariant_of-result c =
    (next_taken words_from c.in_ok-rest.rest c.next-next.new.self c.next-next.result (draws_of_job c.args.job.now c.args.pass)
    (λ n h. c.in_ok-rest.ensures.whole n (omega (arith, h, c.facts.ensures.cells_most)))
    c.next-next.ensures.draws c.next-next.ensures.end).0

pub returns : goal.returns
returns c =
    (next_taken words_from c.in_ok-rest.rest c.next-next.new.self c.next-next.result (draws_of_job c.args.job.now c.args.pass)
    (λ n h. c.in_ok-rest.ensures.whole n (omega (arith, h, c.facts.ensures.cells_most)))
    c.next-next.ensures.draws c.next-next.ensures.end).1
