use Rattle.std.proofs.Common.{◌≡◌, ◌*◌, ◌≤◌, arith}
use Rattle.jr_system.proofs.ExtentLemmas.{own_most, percent_most, with_checks_most}
use Rattle.jr_system.proofs.extents.bytes_of.Goals as goal

-- what it reads and writes
own : (c : goal.After-from-4) → c.from.result * c.from-2.result * c.from-3.result ≤ 18014398509481984
own c =
    let visits : c.from.result * c.from-2.result ≡ c.args.clone.now.cells * c.args.clone.now.passes = cc in
    own_most (c.from.result * c.from-2.result) c.from-3.result (omega (arith, visits, c.requires)) (omega (arith, c.facts.ensures.cell_most))

pub overflow_mul-result : goal.overflow_mul-result
overflow_mul-result c =
    let most = percent_most (c.from.result * c.from-2.result * c.from-3.result) c.from-4.result (own c) (omega arith) in omega (arith, most)

pub overflow_add-result : goal.overflow_add-result
overflow_add-result c =
    let most = with_checks_most (c.from.result * c.from-2.result * c.from-3.result) c.from-4.result (own c) (omega arith) in omega (arith, most)

pub returns-clause-most : goal.returns-clause-most
returns-clause-most c =
    let most = with_checks_most (c.from.result * c.from-2.result * c.from-3.result) c.from-4.result (own c) (omega arith) in omega (arith, most)
