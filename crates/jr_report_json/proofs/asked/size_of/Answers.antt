use Rattle.std.proofs.Common.{arith}
use Rattle.std.proofs.lemmas.Nat.{mul-lt}
use Rattle.jr_report_json.proofs.asked.size_of.Goals as goal

pub overflow_mul-result : goal.overflow_mul-result
overflow_mul-result c =
    let below = mul-lt c.from.result c.from-2.result 4294967296 4294967296 (omega arith) (omega arith) in
    omega (arith, below)
