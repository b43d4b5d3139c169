use Rattle.std.proofs.Common.{rules, arith}
use Rattle.std.proofs.lemmas.Fmt.{parse-decimal}
use Rattle.jr_io_devices.proofs.numbers.small_number_in.Goals as goal

pub returns-in-Ok : goal.returns-in-Ok
returns-in-Ok c =
    λ n small is. let read = parse-decimal 32 n _ _ small (omega arith) is c.parse.ensures.value.0 in search rules

pub returns-in-Err : goal.returns-in-Err
returns-in-Err c =
    λ n small is. absurd (cc (parse-decimal 32 n _ _ small (omega arith) is c.parse.ensures.value.0))
