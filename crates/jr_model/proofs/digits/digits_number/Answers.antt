use Rattle.std.proofs.Common.{◌≡◌, ◌+◌, sym, ap, ◌∙◌, lit≤, arith}
use Rattle.std.proofs.lemmas.List.{take_all}
use Rattle.std.specs.Str.Parse.{digits_value}
use Rattle.std.proofs.lemmas.Str.Parse.{digits_value-take-le}
use Rattle.jr_model.proofs.DigitLemmas.{digits_value_next}
use Rattle.jr_model.proofs.digits.digits_number.Goals as goal

pub returns-in_err-checked_mul : goal.returns-in_err-checked_mul
returns-in_err-checked_mul c =
    let ds = c.args.digits.now in
    let i = c.loop-digit.digit-index in
    let next = digits_value_next ds i (omega arith) (c.requires i 0 (omega arith)) in
    let whole = digits_value-take-le 10 ds (i + 1) (lit≤ tt) in
    rw c.from_residual.ensures (λ small. c.in_err-checked_mul.ensures (omega arith))

pub returns-in_err-number : goal.returns-in_err-number
returns-in_err-number c =
    let ds = c.args.digits.now in
    let i = c.loop-digit.digit-index in
    let next = digits_value_next ds i (omega arith) (c.requires i 0 (omega arith)) in
    let whole = digits_value-take-le 10 ds (i + 1) (lit≤ tt) in
    rw c.from_residual-in_err-number.ensures (λ small. c.in_err-number.ensures (omega arith))

pub loop-digit-preserved : goal.loop-digit-preserved
loop-digit-preserved c =
    let ds = c.args.digits.now in
    let i = c.loop-digit.digit-index in
    let next = digits_value_next ds i (omega arith) (c.requires i 0 (omega arith)) in
    (omega (arith, c.in_ok-checked_mul.ensures, c.in_ok-number.ensures), omega (arith, c.in_ok-number.ensures))

pub returns : goal.returns
returns c =
    let ds = c.args.digits.now in
    let all = ap (digits_value 10) (take_all c.loop-digit.digit-index ds (omega arith)) in
    let value : digits_value 10 ds ≡ c.loop-digit.number = sym (c.loop-digit.invariant.0 ∙ all) in
    (omega arith, sym value)
