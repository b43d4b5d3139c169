use Rattle.std.proofs.Common.{◌≡◌, arith, true, false, ap, sym, ◌∙◌, Err, Ok}
use Rattle.std.specs.Char.{is_ascii_digit}
use Rattle.jr_text.specs.Number.{digit_count, digits_in, is_hexadecimal, scaled, unit_in, unit_of}
use Rattle.std.proofs.lemmas.List.Folds.{length-prefix_len}
use Rattle.std.proofs.lemmas.Result.{err_from_is_err_and}
use Rattle.jr_text.proofs.NumberLemmas.{number_of-no_digits, number_of-hexadecimal, number_of-scaled, all_digits}
use Rattle.jr_text.proofs.numbers.number.Goals as goal

pub returns-then-count-eq0 : goal.returns-then-count-eq0
returns-then-count-eq0 c =
    let text = c.args.text.now in
    let count : digit_count text ≡ 0 = cc (length-prefix_len is_ascii_digit text) in
    sym (number_of-no_digits text count)

pub returns-then-is_hexadecimal : goal.returns-then-is_hexadecimal
returns-then-is_hexadecimal c =
    let text = c.args.text.now in
    let same : digit_count text ≡ c.digit_count-count.result = cc (length-prefix_len is_ascii_digit text) in
    let hexadecimal : is_hexadecimal text ≡ true = cc in
    sym (number_of-hexadecimal text (omega arith) hexadecimal)

pub returns-in_err-power : goal.returns-in_err-power
returns-in_err-power c =
    let text = c.args.text.now in
    let same : digit_count text ≡ c.digit_count-count.result = cc (length-prefix_len is_ascii_digit text) in
    let decimal : is_hexadecimal text ≡ false = cc in
    let fault = err_from_is_err_and c.from_residual.result c.from_residual.ensures.1 in
    let unit : unit_of (unit_in text) ≡ Err c.in_err-power.field-0.0 = cc (c.in_err-power.was) in
    rw (fault.1, fault.2) (sym (number_of-scaled text (omega arith) decimal ∙ ap (scaled (digits_in text)) unit))

pub scaled_number-requires-clause-digits : goal.scaled_number-requires-clause-digits
scaled_number-requires-clause-digits c =
    let text = c.args.text.now in
    let same : c.digit_count-count.result ≡ digit_count text = cc (length-prefix_len is_ascii_digit text) in
    let digits : c.split_at.result.0.now ≡ digits_in text = cc in
    rw digits (all_digits text)

pub returns : goal.returns
returns c =
    let text = c.args.text.now in
    let same : c.digit_count-count.result ≡ digit_count text = cc (length-prefix_len is_ascii_digit text) in
    let decimal : is_hexadecimal text ≡ false = cc in
    let unit : unit_of (unit_in text) ≡ Ok c.in_ok-power.power = cc (c.in_ok-power.was) in
    let whole = number_of-scaled text (omega arith) decimal ∙ ap (scaled (digits_in text)) unit in
    let digits : c.split_at.result.0.now ≡ digits_in text = cc in
    c.scaled_number.ensures ∙ rw digits (sym whole)
