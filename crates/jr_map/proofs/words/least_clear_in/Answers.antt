use Rattle.std.proofs.Common.{arith}
use Rattle.jr_map.proofs.WordFacts.{not_full_within, first_of_word}
use Rattle.jr_map.proofs.words.least_clear_in.Goals as goal

pub overflow_mul-result : goal.overflow_mul-result
overflow_mul-result c =
    let within = not_full_within c.args.words.now c.args.word c.requires.clear in
    omega (arith, within)

pub offset_bounds-words-word : goal.offset_bounds-words-word
offset_bounds-words-word c =
    let within = not_full_within c.args.words.now c.args.word c.requires.clear in
    omega (arith, within)

pub bounds-words-word : goal.bounds-words-word
bounds-words-word c = not_full_within c.args.words.now c.args.word c.requires.clear

pub overflow_add-result : goal.overflow_add-result
overflow_add-result c =
    let within = not_full_within c.args.words.now c.args.word c.requires.clear in
    let first = first_of_word c.args.words.now c.args.word c.requires.clear (c.type_inv.words _).fits in
    omega (arith, within, first.within, c.trailing_ones.ensures)

pub returns-clause-bit : goal.returns-clause-bit
returns-clause-bit c =
    rw c.trailing_ones.ensures (first_of_word c.args.words.now c.args.word c.requires.clear (c.type_inv.words _).fits).least

pub returns-clause-within : goal.returns-clause-within
returns-clause-within c =
    let first = first_of_word c.args.words.now c.args.word c.requires.clear (c.type_inv.words _).fits in
    omega (arith, first.within, c.trailing_ones.ensures)
