use Rattle.std.proofs.Common.{arith}
use Rattle.jr_map.proofs.WordFacts.{none_in_word, none_past, least_in_word}
use Rattle.jr_map.proofs.words.next_in_word.Goals as goal

pub returns-then-from-words : goal.returns-then-from-words
returns-then-from-words c = none_past c.args.words.now c.args.from c.if-from-words.true

pub returns-then-clear-eq0 : goal.returns-then-clear-eq0
returns-then-clear-eq0 c =
    none_in_word c.args.words.now c.args.from c.if-from-words.false (c.type_inv.words _).fits c.if-clear-eq0.true

pub overflow_add-result : goal.overflow_add-result
overflow_add-result c =
    let found = least_in_word c.args.words.now c.args.from c.if-from-words.false (c.type_inv.words _).fits c.if-clear-eq0.false in
    omega (arith, found.within, c.ranges.from.fits)

pub returns : goal.returns
returns c =
    (least_in_word c.args.words.now c.args.from c.if-from-words.false (c.type_inv.words _).fits c.if-clear-eq0.false).least
