use Rattle.std.proofs.Common.{◌≡◌, length, subst, arith}
use Rattle.jr_map.proofs.WordFacts.{clear_within}
use Rattle.jr_map.proofs.RunFacts.{ClearSoFar, run_wanted, run_stops, far_more, far_none, run_to_end}
use Rattle.jr_map.proofs.words.clear_run.Goals as goal

pub loop-i-init : goal.loop-i-init
loop-i-init c = far_none c.args.words.now c.args.from c.args.want

pub returns-then-set-ne0 : goal.returns-then-set-ne0
returns-then-set-ne0 c =
    rw c.min.ensures (run_stops c.args.words.now c.args.from c.args.want c.loop-i.i c.max-start.result c.max-start.ensures c.loop-i-test.true c.loop-i.auto.i c.loop-i.invariant (c.type_inv.words c.loop-i.i).fits c.if-set-ne0.true).run

pub returns-then-want-i : goal.returns-then-want-i
returns-then-want-i c =
    run_wanted c.args.words.now c.args.from c.args.want c.loop-i.i c.max-start.result c.max-start.ensures c.loop-i-test.true c.loop-i.auto.i c.loop-i.invariant c.if-set-ne0.false c.if-want-i.true

pub loop-i-preserved : goal.loop-i-preserved
loop-i-preserved c =
    far_more c.args.words.now c.args.from c.args.want c.loop-i.i c.max-start.result c.max-start.ensures c.loop-i-test.true c.loop-i.auto.i c.loop-i.invariant c.if-set-ne0.false c.if-want-i.false

pub overflow_sub-result : goal.overflow_sub-result
overflow_sub-result c = let within = clear_within c.args.words.now c.args.from c.requires.clear in omega (arith, within)

pub returns : goal.returns
returns c =
    let within = clear_within c.args.words.now c.args.from c.requires.clear in
    let end : c.loop-i.i ≡ length c.args.words.now = omega (arith, within) in
    run_to_end c.args.words.now c.args.from c.args.want c.requires.clear
    (subst (ClearSoFar c.args.words.now c.args.from c.args.want) end c.loop-i.invariant)
