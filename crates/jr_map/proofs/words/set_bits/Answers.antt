use Rattle.std.proofs.Common.{◌≡◌, ℕ, ◌+◌, ◌-◌, ◌*◌, min, get_or, set, bit_or, subst, arith}
use Rattle.jr_map.specs.Words.{is_set, Adds}
use Rattle.jr_map.proofs.MarkFacts.{Adds-none, Adds-join, Adds-word}
use Rattle.jr_map.proofs.words.set_bits.Goals as goal

pub loop-i-init : goal.loop-i-init
loop-i-init c = Adds-none is_set c.args.words.now c.args.start _ (omega arith)

pub loop-i-preserved : goal.loop-i-preserved
loop-i-preserved c =
    let here : 64 * c.loop-i.i + c.min-high.result ≡ min c.args.end (64 * (c.loop-i.i + 1)) = omega arith in
    let word = Adds-word c.loop-i.words c.loop-i.i c.mask.result (c.max.result - 64 * c.loop-i.i) c.min-high.result (omega arith) (omega arith) (omega arith) c.mask.ensures.inside c.mask.ensures.below c.mask.ensures.above in
    subst (λ (e : ℕ). Adds is_set c.args.words.now (set c.loop-i.words c.loop-i.i (bit_or (get_or c.loop-i.words c.loop-i.i 0) c.mask.result)) c.args.start e) here
    (Adds-join is_set c.args.words.now c.loop-i.words (set c.loop-i.words c.loop-i.i (bit_or (get_or c.loop-i.words c.loop-i.i 0) c.mask.result)) c.args.start (min c.args.end (64 * c.loop-i.i)) (64 * c.loop-i.i + (c.max.result - 64 * c.loop-i.i)) (64 * c.loop-i.i + c.min-high.result) c.loop-i.invariant word (omega arith) (omega arith) (omega arith))

pub returns : goal.returns
returns c =
    let whole : min c.args.end (64 * c.loop-i.i) ≡ c.args.end = omega arith in
    subst (λ (e : ℕ). Adds is_set c.args.words.now c.loop-i.words c.args.start e) whole c.loop-i.invariant
