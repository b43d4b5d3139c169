use Rattle.std.proofs.Common.{ℕ, ◌-◌, ◌/◌, ◌<◌, Fits, w64, length, get_or, inl, inr, refl, arith, rules}
use Rattle.jr_map.proofs.MarkFacts.{Begins, full_read, not_full_read, full_words}
use Rattle.jr_map.proofs.words.mark.Goals as goal
use Rattle.jr_map.proofs.words.mark.Goals.{then-words-first, else-words-first}

pub returns-then-words-last-clause-full : goal.returns-then-words-last-clause-full
returns-then-words-last-clause-full c =
    let old_fits : (k : ℕ) → Fits w64 (get_or c.args.words.now k 0) = λ k. search rules in
    let first : c.args.start / 64 < length c.set_bits.new.words = omega arith in
    let last : (c.args.end - 1) / 64 < length c.set_bits.new.words = omega arith in
    let begins : Begins c.set_bits.new.words (c.args.start / 64) c.if-words-first.from =
    elim c.if-words-first.branch [
      | then-words-first w ↦ inl (full_read _ _ first w.if-words-first.true, w.from-is)
      | else-words-first w ↦ inr (not_full_read _ _ first w.if-words-first.false, w.from-is)
    ] in
    full_words c.args.words.now c.set_bits.new.words c.args.start c.args.end c.if-words-first.from _
    (λ k. (old_fits k).fits) (λ k. (c.type_inv.words k).fits) c.if-end-start.false c.set_bits.ensures begins
    (inl (full_read _ _ last c.if-words-last.true, refl))

pub returns-else-words-last-clause-full : goal.returns-else-words-last-clause-full
returns-else-words-last-clause-full c =
    let old_fits : (k : ℕ) → Fits w64 (get_or c.args.words.now k 0) = λ k. search rules in
    let first : c.args.start / 64 < length c.set_bits.new.words = omega arith in
    let last : (c.args.end - 1) / 64 < length c.set_bits.new.words = omega arith in
    let begins : Begins c.set_bits.new.words (c.args.start / 64) c.if-words-first.from =
    elim c.if-words-first.branch [
      | then-words-first w ↦ inl (full_read _ _ first w.if-words-first.true, w.from-is)
      | else-words-first w ↦ inr (not_full_read _ _ first w.if-words-first.false, w.from-is)
    ] in
    full_words c.args.words.now c.set_bits.new.words c.args.start c.args.end c.if-words-first.from _
    (λ k. (old_fits k).fits) (λ k. (c.type_inv.words k).fits) c.if-end-start.false c.set_bits.ensures begins
    (inr (not_full_read _ _ last c.if-words-last.false, refl))
