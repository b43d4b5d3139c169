use Rattle.std.proofs.Common.{◌≡◌, ℕ, ◌+◌, ◌-◌, ◌/◌, ◌%◌, List, ◌++◌, length, take, drop, refl, sym, ap, ◌∙◌, arith, length-take, length-append, length-drop}
use Rattle.std.proofs.lemmas.List.{take_at}
use Rattle.jr_model.specs.Content.{generated_bytes}
use Rattle.jr_model.specs.Judgement.{same_bytes}
use Rattle.jr_model.specs.Words.{seeded, words_from, state_after, word_bytes}
use Rattle.std.proofs.lemmas.Slice.Eq.{bytes_eq-Decides}
use Rattle.jr_header.proofs.Generated.{generated-none, after-none, generated-more, after-more, take-more}
use Rattle.jr_header.proofs.parts.is_generated.Goals as goal

pub loop-done-init : goal.loop-done-init
loop-done-init c = record {
  room = refl;
  within = omega arith;
  whole = refl;
  words = c.new-words.ensures ∙ sym (after-none _);
  same = sym (generated-none c.args.seed);
}

pub loop-done-preserved : goal.loop-done-preserved
loop-done-preserved c =
    let a = c.loop-done.done in
    let n = c.min-next.result in
    let bytes = c.args.bytes.now in
    let room = c.loop-done.room in
    let seed = c.args.seed in
    let before : c.loop-done.words ≡ state_after (seeded seed) (a / 8) = c.loop-done.invariant.words in
    let more : n % 8 ≡ 0 = omega arith in
    let size : length (take n room) ≡ n = omega (arith, length-take n room, c.loop-done.invariant.room) in
    let made : c.fill.new.buffer ≡ word_bytes (words_from (state_after (seeded seed) (a / 8)) (n / 8)) =
    c.fill.ensures.bytes ∙ ap (λ (s : List ℕ). word_bytes (words_from s (length (take n room) / 8))) before
    ∙ ap (λ (k : ℕ). word_bytes (words_from (state_after (seeded seed) (a / 8)) (k / 8))) size in
    let left : length c.fill.new.buffer ≡ n = omega (arith, c.fill.auto.buffer, size) in
    let compared : c.same_bytes.result ≡ same_bytes (take (a + n - a) (drop a bytes)) (take n (c.fill.new.buffer ++ drop n room)) = c.same_bytes.ensures in
    let same : take (a + n - a) (drop a bytes) ≡ take n (c.fill.new.buffer ++ drop n room) =
    (bytes_eq-Decides (take (a + n - a) (drop a bytes)) (take n (c.fill.new.buffer ++ drop n room))).0 (sym compared ∙ c.if-not-same_bytes.false) in
    let step : a + n - a ≡ n = omega arith in
    record {
      room = omega (arith, length-append c.fill.new.buffer (drop n room), left, length-drop n room, c.loop-done.invariant.room);
      within = omega arith;
      whole = omega arith;
      words = c.fill.ensures.after ∙ ap (λ (s : List ℕ). state_after s (length (take n room) / 8)) before
          ∙ ap (λ (k : ℕ). state_after (state_after (seeded seed) (a / 8)) (k / 8)) size ∙ after-more seed a n c.loop-done.invariant.whole more;
      same = take-more a n bytes ∙ ap (λ (xs : List ℕ). xs ++ take n (drop a bytes)) c.loop-done.invariant.same
          ∙ ap (λ (xs : List ℕ). generated_bytes seed a ++ xs)
          (ap (λ (k : ℕ). take k (drop a bytes)) (sym step) ∙ same ∙ take_at c.fill.new.buffer (drop n room) n left ∙ made)
          ∙ generated-more seed a n c.loop-done.invariant.whole more;
    }
