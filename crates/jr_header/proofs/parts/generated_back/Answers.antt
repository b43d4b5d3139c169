use Rattle.std.proofs.Common.{◌≡◌, ℕ, ◌+◌, ◌/◌, ◌%◌, List, ◌++◌, length, take, drop, refl, sym, ap, subst, ◌∙◌, arith, length-take, length-append, length-drop}
use Rattle.std.proofs.lemmas.List.{take_at}
use Rattle.jr_model.specs.Content.{generated_bytes, header_back}
use Rattle.jr_model.specs.Words.{seeded, words_from, state_after, word_bytes}
use Rattle.jr_header.specs.Hashers.{TookIn}
use Rattle.jr_header.proofs.Generated.{generated-none, after-none, generated-more, after-more}
use Rattle.jr_header.proofs.parts.generated_back.Goals as goal

pub loop-done-init : goal.loop-done-init
loop-done-init c = record {
  room = refl;
  within = omega arith;
  whole = refl;
  words = c.new-words.ensures ∙ sym (after-none _);
  took = subst (λ (bytes : List ℕ). TookIn c.args.kind c.new-hasher.result bytes) (sym (generated-none c.args.seed)) c.new-hasher.ensures;
}

pub loop-done-preserved : goal.loop-done-preserved
loop-done-preserved c =
    let a = c.loop-done.done in
    let n = c.min-next.result in
    let room = c.loop-done.room in
    let seed = c.args.seed in
    let before : c.loop-done.words ≡ state_after (seeded seed) (a / 8) = c.loop-done.invariant.words in
    let more : n % 8 ≡ 0 = omega arith in
    let size : length (take n room) ≡ n = omega (arith, length-take n room, c.loop-done.invariant.room) in
    let made : c.fill.new.buffer ≡ word_bytes (words_from (state_after (seeded seed) (a / 8)) (n / 8)) =
    c.fill.ensures.bytes ∙ ap (λ (s : List ℕ). word_bytes (words_from s (length (take n room) / 8))) before
    ∙ ap (λ (k : ℕ). word_bytes (words_from (state_after (seeded seed) (a / 8)) (k / 8))) size in
    let left : length c.fill.new.buffer ≡ n = omega (arith, c.fill.auto.buffer, size) in
    let added : take n (c.fill.new.buffer ++ drop n room) ≡ word_bytes (words_from (state_after (seeded seed) (a / 8)) (n / 8)) =
    take_at c.fill.new.buffer (drop n room) n left ∙ made in
    let all : generated_bytes seed a ++ take n (c.fill.new.buffer ++ drop n room) ≡ generated_bytes seed (a + n) =
    ap (λ (xs : List ℕ). generated_bytes seed a ++ xs) added ∙ generated-more seed a n c.loop-done.invariant.whole more in
    record {
      room = omega (arith, length-append c.fill.new.buffer (drop n room), left, length-drop n room, c.loop-done.invariant.room);
      within = omega arith;
      whole = omega arith;
      words = c.fill.ensures.after ∙ ap (λ (s : List ℕ). state_after s (length (take n room) / 8)) before
          ∙ ap (λ (k : ℕ). state_after (state_after (seeded seed) (a / 8)) (k / 8)) size ∙ after-more seed a n c.loop-done.invariant.whole more;
      took = subst (λ (bytes : List ℕ). TookIn c.args.kind c.add.new.self bytes) all (c.add.ensures c.args.kind (generated_bytes seed a) c.loop-done.invariant.took);
    }

pub returns : goal.returns
returns c =
    let all : c.loop-done.done ≡ c.args.count = omega arith in
    c.back.ensures c.args.kind (generated_bytes c.args.seed c.loop-done.done) c.loop-done.invariant.took
    ∙ ap (λ (k : ℕ). header_back c.args.kind (generated_bytes c.args.seed k)) all
