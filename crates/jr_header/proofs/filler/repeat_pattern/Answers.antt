use Rattle.std.proofs.Common.{◌≡◌, ◌≤◌, ◌<◌, ◌%◌, ◌+◌, length, drop, ◌++◌, ℕ, arith, length-append, length-drop, ◌∙◌, ap}
use Rattle.std.proofs.Math.Nat.{mod_self}
use Rattle.std.proofs.lemmas.List.{take_at, length-take-le}
use Rattle.jr_header.proofs.Patterns.{take-pattern, begun_more, mod_behind}
use Rattle.jr_header.proofs.filler.repeat_pattern.Goals as goal

pub loop-done-init : goal.loop-done-init
loop-done-init c =
    let p = c.args.pattern.now in
    let buffer = c.args.buffer.now in
    let k = c.min-done.result in
    let copied = c.copy_from_slice.new.self in
    let fits : k ≤ length p = omega arith in
    let size : length copied ≡ k = ap length c.copy_from_slice.ensures.after ∙ length-take-le k p fits in
    let whole_size : length (copied ++ drop k buffer) ≡ length buffer =
    omega (arith, length-append copied (drop k buffer), length-drop k buffer) in
    record {
      within = omega arith;
      same_length = whole_size;
      started = λ some. omega arith;
      whole = λ less. let all : k ≡ length p = omega arith in ap (λ (n : ℕ). n % length p) all ∙ mod_self (length p);
      begun = take_at copied (drop k buffer) k size ∙ c.copy_from_slice.ensures.after ∙ take-pattern p k fits;
    }

pub loop-done-preserved : goal.loop-done-preserved
loop-done-preserved c =
    let p = c.args.pattern.now in
    let buffer = c.loop-done.buffer in
    let done = c.loop-done.done in
    let next = c.copy_behind-done.result in
    let whole : done % length p ≡ 0 = c.loop-done.invariant.whole c.loop-done-test.true in
    let same : length c.copy_behind-done.new.buffer ≡ length buffer = c.copy_behind-done.auto.buffer in
    record {
      within = omega arith;
      same_length = omega arith;
      started = λ some. let before : 0 < done = c.loop-done.invariant.started (omega arith) in omega arith;
      whole = λ less. let twice : next ≡ done + done = omega arith in
          ap (λ (n : ℕ). n % length p) twice ∙ mod_behind done done (length p) whole ∙ whole;
      begun = begun_more p buffer c.copy_behind-done.new.buffer done next whole (omega arith) (omega arith)
          c.loop-done.invariant.begun c.copy_behind-done.ensures.bytes;
    }
