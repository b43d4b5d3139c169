use Rattle.std.proofs.Common.{◌≡◌, ℕ, ◌+◌, ◌-◌, ◌%◌, List, ◌++◌, length, take, drop, refl, ap, subst, ◌∙◌, arith, length-take, length-append, length-drop}
use Rattle.std.proofs.Math.Nat.{zero-mod}
use Rattle.std.proofs.lemmas.List.{take_at}
use Rattle.jr_model.specs.Content.{pattern_bytes, header_back}
use Rattle.jr_header.specs.Hashers.{TookIn}
use Rattle.jr_header.proofs.Patterns.{append-pattern_bytes, mod_behind}
use Rattle.jr_header.proofs.Generated.{cut_whole}
use Rattle.jr_header.proofs.parts.pattern_back.Goals as goal

pub loop-done-init : goal.loop-done-init
loop-done-init c = record {
  room = refl;
  within = omega arith;
  some = (cut_whole 512 (length c.args.pattern.now) (omega arith) (omega arith)).0;
  most = omega arith;
  cut = (cut_whole 512 (length c.args.pattern.now) (omega arith) (omega arith)).1;
  whole = λ more. zero-mod (length c.args.pattern.now);
  took = c.new-hasher.ensures;
}

pub loop-done-preserved : goal.loop-done-preserved
loop-done-preserved c =
    let a = c.loop-done.done in
    let n = c.min-next.result in
    let p = c.args.pattern.now in
    let room = c.loop-done.room in
    let size : length (take n room) ≡ n = omega (arith, length-take n room, c.loop-done.invariant.room) in
    let made : c.repeat_pattern.new.buffer ≡ pattern_bytes p n = c.repeat_pattern.ensures ∙ ap (pattern_bytes p) size in
    let left : length c.repeat_pattern.new.buffer ≡ n = omega (arith, c.repeat_pattern.auto.buffer, size) in
    let whole : a % length p ≡ 0 = c.loop-done.invariant.whole c.loop-done-test.true in
    let all : pattern_bytes p a ++ take n (c.repeat_pattern.new.buffer ++ drop n room) ≡ pattern_bytes p (a + n) =
    ap (λ (xs : List ℕ). pattern_bytes p a ++ xs) (take_at c.repeat_pattern.new.buffer (drop n room) n left ∙ made) ∙ append-pattern_bytes p a n whole in
    record {
      room = omega (arith, length-append c.repeat_pattern.new.buffer (drop n room), left, length-drop n room, c.loop-done.invariant.room);
      within = omega arith;
      some = c.loop-done.invariant.some;
      most = c.loop-done.invariant.most;
      cut = c.loop-done.invariant.cut;
      whole = λ more.
          let full : n ≡ 512 - 512 % length p = omega (arith, more) in
          mod_behind a n (length p) whole ∙ ap (λ (k : ℕ). k % length p) full ∙ c.loop-done.invariant.cut;
      took = subst (λ (bytes : List ℕ). TookIn c.args.kind c.add.new.self bytes) all (c.add.ensures c.args.kind (pattern_bytes p a) c.loop-done.invariant.took);
    }

pub returns : goal.returns
returns c =
    let all : c.loop-done.done ≡ c.args.count = omega arith in
    c.back.ensures c.args.kind (pattern_bytes c.args.pattern.now c.loop-done.done) c.loop-done.invariant.took
    ∙ ap (λ (k : ℕ). header_back c.args.kind (pattern_bytes c.args.pattern.now k)) all
