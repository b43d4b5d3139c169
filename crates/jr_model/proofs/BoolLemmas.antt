-- Tests: what the kit's lemmas of `Bool` don't have.
use Rattle.std.proofs.Common.{◌≡◌, Bool, true, false, ◌&&◌, refl, sym}
use Rattle.std.proofs.lemmas.Bool.{and_parts}

-- a test isn't both
pub never_both : (b : Bool) → b ≡ true → b ≡ false → ⊥
never_both b is isn = cc

-- two tests that imply each other say the same
pub same_truth : (a b : Bool) → (a ≡ true → b ≡ true) → (b ≡ true → a ≡ true) → a ≡ b
same_truth true b there back = sym (there refl)
same_truth false true there back = back refl
same_truth false false there back = refl

-- grouped to the left
pub and_group : (a b c : Bool) → (a && (b && c)) ≡ ((a && b) && c)
and_group true b c = refl
and_group false b c = refl

-- seven tests that all pass
pub seven_parts : (a b c d e f g : Bool) → (a && b && c && d && e && f && g) ≡ true
    → (a ≡ true) × (b ≡ true) × (c ≡ true) × (d ≡ true) × (e ≡ true) × (f ≡ true) × (g ≡ true)
seven_parts a b c d e f g h =
    let last = and_parts (a && b && c && d && e && f) g h in
    let sixth = and_parts (a && b && c && d && e) f last.0 in
    let fifth = and_parts (a && b && c && d) e sixth.0 in
    let fourth = and_parts (a && b && c) d fifth.0 in
    let third = and_parts (a && b) c fourth.0 in
    let second = and_parts a b third.0 in
    (second.0, second.1, third.1, fourth.1, fifth.1, sixth.1, last.1)
