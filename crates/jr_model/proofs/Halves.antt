-- Two halves of 32 bytes, written one after the other over zeros.
use Rattle.std.proofs.Common.{◌≡◌, List, ℕ, ◌++◌, replicate, length, ap, ◌∙◌, refl}
use Rattle.std.proofs.lemmas.List.{take_at, drop_at, append-nil}
use borrow.Rule.Slice.PartMut.{put_mid}

pub over_halves : (x y front back : List ℕ) → x ≡ front → y ≡ back → length front ≡ 32 → length back ≡ 32
    → put_mid 32 32 (x ++ replicate 32 0) y ≡ front ++ back
over_halves x y front back first second front_len back_len =
    let len : length x ≡ 32 = ap length first ∙ front_len in
    rw (take_at x (replicate 32 0) 32 len, drop_at x (replicate 32 0) 32 len, append-nil y, first, second) refl
