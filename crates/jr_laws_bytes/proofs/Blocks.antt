-- Bytes in blocks of 512: parts of a list, and lists that agree block by block.
use Rattle.std.proofs.Common.{◌≡◌, ℕ, zero, suc, ◌+◌, ◌-◌, ◌*◌, ◌<◌, ◌≤◌, List, ◌++◌, length, take, drop, sym, ◌∙◌, ap, arith, append_assoc, length-append, length-take, length-drop}
use Rattle.std.proofs.lemmas.List.{take-take, take-append-le, take_all, drop_at, drop-append-le, drop-drop, drop-take, take-append-drop, length-take-le}
use Rattle.jr_model.specs.Replies.{placed}

-- a part of the first n is that part of all
pub part_of_take : {X : Type 0} (m k n : ℕ) (xs : List X) → k + m ≤ n → take m (drop k (take n xs)) ≡ take m (drop k xs)
part_of_take m k n xs fits =
    let sum : k + (n - k) ≡ n = omega arith in
    ap (λ (j : ℕ). take m (drop k (take j xs))) (sym sum)
    ∙ ap (take m) (drop-take k (n - k) xs)
    ∙ take-take m (n - k) (drop k xs) (omega arith)

-- two lists of n times b elements that agree in each part of b
pub same_by_parts : {X : Type 0} (b n : ℕ) (xs ys : List X) → length xs ≡ n * b → length ys ≡ n * b → ((k : ℕ) → k < n → take b (drop (k * b) xs) ≡ take b (drop (k * b) ys)) → xs ≡ ys
same_by_parts {X} b zero xs ys xs_len ys_len each =
    let xs_none : length xs ≤ 0 = omega (arith, xs_len) in
    let ys_none : length ys ≤ 0 = omega (arith, ys_len) in
    sym (take_all 0 xs xs_none) ∙ take_all 0 ys ys_none
same_by_parts {X} b (suc n) xs ys xs_len ys_len each =
    let more : suc n * b ≡ b + n * b = omega arith in
    let first : take b xs ≡ take b ys = simp (times_zero) at (each 0 (omega arith)) in
    let rest : drop b xs ≡ drop b ys =
    same_by_parts b n (drop b xs) (drop b ys)
    (omega (arith, length-drop b xs, xs_len, more)) (omega (arith, length-drop b ys, ys_len, more))
    (λ (k : ℕ) (below : k < n).
    let next : b + k * b ≡ suc k * b = omega arith in
    ap (take b) (drop-drop (k * b) b xs ∙ ap (λ (j : ℕ). drop j xs) next)
    ∙ each (suc k) (omega arith)
    ∙ sym (ap (take b) (drop-drop (k * b) b ys ∙ ap (λ (j : ℕ). drop j ys) next))) in
    sym (take-append-drop b xs) ∙ ap (λ (front : List X). front ++ drop b xs) first ∙ ap (λ (back : List X). take b ys ++ back) rest
    ∙ take-append-drop b ys
  where
    times_zero : 0 * b ≡ 0
    times_zero = omega arith

pub length-placed : (bytes new : List ℕ) (place : ℕ) → place + length new ≤ length bytes → length (placed bytes place new) ≡ length bytes
length-placed bytes new place fits =
    omega (arith, length-append (take place bytes ++ new) (drop (place + length new) bytes), length-append (take place bytes) new, length-take place bytes, length-drop (place + length new) bytes)

-- what lies before the new bytes is as it was
pub before-placed : (bytes new : List ℕ) (place m j : ℕ) → place + length new ≤ length bytes → j + m ≤ place → take m (drop j (placed bytes place new)) ≡ take m (drop j bytes)
before-placed bytes new place m j fits low =
    let front : List ℕ = take place bytes in
    let back : List ℕ = new ++ drop (place + length new) bytes in
    let size : length front ≡ place = length-take-le place bytes (omega arith) in
    ap (λ (xs : List ℕ). take m (drop j xs)) (append_assoc front new (drop (place + length new) bytes))
    ∙ ap (take m) (drop-append-le j front back (omega (arith, size)))
    ∙ take-append-le m (drop j front) back (omega (arith, size, length-drop j front))
    ∙ part_of_take m j place bytes low

-- what lies behind them too
pub behind-placed : (bytes new : List ℕ) (place m j : ℕ) → place + length new ≤ length bytes → place + length new ≤ j → take m (drop j (placed bytes place new)) ≡ take m (drop j bytes)
behind-placed bytes new place m j fits high =
    let reach : ℕ = place + length new in
    let front : List ℕ = take place bytes ++ new in
    let size : length front ≡ reach =
    omega (arith, length-append (take place bytes) new, length-take-le place bytes (omega arith)) in
    let sum : reach + (j - reach) ≡ j = omega arith in
    ap (take m)
    (ap (λ (k : ℕ). drop k (placed bytes place new)) (sym sum) ∙ sym (drop-drop (j - reach) reach (placed bytes place new))
    ∙ ap (drop (j - reach)) (drop_at front (drop reach bytes) reach size)
    ∙ drop-drop (j - reach) reach bytes ∙ ap (λ (k : ℕ). drop k bytes) sum)

-- and within them they stand
pub within-placed : (bytes new : List ℕ) (place m j : ℕ) → place + length new ≤ length bytes → place ≤ j → j + m ≤ place + length new → take m (drop j (placed bytes place new)) ≡ take m (drop (j - place) new)
within-placed bytes new place m j fits low high =
    let front : List ℕ = take place bytes in
    let back : List ℕ = drop (place + length new) bytes in
    let size : length front ≡ place = length-take-le place bytes (omega arith) in
    let sum : place + (j - place) ≡ j = omega arith in
    ap (λ (xs : List ℕ). take m (drop j xs)) (append_assoc front new back)
    ∙ ap (take m)
    (ap (λ (k : ℕ). drop k (front ++ (new ++ back))) (sym sum) ∙ sym (drop-drop (j - place) place (front ++ (new ++ back)))
    ∙ ap (drop (j - place)) (drop_at front (new ++ back) place size)
    ∙ drop-append-le (j - place) new back (omega arith))
    ∙ take-append-le m (drop (j - place) new) back (omega (arith, length-drop (j - place) new))
