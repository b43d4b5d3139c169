-- What is moved by the first events of a history, and its bytes.
use Rattle.std.proofs.Common.{◌≡◌, ℕ, ◌+◌, ◌*◌, ◌^◌, ◌<◌, ◌≤◌, List, [], ◌∷◌, ◌++◌, length, take, drop, get_or, ap, sym, ◌∙◌, arith, append-nil, length-append}
use Rattle.std.specs.Prelude.{Option, Some, None, filter_map}
use Rattle.std.specs.List.{cons_option}
use Rattle.std.proofs.lemmas.List.{take_more, take-append-drop}
use Rattle.std.proofs.lemmas.List.Elements.{filter_map-append}
use Rattle.std.proofs.lemmas.List.Sums.{sum-map, sum_by-append}
use Rattle.jr_model.specs.declared.events.Started.{Started}
use Rattle.jr_model.specs.Totals.{bytes_of}

-- the next item's is put behind what the first items give
given_next : {X Y : Type 0} (f : X → Option Y) (xs : List X) (i : ℕ) (x : X) → i < length xs → filter_map f (take (i + 1) xs) ≡ filter_map f (take i xs) ++ cons_option (f (get_or xs i x)) []
given_next f xs i x within =
    ap (filter_map f) (take_more xs i x within) ∙ filter_map-append f (take i xs) (get_or xs i x ∷ [])

pub given_more : {X Y : Type 0} (f : X → Option Y) (xs : List X) (i : ℕ) (x : X) (y : Y) → i < length xs → f (get_or xs i x) ≡ Some y → filter_map f (take (i + 1) xs) ≡ filter_map f (take i xs) ++ y ∷ []
given_more f xs i x y within gives =
    given_next f xs i x within ∙ ap (λ o. filter_map f (take i xs) ++ cons_option o []) gives

pub given_same : {X Y : Type 0} (f : X → Option Y) (xs : List X) (i : ℕ) (x : X) → i < length xs → f (get_or xs i x) ≡ None → filter_map f (take (i + 1) xs) ≡ filter_map f (take i xs)
given_same f xs i x within gives =
    given_next f xs i x within
    ∙ ap (λ o. filter_map f (take i xs) ++ cons_option o []) gives
    ∙ append-nil (filter_map f (take i xs))

-- the first items give no more than all
pub given_at_most : {X Y : Type 0} (f : X → Option Y) (xs : List X) (i : ℕ) → length (filter_map f (take i xs)) ≤ length (filter_map f xs)
given_at_most f xs i =
    let parts : filter_map f xs ≡ filter_map f (take i xs) ++ filter_map f (drop i xs) =
    ap (filter_map f) (sym (take-append-drop i xs)) ∙ filter_map-append f (take i xs) (drop i xs) in
    omega (arith, ap length parts, length-append (filter_map f (take i xs)) (filter_map f (drop i xs)))

-- one more I/O
pub bytes_more : (ios : List Started) (io : Started) → bytes_of (ios ++ io ∷ []) ≡ bytes_of ios + io.piece.len
bytes_more ios io =
    let len : Started → ℕ = λ (s : Started). s.piece.len in
    omega (arith, sum-map len (ios ++ io ∷ []), sum_by-append len ios (io ∷ []), sum-map len ios)

-- one more is given, and its bytes fit
pub bytes_fit : {X : Type 0} (f : X → Option Started) (xs : List X) (i : ℕ) (x : X) (io : Started) (total : ℕ) → i < length xs → f (get_or xs i x) ≡ Some io → io.piece.len < 2 ^ 32 → length (filter_map f xs) ≤ 2 ^ 32 → total ≤ 4294967295 * length (filter_map f (take i xs)) → total + io.piece.len < 2 ^ 64
bytes_fit f xs i x io total within gives small few so_far =
    let more : length (filter_map f (take (i + 1) xs)) ≡ length (filter_map f (take i xs)) + 1 =
    ap length (given_more f xs i x io within gives) ∙ length-append (filter_map f (take i xs)) (io ∷ []) in
    omega (arith, more, given_at_most f xs (i + 1))

-- the bytes so far, and one more
pub total_more : {X : Type 0} (f : X → Option Started) (xs : List X) (i : ℕ) (x : X) (io : Started) (total more : ℕ) → i < length xs → f (get_or xs i x) ≡ Some io → io.piece.len < 2 ^ 32 → total ≡ bytes_of (filter_map f (take i xs)) → total ≤ 4294967295 * length (filter_map f (take i xs)) → more ≡ total + io.piece.len → (more ≡ bytes_of (filter_map f (take (i + 1) xs))) × (more ≤ 4294967295 * length (filter_map f (take (i + 1) xs)))
total_more f xs i x io total more within gives small is most next =
    let given : filter_map f (take (i + 1) xs) ≡ filter_map f (take i xs) ++ io ∷ [] = given_more f xs i x io within gives in
    let many : length (filter_map f (take (i + 1) xs)) ≡ length (filter_map f (take i xs)) + 1 =
    ap length given ∙ length-append (filter_map f (take i xs)) (io ∷ []) in (
      next ∙ ap (λ (n : ℕ). n + io.piece.len) is ∙ sym (bytes_more (filter_map f (take i xs)) io) ∙ ap bytes_of (sym given),
      omega (arith, many),
    )

-- the bytes so far, and no more
pub total_same : {X : Type 0} (f : X → Option Started) (xs : List X) (i : ℕ) (x : X) (total more : ℕ) → i < length xs → f (get_or xs i x) ≡ None → total ≡ bytes_of (filter_map f (take i xs)) → total ≤ 4294967295 * length (filter_map f (take i xs)) → more ≡ total → (more ≡ bytes_of (filter_map f (take (i + 1) xs))) × (more ≤ 4294967295 * length (filter_map f (take (i + 1) xs)))
total_same f xs i x total more within gives is most next =
    let given : filter_map f (take (i + 1) xs) ≡ filter_map f (take i xs) = given_same f xs i x within gives in
    let many : length (filter_map f (take (i + 1) xs)) ≡ length (filter_map f (take i xs)) = ap length given in (
      next ∙ is ∙ ap bytes_of (sym given),
      omega (arith, many),
    )
