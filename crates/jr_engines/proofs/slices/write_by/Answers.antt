use Rattle.std.proofs.Common.{◌≡◌, ◌+◌, ◌-◌, ◌<◌, ◌≤◌, ℕ, List, ◌++◌, length, get_or, take, drop, bit_xor, slice_set, sym, ◌∙◌, ap, arith, length-append}
use Rattle.std.proofs.lemmas.List.{get_or_append_left, get_or-append_right, length-set, length-take-le, set-append_left, set-append_right}
use Rattle.jr_model.specs.declared.replies.Reply.{Reply}
use Rattle.jr_model.specs.Replies.{flipped, placed, reply_to_write}
use Rattle.jr_engines.proofs.slices.write_by.Goals as goal

-- a byte that is inverted where bytes were placed is one that was inverted before
flipped-placed : (all bytes : List ℕ) (start place : ℕ) → start + length bytes ≤ length all → place < length bytes
    → flipped (placed all start bytes) (start + place) ≡ placed all start (flipped bytes place)
flipped-placed all bytes start place within there =
    let front : List ℕ = take start all in
    let rest : List ℕ = drop (start + length bytes) all in
    let new : ℕ = bit_xor (get_or bytes place 0) 255 in
    let long : length front ≡ start = length-take-le start all (omega arith) in
    let whole : length (front ++ bytes) ≡ start + length bytes = omega (arith, length-append front bytes, long) in
    let below : start + place < length (front ++ bytes) = omega arith in
    let at : start + place - start ≡ place = omega arith in
    let was : get_or ((front ++ bytes) ++ rest) (start + place) 0 ≡ get_or bytes place 0 =
    get_or_append_left (front ++ bytes) rest 0 (start + place) below
    ∙ get_or-append_right front bytes start (start + place) 0 long (omega arith)
    ∙ ap (λ (i : ℕ). get_or bytes i 0) at in
    let put : slice_set ((front ++ bytes) ++ rest) (start + place) new ≡ (front ++ slice_set bytes place new) ++ rest =
    set-append_left (front ++ bytes) rest (start + place) new below
    ∙ ap (λ (xs : List ℕ). xs ++ rest)
    (set-append_right front bytes start (start + place) new long (omega arith) ∙ ap (λ (i : ℕ). front ++ slice_set bytes i new) at) in
    ap (λ (byte : ℕ). slice_set ((front ++ bytes) ++ rest) (start + place) (bit_xor byte 255)) was
    ∙ put
    ∙ ap (λ (n : ℕ). (front ++ slice_set bytes place new) ++ drop (start + n) all) (sym (length-set bytes place new))

pub returns-then-place-bytes-clause-bytes : goal.returns-then-place-bytes-clause-bytes
returns-then-place-bytes-clause-bytes c =
    let all = c.args.all.now in
    let start = c.args.start in
    let bytes = c.args.bytes.now in
    let place = c.in-Flip.place in
    c.flip.ensures
    ∙ ap (λ (xs : List ℕ). flipped xs (start + place)) c.copy_at-in-Flip.ensures
    ∙ flipped-placed all bytes start place c.requires c.if-place-bytes.true
    ∙ ap (λ (reply : Reply). placed all start (reply_to_write reply bytes).stored) (sym c.in-Flip.is)
