-- Lemmas on reads and writes that go on with parts.
use Rattle.std.proofs.Common.{◌≡◌, ℕ, ◌+◌, ◌-◌, ◌<◌, ◌≤◌, List, ◌++◌, length, take, drop, IsTrue, sym, subst, ap, ◌∙◌, arith, length-append, length-drop, append_assoc}
use Rattle.std.proofs.lemmas.List.{length-take-le, take-append-le, take_at, drop-drop}
use Rattle.std.proofs.Math.Seq.{take-add, take-append-add, drop-append-add}
use Rattle.jr_model.specs.Replies.{placed}
use Rattle.jr_io_blocks.specs.Parts.{FileView}

-- a read so far, after so many calls: the file is as it was, and so many bytes of it stand first in the buffer
pub record ReadSoFar (old now : FileView) (offset calls done : ℕ) (buffer : List ℕ) : Type 0 where
  pub same : now ≡ old
  pub goes_on : IsTrue old.is_sound → calls ≤ done
  pub most : done ≤ length buffer
  pub within : IsTrue old.is_known → done ≤ length (drop offset old.bytes)
  pub got : IsTrue old.is_known → take done buffer ≡ take done (drop offset old.bytes)

-- a write so far, after so many calls: so many bytes of the buffer stand in the file, and its others are as they were
pub record WrittenSoFar (old now : FileView) (offset calls done : ℕ) (buffer : List ℕ) : Type 0 where
  pub same : now.is_known ≡ old.is_known
  pub stays : now.is_sound ≡ old.is_sound
  pub named : now.name ≡ old.name
  pub goes_on : IsTrue old.is_sound → calls ≤ done
  pub most : done ≤ length buffer
  pub stored : IsTrue old.is_known → offset + length buffer ≤ length old.bytes → now.bytes ≡ placed old.bytes offset (take done buffer)

-- a part of what is there, behind the front that a buffer has, makes a longer front
front_more : (there buffer part rest : List ℕ) (d n : ℕ) → d ≤ length buffer → n ≤ length part → take d buffer ≡ take d there → take n part ≡ take n (drop d there) → take (d + n) (take d buffer ++ (part ++ rest)) ≡ take (d + n) there
front_more there buffer part rest d n has room front got =
    let long : length (take d buffer) ≡ d = length-take-le d buffer has in
    let cut : take (d + n) (take d buffer ++ (part ++ rest)) ≡ take d buffer ++ take n (part ++ rest) =
    subst (λ (m : ℕ). take (m + n) (take d buffer ++ (part ++ rest)) ≡ take d buffer ++ take n (part ++ rest)) long (take-append-add (take d buffer) (part ++ rest) n)
    in
    cut ∙ ap (λ z. take d buffer ++ z) (take-append-le n part rest room ∙ got) ∙ ap (λ z. z ++ take n (drop d there)) front ∙ sym (take-add d n there)

-- n bytes more of the file stand in the buffer
pub read_more : (old now after : FileView) (offset calls d n m : ℕ) (buffer part rest : List ℕ) → ReadSoFar old now offset calls d buffer → after ≡ now → m ≡ d + n → (IsTrue now.is_sound → 0 < n) → n ≤ length part → (IsTrue now.is_known → n ≤ length (drop (offset + d) now.bytes)) → (IsTrue now.is_known → take n part ≡ take n (drop (offset + d) now.bytes)) → ReadSoFar old after offset (calls + 1) m (take d buffer ++ (part ++ rest))
read_more old now after offset calls d n m buffer part rest so_far same sum goes_on room within got =
    let now_is : now ≡ old = so_far.same in
    let within_old : IsTrue old.is_known → n ≤ length (drop (offset + d) old.bytes) =
    subst (λ (v : FileView). IsTrue v.is_known → n ≤ length (drop (offset + d) v.bytes)) now_is within
    in
    let got_old : IsTrue old.is_known → take n part ≡ take n (drop (offset + d) old.bytes) =
    subst (λ (v : FileView). IsTrue v.is_known → take n part ≡ take n (drop (offset + d) v.bytes)) now_is got
    in
    let has : d ≤ length buffer = so_far.most in
    let long : length (take d buffer) ≡ d = length-take-le d buffer has in
    let most : d + n ≤ length (take d buffer ++ (part ++ rest)) =
    omega (arith, length-append (take d buffer) (part ++ rest), length-append part rest, long, room)
    in
    let left : drop d (drop offset old.bytes) ≡ drop (offset + d) old.bytes = drop-drop d offset old.bytes in
    let long_left : length (drop (offset + d) old.bytes) ≡ length (drop offset old.bytes) - d =
    ap (λ (z : List ℕ). length z) (sym left) ∙ length-drop d (drop offset old.bytes)
    in
    subst (λ (k : ℕ). ReadSoFar old after offset (calls + 1) k (take d buffer ++ (part ++ rest))) (sym sum) (record {
      same = same ∙ now_is;
      goes_on = λ sound.
          let a : calls ≤ d = so_far.goes_on sound in
          let b : 0 < n = goes_on (subst (λ (v : FileView). IsTrue v.is_sound) (sym now_is) sound) in
          omega (arith, a, b);
      most = most;
      within = λ known. let a : d ≤ length (drop offset old.bytes) = so_far.within known in
          let b : n ≤ length (drop (offset + d) old.bytes) = within_old known in
          omega (arith, a, b, long_left);
      got = λ known. front_more (drop offset old.bytes) buffer part rest d n has room (so_far.got known) (got_old known ∙ ap (λ (z : List ℕ). take n z) (sym left));
    })

-- a part of the buffer placed behind another is both placed at once
placed_more : (bytes : List ℕ) (offset d n : ℕ) (buffer : List ℕ) → offset + length buffer ≤ length bytes → d + n ≤ length buffer → placed (placed bytes offset (take d buffer)) (offset + d) (take n (drop d buffer)) ≡ placed bytes offset (take (d + n) buffer)
placed_more bytes offset d n buffer inside most =
    let front : List ℕ = take offset bytes in
    let t : List ℕ = take d buffer in
    let s : List ℕ = take n (drop d buffer) in
    let r : List ℕ = drop (offset + length t) bytes in
    let long_t : length t ≡ d = length-take-le d buffer (omega arith) in
    let long_front : length front ≡ offset = length-take-le offset bytes (omega arith) in
    let long_drop : length (drop d buffer) ≡ length buffer - d = length-drop d buffer in
    let long_s : length s ≡ n = length-take-le n (drop d buffer) (omega (arith, long_drop)) in
    let long : length (front ++ t) ≡ offset + d = omega (arith, length-append front t, long_front, long_t) in
    let both : take (d + n) buffer ≡ t ++ s = take-add d n buffer in
    let long_both : length (take (d + n) buffer) ≡ d + n = length-take-le (d + n) buffer most in
    let front_is : take (offset + d) (front ++ t ++ r) ≡ front ++ t = take_at (front ++ t) r (offset + d) long in
    let back : drop (length (front ++ t) + length s) (front ++ t ++ r) ≡ drop (length s) r = drop-append-add (front ++ t) r (length s) in
    let back_is : drop (offset + d + length s) (front ++ t ++ r) ≡ drop (offset + length t + length s) bytes =
    subst (λ (k : ℕ). drop (k + length s) (front ++ t ++ r) ≡ drop (length s) r) long back ∙ drop-drop (length s) (offset + length t) bytes
    in
    let places : offset + length t + length s ≡ offset + length (take (d + n) buffer) = omega (arith, long_t, long_s, long_both) in
    ap (λ (z : List ℕ). z ++ s ++ drop (offset + d + length s) (front ++ t ++ r)) front_is
    ∙ ap (λ (z : List ℕ). front ++ t ++ s ++ z) (back_is ∙ ap (λ (k : ℕ). drop k bytes) places)
    ∙ ap (λ (z : List ℕ). z ++ drop (offset + length (take (d + n) buffer)) bytes) (append_assoc front t s ∙ ap (λ (z : List ℕ). front ++ z) (sym both))

-- n bytes more of the buffer stand in the file
pub written_more : (old now after : FileView) (offset calls d n m : ℕ) (buffer : List ℕ) → WrittenSoFar old now offset calls d buffer → after.is_known ≡ now.is_known → after.is_sound ≡ now.is_sound → after.name ≡ now.name → m ≡ d + n → (IsTrue now.is_sound → 0 < n) → d + n ≤ length buffer → (IsTrue now.is_known → offset + d + length (drop d buffer) ≤ length now.bytes → after.bytes ≡ placed now.bytes (offset + d) (take n (drop d buffer))) → WrittenSoFar old after offset (calls + 1) m buffer
written_more old now after offset calls d n m buffer so_far same stays named sum goes_on most stored =
    subst (λ (k : ℕ). WrittenSoFar old after offset (calls + 1) k buffer) (sym sum) (record {
      same = same ∙ so_far.same;
      stays = stays ∙ so_far.stays;
      named = named ∙ so_far.named;
      goes_on = λ sound.
          let a : calls ≤ d = so_far.goes_on sound in
          let b : 0 < n = goes_on (subst (λ b. IsTrue b) (sym so_far.stays) sound) in
          omega (arith, a, b);
      most = most;
      stored = λ known inside.
          let now_is : now.bytes ≡ placed old.bytes offset (take d buffer) = so_far.stored known inside in
          let known_now : IsTrue now.is_known = subst (λ b. IsTrue b) (sym so_far.same) known in
          let has : d ≤ length buffer = omega arith in
          let long_t : length (take d buffer) ≡ d = length-take-le d buffer has in
          let long_front : length (take offset old.bytes) ≡ offset = length-take-le offset old.bytes (omega arith) in
          let long : length (placed old.bytes offset (take d buffer)) ≡ length old.bytes =
          omega (arith, length-append (take offset old.bytes ++ take d buffer) (drop (offset + length (take d buffer)) old.bytes), length-append (take offset old.bytes) (take d buffer), length-drop (offset + length (take d buffer)) old.bytes, long_t, long_front)
          in
          let long_now : length now.bytes ≡ length old.bytes = ap (λ (z : List ℕ). length z) now_is ∙ long in
          let inside_now : offset + d + length (drop d buffer) ≤ length now.bytes = omega (arith, length-drop d buffer, long_now) in
          stored known_now inside_now ∙ ap (λ (z : List ℕ). placed z (offset + d) (take n (drop d buffer))) now_is ∙ placed_more old.bytes offset d n buffer inside most;
    })
