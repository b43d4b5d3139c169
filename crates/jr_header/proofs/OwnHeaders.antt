-- The header that bytes should begin with, of its two halves.
use Rattle.std.proofs.Common.{◌≡◌, ℕ, ◌+◌, ◌-◌, List, [], ◌∷◌, ◌++◌, take, drop, replicate, sym, ap, ◌∙◌, arith, append_assoc}
use Rattle.std.proofs.lemmas.List.{drop-drop}
use Rattle.std.specs.Prelude.{slice_range}
use Rattle.std.specs.Int.{w32, w64, to_le_bytes}
use Rattle.jr_model.specs.declared.blocks.Piece.{Piece}
use Rattle.jr_model.specs.declared.contents.VerifyKind.{VerifyKind}
use Rattle.jr_model.specs.Content.{magic, kind_code, digest_length}
use Rattle.jr_model.specs.Judgement.{own_header}
use Rattle.jr_header.specs.Own.{own_front, own_back}
use Rattle.jr_header.proofs.Generated.{take-more}

-- draw number and digest stand one behind the other
number_and_digest : (bytes : List ℕ) (n : ℕ) → slice_range bytes 24 32 ++ slice_range bytes 32 (32 + n) ≡ slice_range bytes 24 (32 + n)
number_and_digest bytes n =
    let digest : 32 + n - 32 ≡ n = omega arith in
    let both : 8 + n ≡ 32 + n - 24 = omega arith in
    ap (λ (k : ℕ). take 8 (drop 24 bytes) ++ take k (drop 32 bytes)) digest
    ∙ ap (λ (rest : List ℕ). take 8 (drop 24 bytes) ++ take n rest) (sym (drop-drop 8 24 bytes))
    ∙ sym (take-more 8 n (drop 24 bytes)) ∙ ap (λ (k : ℕ). take k (drop 24 bytes)) both

joined_behind : (front number digest both zeros : List ℕ) → number ++ digest ≡ both → (front ++ number) ++ (digest ++ zeros) ≡ (front ++ both) ++ zeros
joined_behind front number digest both zeros is =
    append_assoc front number (digest ++ zeros) ∙ ap (λ (xs : List ℕ). front ++ xs) (sym (append_assoc number digest zeros) ∙ ap (λ (xs : List ℕ). xs ++ zeros) is)
    ∙ sym (append_assoc front both zeros)

pub own_halves : (version : ℕ) (kind : VerifyKind) (piece : Piece) (bytes : List ℕ)
    → own_front version kind piece bytes ++ own_back kind bytes ≡ own_header version kind piece bytes
own_halves version kind piece bytes =
    joined_behind
    (magic version ++ (kind_code kind ∷ digest_length kind ∷ []) ++ slice_range bytes 6 8 ++ to_le_bytes w32 piece.len ++ slice_range bytes 12 16
    ++ to_le_bytes w64 piece.offset)
    (slice_range bytes 24 32) (slice_range bytes 32 (32 + digest_length kind)) (slice_range bytes 24 (32 + digest_length kind)) (replicate (32 - digest_length kind) 0)
    (number_and_digest bytes (digest_length kind))
