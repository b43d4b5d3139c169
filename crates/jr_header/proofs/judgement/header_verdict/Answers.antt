use Rattle.std.proofs.Common.{◌≡◌, List, ℕ, take, drop, ap, ◌∙◌, sym, arith, length-take}
use borrow.Rule.Slice.PartMut.{mid_of}
use Rattle.std.specs.Prelude.{slice_range}
use Rattle.std.proofs.lemmas.List.{take_rest}
use Rattle.jr_model.specs.Content.{digest_length, digest_of}
use Rattle.jr_model.specs.Judgement.{digest_in, same_bytes}
use Rattle.jr_header.proofs.Verdicts.{back_half, digest_differs, area_differs, all_same}
use Rattle.jr_header.proofs.judgement.header_verdict.Goals as goal

pub slice_bounds-same_bytes-end : goal.slice_bounds-same_bytes-end
slice_bounds-same_bytes-end c = omega (arith, length-take 32 c.args.bytes.now)

pub returns-then-not-same_bytes-2 : goal.returns-then-not-same_bytes-2
returns-then-not-same_bytes-2 c =
    let bytes = c.args.bytes.now in
    let back = back_half c.args.header.now c.told-header in
    sym (digest_differs c.args.kind c.args.header.now bytes (sym c.same_bytes.ensures ∙ c.if-not-same_bytes.false)
    (ap (same_bytes (slice_range bytes 32 64)) (sym back) ∙ sym c.same_bytes-else-not-same_bytes.ensures ∙ c.if-not-same_bytes-2.true))

pub returns-then-not-begins_with_digest : goal.returns-then-not-begins_with_digest
returns-then-not-begins_with_digest c =
    let bytes = c.args.bytes.now in
    let header = c.args.header.now in
    let back = back_half header c.told-header in
    let agrees : c.begins_with_digest.result ≡ same_bytes (digest_of c.args.kind (drop 64 bytes)) (digest_in c.args.kind header) =
    c.begins_with_digest.ensures
    ∙ ap (λ (area : List ℕ). same_bytes (digest_of c.args.kind area) (take (digest_length c.args.kind) (mid_of 32 32 header))) (take_rest bytes 64)
    ∙ ap (λ (half : List ℕ). same_bytes (digest_of c.args.kind (drop 64 bytes)) (take (digest_length c.args.kind) half)) back in
    sym (area_differs c.args.kind header bytes (sym c.same_bytes.ensures ∙ c.if-not-same_bytes.false)
    (ap (same_bytes (slice_range bytes 32 64)) (sym back) ∙ sym c.same_bytes-else-not-same_bytes.ensures ∙ c.if-not-same_bytes-2.false)
    (sym agrees ∙ c.if-not-begins_with_digest.true))

pub returns-else-not-begins_with_digest : goal.returns-else-not-begins_with_digest
returns-else-not-begins_with_digest c =
    let bytes = c.args.bytes.now in
    let header = c.args.header.now in
    let back = back_half header c.told-header in
    let agrees : c.begins_with_digest.result ≡ same_bytes (digest_of c.args.kind (drop 64 bytes)) (digest_in c.args.kind header) =
    c.begins_with_digest.ensures
    ∙ ap (λ (area : List ℕ). same_bytes (digest_of c.args.kind area) (take (digest_length c.args.kind) (mid_of 32 32 header))) (take_rest bytes 64)
    ∙ ap (λ (half : List ℕ). same_bytes (digest_of c.args.kind (drop 64 bytes)) (take (digest_length c.args.kind) half)) back in
    sym (all_same c.args.kind header bytes (sym c.same_bytes.ensures ∙ c.if-not-same_bytes.false)
    (ap (same_bytes (slice_range bytes 32 64)) (sym back) ∙ sym c.same_bytes-else-not-same_bytes.ensures ∙ c.if-not-same_bytes-2.false)
    (sym agrees ∙ c.if-not-begins_with_digest.false))
