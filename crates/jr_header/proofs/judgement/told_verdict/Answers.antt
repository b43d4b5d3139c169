use Rattle.std.proofs.Common.{drop, ap, ◌∙◌, sym, arith, length-take}
use Rattle.std.specs.Prelude.{slice_range}
use Rattle.std.proofs.lemmas.Slice.Eq.{bytes_eq-Decides}
use Rattle.jr_model.specs.Content.{digest_of}
use Rattle.jr_model.specs.Judgement.{digest_in, same_bytes}
use Rattle.jr_header.proofs.Verdicts.{back_half, header_differs, digest_differs, all_same}
use Rattle.jr_header.proofs.judgement.told_verdict.Goals as goal

pub slice_bounds-same_bytes-end : goal.slice_bounds-same_bytes-end
slice_bounds-same_bytes-end c = omega (arith, length-take 32 c.args.bytes.now)

pub returns-then-not-same_bytes : goal.returns-then-not-same_bytes
returns-then-not-same_bytes c kind told =
    sym (header_differs kind c.args.written.now c.args.bytes.now (sym c.same_bytes.ensures ∙ c.if-not-same_bytes.true))

pub returns-then-not-same_bytes-2 : goal.returns-then-not-same_bytes-2
returns-then-not-same_bytes-2 c kind told =
    let bytes = c.args.bytes.now in
    let back = back_half c.args.written.now c.told-written in
    sym (digest_differs kind c.args.written.now bytes (sym c.same_bytes.ensures ∙ c.if-not-same_bytes.false)
    (ap (same_bytes (slice_range bytes 32 64)) (sym back) ∙ sym c.same_bytes-else-not-same_bytes.ensures ∙ c.if-not-same_bytes-2.true))

pub returns-else-not-same_bytes-2 : goal.returns-else-not-same_bytes-2
returns-else-not-same_bytes-2 c kind told =
    let bytes = c.args.bytes.now in
    let header = c.args.written.now in
    let back = back_half header c.told-written in
    sym (all_same kind header bytes (sym c.same_bytes.ensures ∙ c.if-not-same_bytes.false)
    (ap (same_bytes (slice_range bytes 32 64)) (sym back) ∙ sym c.same_bytes-else-not-same_bytes.ensures ∙ c.if-not-same_bytes-2.false)
    ((bytes_eq-Decides (digest_of kind (drop 64 bytes)) (digest_in kind header)).1 told))
