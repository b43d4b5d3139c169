use Rattle.std.proofs.Common.{◌%◌, ℕ, length, get_or, replicate, ◌∙◌, ap, arith}
use Rattle.std.proofs.lemmas.List.{get_or-replicate, length-replicate}
use Rattle.jr_header.proofs.Patterns.{repeats}
use Rattle.jr_header.proofs.filler.repeat_byte.Goals as goal

pub returns : goal.returns
returns c =
    let p = c.args.pattern.now in
    let n = length c.args.buffer.now in
    let byte = get_or p 0 0 in
    c.fill_with.ensures
    ∙ repeats p (replicate n byte) n (length-replicate n byte)
    (λ i below.
    get_or-replicate n i byte 0 below
    ∙ ap (λ (k : ℕ). get_or p k 0) (omega (arith, ap (λ (k : ℕ). i % k) c.requires)))
