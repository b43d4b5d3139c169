use Rattle.std.proofs.Common.{◌≡◌, ℕ, ◌-◌, length, take, drop, sym, ap, ◌∙◌, length-drop}
use Rattle.std.proofs.lemmas.List.{take_rest, drop_at}
use Rattle.jr_model.specs.Content.{block_version, data_area, digest_length, digest_of, filler_of, header_back, header_front}
use Rattle.jr_model.specs.Judgement.{digest_in}
use Rattle.jr_header.proofs.Headers.{length-header_front}
use Rattle.jr_header.proofs.Verdicts.{digest-header_back}
use Rattle.jr_header.proofs.judgement.own_write_verdict.Goals as goal

pub returns-then-is_filler : goal.returns-then-is_filler
returns-then-is_filler c =
    let t = c.args.ticket.now in
    let bytes = c.args.bytes.now in
    let kind = t.method.kind in
    let made = filler_of t.method.pattern t.seed in
    let area = data_area t.method t.piece t.seed in
    let front = header_front block_version kind t.write t.piece in
    let rest = take_rest bytes 64 in
    let same : drop 64 bytes ≡ area =
    sym rest ∙ c.is_filler.ensures c.if-is_filler.true ∙ ap made (ap length rest ∙ length-drop 64 bytes) ∙ ap (λ (n : ℕ). made (n - 64)) c.requires.length in
    let told : digest_of kind (drop 64 bytes) ≡ digest_in kind c.args.header.now =
    ap (digest_of kind) same ∙ sym (digest-header_back kind area)
    ∙ sym (ap (take (digest_length kind)) (drop_at front (header_back kind area) 32 (length-header_front block_version kind t.write t.piece)))
    ∙ ap (digest_in kind) (sym c.requires.header) in
    c.told_verdict.ensures kind told
