use Rattle.std.proofs.Common.{◌≡◌, ℕ, ◌-◌, List, ◌++◌, length, take, drop, sym, ap, ◌∙◌, length-drop}
use Rattle.std.proofs.lemmas.List.{take_rest, drop_at}
use Rattle.jr_model.specs.Content.{digest_length, digest_of, filler_of, header_back}
use Rattle.jr_model.specs.Judgement.{digest_in, header_verdict}
use Rattle.jr_header.proofs.Verdicts.{digest-header_back}
use Rattle.jr_header.proofs.chunks.filled_verdict.Goals as goal

pub returns-then-is_filler : goal.returns-then-is_filler
returns-then-is_filler c =
    let bytes = c.args.bytes.now in
    let kind = c.args.method.now.kind in
    let front = c.args.front.now in
    let made = filler_of c.args.method.now.pattern c.args.seed in
    let filler = made (length bytes - 64) in
    let rest = take_rest bytes 64 in
    let same : drop 64 bytes ≡ filler = sym rest ∙ c.is_filler.ensures c.if-is_filler.true ∙ ap made (ap length rest ∙ length-drop 64 bytes) in
    let header : c.joined.result ≡ front ++ header_back kind filler =
    c.joined.ensures ∙ ap (λ (back : List ℕ). front ++ back) (c.header_back.ensures ∙ ap (header_back kind) (rest ∙ same)) in
    let told : digest_of kind (drop 64 bytes) ≡ digest_in kind c.joined.result =
    ap (digest_of kind) same ∙ sym (digest-header_back kind filler)
    ∙ sym (ap (take (digest_length kind)) (drop_at front (header_back kind filler) 32 c.told-front)) ∙ ap (digest_in kind) (sym header) in
    c.told_verdict.ensures kind told ∙ ap (λ (h : List ℕ). header_verdict kind h bytes) header
