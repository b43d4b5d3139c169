use Rattle.std.proofs.Common.{◌≡◌, inl, inr, sym, ap, ◌∙◌}
use Rattle.jr_model.specs.declared.contents.VerifyKind.{VerifyKind}
use Rattle.jr_model.specs.declared.contents.VerifyKind.TheVariants as verify
use Rattle.jr_model.specs.declared.events.Verdict.{Verdict}
use Rattle.jr_model.specs.Judgement.{own_digest_verdict, own_verdict_of}
use Rattle.jr_header.proofs.own.own_verdict.Goals as goal

pub returns-in-Md5 : goal.returns-in-Md5
returns-in-Md5 c =
    let by : VerifyKind → Verdict = λ kind. own_verdict_of kind c.args.pattern.now c.args.piece.now c.args.bytes.now in
    let told = λ (kind : VerifyKind) (is : c.args.kind ≡ kind).
    c.own_digest_verdict.ensures ∙ ap (λ (k : VerifyKind). own_digest_verdict k c.args.piece.now c.args.bytes.now) is in
    elim c.in-Md5.is [
      | inl md5 ↦ told verify.Md5 md5 ∙ ap by (sym md5)
      | inr other ↦ elim other [
        | inl sha1 ↦ told verify.Sha1 sha1 ∙ ap by (sym sha1)
        | inr sha256 ↦ told verify.Sha256 sha256 ∙ ap by (sym sha256)
      ]
    ]
