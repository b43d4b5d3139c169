use Rattle.std.proofs.Common.{List, ℕ, ◌++◌, ap, ◌∙◌}
use Rattle.jr_header.specs.Own.{own_front}
use Rattle.jr_header.proofs.OwnHeaders.{own_halves}
use Rattle.jr_header.proofs.own.own_header.Goals as goal

pub returns : goal.returns
returns c =
    let bytes = c.args.bytes.now in
    c.joined.ensures
    ∙ ap (λ (front : List ℕ). front ++ c.own_back.result) c.own_front.ensures
    ∙ ap (λ (back : List ℕ). own_front c.args.version c.args.kind c.args.piece.now bytes ++ back) c.own_back.ensures
    ∙ own_halves c.args.version c.args.kind c.args.piece.now bytes
