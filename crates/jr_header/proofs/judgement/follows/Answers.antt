use Rattle.std.proofs.Common.{◌≡◌, ◌≤◌, length, take, drop, ◌-◌, sym, ◌∙◌, arith}
use Rattle.std.proofs.lemmas.List.{take_rest}
use Rattle.std.proofs.lemmas.Slice.Eq.{bytes_eq-Decides}
use Rattle.jr_header.proofs.Patterns.{follows_pattern}
use Rattle.jr_header.proofs.judgement.follows.Goals as goal

pub returns : goal.returns
returns c holds =
    let p = c.args.pattern.now in
    let xs = c.args.bytes.now in
    let fits : length p ≤ length xs = omega arith in
    let begins : take (length p) xs ≡ p =
    (bytes_eq-Decides (take (length p) xs) p).0 (sym c.same_bytes.ensures ∙ c.if-not-same_bytes.false) in
    let shifted : drop (length p) xs ≡ take (length xs - length p) xs =
    sym (take_rest xs (length p))
    ∙ (bytes_eq-Decides (take (length xs - length p) (drop (length p) xs)) (take (length xs - length p) xs)).0 (sym c.same_bytes-2.ensures ∙ holds) in
    follows_pattern p xs c.requires fits begins shifted
