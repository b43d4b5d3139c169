use Rattle.std.proofs.Common.{◌≡◌, ℕ, ap, ◌∙◌, arith}
use Rattle.std.specs.Prelude.{Option, unwrap_or}
use Rattle.jr_replay_history.specs.Marks.{counted}
use Rattle.jr_replay_history.proofs.marking.mark_issued.Goals as goal

pub overflow_add-count : goal.overflow_add-count
overflow_add-count c =
    let few = c.requires (c.in-Issue.write.clone, c.in-Issue.write.pass) in
    let is : c.unwrap_or-count.result ≡ counted c.args.issued.now (c.in-Issue.write.clone, c.in-Issue.write.pass) =
    c.unwrap_or-count.ensures ∙ ap (λ (o : Option ℕ). unwrap_or o 0) (c.copied.ensures ∙ c.get.ensures.value) in
    omega (arith, is, few)
