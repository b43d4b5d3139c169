use Rattle.std.proofs.Common.{List, ℕ, length, ap, ◌∙◌}
use Rattle.jr_words.proofs.WordLemmas.{filled}
use Rattle.jr_words.proofs.generator.Words.fill.Goals as goal

pub returns-clause-bytes : goal.returns-clause-bytes
returns-clause-bytes c =
    rw (← c.self.view_is) (ap (λ (p : List ℕ × List ℕ). p.0) (c.fill_bytes_via_u64.ensures ∙ filled (length c.args.buffer.now) c.self.inside.generator c.requires))

pub returns-clause-after : goal.returns-clause-after
returns-clause-after c =
    rw (← c.self.view_is) (ap (λ (p : List ℕ × List ℕ). p.1) (c.fill_bytes_via_u64.ensures ∙ filled (length c.args.buffer.now) c.self.inside.generator c.requires))
