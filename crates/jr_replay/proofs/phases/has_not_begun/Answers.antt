use Rattle.std.proofs.Common.{ℕ, refl, sym, ap}
use Rattle.std.specs.Prelude.{nat_eq}
use Rattle.jr_model.specs.Rounds.{pass_of}
use Rattle.jr_replay.proofs.phases.has_not_begun.Goals as goal

pub returns : goal.returns
returns c =
    ap (λ (n : ℕ). nat_eq n 0) (c.issued_count.ensures (pass_of c.args.job.now c.args.number) (sym c.clone_number.ensures) refl)
