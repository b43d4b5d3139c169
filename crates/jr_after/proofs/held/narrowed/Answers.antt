use Rattle.std.proofs.Common.{sym, subst}
use Rattle.jr_after.specs.declared.writes.PlannedWrite.{PlannedWrite}
use Rattle.jr_after.specs.Parts.{IsNarrowed}
use Rattle.jr_after.proofs.Narrow.{chunk_narrowed}
use Rattle.jr_after.proofs.held.narrowed.Goals as goal

pub returns-in-Some : goal.returns-in-Some
returns-in-Some c =
    subst (λ (w : PlannedWrite). IsNarrowed c.args.planned.now c.args.part.now w) (sym c.chunk_alone.ensures)
    (chunk_narrowed c.args.planned.now c.args.part.now c.in-Some.i c.requires.fits c.in-Some.ensures)
