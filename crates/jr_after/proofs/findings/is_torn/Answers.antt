use Rattle.std.proofs.Common.{◌≡◌, ◌/◌, false, sym, ap, ◌∙◌, arith, zero-add}
use Rattle.jr_after.specs.Findings.{is_sector_held}
use Rattle.jr_after.proofs.SectorLemmas.{all_below, not_all_below}
use Rattle.jr_after.proofs.findings.is_torn.Goals as goal

pub returns-then-not-is_sector_held : goal.returns-then-not-is_sector_held
returns-then-not-is_sector_held c =
    let held = is_sector_held c.args.last c.args.over.now c.args.chunk.now c.args.bytes.now in
    let i = c.loop-i.i in
    let not : held i ≡ false = cc in
    sym (not_all_below held 0 (c.args.chunk.now.len / 512) i c.loop-i-test.true (ap held (zero-add i) ∙ not))

pub returns : goal.returns
returns c =
    let held = is_sector_held c.args.last c.args.over.now c.args.chunk.now c.args.bytes.now in
    sym (all_below held 0 (c.args.chunk.now.len / 512) (λ k h. ap held (zero-add k) ∙ c.loop-i.invariant k (omega (arith, h, c.loop-i-test.false))))
