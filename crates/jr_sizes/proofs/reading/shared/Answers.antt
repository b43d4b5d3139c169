use Rattle.std.proofs.Common.{◌≡◌, ℕ, slice_index_or, Option, None, arith}
use Rattle.std.proofs.lemmas.List.{length-set}
use Rattle.jr_sizes.specs.Splits.{share, share_step}
use Rattle.jr_sizes.proofs.EntryLemmas.{shares_next, rest_next, same_default}
use Rattle.jr_sizes.proofs.reading.shared.Goals as goal

pub loop-i-preserved : goal.loop-i-preserved
loop-i-preserved c =
    let entries = c.args.entries.now in
    let i = c.loop-i.i in
    let all = c.loop-i.all in
    let none : ℕ × Option ℕ = (0, None) in
    let entry : ℕ × Option ℕ = slice_index_or entries i none in
    let stepped : c.share_step-percent.result ≡ share_step c.args.each c.loop-i.left entry.1 = c.share_step-percent.ensures in
    let more = shares_next all c.args.each c.loop-i.left entries i entry (share c.args.each c.args.extra entries) (omega arith) (omega arith) (same_default entries i none entry (omega arith)) c.loop-i.invariant.0 in
    let value : ℕ × ℕ = (entry.0, c.share_step-percent.result.0) in
    (rw stepped more, rest_next all i value c.loop-i.invariant.1, omega (arith, length-set all i value))
