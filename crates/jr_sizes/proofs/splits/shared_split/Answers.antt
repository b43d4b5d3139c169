use Rattle.std.proofs.Common.{◌≡◌, ℕ, ◌/◌, ◌%◌, ◌-◌, max, length, take, replicate, Ok, ap, ◌∙◌, sym, subst, arith}
use Rattle.std.proofs.lemmas.List.{take_at}
use Rattle.jr_plan.specs.SplitEntries.{IsSplit, padded}
use Rattle.jr_sizes.specs.Splits.{given_total, blank_count, share}
use Rattle.jr_sizes.proofs.EntryLemmas.{shared_is, length-share}
use Rattle.jr_sizes.proofs.splits.shared_split.Goals as goal
use Rattle.jr_sizes.proofs.splits.shared_split.Goals.{else-blanks-eq0-via-then-blanks-eq0+else-missing-gt0, else-blanks-eq0-via-else-blanks-eq0}

pub unreachable-requires : goal.unreachable-requires
unreachable-requires c =
    let entries = c.args.entries.now in
    let given = c.given_total-given.result in
    let parts = c.max-parts.result in
    let given_is : given ≡ given_total entries = c.given_total-given.ensures in
    let blanks_are : c.blank_count-blanks.result ≡ blank_count entries = c.blank_count-blanks.ensures in
    let whole : blank_count entries ≡ 0 → given_total entries ≡ 100 = elim c.else-blanks-eq0.branch [
      | else-blanks-eq0-via-then-blanks-eq0+else-missing-gt0 w ↦ λ none. omega (arith, w.if-missing-gt0.false)
      | else-blanks-eq0-via-else-blanks-eq0 w ↦ λ none. absurd (omega (arith, w.if-blanks-eq0.false))
    ] in
    let parts_are : parts ≡ max (blank_count entries) 1 = omega (arith, c.max-parts.ensures, blanks_are) in
    let each = (100 - given) / parts in
    let extra = (100 - given) % parts in
    let facts = shared_is entries parts each extra (omega (arith, given_is)) whole parts_are (ap (λ n. (100 - n) / parts) given_is) (ap (λ n. (100 - n) % parts) given_is) in
    let all = share each extra entries in
    let size = length-share each extra entries in
    let made : c.shared.result ≡ padded all = c.shared.ensures in
    let empty : ℕ × ℕ = (0, 0) in
    let front = ap (take (length entries)) made ∙ take_at all (replicate (64 - length all) empty) (length entries) size in
    let split : IsSplit all = record { least = omega (arith, size, c.requires.least); most = omega (arith, size, c.requires.count); total = facts.1 } in
    c.in-None.ensures (subst IsSplit (sym front) split)

pub returns : goal.returns
returns c =
    let entries = c.args.entries.now in
    let given = c.given_total-given.result in
    let parts = c.max-parts.result in
    let given_is : given ≡ given_total entries = c.given_total-given.ensures in
    let blanks_are : c.blank_count-blanks.result ≡ blank_count entries = c.blank_count-blanks.ensures in
    let whole : blank_count entries ≡ 0 → given_total entries ≡ 100 = elim c.else-blanks-eq0.branch [
      | else-blanks-eq0-via-then-blanks-eq0+else-missing-gt0 w ↦ λ none. omega (arith, w.if-missing-gt0.false)
      | else-blanks-eq0-via-else-blanks-eq0 w ↦ λ none. absurd (omega (arith, w.if-blanks-eq0.false))
    ] in
    let parts_are : parts ≡ max (blank_count entries) 1 = omega (arith, c.max-parts.ensures, blanks_are) in
    let each = (100 - given) / parts in
    let extra = (100 - given) % parts in
    let facts = shared_is entries parts each extra (omega (arith, given_is)) whole parts_are (ap (λ n. (100 - n) / parts) given_is) (ap (λ n. (100 - n) % parts) given_is) in
    let all = share each extra entries in
    let size = length-share each extra entries in
    let made : c.shared.result ≡ padded all = c.shared.ensures in
    let empty : ℕ × ℕ = (0, 0) in
    let front = take_at all (replicate (64 - length all) empty) (length entries) size in
    ap Ok (c.in-Some.ensures.1 ∙ ap (take (length entries)) made ∙ front) ∙ sym facts.0
