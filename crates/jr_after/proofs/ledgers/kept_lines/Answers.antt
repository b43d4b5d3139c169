use Rattle.std.proofs.Common.{◌≡◌, ◌+◌, ◌-◌, length, drop, take, get_or, false, true, sym, ap, ◌∙◌, arith, length-drop}
use Rattle.std.proofs.lemmas.List.{take_all}
use Rattle.std.proofs.lemmas.Option.{slice_get-get_or}
use Rattle.jr_ledger.specs.declared.lines.LedgerLine.{LedgerLine}
use Rattle.jr_ledger.specs.declared.lines.LedgerLine.TheVariants.{Written}
use Rattle.jr_after.specs.Ledgers.{is_shut, has_sync}
use Rattle.jr_after.proofs.LedgerLemmas.{kept_at, kept_none}
use Rattle.jr_after.proofs.ledgers.kept_lines.Goals as goal

pub returns-then-is_shut : goal.returns-then-is_shut
returns-then-is_shut c =
    let file = c.args.file in
    let lines = c.args.lines.now in
    let count = c.loop-count.count in
    let l : LedgerLine = get_or lines (count - 1) (Written (record { clone = 0; pass = 0; number = 0 })) in
    let place : count ≡ count - 1 + 1 = omega (arith, c.loop-count-test.true) in
    let at = slice_get-get_or lines (count - 1) (Written (record { clone = 0; pass = 0; number = 0 })) (omega (arith, c.loop-count-test.true, c.loop-count.invariant.0)) in
    let rest : take (length lines - count) (drop count lines) ≡ drop count lines = take_all (length lines - count) (drop count lines) (omega (arith, length-drop count lines)) in
    let shut : is_shut file l (drop count lines) ≡ true = ap (is_shut file l) (sym rest) ∙ sym c.is_shut.ensures ∙ c.if-is_shut.true in
    sym (kept_at file lines count (count - 1) l place at shut c.loop-count.invariant.1)

pub returns : goal.returns
returns c =
    let zero : c.loop-count.count ≡ 0 = omega arith in
    let none : has_sync c.args.file c.args.lines.now ≡ false = ap (λ n. has_sync c.args.file (drop n c.args.lines.now)) (sym zero) ∙ c.loop-count.invariant.1 in
    sym (kept_none c.args.file c.args.lines.now none)
