-- A ledger's lines, found by going along them.
use Rattle.std.proofs.Common.{◌≡◌, ℕ, zero, suc, ◌+◌, List, [], ◌∷◌, drop, slice_get, true, false, refl, sym, ap, ◌∙◌, arith}
use Rattle.std.specs.Prelude.{Option, Some, None}
use Rattle.std.specs.Option.{option_map}
use Rattle.std.proofs.lemmas.Bool.{or_left, or_right, or_from, cond-true, cond-false}
use Rattle.jr_model.specs.declared.events.WriteId.{WriteId}
use Rattle.jr_ledger.specs.declared.lines.LedgerLine.{LedgerLine}
use Rattle.jr_plan.proofs.ListLemmas.{drop_at}
use Rattle.jr_after.specs.Ledgers.{is_end_of, line_of, is_shut, has_sync, kept_lines}

-- the place of a line, counted from another one on
abbrev pub shifted : ℕ → Option ℕ → Option ℕ
shifted i found = option_map (λ n. i + n) found

shifted_more : (i : ℕ) (found : Option ℕ) → shifted i (option_map suc found) ≡ shifted (i + 1) found
shifted_more i None = refl
shifted_more i (Some n) = ap Some (let e : i + suc n ≡ i + 1 + n = omega arith in e)

pub not_here : (lines : List LedgerLine) (w : WriteId) (i : ℕ) (l : LedgerLine) → slice_get lines i ≡ Some l → is_end_of w l ≡ false → shifted (i + 1) (line_of (drop (i + 1) lines) w) ≡ shifted i (line_of (drop i lines) w)
not_here lines w i l at other =
    sym (shifted_more i (line_of (drop (i + 1) lines) w))
    ∙ sym (ap (shifted i) (ap (λ (xs : List LedgerLine). line_of xs w) (drop_at lines i l at) ∙ cond-false (is_end_of w l) (Some 0) (option_map suc (line_of (drop (i + 1) lines) w)) other))

pub here : (lines : List LedgerLine) (w : WriteId) (i : ℕ) (l : LedgerLine) → slice_get lines i ≡ Some l → is_end_of w l ≡ true → shifted i (line_of (drop i lines) w) ≡ Some i
here lines w i l at own =
    ap (shifted i) (ap (λ (xs : List LedgerLine). line_of xs w) (drop_at lines i l at) ∙ cond-true (is_end_of w l) (Some 0) (option_map suc (line_of (drop (i + 1) lines) w)) own)
    ∙ ap Some (let e : i + 0 ≡ i = omega arith in e)

pub shifted_none : (found : Option ℕ) → shifted 0 found ≡ found
shifted_none None = refl
shifted_none (Some n) = ap Some (let e : 0 + n ≡ n = omega arith in e)

-- no sync below: no line is kept
pub kept_none : (file : ℕ) (lines : List LedgerLine) → has_sync file lines ≡ false → kept_lines file lines ≡ 0
kept_none file [] h = refl
kept_none file (l ∷ lines) h = cond-false (has_sync file (l ∷ lines)) (1 + kept_lines file lines) 0 h

shut_within : (file : ℕ) (lines : List LedgerLine) (k : ℕ) (l : LedgerLine) → slice_get lines k ≡ Some l → is_shut file l (drop (suc k) lines) ≡ true → has_sync file lines ≡ true
shut_within file [] k l at shut = cc
shut_within file (x ∷ lines) zero l at shut =
    let e : x ≡ l = cc in
    or_left (is_shut file x lines) (has_sync file lines) (ap (λ y. is_shut file y lines) e ∙ shut)
shut_within file (x ∷ lines) (suc k) l at shut = or_right (is_shut file x lines) (has_sync file lines) (shut_within file lines k l at shut)

kept_till : (file : ℕ) (lines : List LedgerLine) (k : ℕ) (l : LedgerLine) → slice_get lines k ≡ Some l → is_shut file l (drop (suc k) lines) ≡ true → has_sync file (drop (suc k) lines) ≡ false → kept_lines file lines ≡ suc k
kept_till file [] k l at shut none = cc
kept_till file (x ∷ lines) zero l at shut none =
    cond-true (has_sync file (x ∷ lines)) (1 + kept_lines file lines) 0 (shut_within file (x ∷ lines) zero l at shut)
    ∙ ap (λ (n : ℕ). 1 + n) (kept_none file lines none)
kept_till file (x ∷ lines) (suc k) l at shut none =
    cond-true (has_sync file (x ∷ lines)) (1 + kept_lines file lines) 0 (shut_within file (x ∷ lines) (suc k) l at shut)
    ∙ ap (λ (n : ℕ). 1 + n) (kept_till file lines k l at shut none)
    ∙ (let e : 1 + suc k ≡ suc (suc k) = omega arith in e)

-- the last such sync
pub kept_at : (file : ℕ) (lines : List LedgerLine) (count k : ℕ) (l : LedgerLine) → count ≡ k + 1 → slice_get lines k ≡ Some l → is_shut file l (drop count lines) ≡ true → has_sync file (drop count lines) ≡ false → kept_lines file lines ≡ count
kept_at file lines count k l e at shut none =
    let place : suc k ≡ count = omega (arith, e) in
    kept_till file lines k l at (ap (λ (n : ℕ). is_shut file l (drop n lines)) place ∙ shut) (ap (λ (n : ℕ). has_sync file (drop n lines)) place ∙ none)
    ∙ place

-- none so far
pub none_above : (file : ℕ) (lines : List LedgerLine) (count k : ℕ) (l : LedgerLine) → count ≡ k + 1 → slice_get lines k ≡ Some l → is_shut file l (drop count lines) ≡ false → has_sync file (drop count lines) ≡ false → has_sync file (drop k lines) ≡ false
none_above file lines count k l e at unshut none =
    ap (has_sync file) (drop_at lines k l at)
    ∙ or_from (is_shut file l (drop (k + 1) lines)) (has_sync file (drop (k + 1) lines))
    (ap (λ (n : ℕ). is_shut file l (drop n lines)) (sym e) ∙ unshut)
    (ap (λ (n : ℕ). has_sync file (drop n lines)) (sym e) ∙ none)
