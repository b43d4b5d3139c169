-- Lines of writes at a ledger's end: which syncs are kept, and where a write has its line.
use Rattle.std.proofs.Common.{◌≡◌, ℕ, suc, ◌+◌, ◌≤◌, List, [], ◌∷◌, ◌++◌, length, Bool, true, false, cond, ◌&&◌, ◌||◌, refl, ap, ◌∙◌, inl, inr, arith}
use Rattle.std.specs.Prelude.{◌⊎◌, Option, Some, None, ◌==◌}
use Rattle.std.specs.List.{list_any}
use Rattle.std.specs.Option.{option_map}
use Rattle.jr_model.specs.declared.events.WriteId.{WriteId}
use Rattle.jr_ledger.specs.declared.lines.LedgerLine.{LedgerLine}
use Rattle.jr_ledger.specs.declared.lines.LedgerLine.TheVariants as line
use Rattle.jr_ledger.specs.declared.lines.SyncId.{SyncId}
use Rattle.jr_after.specs.Ledgers.{is_end_of, is_return_of, line_of, is_shut, has_sync, kept_lines}
use Rattle.jr_after.proofs.LedgerLemmas.{kept_none}
use Rattle.jr_laws_after.specs.Waiting.{lines_of}

no_return : (sync : SyncId) (late : List WriteId) → list_any (is_return_of sync) (lines_of late) ≡ false
no_return sync [] = refl
no_return sync (w ∷ late) = no_return sync late

return_same : (sync : SyncId) (lines : List LedgerLine) (late : List WriteId) → list_any (is_return_of sync) (lines ++ lines_of late) ≡ list_any (is_return_of sync) lines
return_same sync [] late = no_return sync late
return_same sync (l ∷ lines) late = ap (λ (b : Bool). is_return_of sync l || b) (return_same sync lines late)

no_sync : (file : ℕ) (late : List WriteId) → has_sync file (lines_of late) ≡ false
no_sync file [] = refl
no_sync file (w ∷ late) = no_sync file late

shut_same : (file : ℕ) (l : LedgerLine) (lines : List LedgerLine) (late : List WriteId) → is_shut file l (lines ++ lines_of late) ≡ is_shut file l lines
shut_same file (line.Begun sync) lines late = ap (λ (b : Bool). (sync.file == file) && b) (return_same sync lines late)
shut_same file (line.Written w) lines late = refl
shut_same file (line.Returned sync) lines late = refl

sync_same : (file : ℕ) (lines : List LedgerLine) (late : List WriteId) → has_sync file (lines ++ lines_of late) ≡ has_sync file lines
sync_same file [] late = no_sync file late
sync_same file (l ∷ lines) late =
    ap (λ (b : Bool). b || has_sync file (lines ++ lines_of late)) (shut_same file l lines late)
    ∙ ap (λ (b : Bool). is_shut file l lines || b) (sync_same file lines late)

-- as many lines are kept
pub kept_same : (file : ℕ) (lines : List LedgerLine) (late : List WriteId) → kept_lines file (lines ++ lines_of late) ≡ kept_lines file lines
kept_same file [] late = kept_none file (lines_of late) (no_sync file late)
kept_same file (l ∷ lines) late =
    ap (λ (b : Bool). cond b (1 + kept_lines file (lines ++ lines_of late)) 0) (sync_same file (l ∷ lines) late)
    ∙ ap (λ (n : ℕ). cond (has_sync file (l ∷ lines)) (1 + n) 0) (kept_same file lines late)

-- and no more than there are
pub kept_most : (file : ℕ) (lines : List LedgerLine) → kept_lines file lines ≤ length lines
kept_most file [] = omega arith
kept_most file (l ∷ lines) = by_test (has_sync file (l ∷ lines)) (kept_most file lines)
  where
    by_test : (b : Bool) → kept_lines file lines ≤ length lines → cond b (1 + kept_lines file lines) 0 ≤ suc (length lines)
    by_test true h = omega (arith, h)
    by_test false h = omega arith

-- the one place is the other, or is behind n lines where the other is none
abbrev pub IsLater : ℕ → Option ℕ → Option ℕ → Type 0
IsLater n found other = (found ≡ other) ⊎ ((other ≡ None) × (j : ℕ) × (found ≡ Some j) × (n ≤ j))

at_first : (found : Option ℕ) → IsLater 0 found None
at_first None = inl refl
at_first (Some j) = inr (refl, j, refl, omega arith)

one_on : (n : ℕ) (found other : Option ℕ) → IsLater n found other → IsLater (suc n) (option_map suc found) (option_map suc other)
one_on n found other (inl e) = inl (ap (option_map suc) e)
one_on n found other (inr later) = inr (ap (option_map suc) later.0, suc later.1, ap (option_map suc) later.2, omega (arith, later.3))

pub line_late : (lines : List LedgerLine) (late : List WriteId) (w : WriteId) → IsLater (length lines) (line_of (lines ++ lines_of late) w) (line_of lines w)
line_late [] late w = at_first (line_of (lines_of late) w)
line_late (l ∷ lines) late w = by_test (is_end_of w l) (line_late lines late w)
  where
    by_test : (b : Bool) → IsLater (length lines) (line_of (lines ++ lines_of late) w) (line_of lines w) → IsLater (suc (length lines)) (cond b (Some 0) (option_map suc (line_of (lines ++ lines_of late) w))) (cond b (Some 0) (option_map suc (line_of lines w)))
    by_test true h = inl refl
    by_test false h = one_on (length lines) (line_of (lines ++ lines_of late) w) (line_of lines w) h
