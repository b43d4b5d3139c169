-- The reading of a ledger, one line after another.
use Rattle.std.proofs.Common.{◌≡◌, ℕ, ◌+◌, List, [], ◌∷◌, ◌++◌, length, Bool, true, false, cond, Result, Err, drop, refl, sym, ap, ◌∙◌, subst, arith, length-append}
use Rattle.std.specs.Prelude.{Option, Some, None}
use Rattle.std.specs.List.{slice_split}
use Rattle.jr_model.proofs.ListLemmas.{first_part}
use Rattle.jr_ledger.specs.declared.faults.LedgerFault.{LedgerFault}
use Rattle.jr_ledger.specs.declared.faults.LedgerFault.TheVariants.{Line, OtherJob}
use Rattle.jr_ledger.specs.declared.lines.LedgerLine.{LedgerLine}
use Rattle.jr_fields.specs.Fields.{field_is}
use Rattle.jr_ledger.specs.Fields.{read_line}
use Rattle.jr_ledger.specs.Reading.{is_head, is_newline, lines_by, line_then, lines_read, lines_after, lines_among}

-- a line that is followed by others, or by what was cut
pub lines_read_next : (above : List LedgerLine) (n : ℕ) (line text : List ℕ) → lines_read above n (line ∷ slice_split is_newline text) ≡ line_then n (read_line line) (λ found. lines_read (above ++ found ∷ []) (n + 1) (slice_split is_newline text))
lines_read_next above n line text =
    let cut = first_part is_newline text in
    subst (λ (parts : List (List ℕ)). lines_read above n (line ∷ parts) ≡ line_then n (read_line line) (λ found. lines_read (above ++ found ∷ []) (n + 1) parts)) (sym cut.2) refl

-- a first line that is followed by others, or by what was cut
pub lines_among_next : (digest head text : List ℕ) → lines_among digest (head ∷ slice_split is_newline text) ≡ lines_after digest head (slice_split is_newline text)
lines_among_next digest head text =
    let cut = first_part is_newline text in
    subst (λ (parts : List (List ℕ)). lines_among digest (head ∷ parts) ≡ lines_after digest head parts) (sym cut.2) refl

module _ (above : List LedgerLine) (line rest more : List ℕ) (all : Result (List LedgerLine) LedgerFault) (cut : slice_split is_newline rest ≡ line ∷ slice_split is_newline more) (so : lines_read above (length above + 2) (slice_split is_newline rest) ≡ all) where
  all_is : line_then (length above + 2) (read_line line) (λ found. lines_read (above ++ found ∷ []) (length above + 2 + 1) (slice_split is_newline more)) ≡ all
  all_is =
      sym (lines_read_next above (length above + 2) line more)
      ∙ ap (λ (parts : List (List ℕ)). lines_read above (length above + 2) parts) (sym cut)
      ∙ so

  -- past a line
  pub read_more : (found : LedgerLine) (longer : List LedgerLine) → read_line line ≡ Some found → longer ≡ above ++ found ∷ [] → lines_read longer (length longer + 2) (slice_split is_newline more) ≡ all
  read_more found longer read grown =
      let size : length longer + 2 ≡ length above + 2 + 1 = omega (arith, ap length grown, length-append above (found ∷ [])) in
      ap (λ (k : ℕ). lines_read longer k (slice_split is_newline more)) size
      ∙ ap (λ (h : List LedgerLine). lines_read h (length above + 2 + 1) (slice_split is_newline more)) grown
      ∙ sym (ap (λ (r : Option LedgerLine). line_then (length above + 2) r (λ found. lines_read (above ++ found ∷ []) (length above + 2 + 1) (slice_split is_newline more))) read)
      ∙ all_is

  -- a line that is none
  pub read_refused : read_line line ≡ None → all ≡ line_then (length above + 2) None (λ found. lines_read (above ++ found ∷ []) (length above + 2 + 1) (slice_split is_newline more))
  read_refused read =
      sym all_is ∙ ap (λ (r : Option LedgerLine). line_then (length above + 2) r (λ found. lines_read (above ++ found ∷ []) (length above + 2 + 1) (slice_split is_newline more))) read

-- what is read by what the first line is
module _ (b c : Bool) (lines : Result (List LedgerLine) LedgerFault) where
  pub of_other_job : b ≡ true → c ≡ false → cond b (cond c lines (Err OtherJob)) (Err (Line 1)) ≡ Err OtherJob
  of_other_job h i = ap (λ x. cond x (cond c lines (Err OtherJob)) (Err (Line 1))) h ∙ ap (λ x. cond x lines (Err OtherJob)) i

  pub of_this_job : b ≡ true → c ≡ true → cond b (cond c lines (Err OtherJob)) (Err (Line 1)) ≡ lines
  of_this_job h i = ap (λ x. cond x (cond c lines (Err OtherJob)) (Err (Line 1))) h ∙ ap (λ x. cond x lines (Err OtherJob)) i

pub by_head : (digest text head rest : List ℕ) → slice_split is_newline text ≡ head ∷ slice_split is_newline rest → lines_by digest text ≡ lines_after digest head (slice_split is_newline rest)
by_head digest text head rest cut = ap (lines_among digest) cut ∙ lines_among_next digest head rest

pub other_job : (digest text head rest : List ℕ) → slice_split is_newline text ≡ head ∷ slice_split is_newline rest → is_head head ≡ true → field_is (drop 16 head) digest ≡ false → lines_by digest text ≡ Err OtherJob
other_job digest text head rest cut h i =
    by_head digest text head rest cut
    ∙ of_other_job (is_head head) (field_is (drop 16 head) digest) (lines_read [] 2 (slice_split is_newline rest)) h i

pub this_job : (digest text head rest : List ℕ) → slice_split is_newline text ≡ head ∷ slice_split is_newline rest → is_head head ≡ true → field_is (drop 16 head) digest ≡ true → lines_by digest text ≡ lines_read [] 2 (slice_split is_newline rest)
this_job digest text head rest cut h i =
    by_head digest text head rest cut
    ∙ of_this_job (is_head head) (field_is (drop 16 head) digest) (lines_read [] 2 (slice_split is_newline rest)) h i
