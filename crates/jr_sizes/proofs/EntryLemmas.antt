-- Entries of a split, read one after another and shared out.
use Rattle.std.proofs.Common.{◌≡◌, ℕ, zero, suc, ◌+◌, ◌-◌, ◌*◌, ◌/◌, ◌%◌, ◌<◌, ◌≤◌, min, max, inl, inr, List, [], ◌∷◌, ◌++◌, length, drop, take, replicate, slice_index_or, slice_set, Option, Some, None, Result, Ok, Err, unwrap_or, is_none, cond, ap, ◌∙◌, sym, arith, refl, append_assoc, add-one}
use Rattle.std.specs.List.{slice_split}
use Rattle.std.proofs.lemmas.List.{at_drop_more, at_drop_all, append-nil, take_more_set, drop-set-lt, drop-replicate}
use Rattle.std.proofs.lemmas.List.Sums.{sum_by-cons}
use Rattle.std.proofs.lemmas.Bool.{lt-ltb, le-ltb, eq-eqb, ne_eqb, cases_eq}
use Rattle.jr_sizes.specs.declared.faults.SplitFault.{SplitFault}
use Rattle.jr_sizes.specs.declared.faults.SplitFault.TheVariants.{TooMany}
use Rattle.jr_plan.specs.SplitEntries.{percents_total}
use Rattle.jr_sizes.specs.Splits.{and_entries, entries_of, entry_of, with_entries, given_total, blank_count, is_colon, share, share_step, shared, shared_of, split_of}

-- an entry goes to the end of what stands in front
moved : (front : List (ℕ × Option ℕ)) (entry : ℕ × Option ℕ) (rest : Result (List (ℕ × Option ℕ)) SplitFault) → with_entries front (and_entries (Ok entry) rest) ≡ with_entries (front ++ entry ∷ []) rest
moved front entry (Err fault) = refl
moved front entry (Ok entries) = ap Ok (sym (append_assoc front (entry ∷ []) entries))

-- the parts from a place on, by the part there
at_part : (front : List (ℕ × Option ℕ)) (parts : List (List ℕ)) (n : ℕ) (part : List ℕ) → n < length parts → part ≡ slice_index_or parts n part → with_entries front (entries_of (drop n parts)) ≡ with_entries front (and_entries (entry_of part) (entries_of (drop (n + 1) parts)))
at_part front parts n part within here =
    at_drop_more (λ rest. with_entries front (entries_of rest)) parts n part within
    ∙ sym (ap (λ p. with_entries front (and_entries (entry_of p) (entries_of (drop (n + 1) parts)))) here)

pub entries_next : (front : List (ℕ × Option ℕ)) (entry : ℕ × Option ℕ) (parts : List (List ℕ)) (n : ℕ) (part : List ℕ) → n < length parts → part ≡ slice_index_or parts n part → entry_of part ≡ Ok entry → with_entries front (entries_of (drop n parts)) ≡ with_entries (front ++ entry ∷ []) (entries_of (drop (n + 1) parts))
entries_next front entry parts n part within here is =
    at_part front parts n part within here
    ∙ ap (λ e. with_entries front (and_entries e (entries_of (drop (n + 1) parts)))) is
    ∙ moved front entry (entries_of (drop (n + 1) parts))

pub entries_refused : (front : List (ℕ × Option ℕ)) (fault : SplitFault) (parts : List (List ℕ)) (n : ℕ) (part : List ℕ) → n < length parts → part ≡ slice_index_or parts n part → entry_of part ≡ Err fault → with_entries front (entries_of (drop n parts)) ≡ Err fault
entries_refused front fault parts n part within here is =
    at_part front parts n part within here
    ∙ ap (λ e. with_entries front (and_entries e (entries_of (drop (n + 1) parts)))) is

pub entries_end : (front : List (ℕ × Option ℕ)) (parts : List (List ℕ)) (n : ℕ) → length parts ≤ n → with_entries front (entries_of (drop n parts)) ≡ Ok front
entries_end front parts n past =
    at_drop_all (λ rest. with_entries front (entries_of rest)) parts n past ∙ ap Ok (append-nil front)

-- one more entry gets its share
pub shares_next : (all : List (ℕ × ℕ)) (each left : ℕ) (entries : List (ℕ × Option ℕ)) (i : ℕ) (entry : ℕ × Option ℕ) (goal : List (ℕ × ℕ)) → i < length entries → i < length all → entry ≡ slice_index_or entries i entry → take i all ++ share each left (drop i entries) ≡ goal → take (i + 1) (slice_set all i (entry.0, (share_step each left entry.1).0)) ++ share each (share_step each left entry.1).1 (drop (i + 1) entries) ≡ goal
shares_next all each left entries i entry goal within room here so_far =
    let v : ℕ × ℕ = (entry.0, (share_step each left entry.1).0) in
    let rest = share each (share_step each left entry.1).1 (drop (i + 1) entries) in
    let front = take_more_set all i v room in
    let there = at_drop_more (λ (es : List (ℕ × Option ℕ)). take i all ++ share each left es) entries i entry within in
    let same = ap (λ (e : ℕ × Option ℕ). take i all ++ ((e.0, (share_step each left e.1).0) ∷ share each (share_step each left e.1).1 (drop (i + 1) entries))) here in
    ap (λ (t : List (ℕ × ℕ)). t ++ rest) front ∙ append_assoc (take i all) (v ∷ []) rest ∙ same ∙ sym there ∙ so_far

drop_one : {X : Type 0} (xs : List X) (i : ℕ) → drop (suc i) xs ≡ drop 1 (drop i xs)
drop_one [] zero = refl
drop_one [] (suc i) = refl
drop_one (x ∷ xs) zero = refl
drop_one (x ∷ xs) (suc i) = drop_one xs i

pub rest_next : (all : List (ℕ × ℕ)) (i : ℕ) (v : ℕ × ℕ) → drop i all ≡ replicate (64 - i) (0, 0) → drop (i + 1) (slice_set all i v) ≡ replicate (64 - (i + 1)) (0, 0)
rest_next all i v so_far =
    let empty : ℕ × ℕ = (0, 0) in
    let size : 64 - i - 1 ≡ 64 - (i + 1) = omega arith in
    let step : drop (i + 1) all ≡ drop 1 (drop i all) = rw add-one (drop_one all i) in
    drop-set-lt (i + 1) all i v (omega arith) ∙ step ∙ ap (drop 1) so_far ∙ drop-replicate 1 (64 - i) empty ∙ ap (λ n. replicate n empty) size

pub length-share : (each extra : ℕ) (entries : List (ℕ × Option ℕ)) → length (share each extra entries) ≡ length entries
length-share each extra [] = refl
length-share each extra (entry ∷ entries) = ap suc (length-share each (share_step each extra entry.1).1 entries)

-- one entry's percent, and what is then left
step_total : (each extra : ℕ) (percent : Option ℕ) → (n : ℕ) → (share_step each extra percent).0 + (each * n + min (share_step each extra percent).1 n) ≡ unwrap_or percent 0 + (each * (cond (is_none percent) 1 0 + n) + min extra (cond (is_none percent) 1 0 + n))
step_total each extra (Some p) n = omega arith
step_total each zero None n = omega arith
step_total each (suc extra) None n = omega arith

combined : (total x others y given u z : ℕ) → total ≡ x + (others + y) → x + y ≡ u + z → given ≡ u + others → total ≡ given + z
combined total x others y given u z is step sum = omega (arith, is, step, sum)

-- all percents together
pub share_total : (each extra : ℕ) (entries : List (ℕ × Option ℕ)) → percents_total (share each extra entries) ≡ given_total entries + (each * blank_count entries + min extra (blank_count entries))
share_total each extra [] = omega arith
share_total each extra (entry ∷ entries) =
    let next = (share_step each extra entry.1).1 in
    let more = share_total each next entries in
    let first : ℕ × ℕ = (entry.0, (share_step each extra entry.1).0) in
    let front : percents_total (share each extra (entry ∷ entries)) ≡ (share_step each extra entry.1).0 + percents_total (share each next entries) = sum_by-cons (λ (e : ℕ × ℕ). e.1) first (share each next entries) in
    let given : given_total (entry ∷ entries) ≡ unwrap_or entry.1 0 + given_total entries = sum_by-cons (λ (e : ℕ × Option ℕ). unwrap_or e.1 0) entry entries in
    let blanks : blank_count (entry ∷ entries) ≡ cond (is_none entry.1) 1 0 + blank_count entries = sum_by-cons (λ (e : ℕ × Option ℕ). cond (is_none e.1) 1 0) entry entries in
    let step = step_total each extra entry.1 (blank_count entries) in
    combined (percents_total (share each extra (entry ∷ entries))) (share_step each extra entry.1).0 (given_total entries) (each * blank_count entries + min next (blank_count entries)) (given_total (entry ∷ entries)) (unwrap_or entry.1 0) (each * blank_count (entry ∷ entries) + min extra (blank_count (entry ∷ entries))) (front ∙ ap (λ n. (share_step each extra entry.1).0 + n) more) (step ∙ ap (λ n. unwrap_or entry.1 0 + (each * n + min extra n)) (sym blanks)) given

-- blanks that share what is missing make it 100
pub whole_share : (given blanks each extra : ℕ) → given ≤ 100 → 0 < blanks → each ≡ (100 - given) / blanks → extra ≡ (100 - given) % blanks → given + (each * blanks + min extra blanks) ≡ 100
whole_share given blanks each extra most some each_is extra_is = rw (each_is, extra_is) (omega arith)

-- an element within a list, whatever stands for one past it
pub same_default : {X : Type 0} (xs : List X) (i : ℕ) (d e : X) → i < length xs → slice_index_or xs i d ≡ slice_index_or xs i e
same_default [] i d e within = absurd (omega arith)
same_default (x ∷ xs) zero d e within = refl
same_default (x ∷ xs) (suc i) d e within = same_default xs i d e (omega arith)

pub split_many : (text : List ℕ) → 64 < length (slice_split is_colon text) → split_of text ≡ Err TooMany
split_many text many = rw (lt-ltb 64 (length (slice_split is_colon text)) many) refl

pub split_few : (text : List ℕ) → length (slice_split is_colon text) ≤ 64 → split_of text ≡ shared_of (entries_of (slice_split is_colon text))
split_few text few = rw (le-ltb 64 (length (slice_split is_colon text)) few) refl

-- the percents as the code shares them out: nothing to share counts as one blank
pub shared_is : (entries : List (ℕ × Option ℕ)) (parts each extra : ℕ) → given_total entries ≤ 100 → (blank_count entries ≡ 0 → given_total entries ≡ 100) → parts ≡ max (blank_count entries) 1 → each ≡ (100 - given_total entries) / parts → extra ≡ (100 - given_total entries) % parts → (shared entries ≡ Ok (share each extra entries)) × (percents_total (share each extra entries) ≡ 100)
shared_is entries parts each extra most whole parts_are each_is extra_is =
    let over = le-ltb 100 (given_total entries) most in
    let all = share_total each extra entries in
    elim (cases_eq (blank_count entries) 0) [
      | inl none ↦
          let full = whole none in
          let one : parts ≡ 1 = omega (arith, parts_are, none) in
          let nothing : 100 - given_total entries ≡ 0 = omega (arith, full) in
          let each_none : each ≡ 0 = each_is ∙ rw (nothing, one) refl in
          let extra_none : extra ≡ 0 = extra_is ∙ rw (nothing, one) refl in
          (rw (over, eq-eqb (blank_count entries) 0 none, eq-eqb (100 - given_total entries) 0 nothing, each_none, extra_none) refl, omega (arith, all, each_none, extra_none, none, full, ap (λ n. n * blank_count entries) each_none))
      | inr some ↦
          let blanks : parts ≡ blank_count entries = omega (arith, parts_are, some) in
          let each_b : each ≡ (100 - given_total entries) / blank_count entries = each_is ∙ ap (λ n. (100 - given_total entries) / n) blanks in
          let extra_b : extra ≡ (100 - given_total entries) % blank_count entries = extra_is ∙ ap (λ n. (100 - given_total entries) % n) blanks in
          (rw (over, ne_eqb (blank_count entries) 0 some, each_b, extra_b) refl, all ∙ whole_share (given_total entries) (blank_count entries) each extra most (omega (arith, some)) each_b extra_b)
    ]
