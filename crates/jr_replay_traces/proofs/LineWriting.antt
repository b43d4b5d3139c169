-- What is read of a line is what was written there: the reading of a line has one line for each entry.
use Rattle.std.proofs.Common.{◌≡◌, ℕ, zero, suc, ◌^◌, List, [], ◌∷◌, length, get_or, Bool, true, false, cond, not, ◌&&◌, ◌||◌, refl, sym, ap, subst, ◌∙◌, inl, inr}
use Rattle.std.specs.Prelude.{◌⊎◌, Option, Some, None, codes, nat_lt, ◌==◌}
use Rattle.std.specs.Char.{is_ascii_digit}
use Rattle.std.specs.Cmp.Lexicographic.{same_text}
use Rattle.std.specs.Fmt.{decimal}
use Rattle.std.specs.List.{join_with_byte, list_all}
use Rattle.std.specs.Option.{option_map}
use Rattle.std.specs.Str.Parse.{digits_value}
use Rattle.std.proofs.lemmas.Bool.{and_from, and_parts, eq-eqb, eqb-true, ltb-true}
use Rattle.std.proofs.lemmas.Fmt.{decimal-digits_value}
use Rattle.std.proofs.lemmas.List.Splits.{join_with_byte-slice_split}
use Rattle.std.proofs.lemmas.Option.{same_Some}
use Rattle.jr_replay_traces.specs.declared.entries.Ending.{Ending}
use Rattle.jr_replay_traces.specs.declared.entries.Ending.TheVariants as ending
use Rattle.jr_replay_traces.specs.declared.entries.Entry.{Entry}
use Rattle.jr_replay_traces.specs.declared.entries.Entry.TheVariants as entry
use Rattle.jr_replay_traces.specs.declared.entries.Finding.{Finding}
use Rattle.jr_replay_traces.specs.declared.entries.Finding.TheVariants as finding
use Rattle.jr_model.specs.declared.events.Part.{Part}
use Rattle.jr_model.specs.declared.events.Part.TheVariants as part
use Rattle.jr_model.proofs.OptionLemmas.{made_of}
use Rattle.jr_replay_traces.specs.declared.entries.Name.{Name}
use Rattle.jr_replay_traces.specs.declared.entries.Start.{Start}
use Rattle.jr_fields.specs.Fields.{field_at, fields_of, is_numeral, field_is, number_at, number_in}
use Rattle.jr_replay_traces.specs.TraceLines.{counted_finding, chunk_finding, part_of, end_in, end_of, ending_in, entry_in, finding_in, name_at, named, read_line, skip_in, skip_of, start_in, start_of, verdict_in, verdict_of, word_finding}
use Rattle.jr_replay_traces.proofs.LineReading.{digits_model}
use Rattle.jr_replay_traces.proofs.ReadingLemmas.{from_cond}

-- the fields of an entry's line
abbrev pub number_fields : Name → List (List ℕ)
number_fields write = decimal write.clone ∷ decimal write.pass ∷ decimal write.number ∷ []

abbrev pub start_fields : Start → List (List ℕ)
start_fields start = decimal start.worker ∷ decimal start.io ∷ number_fields start.write

abbrev pub ending_fields : Ending → List (List ℕ)
ending_fields ending.Whole = codes "whole" ∷ []
ending_fields ending.Failed = codes "failed" ∷ []
ending_fields (ending.Short n) = codes "short" ∷ decimal n ∷ []

abbrev pub part_word : Part → List ℕ
part_word part.Header = codes "header"
part_word part.Digest = codes "digest"
part_word part.DataArea = codes "data"

abbrev pub finding_fields : Finding → List (List ℕ)
finding_fields finding.Good = codes "good" ∷ []
finding_fields finding.Header = codes "header" ∷ []
finding_fields finding.Digest = codes "digest" ∷ []
finding_fields finding.DataArea = codes "data" ∷ []
finding_fields (finding.Byte i) = codes "byte" ∷ decimal i ∷ []
finding_fields (finding.Chunk i found) = part_word found ∷ decimal i ∷ []
finding_fields finding.Void = codes "void" ∷ []

abbrev pub entry_fields : Entry → List (List ℕ)
entry_fields (entry.Issue start) = codes "I" ∷ start_fields start
entry_fields (entry.Probe start) = codes "P" ∷ start_fields start
entry_fields (entry.Skip worker write) = codes "S" ∷ decimal worker ∷ number_fields write
entry_fields (entry.End worker io ending) = codes "E" ∷ decimal worker ∷ decimal io ∷ ending_fields ending
entry_fields (entry.Verdict by io finding) = codes "V" ∷ decimal by ∷ decimal io ∷ finding_fields finding

-- either way
cases_cond : {X : Type 0} (b : Bool) (x y o : Option X) → cond b x y ≡ o → ((b ≡ true) × (x ≡ o)) ⊎ (y ≡ o)
cases_cond true x y o h = inl (refl, h)
cases_cond false x y o h = inr h

-- a zero leads no numeral but 0
leads : (a b : Bool) → (a || not b) ≡ true → b ≡ true → a ≡ true
leads true b h zero_first = refl
leads false true h zero_first = cc
leads false false h zero_first = cc

-- a number that is read is written so
number_written : (field : List ℕ) (n : ℕ) → number_in field ≡ Some n → field ≡ decimal n
number_written field n h =
    let value = digits_value 10 field in
    let read = from_cond (is_numeral field && nat_lt value (2 ^ 64)) (Some value) n h in
    let tests = and_parts (is_numeral field) (nat_lt value (2 ^ 64)) read.0 in
    let one = length field == 1 in
    let first = get_or field 0 0 == 48 in
    let numeral = and_parts (nat_lt 0 (length field) && list_all is_ascii_digit field) (one || not first) tests.0 in
    let digits = and_parts (nat_lt 0 (length field)) (list_all is_ascii_digit field) numeral.0 in
    sym (decimal-digits_value digits_model field digits.1 (ltb-true 0 (length field) digits.0)
    (λ zero_first. eqb-true (length field) 1 (leads one first numeral.1 (eq-eqb (get_or field 0 0) 48 zero_first)))
    (ltb-true value (2 ^ 64) tests.1))
    ∙ ap decimal (same_Some value n read.1)

-- a list of so many fields, one by one
fields_from : ℕ → ℕ → List (List ℕ) → List (List ℕ)
fields_from k zero fields = []
fields_from k (suc n) fields = field_at fields k ∷ fields_from (suc k) n fields

fields_from-suc : (k n : ℕ) (field : List ℕ) (fields : List (List ℕ)) → fields_from (suc k) n (field ∷ fields) ≡ fields_from k n fields
unfolding fields_from
fields_from-suc k zero field fields = refl
fields_from-suc k (suc n) field fields = ap (λ (rest : List (List ℕ)). field_at fields k ∷ rest) (fields_from-suc (suc k) n field fields)

fields_are : (fields : List (List ℕ)) → fields ≡ fields_from 0 (length fields) fields
unfolding fields_from
fields_are [] = refl
fields_are (field ∷ fields) =
    ap (λ (rest : List (List ℕ)). field ∷ rest) (fields_are fields ∙ sym (fields_from-suc 0 (length fields) field fields))

so_many : (fields : List (List ℕ)) (n : ℕ) → (length fields == n) ≡ true → fields ≡ fields_from 0 n fields
so_many fields n h =
    fields_are fields ∙ ap (λ (k : ℕ). fields_from 0 k fields) (eqb-true (length fields) n h)

-- what is read of several numbers
named_by : (a b c : Option ℕ) (write : Name) → named a b c ≡ Some write → (a ≡ Some write.clone) × (b ≡ Some write.pass) × (c ≡ Some write.number)
named_by (Some x) (Some y) (Some z) write h =
    let is = same_Some (record { clone = x; pass = y; number = z }) write h in
    (ap (λ (w : Name). Some w.clone) is, ap (λ (w : Name). Some w.pass) is, ap (λ (w : Name). Some w.number) is)
named_by (Some x) (Some y) None write h = cc
named_by (Some x) None c write h = cc
named_by None b c write h = cc

start_by : (a b : Option ℕ) (c : Option Name) (start : Start) → start_of a b c ≡ Some start → (a ≡ Some start.worker) × (b ≡ Some start.io) × (c ≡ Some start.write)
start_by (Some x) (Some y) (Some z) start h =
    let is = same_Some (record { worker = x; io = y; write = z }) start h in
    (ap (λ (s : Start). Some s.worker) is, ap (λ (s : Start). Some s.io) is, ap (λ (s : Start). Some s.write) is)
start_by (Some x) (Some y) None start h = cc
start_by (Some x) None c start h = cc
start_by None b c start h = cc

-- what is read of a worker and a draw, of the end of an I/O, and of a verdict
skip_by : (a : Option ℕ) (b : Option Name) (x : Entry) → skip_of a b ≡ Some x → (worker : ℕ) × (write : Name) × (a ≡ Some worker) × (b ≡ Some write) × (entry.Skip worker write ≡ x)
skip_by (Some worker) (Some write) x h = (worker, write, refl, refl, same_Some (entry.Skip worker write) x h)
skip_by (Some worker) None x h = cc
skip_by None b x h = cc

end_by : (a b : Option ℕ) (c : Option Ending) (x : Entry) → end_of a b c ≡ Some x → (worker : ℕ) × (io : ℕ) × (ending : Ending) × (a ≡ Some worker) × (b ≡ Some io) × (c ≡ Some ending) × (entry.End worker io ending ≡ x)
end_by (Some worker) (Some io) (Some ending) x h = (worker, io, ending, refl, refl, refl, same_Some (entry.End worker io ending) x h)
end_by (Some worker) (Some io) None x h = cc
end_by (Some worker) None c x h = cc
end_by None b c x h = cc

verdict_by : (a b : Option ℕ) (c : Option Finding) (x : Entry) → verdict_of a b c ≡ Some x → (by : ℕ) × (io : ℕ) × (finding : Finding) × (a ≡ Some by) × (b ≡ Some io) × (c ≡ Some finding) × (entry.Verdict by io finding ≡ x)
verdict_by (Some by) (Some io) (Some finding) x h = (by, io, finding, refl, refl, refl, same_Some (entry.Verdict by io finding) x h)
verdict_by (Some by) (Some io) None x h = cc
verdict_by (Some by) None c x h = cc
verdict_by None b c x h = cc

-- a list by its parts
cons_is : {x y : List ℕ} {xs ys : List (List ℕ)} → x ≡ y → xs ≡ ys → x ∷ xs ≡ y ∷ ys
cons_is {x} {y} {xs} {ys} h t = ap (λ (z : List ℕ). z ∷ xs) h ∙ ap (λ (zs : List (List ℕ)). y ∷ zs) t

module _ (fields : List (List ℕ)) where
  number_is : (k n : ℕ) → number_at fields k ≡ Some n → field_at fields k ≡ decimal n
  number_is k n h = number_written (field_at fields k) n h

  word_is : (k : ℕ) (word : List ℕ) → field_is (field_at fields k) word ≡ true → field_at fields k ≡ word
  word_is k word h = same_text (field_at fields k) word (sym h)

  -- a draw from field k on
  name_is : (j k l : ℕ) (write : Name) → name_at fields j k l ≡ Some write → field_at fields j ∷ field_at fields k ∷ field_at fields l ∷ [] ≡ number_fields write
  name_is j k l write h =
      let parts = named_by (number_at fields j) (number_at fields k) (number_at fields l) write h in
      cons_is (number_is j write.clone parts.0) (cons_is (number_is k write.pass parts.1) (cons_is (number_is l write.number parts.2) refl))

  start_is : (tag : List ℕ) (start : Start) → (field_is (field_at fields 0) tag && (length fields == 6)) ≡ true → start_in fields ≡ Some start → fields ≡ tag ∷ start_fields start
  unfolding fields_from
  start_is tag start tests h =
      let test = and_parts (field_is (field_at fields 0) tag) (length fields == 6) tests in
      let parts = start_by (number_at fields 1) (number_at fields 2) (name_at fields 3 4 5) start h in
      so_many fields 6 test.1
      ∙ cons_is (word_is 0 tag test.0) (cons_is (number_is 1 start.worker parts.0) (cons_is (number_is 2 start.io parts.1) (name_is 3 4 5 start.write parts.2)))

  skip_is : (x : Entry) → (field_is (field_at fields 0) (codes "S") && (length fields == 5)) ≡ true → skip_in fields ≡ Some x → fields ≡ entry_fields x
  unfolding fields_from
  skip_is x tests h =
      let test = and_parts (field_is (field_at fields 0) (codes "S")) (length fields == 5) tests in
      let parts = skip_by (number_at fields 1) (name_at fields 2 3 4) x h in
      so_many fields 5 test.1
      ∙ cons_is (word_is 0 (codes "S") test.0) (cons_is (number_is 1 parts.0 parts.2) (name_is 2 3 4 parts.1 parts.3))
      ∙ ap entry_fields parts.4

  -- a word behind three fields, or a word and a number
  word_last : (word : List ℕ) → (length fields == 4) ≡ true → field_is (field_at fields 3) word ≡ true → fields ≡ field_at fields 0 ∷ field_at fields 1 ∷ field_at fields 2 ∷ word ∷ []
  unfolding fields_from
  word_last word four h =
      so_many fields 4 four
      ∙ ap (λ (w : List ℕ). field_at fields 0 ∷ field_at fields 1 ∷ field_at fields 2 ∷ w ∷ []) (word_is 3 word h)

  number_last : (word : List ℕ) (n : ℕ) → (length fields == 5 && field_is (field_at fields 3) word) ≡ true → number_at fields 4 ≡ Some n → fields ≡ field_at fields 0 ∷ field_at fields 1 ∷ field_at fields 2 ∷ word ∷ decimal n ∷ []
  unfolding fields_from
  number_last word n tests h =
      let test = and_parts (length fields == 5) (field_is (field_at fields 3) word) tests in
      so_many fields 5 test.0
      ∙ ap (λ (rest : List (List ℕ)). field_at fields 0 ∷ field_at fields 1 ∷ field_at fields 2 ∷ rest) (cons_is (word_is 3 word test.1) (cons_is (number_is 4 n h) refl))

  -- the same where they are an ending or a finding
  ending_is : (said : Ending) → ending_in fields ≡ Some said → fields ≡ field_at fields 0 ∷ field_at fields 1 ∷ field_at fields 2 ∷ ending_fields said
  ending_is said h =
      let behind : Ending → List (List ℕ) = λ e. field_at fields 0 ∷ field_at fields 1 ∷ field_at fields 2 ∷ ending_fields e in
      elim (cases_cond (length fields == 4) _ _ (Some said) h) [
        | inl four ↦
            elim (cases_cond (field_is (field_at fields 3) (codes "whole")) _ _ (Some said) four.1) [
              | inl whole ↦ word_last (codes "whole") four.0 whole.0 ∙ ap behind (same_Some ending.Whole said whole.1)
              | inr other ↦
                  let failed = from_cond (field_is (field_at fields 3) (codes "failed")) (Some ending.Failed) said other in
                  word_last (codes "failed") four.0 failed.0 ∙ ap behind (same_Some ending.Failed said failed.1)
            ]
        | inr other ↦
            let short = from_cond (length fields == 5 && field_is (field_at fields 3) (codes "short")) (option_map ending.Short (number_at fields 4)) said other in
            let count = made_of ending.Short (number_at fields 4) said short.1 in
            number_last (codes "short") count.0 short.0 count.1 ∙ ap behind count.2
      ]

  finding_word : (said : Finding) → (length fields == 4) ≡ true → word_finding (field_at fields 3) ≡ Some said → fields ≡ field_at fields 0 ∷ field_at fields 1 ∷ field_at fields 2 ∷ finding_fields said
  finding_word said four h =
      let behind : Finding → List (List ℕ) = λ f. field_at fields 0 ∷ field_at fields 1 ∷ field_at fields 2 ∷ finding_fields f in
      elim (cases_cond (field_is (field_at fields 3) (codes "good")) _ _ (Some said) h) [
        | inl good ↦ word_last (codes "good") four good.0 ∙ ap behind (same_Some finding.Good said good.1)
        | inr not_good ↦
            elim (cases_cond (field_is (field_at fields 3) (codes "header")) _ _ (Some said) not_good) [
              | inl header ↦ word_last (codes "header") four header.0 ∙ ap behind (same_Some finding.Header said header.1)
              | inr not_header ↦
                  elim (cases_cond (field_is (field_at fields 3) (codes "digest")) _ _ (Some said) not_header) [
                    | inl digest ↦ word_last (codes "digest") four digest.0 ∙ ap behind (same_Some finding.Digest said digest.1)
                    | inr not_digest ↦
                        elim (cases_cond (field_is (field_at fields 3) (codes "data")) _ _ (Some said) not_digest) [
                          | inl area ↦ word_last (codes "data") four area.0 ∙ ap behind (same_Some finding.DataArea said area.1)
                          | inr other ↦
                              let void = from_cond (field_is (field_at fields 3) (codes "void")) (Some finding.Void) said other in
                              word_last (codes "void") four void.0 ∙ ap behind (same_Some finding.Void said void.1)
                        ]
                  ]
            ]
      ]

  -- a part's word and a number
  number_last_is : (word : List ℕ) (n : ℕ) → (length fields == 5) ≡ true → field_is (field_at fields 3) word ≡ true → number_at fields 4 ≡ Some n → fields ≡ field_at fields 0 ∷ field_at fields 1 ∷ field_at fields 2 ∷ word ∷ decimal n ∷ []
  number_last_is word n five test h = number_last word n (and_from (length fields == 5) (field_is (field_at fields 3) word) five test) h

  part_is : (found : Part) → part_of (field_at fields 3) ≡ Some found → field_is (field_at fields 3) (part_word found) ≡ true
  part_is found h =
      elim (cases_cond (field_is (field_at fields 3) (codes "header")) _ _ (Some found) h) [
        | inl header ↦ subst (λ (p : Part). field_is (field_at fields 3) (part_word p) ≡ true) (same_Some part.Header found header.1) header.0
        | inr not_header ↦
            elim (cases_cond (field_is (field_at fields 3) (codes "digest")) _ _ (Some found) not_header) [
              | inl digest ↦ subst (λ (p : Part). field_is (field_at fields 3) (part_word p) ≡ true) (same_Some part.Digest found digest.1) digest.0
              | inr other ↦
                  let area = from_cond (field_is (field_at fields 3) (codes "data")) (Some part.DataArea) found other in
                  subst (λ (p : Part). field_is (field_at fields 3) (part_word p) ≡ true) (same_Some part.DataArea found area.1) area.0
            ]
      ]

  chunk_is : (said : Finding) (found : Option Part) (number : Option ℕ) → (length fields == 5) ≡ true → part_of (field_at fields 3) ≡ found → number_at fields 4 ≡ number → chunk_finding found number ≡ Some said → fields ≡ field_at fields 0 ∷ field_at fields 1 ∷ field_at fields 2 ∷ finding_fields said
  chunk_is said (Some found) (Some i) five word number h =
      number_last_is (part_word found) i five (part_is found word) number
      ∙ ap (λ (f : Finding). field_at fields 0 ∷ field_at fields 1 ∷ field_at fields 2 ∷ finding_fields f) (same_Some (finding.Chunk i found) said h)
  chunk_is said (Some found) None five word number h = cc
  chunk_is said None number five word is h = cc

  finding_is : (said : Finding) → finding_in fields ≡ Some said → fields ≡ field_at fields 0 ∷ field_at fields 1 ∷ field_at fields 2 ∷ finding_fields said
  finding_is said h =
      elim (cases_cond (length fields == 4) _ _ (Some said) h) [
        | inl four ↦ finding_word said four.0 four.1
        | inr other ↦
            let five = from_cond (length fields == 5) (counted_finding (field_at fields 3) (number_at fields 4)) said other in
            elim (cases_cond (field_is (field_at fields 3) (codes "byte")) _ _ (Some said) five.1) [
              | inl byte ↦
                  let place = made_of finding.Byte (number_at fields 4) said byte.1 in
                  number_last_is (codes "byte") place.0 five.0 byte.0 place.1
                  ∙ ap (λ (f : Finding). field_at fields 0 ∷ field_at fields 1 ∷ field_at fields 2 ∷ finding_fields f) place.2
              | inr chunk ↦ chunk_is said (part_of (field_at fields 3)) (number_at fields 4) five.0 refl refl chunk
            ]
      ]

  end_is : (x : Entry) → field_is (field_at fields 0) (codes "E") ≡ true → end_in fields ≡ Some x → fields ≡ entry_fields x
  end_is x test h =
      let parts = end_by (number_at fields 1) (number_at fields 2) (ending_in fields) x h in
      ending_is parts.2 parts.5
      ∙ cons_is (word_is 0 (codes "E") test) (cons_is (number_is 1 parts.0 parts.3) (cons_is (number_is 2 parts.1 parts.4) refl))
      ∙ ap entry_fields parts.6

  verdict_is : (x : Entry) → field_is (field_at fields 0) (codes "V") ≡ true → verdict_in fields ≡ Some x → fields ≡ entry_fields x
  verdict_is x test h =
      let parts = verdict_by (number_at fields 1) (number_at fields 2) (finding_in fields) x h in
      finding_is parts.2 parts.5
      ∙ cons_is (word_is 0 (codes "V") test) (cons_is (number_is 1 parts.0 parts.3) (cons_is (number_is 2 parts.1 parts.4) refl))
      ∙ ap entry_fields parts.6

  issue_is : (x : Entry) → (field_is (field_at fields 0) (codes "I") && (length fields == 6)) ≡ true → option_map entry.Issue (start_in fields) ≡ Some x → fields ≡ entry_fields x
  issue_is x tests h =
      let start = made_of entry.Issue (start_in fields) x h in
      start_is (codes "I") start.0 tests start.1 ∙ ap entry_fields start.2

  probe_is : (x : Entry) → (field_is (field_at fields 0) (codes "P") && (length fields == 6)) ≡ true → option_map entry.Probe (start_in fields) ≡ Some x → fields ≡ entry_fields x
  probe_is x tests h =
      let start = made_of entry.Probe (start_in fields) x h in
      start_is (codes "P") start.0 tests start.1 ∙ ap entry_fields start.2

  -- the fields of a line are those of what it says
  entry_is : (x : Entry) → entry_in fields ≡ Some x → fields ≡ entry_fields x
  entry_is x h =
      elim (cases_cond (field_is (field_at fields 0) (codes "I") && (length fields == 6)) _ _ (Some x) h) [
        | inl issue ↦ issue_is x issue.0 issue.1
        | inr not_issue ↦
            elim (cases_cond (field_is (field_at fields 0) (codes "P") && (length fields == 6)) _ _ (Some x) not_issue) [
              | inl probe ↦ probe_is x probe.0 probe.1
              | inr not_probe ↦
                  elim (cases_cond (field_is (field_at fields 0) (codes "S") && (length fields == 5)) _ _ (Some x) not_probe) [
                    | inl skip ↦ skip_is x skip.0 skip.1
                    | inr not_skip ↦
                        elim (cases_cond (field_is (field_at fields 0) (codes "E")) _ _ (Some x) not_skip) [
                          | inl ends ↦ end_is x ends.0 ends.1
                          | inr not_end ↦
                              let judges = from_cond (field_is (field_at fields 0) (codes "V")) (verdict_in fields) x not_end in
                              verdict_is x judges.0 judges.1
                        ]
                  ]
            ]
      ]

-- the fields, joined
abbrev pub entry_text : Entry → List ℕ
entry_text x = join_with_byte 32 (entry_fields x)

-- what is read of a line is what it writes
pub line_is_entry : (line : List ℕ) (x : Entry) → read_line line ≡ Some x → line ≡ entry_text x
line_is_entry line x h =
    sym (join_with_byte-slice_split 32 line) ∙ ap (join_with_byte 32) (entry_is (fields_of line) x h)
