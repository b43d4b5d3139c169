-- What a reading adds to what is told of its file.
use Rattle.std.proofs.Common.{◌≡◌, ℕ, ◌+◌, Bool, true, false, cond, List, [], ◌∷◌, ◌++◌, Option, Some, None, length, flat_map, sym, ap, ◌∙◌, arith}
use Rattle.std.specs.Prelude.{Result, Ok, Err, OnOk}
use Rattle.std.specs.List.{filter_map}
use Rattle.std.proofs.lemmas.List.{append-nil, length-append}
use Rattle.std.proofs.lemmas.List.Elements.{filter_map-append}
use Rattle.std.proofs.lemmas.Grind.{flat_map-append}
use Rattle.jr_model.specs.declared.blocks.Piece.{Piece}
use Rattle.jr_model.specs.Plan.{Plan}
use Rattle.jr_after.specs.declared.findings.Finding.{Finding}
use Rattle.jr_after.specs.Findings.{finding_on}
use Rattle.jr_after.specs.Writes.{writes_of}
use Rattle.jr_after_report.specs.declared.lines.Judged.{Judged}
use Rattle.jr_after_report.specs.Counting.{total_of}
use Rattle.jr_after_report.specs.Reports.{FileState, state_of}
use Rattle.jr_cli_after.specs.Found.{Asked, FileAfterState, UnreadState, found_by, judged_of, unread_by, unread_line, unread_of, unread_state}
use Rattle.jr_cli_after.specs.Reading.{IsAdded}
use Rattle.jr_cli_after.specs.Readings.{Reading}

-- one element more of a list
one_more : {X Y : Type 0} (h : X → Option Y) (xs : List X) (x : X) (y : Y) → h x ≡ Some y → filter_map h (xs ++ x ∷ []) ≡ filter_map h xs ++ y ∷ []
one_more h xs x y is =
    filter_map-append h xs (x ∷ []) ∙ ap (λ (o : Option _). filter_map h xs ++ filter_map (λ (u : Option _). u) (o ∷ [])) is

none_more : {X Y : Type 0} (h : X → Option Y) (xs : List X) (x : X) → h x ≡ None → filter_map h (xs ++ x ∷ []) ≡ filter_map h xs
none_more h xs x is =
    filter_map-append h xs (x ∷ [])
    ∙ ap (λ (o : Option _). filter_map h xs ++ filter_map (λ (u : Option _). u) (o ∷ [])) is
    ∙ append-nil (filter_map h xs)

module _ (asked : Asked) (reading : Reading) (chunk : Piece) (at : reading.chunk ≡ chunk) where
  abbrev judged : List ℕ → Piece → Judged
  judged bytes place = record { chunk = place; finding = finding_on (writes_of asked.plan) asked.lines place bytes }

  judged_whole : (bytes : List ℕ) → reading.whole ≡ true → reading.bytes ≡ bytes → judged_of asked reading ≡ Some (judged bytes chunk)
  judged_whole bytes whole are =
      ap (λ (b : Bool). cond b (Some (judged reading.bytes reading.chunk)) None) whole
      ∙ ap (λ (l : List ℕ). Some (judged l reading.chunk)) are
      ∙ ap (λ (p : Piece). Some (judged bytes p)) at

  judged_other : reading.whole ≡ false → judged_of asked reading ≡ None
  judged_other other = ap (λ (b : Bool). cond b (Some (judged reading.bytes reading.chunk)) None) other

  unread_whole : reading.whole ≡ true → unread_of reading ≡ None
  unread_whole whole = ap (λ (b : Bool). cond b None (Some reading.chunk)) whole

  unread_other : reading.whole ≡ false → unread_of reading ≡ Some chunk
  unread_other other = ap (λ (b : Bool). cond b None (Some reading.chunk)) other ∙ ap (λ (p : Piece). Some p) at

abbrev both : FileState → UnreadState → FileAfterState
both found unread = record { found = found; unread = unread }

abbrev as_unread : ℕ → List ℕ → List Piece → UnreadState
as_unread count lines chunks = record { count = count; lines = lines; chunks = chunks }

more_lines : (plan : Plan) (chunks : List Piece) (chunk : Piece) → flat_map (unread_line plan) (chunks ++ chunk ∷ []) ≡ flat_map (unread_line plan) chunks ++ unread_line plan chunk
more_lines plan chunks chunk =
    flat_map-append (unread_line plan) chunks (chunk ∷ [])
    ∙ ap (λ (l : List ℕ). flat_map (unread_line plan) chunks ++ l) (append-nil (unread_line plan chunk))

more_unread : (plan : Plan) (chunks : List Piece) (chunk : Piece) (before after : UnreadState) → before ≡ unread_state plan chunks → after.count ≡ before.count + 1 → after.lines ≡ before.lines ++ unread_line plan chunk → after.chunks ≡ before.chunks ++ chunk ∷ [] → after ≡ unread_state plan (chunks ++ chunk ∷ [])
more_unread plan chunks chunk before after is count lines pieces =
    ap (λ (n : ℕ). as_unread n after.lines after.chunks)
    (count ∙ ap (λ (u : UnreadState). u.count + 1) is ∙ sym (length-append chunks (chunk ∷ [])))
    ∙ ap (λ (l : List ℕ). as_unread (length (chunks ++ chunk ∷ [])) l after.chunks)
    (lines ∙ ap (λ (u : UnreadState). u.lines ++ unread_line plan chunk) is ∙ sym (more_lines plan chunks chunk))
    ∙ ap (λ (l : List Piece). as_unread (length (chunks ++ chunk ∷ [])) (flat_map (unread_line plan) (chunks ++ chunk ∷ [])) l)
    (pieces ∙ ap (λ (u : UnreadState). u.chunks ++ chunk ∷ []) is)

pub unread_added : (asked : Asked) (chunk : Piece) (bytes : List ℕ) (before after : FileAfterState) → after.found ≡ before.found → after.unread.count ≡ before.unread.count + 1 → after.unread.lines ≡ before.unread.lines ++ unread_line asked.plan chunk → after.unread.chunks ≡ before.unread.chunks ++ chunk ∷ [] → IsAdded asked chunk false bytes before after
unread_added asked chunk bytes before after found count lines pieces = record {
  count = ap (λ (s : FileState). total_of s.counts + after.unread.count) found ∙ omega (arith, count);
  added = λ reading file readings at other are is.
      ap (λ (s : FileState). both s after.unread)
      (found
      ∙ ap (λ (s : FileAfterState). s.found) is
      ∙ ap (λ (l : List Judged). state_of asked.plan (record { file = file; chunks = l }))
      (sym (none_more (judged_of asked) readings reading (judged_other asked reading chunk at other))))
      ∙ ap (both (state_of asked.plan (found_by asked file (readings ++ reading ∷ []))))
      (more_unread asked.plan (unread_by readings) chunk before.unread after.unread (ap (λ (s : FileAfterState). s.unread) is) count lines pieces
      ∙ ap (unread_state asked.plan) (sym (one_more unread_of readings reading chunk (unread_other asked reading chunk at other))));
}

pub judged_added : (asked : Asked) (chunk : Piece) (bytes : List ℕ) (finding : Finding) (before after : FileAfterState) → finding ≡ finding_on (writes_of asked.plan) asked.lines chunk bytes → ((file : ℕ) (chunks : List Judged) → before.found ≡ state_of asked.plan (record { file = file; chunks = chunks }) → after.found ≡ state_of asked.plan (record { file = file; chunks = chunks ++ (record { chunk = chunk; finding = finding }) ∷ [] })) → total_of after.found.counts ≡ total_of before.found.counts + 1 → after.unread ≡ before.unread → IsAdded asked chunk true bytes before after
judged_added asked chunk bytes finding before after by adds total unread = record {
  count = ap (λ (u : UnreadState). total_of after.found.counts + u.count) unread ∙ omega (arith, total);
  added = λ reading file readings at whole are is.
      ap (λ (s : FileState). both s after.unread)
      (adds file (found_by asked file readings).chunks (ap (λ (s : FileAfterState). s.found) is)
      ∙ ap (λ (f : Finding). state_of asked.plan (record { file = file; chunks = (found_by asked file readings).chunks ++ (record { chunk = chunk; finding = f }) ∷ [] })) by
      ∙ ap (λ (l : List Judged). state_of asked.plan (record { file = file; chunks = l }))
      (sym (one_more (judged_of asked) readings reading (judged asked reading chunk at bytes chunk) (judged_whole asked reading chunk at bytes whole are))))
      ∙ ap (both (state_of asked.plan (found_by asked file (readings ++ reading ∷ []))))
      (unread
      ∙ ap (λ (s : FileAfterState). s.unread) is
      ∙ ap (unread_state asked.plan) (sym (none_more unread_of readings reading (unread_whole asked reading chunk at whole))));
}

pub unread_when_ok : {X E : Type 0} (r : Result X E) (asked : Asked) (chunk : Piece) (bytes : List ℕ) (before after : FileAfterState) → after.found ≡ before.found → OnOk r (after.unread.count ≡ before.unread.count + 1) → OnOk r (after.unread.lines ≡ before.unread.lines ++ unread_line asked.plan chunk) → OnOk r (after.unread.chunks ≡ before.unread.chunks ++ chunk ∷ []) → OnOk r (IsAdded asked chunk false bytes before after)
unread_when_ok (Ok x) asked chunk bytes before after found count lines pieces = unread_added asked chunk bytes before after found count lines pieces
unread_when_ok (Err e) asked chunk bytes before after found count lines pieces = count

pub judged_when_ok : {X E : Type 0} (r : Result X E) (asked : Asked) (chunk : Piece) (bytes : List ℕ) (finding : Finding) (before after : FileAfterState) → finding ≡ finding_on (writes_of asked.plan) asked.lines chunk bytes → ((file : ℕ) (chunks : List Judged) → before.found ≡ state_of asked.plan (record { file = file; chunks = chunks }) → OnOk r (after.found ≡ state_of asked.plan (record { file = file; chunks = chunks ++ (record { chunk = chunk; finding = finding }) ∷ [] }))) → OnOk r (total_of after.found.counts ≡ total_of before.found.counts + 1) → after.unread ≡ before.unread → OnOk r (IsAdded asked chunk true bytes before after)
judged_when_ok (Ok x) asked chunk bytes finding before after by adds total unread = judged_added asked chunk bytes finding before after by adds total unread
judged_when_ok (Err e) asked chunk bytes finding before after by adds total unread = total
