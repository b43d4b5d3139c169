-- Rows of chunks that are read one after another.
use Rattle.std.proofs.Common.{◌≡◌, ℕ, suc, ◌+◌, ◌≤◌, List, [], ◌∷◌, ◌++◌, Some, None, length, map, flat_map, cond, refl, sym, ap, subst, ◌∙◌, arith}
use Rattle.std.proofs.lemmas.List.{append-nil, length-append, map-append}
use Rattle.std.proofs.lemmas.Grind.{flat_map-append}
use Rattle.jr_model.specs.declared.blocks.Piece.{Piece}
use Rattle.jr_model.specs.Plan.{Plan}
use Rattle.jr_model.specs.Replies.{EngineState}
use Rattle.jr_after_report.specs.Reports.{FileState}
use Rattle.jr_after_chunks.specs.Next.{next_chunk}
use Rattle.jr_cli_after.specs.Found.{Asked, FileAfterState, UnreadState, after_state, state_found, state_unread}
use Rattle.jr_cli_after.specs.Reading.{AreTold, IsFileAfter, IsRow, IsStep, IsWalk, count_in}
use Rattle.jr_cli_after.specs.Readings.{AreBeside, AreFilesRead, AreRowsRead, FileRead, IsFileRead, IsRowRead, Reading, RowRead, end_of, file_readings, is_split, piece_of, readings_by, readings_of}
use Rattle.jr_cli_after.proofs.RowLemmas.{many}

-- one row more
pub rows_on : (plan : Plan) (file : ℕ) (old : EngineState) (from : ℕ) (rows : List RowRead) (at : ℕ) (mid : EngineState) (row : RowRead) → AreRowsRead plan file old from rows at mid → IsRowRead plan file mid at row → AreRowsRead plan file old from (rows ++ row ∷ []) (end_of row.call.piece) row.engine
rows_on plan file old from [] at mid row done is =
    (subst (λ (n : ℕ). IsRowRead plan file old n row) done.0 (subst (λ (e : EngineState). IsRowRead plan file e at row) done.1 is), (refl, refl))
rows_on plan file old from (first ∷ rows) at mid row done is =
    (done.0, rows_on plan file first.engine (end_of first.call.piece) rows at mid row done.1 is)

-- a row that was read by these calls
abbrev row_read : (asked : Asked) (first piece : Piece) (chunks : List Piece) (old new : EngineState) (before after : FileAfterState) → IsRow asked.plan first chunks piece → IsStep asked chunks piece old before after new → RowRead
row_read asked first piece chunks old new before after row step =
    record { first = first; others = row.others; call = step.call; alone = step.alone; engine = new }

row_is : (asked : Asked) (file from : ℕ) (first piece : Piece) (chunks : List Piece) (old new : EngineState) (before after : FileAfterState) (row : IsRow asked.plan first chunks piece) (step : IsStep asked chunks piece old before after new) → next_chunk asked.plan.clones file from ≡ Some first → first.file ≡ file → IsRowRead asked.plan file old from (row_read asked first piece chunks old new before after row step)
row_is asked file from first piece chunks old new before after row step next in_file = record {
  first = next;
  others =
      subst (λ (p : Piece). AreBeside asked.plan file (end_of first) row.others (end_of p)) (sym step.piece_is)
      (subst (λ (f : ℕ). AreBeside asked.plan f (end_of first) row.others (end_of piece)) in_file row.beside);
  in_file = ap (λ (p : Piece). p.file) step.piece_is ∙ row.in_file ∙ in_file;
  begins = ap (λ (p : Piece). p.offset) step.piece_is ∙ row.begins;
  call = step.is;
  each = subst (λ (l : List Piece). map piece_of step.alone ≡ cond (is_split step.call l) l []) row.chunks_are step.each;
  alone = step.are;
}

-- one file more
pub files_on : (plan : Plan) (file : ℕ) (old : EngineState) (files : List FileRead) (mid : EngineState) (one : FileRead) → AreFilesRead plan file old files mid → one.file ≡ file + length files → IsFileRead plan mid one → AreFilesRead plan file old (files ++ one ∷ []) one.engine
files_on plan file old [] mid one done at is = (omega (arith, at), subst (λ (e : EngineState). IsFileRead plan e one) done is, refl)
files_on plan file old (first ∷ files) mid one done at is =
    (done.0, done.1, files_on plan (suc file) first.engine files mid one done.2 (omega (arith, at)) is)

-- a walk that has read nothing, and one more step of a walk
pub walk_begins : (asked : Asked) (file : ℕ) (engine : EngineState) (told : FileAfterState) → told ≡ after_state asked file [] → IsWalk asked file engine 0 told engine
walk_begins asked file engine told is = record {
  rows = [];
  read = (refl, refl);
  told = is;
  few = omega (arith, ap count_in is);
}

pub walk_on : (asked : Asked) (file : ℕ) (old : EngineState) (from : ℕ) (before after : FileAfterState) (mid new : EngineState) (first piece : Piece) (chunks : List Piece) (end : ℕ) → end ≡ end_of piece → IsWalk asked file old from before mid → next_chunk asked.plan.clones file from ≡ Some first → first.file ≡ file → from ≤ first.offset → IsRow asked.plan first chunks piece → IsStep asked chunks piece mid before after new → IsWalk asked file old end after new
walk_on asked file old from before after mid new first piece chunks end ends walk next in_file above row step = record {
  rows = walk.rows ++ read ∷ [];
  read =
      subst (λ (n : ℕ). AreRowsRead asked.plan file old 0 (walk.rows ++ read ∷ []) n new) (ap end_of step.piece_is ∙ sym ends)
      (rows_on asked.plan file old 0 walk.rows from mid read walk.read
      (row_is asked file from first piece chunks mid new before after row step next in_file));
  told = step.added.added file (flat_map readings_of walk.rows) walk.told ∙ ap (after_state asked file) more;
  few = omega (arith, ends, walk.few, step.added.count, many step.call step.alone chunks step.each, row.few, row.begins, above);
}
  where
    read : RowRead
    read = row_read asked first piece chunks mid new before after row step

    more : flat_map readings_of walk.rows ++ readings_by step.call step.alone chunks ≡ flat_map readings_of (walk.rows ++ read ∷ [])
    more =
        ap (λ (l : List Piece). flat_map readings_of walk.rows ++ readings_by step.call step.alone l) row.chunks_are
        ∙ ap (λ (l : List Reading). flat_map readings_of walk.rows ++ l) (sym (append-nil (readings_of read)))
        ∙ sym (flat_map-append readings_of walk.rows (read ∷ []))

pub walk_ends : (asked : Asked) (file : ℕ) (old : EngineState) (end : ℕ) (told : FileAfterState) (new : EngineState) → IsWalk asked file old end told new → next_chunk asked.plan.clones file end ≡ None → IsFileAfter asked file old told new
walk_ends asked file old end told new walk none = record {
  one = record { file = file; rows = walk.rows; engine = new };
  file_is = refl;
  read = record { end = end; read = walk.read; none = none };
  told = walk.told;
  engine_is = refl;
}

-- files that were told of, and one more
pub told_on : (asked : Asked) (old : EngineState) (count : ℕ) (found more_found : List FileState) (unread more_unread : List UnreadState) (mid new : EngineState) (told : FileAfterState) (number : ℕ) → number ≡ count → AreTold asked old count found unread mid → IsFileAfter asked number mid told new → more_found ≡ found ++ told.found ∷ [] → more_unread ≡ unread ++ told.unread ∷ [] → AreTold asked old (count + 1) more_found more_unread new
told_on asked old count found more_found unread more_unread mid new told number same so_far step is_found is_unread = record {
  files = so_far.files ++ step.one ∷ [];
  each = length-append so_far.files (step.one ∷ []) ∙ ap (λ n. n + 1) so_far.each;
  read =
      subst (λ (e : EngineState). AreFilesRead asked.plan 0 old (so_far.files ++ step.one ∷ []) e) step.engine_is
      (files_on asked.plan 0 old so_far.files mid step.one so_far.read (omega (arith, step.file_is, same, so_far.each)) step.read);
  found_is =
      is_found
      ∙ ap (λ (l : List FileState). l ++ told.found ∷ []) so_far.found_is
      ∙ ap (λ (s : FileAfterState). map (state_found asked) so_far.files ++ s.found ∷ []) (told_by step)
      ∙ sym (map-append (state_found asked) so_far.files (step.one ∷ []));
  unread_is =
      is_unread
      ∙ ap (λ (l : List UnreadState). l ++ told.unread ∷ []) so_far.unread_is
      ∙ ap (λ (s : FileAfterState). map (state_unread asked) so_far.files ++ s.unread ∷ []) (told_by step)
      ∙ sym (map-append (state_unread asked) so_far.files (step.one ∷ []));
}
  where
    told_by : (step : IsFileAfter asked number mid told new) → told ≡ after_state asked step.one.file (file_readings step.one)
    told_by step = step.told ∙ ap (λ (f : ℕ). after_state asked f (file_readings step.one)) (sym step.file_is)
