-- Chunks that are read in rows, and what they add to what is told of their file.
use Rattle.std.proofs.Common.{◌≡◌, ℕ, ◌+◌, ◌<◌, Bool, true, false, not, ◌&&◌, ◌==◌, cond, List, [], ◌∷◌, ◌++◌, Some, length, map, take, get_or, refl, sym, ap, subst, ◌∙◌, arith}
use Rattle.std.proofs.lemmas.Bool.{cond-false}
use Rattle.std.proofs.lemmas.List.{append-nil, append_assoc, length-append, length-map, map-append, take_more}
use Rattle.std.proofs.lemmas.List.Elements.{All-push, All-same, All-weaker}
use Rattle.jr_model.specs.declared.blocks.Piece.{Piece}
use Rattle.jr_model.specs.Plan.{Plan}
use Rattle.jr_model.specs.Replies.{EngineState}
use Rattle.jr_after_chunks.specs.Next.{next_chunk}
use Rattle.jr_cli_after.specs.Found.{Asked, FileAfterState, after_state}
use Rattle.jr_cli_after.specs.Reading.{AreAdded, AreAlone, HasRead, IsAdded, IsFollowing, IsPartOf, IsRow, IsStep, reading_at}
use Rattle.jr_cli_after.specs.Readings.{AreBeside, AreCalls, Call, Reading, end_of, is_split, is_whole, part_of, piece_of, reading_in, reading_of, readings_by}

pub add_none : (asked : Asked) (state : FileAfterState) → AreAdded asked [] state state
add_none asked state = record {
  count = omega arith;
  added = λ file readings is. is ∙ ap (after_state asked file) (sym (append-nil readings));
}

pub add_on : (asked : Asked) (first second : List Reading) (a b c : FileAfterState) → AreAdded asked first a b → AreAdded asked second b c → AreAdded asked (first ++ second) a c
add_on asked first second a b c one two = record {
  count = omega (arith, one.count, two.count, length-append first second);
  added = λ file readings is.
      two.added file (readings ++ first) (one.added file readings is) ∙ ap (after_state asked file) (append_assoc readings first second);
}

pub add_one : (asked : Asked) (reading : Reading) (before after : FileAfterState) → IsAdded asked reading.chunk reading.whole reading.bytes before after → AreAdded asked (reading ∷ []) before after
add_one asked reading before after one = record { count = one.count; added = λ file readings is. one.added reading file readings refl refl refl is }

pub parts_on : (asked : Asked) (piece : Piece) (whole : Bool) (bytes part : List ℕ) (chunks : List Piece) (i : ℕ) (d : Piece) (a b c : FileAfterState) → i < length chunks → AreAdded asked (map (reading_at piece whole bytes) (take i chunks)) a b → part ≡ part_of piece.offset bytes (get_or chunks i d) → IsAdded asked (get_or chunks i d) whole part b c → AreAdded asked (map (reading_at piece whole bytes) (take (i + 1) chunks)) a c
parts_on asked piece whole bytes part chunks i d a b c within so_far value one =
    subst (λ (l : List Piece). AreAdded asked (map (reading_at piece whole bytes) l) a c) (sym (take_more chunks i d within))
    (subst (λ (l : List Reading). AreAdded asked l a c) (sym (map-append (reading_at piece whole bytes) (take i chunks) (get_or chunks i d ∷ [])))
    (add_on asked (map (reading_at piece whole bytes) (take i chunks)) (reading_at piece whole bytes (get_or chunks i d) ∷ []) a b c so_far
    (add_one asked (reading_at piece whole bytes (get_or chunks i d)) b c (subst (λ (l : List ℕ). IsAdded asked (get_or chunks i d) whole l b c) value one))))

-- calls one after another
calls_on : (old mid new : EngineState) (calls more : List Call) → AreCalls old calls mid → AreCalls mid more new → AreCalls old (calls ++ more) new
calls_on old mid new [] more done rest = subst (λ (e : EngineState). AreCalls e more new) done rest
calls_on old mid new (call ∷ calls) more done rest = (done.0, calls_on call.engine mid new calls more done.1 rest)

pub alone_none : (asked : Asked) (engine : EngineState) (state : FileAfterState) → AreAlone asked [] engine state state engine
alone_none asked engine state = record { calls = []; each = refl; are = refl; added = add_none asked state }

pub alone_one : (asked : Asked) (chunk : Piece) (whole : Bool) (bytes : List ℕ) (old new : EngineState) (before after : FileAfterState) → HasRead chunk old whole bytes new → IsAdded asked chunk whole bytes before after → AreAlone asked (chunk ∷ []) old before after new
alone_one asked chunk whole bytes old new before after read one = record {
  calls = read.call ∷ [];
  each = ap (λ (p : Piece). p ∷ []) read.piece_is;
  are = (read.is, sym read.engine_is);
  added = record {
    count = one.count;
    added = λ file readings is. one.added (reading_of read.call) file readings read.piece_is read.whole_is read.bytes_are is;
  };
}

pub alone_on : (asked : Asked) (chunks more : List Piece) (old mid new : EngineState) (a b c : FileAfterState) → AreAlone asked chunks old a b mid → AreAlone asked more mid b c new → AreAlone asked (chunks ++ more) old a c new
alone_on asked chunks more old mid new a b c one two = record {
  calls = one.calls ++ two.calls;
  each =
      map-append piece_of one.calls two.calls
      ∙ ap (λ (l : List Piece). l ++ map piece_of two.calls) one.each
      ∙ ap (λ (l : List Piece). chunks ++ l) two.each;
  are = calls_on old mid new one.calls two.calls one.are two.are;
  added =
      subst (λ (l : List Reading). AreAdded asked l a c) (sym (map-append reading_of one.calls two.calls))
      (add_on asked (map reading_of one.calls) (map reading_of two.calls) a b c one.added two.added);
}

pub alone_next : (asked : Asked) (chunks : List Piece) (i : ℕ) (d : Piece) (old mid new : EngineState) (a b c : FileAfterState) → i < length chunks → AreAlone asked (take i chunks) old a b mid → AreAlone asked (get_or chunks i d ∷ []) mid b c new → AreAlone asked (take (i + 1) chunks) old a c new
alone_next asked chunks i d old mid new a b c within so_far one =
    subst (λ (l : List Piece). AreAlone asked l old a c new) (sym (take_more chunks i d within))
    (alone_on asked (take i chunks) (get_or chunks i d ∷ []) old mid new a b c so_far one)

-- a row is read by one call for all of it
same_split : (call : Call) (chunks : List Piece) (whole : Bool) → is_whole call ≡ whole → is_split call chunks ≡ (not whole && not (length chunks == 1))
same_split call chunks whole is = ap (λ (b : Bool). not b && not (length chunks == 1)) is

reads_same : (call : Call) (piece : Piece) (whole : Bool) (bytes : List ℕ) (chunks : List Piece) → call.piece ≡ piece → is_whole call ≡ whole → call.bytes ≡ bytes → map (reading_in call) chunks ≡ map (reading_at piece whole bytes) chunks
reads_same call piece whole bytes chunks piece_is whole_is bytes_are =
    ap (λ (p : Piece). map (reading_at p (is_whole call) call.bytes) chunks) piece_is
    ∙ ap (λ (w : Bool). map (reading_at piece w call.bytes) chunks) whole_is
    ∙ ap (λ (l : List ℕ). map (reading_at piece whole l) chunks) bytes_are

pub step_at_once : (asked : Asked) (chunks : List Piece) (piece : Piece) (whole : Bool) (bytes : List ℕ) (old new : EngineState) (before after : FileAfterState) → HasRead piece old whole bytes new → (not whole && not (length chunks == 1)) ≡ false → AreAdded asked (map (reading_at piece whole bytes) chunks) before after → IsStep asked chunks piece old before after new
step_at_once asked chunks piece whole bytes old new before after read other added = record {
  call = read.call;
  alone = [];
  piece_is = read.piece_is;
  is = read.is;
  each = sym (cond-false (is_split read.call chunks) chunks [] split);
  are = sym read.engine_is;
  added =
      subst (λ (l : List Reading). AreAdded asked l before after)
      (sym (cond-false (is_split read.call chunks) (map reading_of []) (map (reading_in read.call) chunks) split
      ∙ reads_same read.call piece whole bytes chunks read.piece_is read.whole_is read.bytes_are))
      added;
}
  where
    split : is_split read.call chunks ≡ false
    split = same_split read.call chunks whole read.whole_is ∙ other

-- a reading for each chunk
many_by : (call : Call) (alone : List Call) (chunks : List Piece) (t : Bool) → map piece_of alone ≡ cond t chunks [] → length (cond t (map reading_of alone) (map (reading_in call) chunks)) ≡ length chunks
many_by call alone chunks true each =
    length-map alone reading_of ∙ sym (length-map alone piece_of) ∙ ap (λ (l : List Piece). length l) each
many_by call alone chunks false each = length-map chunks (reading_in call)

pub many : (call : Call) (alone : List Call) (chunks : List Piece) → map piece_of alone ≡ cond (is_split call chunks) chunks [] → length (readings_by call alone chunks) ≡ length chunks
many call alone chunks each = many_by call alone chunks (is_split call chunks) each

-- a chunk more of a row
beside_on : (plan : Plan) (file from : ℕ) (chunks : List Piece) (mid : ℕ) (chunk : Piece) (end : ℕ) → AreBeside plan file from chunks mid → next_chunk plan.clones file mid ≡ Some chunk → chunk.offset ≡ mid → end ≡ end_of chunk → AreBeside plan file from (chunks ++ chunk ∷ []) end
beside_on plan file from [] mid chunk end done next begins ends =
    (ap (next_chunk plan.clones file) (sym done) ∙ next, begins ∙ done, ends)
beside_on plan file from (first ∷ chunks) mid chunk end done next begins ends =
    (done.0, done.1, beside_on plan file (end_of first) chunks mid chunk end done.2 next begins ends)

abbrev longer : Piece → ℕ → Piece
longer piece len = record piece { len = len }

pub row_on : (plan : Plan) (first : Piece) (chunks more : List Piece) (piece chunk : Piece) (len : ℕ) → len ≡ piece.len + chunk.len → more ≡ chunks ++ chunk ∷ [] → IsRow plan first chunks piece → IsFollowing plan piece chunk → IsRow plan first more (longer piece len)
row_on plan first chunks more piece chunk len sum are row next_one = record {
  others = row.others ++ chunk ∷ [];
  chunks_are = are ∙ ap (λ (l : List Piece). l ++ chunk ∷ []) row.chunks_are;
  beside =
      beside_on plan first.file (end_of first) row.others (end_of piece) chunk (end_of (longer piece len)) row.beside
      (ap (λ (f : ℕ). next_chunk plan.clones f (end_of piece)) (sym row.in_file) ∙ next_one.next)
      next_one.begins
      (omega (arith, sum, next_one.begins));
  in_file = row.in_file;
  begins = row.begins;
  parts =
      All-same (IsPartOf (longer piece len)) more (chunks ++ chunk ∷ []) are
      (All-push (IsPartOf (longer piece len)) chunks chunk (All-weaker (IsPartOf piece) (IsPartOf (longer piece len)) (λ one is. record { file_is = is.file_is; some = is.some; low = is.low; high = omega (arith, is.high, sum) }) chunks row.parts)
      (record { file_is = next_one.readable.file_is; some = next_one.readable.some; low = omega (arith, next_one.begins); high = omega (arith, next_one.begins, sum) }));
  few = omega (arith, ap (λ (l : List Piece). length l) are, length-append chunks (chunk ∷ []), row.few, sum, next_one.readable.some);
  high = omega (arith, next_one.readable.high, next_one.begins, sum);
}
