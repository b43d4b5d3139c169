-- Every step of the machine keeps a legal history legal.
use Rattle.std.proofs.Common.{◌≡◌, ℕ, zero, suc, ◌-◌, ◌<◌, ◌≤◌, List, [], ◌∷◌, ◌++◌, length, map, take, drop, replicate, Bool, true, false, cond, ◌&&◌, not, refl, sym, ◌∙◌, ap, subst, arith, append_assoc, append-nil, length-append, length-take, length-drop, lit<}
use Rattle.std.specs.List.{range_with_len}
use Rattle.std.specs.Prelude.{◌+◌, ◌*◌, ◌%◌, ◌/◌, max, Option, Some, None, slice_get, slice_index, slice_range, bit_xor, nat_lt, ◌==◌, is_none}
use Rattle.std.specs.Option.{option_map}
use Rattle.std.proofs.Math.Nat.{div-mul-le_self, mul-le-mul_left, le-max_left, le-max_right}
use Rattle.std.proofs.lemmas.Nat.{le-div}
use Rattle.std.proofs.lemmas.Bool.{ltb-true, and_parts, and_from, not_from_false, cond_both, cond-true, cond-false, eq-eqb, eqb-true, lt-ltb}
use Rattle.std.proofs.lemmas.List.{length-set, length-replicate}
use Rattle.std.proofs.lemmas.List.Elements.{filter_map-append}
use Rattle.jr_model.specs.declared.contents.VerifyKind.{VerifyKind}
use Rattle.jr_model.specs.declared.contents.VerifyKind.TheVariants as verify
use Rattle.jr_model.specs.declared.contents.Method.{Method}
use Rattle.jr_model.specs.declared.contents.Expected.{Expected}
use Rattle.jr_model.specs.declared.contents.Expected.TheVariants as expected
use Rattle.jr_model.specs.declared.blocks.Piece.{Piece}
use Rattle.jr_model.specs.declared.events.Event.{Event}
use Rattle.jr_model.specs.declared.events.Event.TheVariants.{End, Verdict}
use Rattle.jr_model.specs.declared.events.Outcome.{Outcome}
use Rattle.jr_model.specs.declared.events.Outcome.TheVariants.{Whole, Short}
use Rattle.jr_model.specs.declared.events.Verdict.{Verdict as GivenVerdict}
use Rattle.jr_model.specs.declared.events.Verdict.TheVariants.{Good, Bad, Void}
use Rattle.jr_model.specs.declared.events.Part.{Part}
use Rattle.jr_model.specs.declared.events.Part.TheVariants as part
use Rattle.jr_model.specs.declared.events.What.{What}
use Rattle.jr_model.specs.declared.events.What.TheVariants.{Header, Digest, DataArea, Byte, Chunk}
use Rattle.jr_model.specs.declared.events.WriteId.{WriteId}
use Rattle.jr_model.specs.declared.replies.Reply.{Reply}
use Rattle.jr_model.specs.declared.replies.Reply.TheVariants as reply
use Rattle.jr_model.specs.declared.steps.DeskFault.{DeskFault}
use Rattle.jr_model.specs.declared.steps.DeskFault.TheVariants.{Stranger, Twice, WrongKind, Stopped}
use Rattle.jr_model.specs.declared.steps.StepReply.TheVariants as answer
use Rattle.jr_model.specs.declared.steps.Step.{Step}
use Rattle.jr_model.specs.declared.steps.Step.TheVariants as step
use Rattle.jr_model.specs.declared.tickets.TicketKind.{TicketKind}
use Rattle.jr_model.specs.declared.tickets.TicketKind.TheVariants as ticket
use Rattle.jr_model.specs.Choice.{choice}
use Rattle.jr_model.specs.Content.{pattern_bytes, block_version, chunk_version, magic, chunk_at, expected_of, expected_headers, expected_pattern, digest_of, header_of, chunks_in, chunk_header}
use Rattle.jr_model.specs.Draws.{draws_of}
use Rattle.jr_model.specs.History.{Started, started, started_by, flies, outcome_of, is_judged, is_judged_kind, ended_whole}
use Rattle.jr_model.specs.Judgement.{digest_in, first_difference, byte_verdict, verdict_of, header_verdict, same_bytes, in_chunk, first_bad, bytes_of_chunk, chunk_verdict, own_header, own_chunk_verdict, own_header_verdict, own_interval, cuts_whole, own_chunks_verdict, own_digest_verdict, own_verdict_of, pattern_verdict}
use Rattle.jr_model.specs.Legal.{is_legal, is_void, outcome_fits, end_fits, verdict_fits, is_header_finding, is_chunk_finding, digest_finds, own_digest_finds, own_finds, own_says, kind_finds, kind_says, job_says, ticket_says}
use Rattle.jr_model.specs.Machine.{expected_by, said_of, State, Stepped, is_skip, choices_after, taken, take_answer, work_of, verdict_in_job, verdict_on, seed_of_draw, content_of_io, read_of, bytes_read, first_state, end_refusal, judge_refusal, is_judgeable, read_ends, ends_by, machine_end_by, machine_judge_by, machine_take, machine_step, machine_run}
use Rattle.jr_model.specs.Plan.{Plan, SubJob, IsNumbered, clone_of}
use Rattle.jr_model.specs.Races.{has_raced}
use Rattle.jr_model.specs.Replies.{FileBytes, outcome_for, stored, stored_in, reply_to_read, reply_to_write}
use Rattle.jr_model.proofs.LegalLaws.{is_legal-more, choice_may_happen, started_planned}

-- what a take appends keeps the history legal
pub legal_choices : (limit : ℕ) (plan : Plan) (worker : ℕ) (history : List Event) (o : Option Event) → IsNumbered plan → is_legal plan history ≡ true → choice plan history worker ≡ o → is_legal plan (history ++ choices_after limit plan worker history o) ≡ true
legal_choices limit plan worker history None numbered h same = rw append-nil h
legal_choices zero plan worker history (Some e) numbered h same =
    is_legal-more plan history e h (choice_may_happen plan history worker e numbered same)
legal_choices (suc limit) plan worker history (Some e) numbered h same =
    let next = history ++ e ∷ [] in
    let longer : is_legal plan next ≡ true = is_legal-more plan history e h (choice_may_happen plan history worker e numbered same) in
    let rest = choices_after limit plan worker next (choice plan next worker) in
    cond_both (is_skip e) (e ∷ rest) (e ∷ []) (λ (events : List Event). is_legal plan (history ++ events) ≡ true)
    (λ skipped. subst (λ (all : List Event). is_legal plan all ≡ true) (append_assoc history (e ∷ []) rest)
    (legal_choices limit plan worker next (choice plan next worker) numbered longer refl))
    (λ started. longer)

-- an outcome made of a count fits the length
pub outcome_for_fits : (count : Option ℕ) (len : ℕ) → outcome_fits (outcome_for count len) len ≡ true
outcome_for_fits None len = refl
outcome_for_fits (Some n) len =
    cond_both (nat_lt n len) (Short n) Whole (λ (o : Outcome). outcome_fits o len ≡ true) (λ below. below) (λ all. refl)

pub within_cond : (b : Bool) (o : Option ℕ) (n i : ℕ) → ((k : ℕ) → o ≡ Some k → k < n) → cond b (option_map suc o) (Some 0) ≡ Some i → i < suc n
within_cond true None n i f h = cc
within_cond true (Some k) n i f h =
    let below : k < n = f k refl in
    let same : suc k ≡ i = cc in
    omega (arith, same, below)
within_cond false o n i f h =
    let same : 0 ≡ i = cc in
    omega (arith, same)

-- a difference lies within the bytes
pub first_difference_within : (xs ys : List ℕ) (i : ℕ) → first_difference xs ys ≡ Some i → i < length xs
first_difference_within [] ys i h = cc
first_difference_within (x ∷ xs) [] i h = cc
first_difference_within (x ∷ xs) (y ∷ ys) i h =
    within_cond (x == y) (first_difference xs ys) (length xs) i (λ (k : ℕ) (found : first_difference xs ys ≡ Some k). first_difference_within xs ys k found) h

-- what a verdict by a pattern can be
pub byte_says : (P : GivenVerdict → Type 0) (o : Option ℕ) → P Good → ((i : ℕ) → o ≡ Some i → P (Bad (Byte i))) → P (byte_verdict o)
byte_says P None good bad = good
byte_says P (Some i) good bad = bad i refl

pub repeated_says : (P : GivenVerdict → Type 0) (pattern bytes : List ℕ) (len : ℕ) → length bytes ≤ len → P Good → ((i : ℕ) → i < len → P (Bad (Byte i))) → P (byte_verdict (first_difference bytes (pattern_bytes pattern (length bytes))))
repeated_says P pattern bytes len h good bad =
    byte_says P (first_difference bytes (pattern_bytes pattern (length bytes))) good
    (λ (i : ℕ) (found : first_difference bytes (pattern_bytes pattern (length bytes)) ≡ Some i).
    let below : i < length bytes = first_difference_within bytes (pattern_bytes pattern (length bytes)) i found in
    bad i (omega (arith, below, h)))

pub pattern_says : (P : GivenVerdict → Type 0) (pattern : Option (List ℕ)) (bytes : List ℕ) (len : ℕ) → length bytes ≤ len → P Good → ((i : ℕ) → i < len → P (Bad (Byte i))) → P (pattern_verdict pattern bytes)
pattern_says P None bytes len h good bad = good
pattern_says P (Some p) bytes len h good bad = repeated_says P p bytes len h good bad

pub pattern_fits : (pattern : Option (List ℕ)) (method : Method) (write : WriteId) (piece : Piece) (bytes : List ℕ) → method.kind ≡ verify.Pattern → length bytes ≤ piece.len → kind_says verify.Pattern method.interval piece.len (verdict_of method write piece (expected_pattern pattern) bytes) ≡ true
pattern_fits None method write piece bytes same h =
    ap (λ (kind : VerifyKind). kind_says verify.Pattern method.interval piece.len (own_verdict_of kind method.pattern piece bytes)) same
    ∙ pattern_says (λ (v : GivenVerdict). kind_says verify.Pattern method.interval piece.len v ≡ true) method.pattern bytes piece.len h refl (λ i below. lt-ltb i piece.len below)
pattern_fits (Some p) method write piece bytes same h =
    repeated_says (λ (v : GivenVerdict). kind_says verify.Pattern method.interval piece.len v ≡ true) p bytes piece.len h refl (λ i below. lt-ltb i piece.len below)

-- what a header's verdict can be
pub header_says : (P : GivenVerdict → Type 0) (kind : VerifyKind) (header bytes : List ℕ) → P Good → P (Bad Header) → P (Bad Digest) → P (Bad DataArea) → P (header_verdict kind header bytes)
header_says P kind header bytes good front digest area =
    cond_both (same_bytes (take 32 bytes) (take 32 header)) _ (Bad Header) P
    (λ _. cond_both (same_bytes (slice_range bytes 32 64) (drop 32 header)) _ (Bad Digest) P
    (λ _. cond_both (same_bytes (digest_of kind (drop 64 bytes)) (digest_in kind header)) Good (Bad DataArea) P (λ _. good) (λ _. area))
    (λ _. digest))
    (λ _. front)

-- what the first bad verdict of a list can be
pub first_says : (P : GivenVerdict → Type 0) (verdict : GivenVerdict) (verdicts : List GivenVerdict) → P verdict → P (first_bad verdicts) → P (first_bad (verdict ∷ verdicts))
first_says P Good verdicts here there = there
first_says P (Bad what) verdicts here there = here
first_says P Void verdicts here there = there

pub first_of_says : (P : GivenVerdict → Type 0) (f : ℕ → GivenVerdict) (from n : ℕ) → P Good → ((i : ℕ) → i < from + n → P (f i)) → P (first_bad (map f (range_with_len from n)))
first_of_says P f from zero good each = good
first_of_says P f from (suc n) good each =
    first_says P (f from) (map f (range_with_len (from + 1) n)) (each from (omega arith))
    (first_of_says P f (from + 1) n good (λ (i : ℕ) (below : i < from + 1 + n). each i (omega (arith, below))))

-- what the verdict by headers can be
pub headers_say : (P : GivenVerdict → Type 0) (method : Method) (write : WriteId) (piece : Piece) (seed : ℕ) (bytes : List ℕ)
    → P Good
    → ((method.interval == 0) ≡ true → P (Bad Header) × (P (Bad Digest) × P (Bad DataArea)))
    → ((method.interval == 0) ≡ false → (i : ℕ) → i < chunks_in method.interval piece → (found : Part) → P (Bad (Chunk i found)))
    → P (verdict_of method write piece (expected_headers method write piece seed) bytes)
headers_say P method write piece seed bytes good one each =
    cond_both (method.interval == 0) (expected.Header (header_of block_version method write piece seed)) (expected.Seed seed)
    (λ (e : Expected). P (verdict_of method write piece e bytes))
    (λ whole. header_says P method.kind (header_of block_version method write piece seed) bytes good (one whole).0 (one whole).1.0 (one whole).1.1)
    (λ cut. first_of_says P (chunk_verdict method write piece seed bytes) 0 (chunks_in method.interval piece) good
    (λ (i : ℕ) (below : i < 0 + chunks_in method.interval piece).
    let inside : i < chunks_in method.interval piece = omega (arith, below) in
    header_says (λ (v : GivenVerdict). P (in_chunk i v)) method.kind (chunk_header method write piece seed i) (bytes_of_chunk method.interval i bytes)
    good (each cut i inside part.Header) (each cut i inside part.Digest) (each cut i inside part.DataArea)))

-- headers find what a digest's check can find
pub digest_fits : (kind : VerifyKind) (method : Method) (write : WriteId) (piece : Piece) (seed : ℕ) (bytes : List ℕ)
    → ((what : What) → kind_finds kind method.interval piece.len what ≡ digest_finds method.interval piece.len what)
    → kind_says kind method.interval piece.len (verdict_of method write piece (expected_headers method write piece seed) bytes) ≡ true
digest_fits kind method write piece seed bytes same =
    headers_say (λ (v : GivenVerdict). kind_says kind method.interval piece.len v ≡ true) method write piece seed bytes refl
    (λ whole. (by_one whole Header refl, (by_one whole Digest refl, by_one whole DataArea refl)))
    (λ cut i inside found. same (Chunk i found)
    ∙ cond-false (method.interval == 0) (is_header_finding (Chunk i found)) (is_chunk_finding (piece.len / method.interval) (Chunk i found)) cut
    ∙ lt-ltb i (piece.len / method.interval) inside)
  where
    by_one : (method.interval == 0) ≡ true → (what : What) → is_header_finding what ≡ true → kind_says kind method.interval piece.len (Bad what) ≡ true
    by_one whole what finds =
        same what
        ∙ cond-true (method.interval == 0) (is_header_finding what) (is_chunk_finding (piece.len / method.interval) what) whole
        ∙ finds

-- the verdict on no more bytes than the piece has is one that its kind can find
verdict_fits_by : (kind : VerifyKind) (method : Method) (write : WriteId) (piece : Piece) (seed : ℕ) (bytes : List ℕ) → method.kind ≡ kind → length bytes ≤ piece.len → kind_says kind method.interval piece.len (verdict_of method write piece (expected_of kind method write piece seed) bytes) ≡ true
verdict_fits_by verify.Plain method write piece seed bytes same h =
    ap (λ (kind : VerifyKind). kind_says verify.Plain method.interval piece.len (own_verdict_of kind method.pattern piece bytes)) same
verdict_fits_by verify.Pattern method write piece seed bytes same h = pattern_fits method.pattern method write piece bytes same h
verdict_fits_by verify.Md5 method write piece seed bytes same h = digest_fits verify.Md5 method write piece seed bytes (λ what. refl)
verdict_fits_by verify.Sha1 method write piece seed bytes same h = digest_fits verify.Sha1 method write piece seed bytes (λ what. refl)
verdict_fits_by verify.Sha256 method write piece seed bytes same h = digest_fits verify.Sha256 method write piece seed bytes (λ what. refl)

pub verdict_of_fits : (method : Method) (write : WriteId) (piece : Piece) (seed : ℕ) (bytes : List ℕ) → length bytes ≤ piece.len → kind_says method.kind method.interval piece.len (verdict_of method write piece (expected_of method.kind method write piece seed) bytes) ≡ true
verdict_of_fits method write piece seed bytes h = verdict_fits_by method.kind method write piece seed bytes refl h

-- what bytes say of themselves is what a checked read may find

-- a chunk of such an interval is one of the 512-byte blocks, by its number
chunk_below : (interval len i : ℕ) → cuts_whole interval len ≡ true → i < len / interval → i < max 1 (len / 512)
chunk_below interval len i cuts below =
    let parts = and_parts (nat_lt 0 interval && (interval % 512 == 0)) (len % interval == 0) cuts in
    let front = and_parts (nat_lt 0 interval) (interval % 512 == 0) parts.0 in
    let some : 0 < interval = ltb-true 0 interval front.0 in
    let sectors : interval % 512 ≡ 0 = eqb-true (interval % 512) 0 front.1 in
    let least : 512 ≤ interval = omega (arith, some, sectors) in
    let all : len / interval * interval ≤ len = div-mul-le_self len interval in
    let each : len / interval * 512 ≤ len / interval * interval = mul-le-mul_left (len / interval) least in
    let fewer : len / interval ≤ len / 512 = le-div (len / interval) len 512 (lit< tt) (omega (arith, all, each)) in
    let most : len / 512 ≤ max 1 (len / 512) = le-max_right 1 (len / 512) in
    omega (arith, below, fewer, most)

own_digest_fits : (kind : VerifyKind) (piece : Piece) (bytes : List ℕ) → ((what : What) → own_finds kind piece.len what ≡ own_digest_finds piece.len what) → own_says kind piece.len (own_digest_verdict kind piece bytes) ≡ true
own_digest_fits kind piece bytes same =
    let interval = own_interval bytes in
    cond_both (same_bytes (take 4 bytes) (magic chunk_version)) (own_chunks_verdict kind interval piece bytes) (own_header_verdict block_version kind piece bytes)
    (λ (v : GivenVerdict). own_says kind piece.len v ≡ true)
    (λ _. cond_both (cuts_whole interval piece.len) _ (Bad (Chunk 0 part.Header)) (λ (v : GivenVerdict). own_says kind piece.len v ≡ true)
    (λ (cuts : cuts_whole interval piece.len ≡ true). first_of_says (λ (v : GivenVerdict). own_says kind piece.len v ≡ true) (own_chunk_verdict kind interval piece bytes) 0 (chunks_in interval piece) refl
    (λ (i : ℕ) (below : i < 0 + chunks_in interval piece).
    let inside : i < max 1 (piece.len / 512) = chunk_below interval piece.len i cuts (omega (arith, below)) in
    header_says (λ (v : GivenVerdict). own_says kind piece.len (in_chunk i v) ≡ true) kind (own_header chunk_version kind (chunk_at interval piece i) (bytes_of_chunk interval i bytes)) (bytes_of_chunk interval i bytes)
    refl (of_chunk i part.Header inside) (of_chunk i part.Digest inside) (of_chunk i part.DataArea inside)))
    (λ _. of_chunk 0 part.Header (omega (arith, le-max_left 1 (piece.len / 512)))))
    (λ _. header_says (λ (v : GivenVerdict). own_says kind piece.len v ≡ true) kind (own_header block_version kind piece bytes) bytes refl (same Header) (same Digest) (same DataArea))
  where
    of_chunk : (i : ℕ) (found : Part) → i < max 1 (piece.len / 512) → own_says kind piece.len (Bad (Chunk i found)) ≡ true
    of_chunk i found inside = same (Chunk i found) ∙ lt-ltb i (max 1 (piece.len / 512)) inside

pub own_verdict_fits : (kind : VerifyKind) (pattern : Option (List ℕ)) (piece : Piece) (bytes : List ℕ) → length bytes ≤ piece.len → own_says kind piece.len (own_verdict_of kind pattern piece bytes) ≡ true
own_verdict_fits verify.Plain pattern piece bytes h = refl
own_verdict_fits verify.Pattern pattern piece bytes h =
    pattern_says (λ (v : GivenVerdict). own_says verify.Pattern piece.len v ≡ true) pattern bytes piece.len h refl (λ i below. lt-ltb i piece.len below)
own_verdict_fits verify.Md5 pattern piece bytes h = own_digest_fits verify.Md5 piece bytes (λ what. refl)
own_verdict_fits verify.Sha1 pattern piece bytes h = own_digest_fits verify.Sha1 piece bytes (λ what. refl)
own_verdict_fits verify.Sha256 pattern piece bytes h = own_digest_fits verify.Sha256 piece bytes (λ what. refl)

ticket_says_fits : (kind : TicketKind) (method : Method) (io : Started) (seed : ℕ) (bytes : List ℕ) → is_judged_kind kind ≡ true → length bytes ≤ io.piece.len → ticket_says kind method io.piece.len (verdict_of method io.write io.piece (expected_by kind method io seed) bytes) ≡ true
ticket_says_fits ticket.Probe method io seed bytes judged h = verdict_of_fits method io.write io.piece seed bytes h
ticket_says_fits ticket.ReadCheck method io seed bytes judged h = own_verdict_fits method.kind method.pattern io.piece bytes h
ticket_says_fits ticket.Read method io seed bytes judged h = cc
ticket_says_fits ticket.Write method io seed bytes judged h = cc

pub job_says_fits : (job : Option SubJob) (found : SubJob) (io : Started) (seed : ℕ) (bytes : List ℕ) → job ≡ Some found → is_judged_kind io.kind ≡ true → length bytes ≤ io.piece.len → job_says job io.kind io.piece.len (verdict_in_job job io seed bytes) ≡ true
job_says_fits None found io seed bytes planned judged h = cc
job_says_fits (Some job) found io seed bytes planned judged h = ticket_says_fits io.kind job.method io seed bytes judged h

-- what a read leaves in its buffer is no longer than its piece

pub range_short : (file : Option FileBytes) (offset n : ℕ) → length (stored_in file offset n) ≤ n
range_short None offset n = omega arith
range_short (Some f) offset n = omega (arith, length-take n (drop (offset - f.low) f.bytes))

pub reply_short : (reply : Reply) (bytes : List ℕ) (n : ℕ) → length bytes ≤ n → length (reply_to_read reply bytes (replicate n 0)).buffer ≤ n
reply_short reply.Pass bytes n h = h
reply_short reply.Fail bytes n h = omega (arith, length-replicate {A = ℕ} n 0)
reply_short (reply.Short k) bytes n h =
    omega (arith, h, length-append (take k bytes) (drop k (replicate n 0)), length-take k bytes, length-drop k (replicate {A = ℕ} n 0), length-replicate {A = ℕ} n 0)
reply_short (reply.Torn k) bytes n h = omega (arith, length-replicate {A = ℕ} n 0)
reply_short (reply.Flip i) bytes n h =
    omega (arith, h, length-set bytes i (bit_xor (slice_index bytes i) 0xff))
reply_short reply.Drop bytes n h = h
reply_short (reply.Bytes new) bytes n h =
    omega (arith, h, length-append (take (length bytes) new) (drop (length new) bytes), length-take (length bytes) new, length-drop (length new) bytes)

pub read_of_short : (memory : List FileBytes) (reply : Reply) (io : Started) → length (read_of memory reply io).buffer ≤ io.piece.len
read_of_short memory reply io =
    reply_short reply (stored memory io.piece.file io.piece.offset io.piece.len) io.piece.len
    (range_short (slice_get memory io.piece.file) io.piece.offset io.piece.len)

-- the bytes that are kept of reads and checks are no longer than their pieces
unfoldable pub FitPieces : List Started → List (ℕ × List ℕ) → Type 0
FitPieces ios [] = Unit {0}
FitPieces ios (given ∷ more) =
    ((io : Started) × (slice_get ios given.0 ≡ Some io) × (length given.1 ≤ io.piece.len)) × FitPieces ios more

pub got_front : {X : Type 0} (xs ys : List X) (k : ℕ) (x : X) → slice_get xs k ≡ Some x → slice_get (xs ++ ys) k ≡ Some x
got_front [] ys k x h = cc
got_front (first ∷ xs) ys zero x h = h
got_front (first ∷ xs) ys (suc k) x h = got_front xs ys k x h

pub fit_more : (ios more : List Started) (kept : List (ℕ × List ℕ)) → FitPieces ios kept → FitPieces (ios ++ more) kept
unfolding FitPieces
fit_more ios more [] h = tt
fit_more ios more (given ∷ kept) h =
    ((h.0.0, got_front ios more given.0 h.0.0 h.0.1, h.0.2), fit_more ios more kept h.1)

pub fit_longer : (history events : List Event) (kept : List (ℕ × List ℕ)) → FitPieces (started history) kept → FitPieces (started (history ++ events)) kept
fit_longer history events kept h =
    subst (λ (ios : List Started). FitPieces ios kept) (sym (filter_map-append started_by history events))
    (fit_more (started history) (started events) kept h)

pub same_io : (a b : Started) → Some a ≡ Some b → a ≡ b
same_io a b h = cc

pub read_fits : (ios : List Started) (kept : List (ℕ × List ℕ)) (id : ℕ) (io : Started) → FitPieces ios kept → slice_get ios id ≡ Some io → length (bytes_read kept id) ≤ io.piece.len
unfolding FitPieces
read_fits ios [] id io h at = omega arith
read_fits ios (given ∷ kept) id io h at =
    cond_both (given.0 == id) given.1 (bytes_read kept id) (λ (bytes : List ℕ). length bytes ≤ io.piece.len)
    (λ (hit : (given.0 == id) ≡ true).
    let here : slice_get ios id ≡ Some h.0.0 =
    subst (λ (n : ℕ). slice_get ios n ≡ Some h.0.0) (eqb-true given.0 id hit) h.0.1 in
    subst (λ (x : Started). length given.1 ≤ x.piece.len) (same_io h.0.0 io (sym here ∙ at)) h.0.2)
    (λ _. read_fits ios kept id io h.1 at)

-- a legal history, and bytes that fit
pub record IsSound (plan : Plan) (s : State) : Type 0 where
  pub legal : is_legal plan s.history ≡ true
  pub fits : FitPieces (started s.history) s.read_back

pub three_conds : (a b c : Bool) (x y z : DeskFault) → cond a (Some x) (cond b (cond c None (Some y)) (Some z)) ≡ None → (a ≡ false) × (b ≡ true) × (c ≡ true)
three_conds true b c x y z h = cc
three_conds false true true x y z h = (refl, refl, refl)
three_conds false true false x y z h = cc
three_conds false false c x y z h = cc

pub sound_end : (plan : Plan) (s : State) (id : ℕ) (outcome : Outcome) (io : Started) → IsSound plan s → end_refusal s id ≡ None → slice_get (started s.history) id ≡ Some io → outcome_fits outcome io.piece.len ≡ true → is_legal plan (s.history ++ End io.worker id outcome ∷ []) ≡ true
sound_end plan s id outcome io sound free at fits =
    let flying = three_conds s.is_stopped (nat_lt id (length (started s.history))) (is_none (outcome_of s.history id)) Stopped Twice Stranger free in
    is_legal-more plan s.history (End io.worker id outcome) sound.legal
    (and_from (flies s.history id) (end_fits io.worker outcome (slice_get (started s.history) id))
    (and_from (nat_lt id (length (started s.history))) (is_none (outcome_of s.history id)) flying.1 flying.2)
    (subst (λ (o : Option Started). end_fits io.worker outcome o ≡ true) (sym at)
    (and_from (io.worker == io.worker) (outcome_fits outcome io.piece.len) (eq-eqb io.worker io.worker refl) fits)))

pub sound_read : (plan : Plan) (s : State) (id : ℕ) (reply : Reply) (io : Started) → IsSound plan s → end_refusal s id ≡ None → slice_get (started s.history) id ≡ Some io → IsSound plan (read_ends s id io (read_of s.memory reply io))
unfolding FitPieces
sound_read plan s id reply io sound free at =
    let given = read_of s.memory reply io in
    let ended = End io.worker id (outcome_for given.count io.piece.len) ∷ [] in
    record {
      legal = sound_end plan s id (outcome_for given.count io.piece.len) io sound free at (outcome_for_fits given.count io.piece.len);
      fits = (
        (
          io,
          subst (λ (ios : List Started). slice_get ios id ≡ Some io) (sym (filter_map-append started_by s.history ended))
              (got_front (started s.history) (started ended) id io at),
          read_of_short s.memory reply io,
        ),
        fit_longer s.history ended s.read_back sound.fits,
      );
    }

pub sound_ends_by : (plan : Plan) (s : State) (id : ℕ) (reply : Reply) (kind : TicketKind) (io : Started) → IsSound plan s → end_refusal s id ≡ None → slice_get (started s.history) id ≡ Some io → IsSound plan (ends_by plan s id reply kind io)
sound_ends_by plan s id reply ticket.Read io sound free at = sound_read plan s id reply io sound free at
sound_ends_by plan s id reply ticket.Probe io sound free at = sound_read plan s id reply io sound free at
sound_ends_by plan s id reply ticket.ReadCheck io sound free at = sound_read plan s id reply io sound free at
sound_ends_by plan s id reply ticket.Write io sound free at =
    let given = reply_to_write reply (content_of_io plan io) in
    let outcome = outcome_for given.count io.piece.len in
    record {
      legal = sound_end plan s id outcome io sound free at (outcome_for_fits given.count io.piece.len);
      fits = fit_longer s.history (End io.worker id outcome ∷ []) s.read_back sound.fits;
    }

pub sound_end_by : (plan : Plan) (s : State) (id : ℕ) (reply : Reply) (refused : Option DeskFault) (io : Option Started) → IsSound plan s → end_refusal s id ≡ refused → slice_get (started s.history) id ≡ io → IsSound plan (machine_end_by plan s id reply refused io).state
sound_end_by plan s id reply (Some fault) io sound free at = sound
sound_end_by plan s id reply None None sound free at = sound
sound_end_by plan s id reply None (Some io) sound free at = sound_ends_by plan s id reply io.kind io sound free at

pub four_conds : (a b c d : Bool) (x y z w : DeskFault) → cond a (Some x) (cond b (cond c (Some y) (cond d None (Some z))) (Some w)) ≡ None → (c ≡ false) × (d ≡ true)
four_conds true b c d x y z w h = cc
four_conds false true true d x y z w h = cc
four_conds false true false true x y z w h = (refl, refl)
four_conds false true false false x y z w h = cc
four_conds false false c d x y z w h = cc

-- what verdict_fits asks for beside the kind
abbrev pub is_said : Plan → Bool → GivenVerdict → Started → Bool
is_said plan raced verdict io = cond raced (is_void verdict) (job_says (clone_of plan io.write.clone) io.kind io.piece.len verdict)

-- what is said of an I/O fits, where the verdict on its bytes does
pub said_fits : (plan : Plan) (raced : Bool) (io : Started) (verdict : GivenVerdict) → job_says (clone_of plan io.write.clone) io.kind io.piece.len verdict ≡ true → is_said plan raced (said_of raced verdict) io ≡ true
said_fits plan true io verdict says = refl
said_fits plan false io verdict says = says

pub sound_judge_by : (plan : Plan) (s : State) (by id : ℕ) (refused : Option DeskFault) (io : Option Started) → IsSound plan s → judge_refusal s id ≡ refused → slice_get (started s.history) id ≡ io → IsSound plan (machine_judge_by plan s by id refused io).state
sound_judge_by plan s by id (Some fault) io sound free at = sound
sound_judge_by plan s by id None None sound free at = sound
sound_judge_by plan s by id None (Some io) sound free at =
    let bytes = bytes_read s.read_back id in
    let raced = has_raced s.history id in
    let verdict = said_of raced (verdict_on plan io bytes) in
    let open_to = four_conds s.is_stopped (nat_lt id (length (started s.history))) (is_judged s.history id) (is_judgeable s.history id (slice_get (started s.history) id)) Stopped Twice WrongKind Stranger free in
    let planned = started_planned plan [] s.history id io sound.legal at in
    let check = and_parts (is_judged_kind io.kind) (ended_whole (outcome_of s.history id))
    (subst (λ (o : Option Started). is_judgeable s.history id o ≡ true) at open_to.1) in
    record {
      legal = is_legal-more plan s.history (Verdict by id verdict) sound.legal
          (and_from (ended_whole (outcome_of s.history id) && not (is_judged s.history id)) (verdict_fits plan raced verdict (slice_get (started s.history) id))
          (and_from (ended_whole (outcome_of s.history id)) (not (is_judged s.history id)) check.1 (not_from_false (is_judged s.history id) open_to.0))
          (subst (λ (o : Option Started). verdict_fits plan raced verdict o ≡ true) (sym at)
          (and_from (is_judged_kind io.kind) (is_said plan raced verdict io) check.0
          (said_fits plan raced io (verdict_on plan io bytes)
          (job_says_fits (clone_of plan io.write.clone) planned.0 io
          (seed_of_draw (slice_get (draws_of plan io.write.clone io.write.pass) io.write.number)) bytes planned.1 check.0
          (read_fits (started s.history) s.read_back id io sound.fits at))))));
      fits = fit_longer s.history (Verdict by id verdict ∷ []) s.read_back sound.fits;
    }

pub sound_take : (plan : Plan) (s : State) (worker : ℕ) → IsNumbered plan → IsSound plan s → IsSound plan (machine_take plan s worker).state
sound_take plan s worker numbered sound =
    let events = taken plan worker s.history in
    let history = s.history ++ events in
    cond_both s.is_stopped
    (record { reply = answer.Finished; state = s })
    (record { reply = take_answer plan history (length (started s.history)) events; state = record s { history = history } })
    (λ (stepped : Stepped). IsSound plan stepped.state)
    (λ _. sound)
    (λ _. record {
      legal = legal_choices (work_of plan) plan worker s.history (choice plan s.history worker) numbered sound.legal refl;
      fits = fit_longer s.history events s.read_back sound.fits;
    })

-- each step keeps a state sound
pub sound_step : (plan : Plan) (s : State) (next : Step) → IsNumbered plan → IsSound plan s → IsSound plan (machine_step plan s next).state
sound_step plan s (step.Take worker) numbered sound = sound_take plan s worker numbered sound
sound_step plan s (step.End id reply) numbered sound =
    sound_end_by plan s id reply (end_refusal s id) (slice_get (started s.history) id) sound refl refl
sound_step plan s (step.Judge by id) numbered sound =
    sound_judge_by plan s by id (judge_refusal s id) (slice_get (started s.history) id) sound refl refl
sound_step plan s step.Stop numbered sound = record { legal = sound.legal; fits = sound.fits }

pub sound_run : (plan : Plan) (s : State) (steps : List Step) → IsNumbered plan → IsSound plan s → IsSound plan (machine_run plan s steps).state
sound_run plan s [] numbered sound = sound
sound_run plan s (next ∷ steps) numbered sound =
    sound_run plan (machine_step plan s next).state steps numbered (sound_step plan s next numbered sound)

pub none_kept : FitPieces [] []
unfolding FitPieces
none_kept = tt

-- every list of steps leaves a legal history
pub legal_run : (plan : Plan) (steps : List Step) → IsNumbered plan → is_legal plan (machine_run plan (first_state plan) steps).state.history ≡ true
legal_run plan steps numbered =
    (sound_run plan (first_state plan) steps numbered (record { legal = refl; fits = none_kept })).legal
