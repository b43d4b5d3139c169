-- The laws of verdicts, of an answer that was judged.
use Rattle.std.proofs.Common.{◌≡◌, ◌⊎◌, inl, inr, ℕ, List, Bool, true, false, cond, ◌==◌, ◌&&◌, Some, None, Option, refl, sym, ap, ◌∙◌}
use Rattle.std.specs.Prelude.{is_some, nat_lt}
use Rattle.std.proofs.lemmas.Bool.{and_parts, false≢true}
use Rattle.jr_model.specs.declared.blocks.Piece.{Piece}
use Rattle.jr_model.specs.declared.contents.VerifyKind.{VerifyKind}
use Rattle.jr_model.specs.declared.contents.VerifyKind.TheVariants as verify
use Rattle.jr_model.specs.declared.contents.Expected.{Expected}
use Rattle.jr_model.specs.declared.contents.Expected.TheVariants as expected
use Rattle.jr_model.specs.declared.contents.Method.{Method}
use Rattle.jr_model.specs.declared.events.Outcome.{Outcome}
use Rattle.jr_model.specs.declared.events.Verdict.{Verdict}
use Rattle.jr_model.specs.declared.events.Verdict.TheVariants.{Good}
use Rattle.jr_model.specs.declared.events.WriteId.{WriteId}
use Rattle.jr_model.specs.declared.tickets.TicketKind.{TicketKind}
use Rattle.jr_model.specs.declared.tickets.TicketKind.TheVariants as kind
use Rattle.jr_model.specs.declared.limits.TheConstants.{MOST_PASSES}
use Rattle.jr_model.specs.declared.tickets.Ticket.{Ticket}
use Rattle.jr_model.specs.Content.{block_version, header_of, expected_of, expected_pattern}
use Rattle.jr_model.specs.Judgement.{verdict_of, AreasToldApart, is_checked}
use Rattle.jr_model.specs.Legal.{is_void}
use Rattle.jr_model.specs.Plan.{is_verified}
use Rattle.jr_model.specs.Tickets.{piece_fits, has_pattern, is_nothing, is_pattern, interval_fits, chunks_fit, suits_method, suits_kind, expected_fits, ticket_fits}
use Rattle.jr_engines.specs.Answers.{AnswerParts}
use Rattle.jr_header.specs.Served.{ticket_content, ticket_expected, is_whole_check, is_to_judge, IsRuled}
use Rattle.jr_header.proofs.Laws.{good_on_content, good_on_no_other}
use Rattle.jr_header.proofs.Verdicts.{verdict_speaks}

-- a check is of a method that checks
patterned : (pattern : Option (List ℕ)) (e : Expected) → is_pattern pattern e ≡ true → is_some pattern ≡ true
patterned None expected.Nothing fits = fits
patterned None (expected.Pattern p) fits = fits
patterned None (expected.Header h) fits = fits
patterned None (expected.Seed s) fits = fits
patterned (Some q) e fits = refl

suited : (kind : VerifyKind) (method : Method) (e : Expected) → suits_method kind method e ≡ true → is_checked kind method.pattern ≡ true
suited verify.Plain method e fits = fits
suited verify.Pattern method e fits = patterned method.pattern e fits
suited verify.Md5 method e fits = refl
suited verify.Sha1 method e fits = refl
suited verify.Sha256 method e fits = refl

-- what the ticket of a check keeps
pub record IsCheck (t : Ticket) : Type 0 where
  pub kind : t.kind ≡ kind.Probe
  pub piece : piece_fits t.piece ≡ true
  pub pass : nat_lt t.write.pass MOST_PASSES ≡ true
  pub interval : interval_fits t.method.kind t.method.interval t.piece.len ≡ true
  pub suits : suits_method t.method.kind t.method t.expected ≡ true

judged_kind : (k : TicketKind) (how : Outcome) → is_whole_check k how ≡ true → (k ≡ kind.Probe) ⊎ (k ≡ kind.ReadCheck)
judged_kind kind.Read how whole = absurd (cc)
judged_kind kind.Write how whole = absurd (cc)
judged_kind kind.Probe how whole = inl refl
judged_kind kind.ReadCheck how whole = inr refl

-- a probe that fits
pub check_of : (t : Ticket) → ticket_fits t ≡ true → t.kind ≡ kind.Probe → IsCheck t
check_of t fits probe =
    let four = and_parts (piece_fits t.piece && nat_lt t.write.pass MOST_PASSES && has_pattern t.method.kind t.method.pattern && chunks_fit t.kind t.method t.piece.len) (expected_fits t) fits in
    let three = and_parts (piece_fits t.piece && nat_lt t.write.pass MOST_PASSES && has_pattern t.method.kind t.method.pattern) (chunks_fit t.kind t.method t.piece.len) four.0 in
    let two = and_parts (piece_fits t.piece && nat_lt t.write.pass MOST_PASSES) (has_pattern t.method.kind t.method.pattern) three.0 in
    let one = and_parts (piece_fits t.piece) (nat_lt t.write.pass MOST_PASSES) two.0 in
    record {
      kind = probe;
      piece = one.0;
      pass = one.1;
      interval = ap (λ (k : TicketKind). chunks_fit k t.method t.piece.len) (sym probe) ∙ three.1;
      suits = ap (λ (k : TicketKind). suits_kind k t.method t.expected) (sym probe) ∙ four.1;
    }

-- of a write that is verified something is expected
some_pattern : (pattern : Option (List ℕ)) → is_some pattern ≡ true → is_nothing (expected_pattern pattern) ≡ false
some_pattern None some = absurd (cc)
some_pattern (Some p) some = refl

some_header : (one : Bool) (header : List ℕ) (seed : ℕ) → is_nothing (cond one (expected.Header header) (expected.Seed seed)) ≡ false
some_header true header seed = refl
some_header false header seed = refl

some_expected : (kind : VerifyKind) (method : Method) (write : WriteId) (piece : Piece) (seed : ℕ) → has_pattern kind method.pattern ≡ true → is_verified kind ≡ true
    → is_nothing (expected_of kind method write piece seed) ≡ false
some_expected verify.Plain method write piece seed has verified = absurd (cc)
some_expected verify.Pattern method write piece seed has verified = some_pattern method.pattern has
some_expected verify.Md5 method write piece seed has verified = some_header (method.interval == 0) (header_of block_version method write piece seed) seed
some_expected verify.Sha1 method write piece seed has verified = some_header (method.interval == 0) (header_of block_version method write piece seed) seed
some_expected verify.Sha256 method write piece seed has verified = some_header (method.interval == 0) (header_of block_version method write piece seed) seed

-- so a checked read that fits doesn't expect what a write put there
no_read_check : (t : Ticket) → ticket_fits t ≡ true → t.kind ≡ kind.ReadCheck → t.expected ≡ ticket_expected t → ⊥
no_read_check t fits read expects =
    let four = and_parts (piece_fits t.piece && nat_lt t.write.pass MOST_PASSES && has_pattern t.method.kind t.method.pattern && chunks_fit t.kind t.method t.piece.len) (expected_fits t) fits in
    let three = and_parts (piece_fits t.piece && nat_lt t.write.pass MOST_PASSES && has_pattern t.method.kind t.method.pattern) (chunks_fit t.kind t.method t.piece.len) four.0 in
    let two = and_parts (piece_fits t.piece && nat_lt t.write.pass MOST_PASSES) (has_pattern t.method.kind t.method.pattern) three.0 in
    let both = and_parts (is_nothing t.expected) (is_verified t.method.kind) (ap (λ (k : TicketKind). suits_kind k t.method t.expected) (sym read) ∙ four.1) in
    false≢true (sym (some_expected t.method.kind t.method t.write t.piece t.seed two.1 both.1) ∙ ap is_nothing (sym expects) ∙ both.0)

-- what is judged by what a write put there is a check
pub checks_of : (answer : AnswerParts) → ticket_fits answer.ticket ≡ true → is_to_judge answer ≡ true → answer.ticket.expected ≡ ticket_expected answer.ticket
    → IsCheck answer.ticket
checks_of answer fits whole expects =
    elim (judged_kind answer.ticket.kind answer.outcome whole) [
      | inl probe ↦ check_of answer.ticket fits probe
      | inr read ↦ absurd (no_read_check answer.ticket fits read expects)
    ]

-- the verdict is good or bad
pub ruled_speaks : (answer : AnswerParts) (said : Verdict) → IsRuled answer said → is_void said ≡ false
ruled_speaks answer said ruled =
    let t = answer.ticket in
    ap is_void ruled.verdict ∙ verdict_speaks t.method t.write t.piece t.expected answer.bytes ruled.room

-- on what its write put there the verdict is good
pub ruled_good : (answer : AnswerParts) (said : Verdict) → IsRuled answer said → answer.ticket.expected ≡ ticket_expected answer.ticket
    → answer.bytes ≡ ticket_content answer.ticket → said ≡ Good
ruled_good answer said ruled expects content =
    let t = answer.ticket in
    let parts = checks_of answer ruled.fits ruled.to_judge expects in
    ruled.verdict ∙ ap (λ (e : Expected). verdict_of t.method t.write t.piece e answer.bytes) expects
    ∙ ap (verdict_of t.method t.write t.piece (ticket_expected t)) content
    ∙ good_on_content t.method t.write t.piece t.seed t.method.kind refl parts.piece parts.interval

-- on no other bytes it is, where the digest tells them apart
pub ruled_no_other : (answer : AnswerParts) (said : Verdict) → IsRuled answer said → answer.ticket.expected ≡ ticket_expected answer.ticket
    → AreasToldApart answer.ticket.method answer.ticket.piece answer.ticket.seed answer.bytes
    → said ≡ Good → answer.bytes ≡ ticket_content answer.ticket
ruled_no_other answer said ruled expects apart good =
    let t = answer.ticket in
    let check = checks_of answer ruled.fits ruled.to_judge expects in
    good_on_no_other t.method t.write t.piece t.seed answer.bytes t.method.kind refl (suited t.method.kind t.method t.expected check.suits)
    check.piece check.interval ruled.room apart
    (ap (λ (e : Expected). verdict_of t.method t.write t.piece e answer.bytes) (sym expects) ∙ sym ruled.verdict ∙ good)
