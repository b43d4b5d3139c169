-- The verdicts of a legal history: good where the bytes read are the write's, and bad where they aren't.
use Rattle.std.proofs.Common.{◌≡◌, ℕ, zero, suc, ◌<◌, List, [], ◌∷◌, ◌++◌, length, take, drop, get_or, true, false, ◌&&◌, not, refl, sym, ◌∙◌, ap, subst, inl, inr, Bool, cond}
use Rattle.std.specs.Prelude.{◌≢◌, ◌↔◌, Option, Some, None, slice_get}
use Rattle.std.specs.Option.{option_or}
use Rattle.std.proofs.lemmas.Bool.{and_left, and_parts, and_right, cases_Bool, false≢true, true_from_ne_false}
use Rattle.std.proofs.lemmas.List.Elements.{filter_map-append}
use Rattle.std.proofs.lemmas.List.Folds.{list_any_none}
use Rattle.std.proofs.lemmas.Option.{slice_get-get_or, same_Some}
use Rattle.jr_model.specs.declared.contents.VerifyKind.{VerifyKind}
use Rattle.jr_model.specs.declared.contents.VerifyKind.TheVariants as verify
use Rattle.jr_model.specs.declared.events.Event.{Event}
use Rattle.jr_model.specs.declared.events.Event.TheVariants.{Issue, Probe, Skip, End, Verdict}
use Rattle.jr_model.specs.declared.events.Outcome.{Outcome}
use Rattle.jr_model.specs.declared.events.Started.{Started}
use Rattle.jr_model.specs.declared.events.Verdict.{Verdict as GivenVerdict}
use Rattle.jr_model.specs.declared.events.Verdict.TheVariants.{Good, Bad, Void}
use Rattle.jr_model.specs.Draws.{draws_of}
use Rattle.jr_model.specs.History.{started, started_by, outcome_of, end_of, first_given, is_judged, is_judged_kind, is_probe, ended_whole}
use Rattle.jr_model.specs.Honest.{before_start, IsWholeCheck, IsHonest, IsJudgedBy}
use Rattle.jr_model.specs.Judgement.{is_checked, verdict_of}
use Rattle.jr_model.specs.Content.{expected_of}
use Rattle.jr_model.specs.declared.tickets.TicketKind.{TicketKind}
use Rattle.jr_model.specs.declared.tickets.TicketKind.TheVariants as ticket
use Rattle.jr_model.specs.LastWrite.{covers_block}
use Rattle.jr_model.specs.Legal.{may_happen, is_legal, verdict_fits, job_says, is_bad, is_void}
use Rattle.jr_model.specs.Machine.{expected_by, content_of_io, content_in_job, seed_of_draw, said_of, verdict_in_job, verdict_on}
use Rattle.jr_model.specs.Plan.{Plan, SubJob, clone_of, is_verified}
use Rattle.jr_model.specs.Tickets.{piece_fits, has_pattern, interval_fits}
use Rattle.jr_laws_steps.proofs.DrawnLaws.{started_fit-law}
use Rattle.jr_model.proofs.MachineLaws.{got_front}
use Rattle.jr_model.proofs.SerialLaws.{first_given-append}
use Rattle.jr_model.specs.PlanFacts.{IsPlanned}
use Rattle.jr_model.specs.Races.{has_raced}
use Rattle.jr_header.proofs.Laws.{good_on_content, good_on_no_other}
use Rattle.jr_laws_bytes.specs.Checks.{is_check, is_miscompare, has_miscompare, GivesWholePieces, AreToldApart, IsToldApart}
use Rattle.jr_laws_bytes.proofs.Starts.{legal_at, IsCheckable, check_started}
use Rattle.jr_laws_bytes.proofs.Contents.{same_by_blocks, lies_in_file, drawn_chunks, length-content_of_io, written_in-content}
use Rattle.jr_laws_bytes.proofs.LastWrites.{intact_block}

-- verdicts on bytes

-- a check is judged by what its write put there
by_kind : (job : SubJob) (s : Started) (seed : ℕ) (bytes : List ℕ) (kind : TicketKind) → is_probe kind ≡ true → verdict_of job.method s.write s.piece (expected_by kind job.method s seed) bytes ≡ verdict_of job.method s.write s.piece (expected_of job.method.kind job.method s.write s.piece seed) bytes
by_kind job s seed bytes ticket.Probe probe = refl
by_kind job s seed bytes ticket.Read probe = cc
by_kind job s seed bytes ticket.Write probe = cc
by_kind job s seed bytes ticket.ReadCheck probe = cc

good_in_job : (job : Option SubJob) (found : SubJob) (s : Started) (seed : ℕ) → is_probe s.kind ≡ true → job ≡ Some found → piece_fits s.piece ≡ true → interval_fits found.method.kind found.method.interval s.piece.len ≡ true → verdict_in_job job s seed (content_in_job job s.write s.piece seed) ≡ Good
good_in_job None found s seed probe is fits whole = refl
good_in_job (Some job) found s seed probe is fits whole =
    by_kind job s seed (content_in_job (Some job) s.write s.piece seed) s.kind probe
    ∙ good_on_content job.method s.write s.piece seed job.method.kind refl fits
    (subst (λ (j : SubJob). interval_fits j.method.kind j.method.interval s.piece.len ≡ true) (sym (same_Some job found is)) whole)

-- a write's own bytes are good
pub good_on_own : (plan : Plan) (history : List Event) (io : ℕ) (s : Started) → IsPlanned plan → is_legal plan history ≡ true → slice_get (started history) io ≡ Some s → is_probe s.kind ≡ true → verdict_on plan s (content_of_io plan s) ≡ Good
good_on_own plan history io s planned legal at probe =
    let fits = started_fit-law plan history io s planned legal at in
    good_in_job (clone_of plan s.write.clone) fits.0 s (seed_of_draw (slice_get (draws_of plan s.write.clone s.write.pass) s.write.number)) probe
    fits.1.planned fits.1.fits fits.1.interval

pub checked_kind : (kind : VerifyKind) (pattern : Option (List ℕ)) → is_verified kind ≡ true → has_pattern kind pattern ≡ true → is_checked kind pattern ≡ true
checked_kind verify.Plain pattern verified has = verified
checked_kind verify.Pattern pattern verified has = has
checked_kind verify.Md5 pattern verified has = refl
checked_kind verify.Sha1 pattern verified has = refl
checked_kind verify.Sha256 pattern verified has = refl

own_in_job : (job : Option SubJob) (found : SubJob) (s : Started) (seed : ℕ) (bytes : List ℕ) → is_probe s.kind ≡ true → job ≡ Some found → is_checked found.method.kind found.method.pattern ≡ true → piece_fits s.piece ≡ true → interval_fits found.method.kind found.method.interval s.piece.len ≡ true → length bytes ≡ s.piece.len → AreToldApart job s seed bytes → verdict_in_job job s seed bytes ≡ Good → bytes ≡ content_in_job job s.write s.piece seed
own_in_job None found s seed bytes probe is checked fits whole size apart good = cc
own_in_job (Some job) found s seed bytes probe is checked fits whole size apart good =
    let same : found ≡ job = sym (same_Some job found is) in
    good_on_no_other job.method s.write s.piece seed bytes job.method.kind refl
    (subst (λ (j : SubJob). is_checked j.method.kind j.method.pattern ≡ true) same checked) fits
    (subst (λ (j : SubJob). interval_fits j.method.kind j.method.interval s.piece.len ≡ true) same whole) size apart (sym (by_kind job s seed bytes s.kind probe) ∙ good)

-- no other bytes of a check are, where digests tell them apart
pub own_from_good : (plan : Plan) (before : List Event) (s : Started) (bytes : List ℕ) → IsPlanned plan → is_probe s.kind ≡ true → IsCheckable plan before s.write s.piece → length bytes ≡ s.piece.len → IsToldApart plan s bytes → verdict_on plan s bytes ≡ Good → bytes ≡ content_of_io plan s
own_from_good plan before s bytes planned probe check size apart good =
    let job = check.job in
    let seed = seed_of_draw (slice_get (draws_of plan s.write.clone s.write.pass) s.write.number) in
    let limits = planned.drafted.limited s.write.clone job check.names.planned in
    let rounds = and_parts (is_verified job.method.kind) job.checks_writes check.rounds in
    let chunks = drawn_chunks plan s.write s.piece job check.draw planned check.names in
    own_in_job (clone_of plan s.write.clone) job s seed bytes probe check.names.planned
    (checked_kind job.method.kind job.method.pattern rounds.0 limits.pattern) chunks.0 chunks.1 size apart good

-- checks of a legal history

split_at : {X : Type 0} (xs : List X) (k : ℕ) (x : X) → slice_get xs k ≡ Some x → xs ≡ take k xs ++ x ∷ drop (suc k) xs
split_at [] k x at = cc
split_at (y ∷ xs) zero x at = ap (λ (z : _). z ∷ xs) (same_Some y x at)
split_at (y ∷ xs) (suc k) x at = ap (λ (zs : _). y ∷ zs) (split_at xs k x at)

whole_more : (a b : Option Outcome) → ended_whole a ≡ true → ended_whole (option_or a b) ≡ true
whole_more None b h = absurd (false≢true h)
whole_more (Some o) b h = h

fitting : (plan : Plan) (raced : Bool) (verdict : GivenVerdict) (o : Option Started) → verdict_fits plan raced verdict o ≡ true → (s : Started) × (o ≡ Some s) × (is_judged_kind s.kind ≡ true)
fitting plan raced verdict None h = absurd (false≢true h)
fitting plan raced verdict (Some s) h =
    (s, refl, (and_parts (is_judged_kind s.kind) (cond raced (is_void verdict) (job_says (clone_of plan s.write.clone) s.kind s.piece.len verdict)) h).0)

-- what has a verdict in a legal history ended whole, and is what gets one
pub judged_check : (plan : Plan) (history : List Event) (place by io : ℕ) (verdict : GivenVerdict) → is_legal plan history ≡ true → slice_get history place ≡ Some (Verdict by io verdict) → (s : Started) × (slice_get (started history) io ≡ Some s) × (is_judged_kind s.kind ≡ true) × (ended_whole (outcome_of history io) ≡ true)
judged_check plan history place by io verdict legal at =
    let e = Verdict by io verdict in
    let front : List Event = take place history in
    let rest : List Event = e ∷ drop (suc place) history in
    let split : history ≡ front ++ rest = split_at history place e at in
    let may : may_happen plan front e ≡ true =
    legal_at plan [] front e (drop (suc place) history) (subst (λ (all : List Event). is_legal plan all ≡ true) split legal) in
    let parts = and_parts (ended_whole (outcome_of front io) && not (is_judged front io)) (verdict_fits plan (has_raced front io) verdict (slice_get (started front) io)) may in
    let whole = (and_parts (ended_whole (outcome_of front io)) (not (is_judged front io)) parts.0).0 in
    let check = fitting plan (has_raced front io) verdict (slice_get (started front) io) parts.1 in
    let there : slice_get (started history) io ≡ Some check.0 =
    ap (λ (all : List Event). slice_get (started all) io) split
    ∙ ap (λ (ios : List Started). slice_get ios io) (filter_map-append started_by front rest)
    ∙ got_front (started front) (started rest) io check.0 check.1 in
    let ended : ended_whole (outcome_of history io) ≡ true =
    ap (λ (all : List Event). ended_whole (outcome_of all io)) split
    ∙ ap ended_whole (first_given-append (end_of io) front rest)
    ∙ whole_more (outcome_of front io) (first_given (end_of io) rest) whole in
    (check.0, there, check.2, ended)

good_from_not_bad : (verdict : GivenVerdict) → is_bad verdict ≡ false → is_void verdict ≡ false → verdict ≡ Good
good_from_not_bad Good h said = refl
good_from_not_bad (Bad what) h said = absurd (false≢true (sym h))
good_from_not_bad Void h said = absurd (false≢true (sym said))

-- what isn't void hasn't raced
not_void : (raced : Bool) (verdict on : GivenVerdict) → verdict ≡ said_of raced on → is_void verdict ≡ false → raced ≡ false
not_void false verdict on is said = refl
not_void true verdict on is said = absurd (false≢true (sym said ∙ ap is_void is))

-- a verdict is bad exactly where the bytes that its check read aren't the write's
pub bad_exactly : (plan : Plan) (history : List Event) (read : ℕ → List ℕ) (place by io : ℕ) (verdict : GivenVerdict) (s : Started) → IsPlanned plan → is_legal plan history ≡ true → GivesWholePieces history read → IsJudgedBy plan history read → slice_get history place ≡ Some (Verdict by io verdict) → slice_get (started history) io ≡ Some s → is_probe s.kind ≡ true → is_void verdict ≡ false → IsToldApart plan s (read io) → (is_bad verdict ≡ true) ↔ (read io ≢ content_of_io plan s)
bad_exactly plan history read place by io verdict s planned legal whole judged at there probe unvoid apart =
    let found = judged_check plan history place by io verdict legal at in
    let is = judged place by io verdict s at there in
    let unraced = not_void (has_raced history io) verdict (verdict_on plan s (read io)) is unvoid in
    let check : IsWholeCheck history io s = (there, probe, found.3, unraced) in
    let said : verdict ≡ verdict_on plan s (read io) = is ∙ ap (λ (r : Bool). said_of r (verdict_on plan s (read io))) unraced in (
      λ (bad : is_bad verdict ≡ true) (own : read io ≡ content_of_io plan s).
          false≢true (sym (ap is_bad (said ∙ ap (verdict_on plan s) own ∙ good_on_own plan history io s planned legal there probe)) ∙ bad),
      λ (other : read io ≢ content_of_io plan s).
          true_from_ne_false (is_bad verdict)
          (λ (fine : is_bad verdict ≡ false).
          other
          (own_from_good plan (before_start history io) s (read io) planned probe (check_started plan history io s legal there check.1)
          (whole io s check) apart (sym said ∙ good_from_not_bad verdict fine unvoid))),
    )

-- where reads are honest a check gave what its write put there
honest_bytes : (plan : Plan) (history : List Event) (read : ℕ → List ℕ) (io : ℕ) (s : Started) → IsPlanned plan → is_legal plan history ≡ true → GivesWholePieces history read → IsHonest plan history read → IsWholeCheck history io s → read io ≡ content_of_io plan s
honest_bytes plan history read io s planned legal whole honest check =
    let before = before_start history io in
    let start = check_started plan history io s legal check.0 check.1 in
    let blocks = (lies_in_file plan s.write s.piece start.job start.draw planned start.names).blocks in
    same_by_blocks s.piece (read io) (content_of_io plan s) blocks (whole io s check)
    (length-content_of_io plan s start.job start.draw planned start.names)
    (λ (block : ℕ) (covered : covers_block s.piece s.piece.file block ≡ true).
    honest io s block s.write check covered (intact_block before s.write s.piece block blocks start.intact covered)
    ∙ written_in-content plan s start.job start.draw block start.names)

honest_event : (plan : Plan) (history : List Event) (read : ℕ → List ℕ) (place : ℕ) (e : Event) → IsPlanned plan → is_legal plan history ≡ true → GivesWholePieces history read → IsJudgedBy plan history read → IsHonest plan history read → slice_get history place ≡ Some e → is_miscompare (started history) e ≡ false
honest_event plan history read place (Verdict by io verdict) planned legal whole judged honest at =
    let found = judged_check plan history place by io verdict legal at in
    let s = found.0 in
    ap (λ (o : Option Started). is_bad verdict && is_check o) found.1
    ∙ elim (cases_Bool (is_probe s.kind)) [
      | inl probe ↦
          and_left (is_bad verdict) (is_probe s.kind)
          (ap is_bad (judged place by io verdict s at found.1)
          ∙ elim (cases_Bool (has_raced history io)) [
            | inl raced ↦ ap (λ (r : Bool). is_bad (said_of r (verdict_on plan s (read io)))) raced
            | inr unraced ↦
                let check : IsWholeCheck history io s = (found.1, probe, found.3, unraced) in
                ap (λ (r : Bool). is_bad (said_of r (verdict_on plan s (read io)))) unraced
                ∙ ap is_bad
                (ap (verdict_on plan s) (honest_bytes plan history read io s planned legal whole honest check)
                ∙ good_on_own plan history io s planned legal found.1 probe)
          ])
      | inr other ↦ and_right (is_bad verdict) (is_probe s.kind) other
    ]
honest_event plan history read place (Issue worker dir write piece) planned legal whole judged honest at = refl
honest_event plan history read place (Probe worker write piece) planned legal whole judged honest at = refl
honest_event plan history read place (Skip worker write) planned legal whole judged honest at = refl
honest_event plan history read place (End worker io outcome) planned legal whole judged honest at = refl

-- where reads are honest no verdict on a check is bad
pub good_where_honest : (plan : Plan) (history : List Event) (read : ℕ → List ℕ) → IsPlanned plan → is_legal plan history ≡ true → GivesWholePieces history read → IsJudgedBy plan history read → IsHonest plan history read → has_miscompare history ≡ false
good_where_honest plan history read planned legal whole judged honest =
    list_any_none (is_miscompare (started history)) history
    (λ (place : ℕ) (d : Event) (within : place < length history).
    honest_event plan history read place (get_or history place d) planned legal whole judged honest (slice_get-get_or history place d within))
