-- How large a clone's counts and totals are, in a legal history.
use Rattle.std.proofs.Common.{◌≡◌, ℕ, suc, ◌+◌, ◌*◌, ◌≤◌, List, [], ◌∷◌, ◌++◌, length, set, Bool, true, false, cond, ◌&&◌, ◌||◌, not, refl, ◌∙◌, ap, arith}
use Rattle.std.specs.Prelude.{Option, Some, None, slice_get, ◌==◌}
use Rattle.jr_model.specs.declared.limits.TheConstants.{LARGEST_BLOCK}
use Rattle.jr_model.specs.declared.events.Event.{Event}
use Rattle.jr_model.specs.declared.events.Event.TheVariants.{Issue, Probe, Skip, End, Verdict}
use Rattle.jr_model.specs.declared.events.Outcome.{Outcome}
use Rattle.jr_model.specs.declared.events.Outcome.TheVariants.{Whole, Failed, Short}
use Rattle.jr_model.specs.declared.events.Started.{Started}
use Rattle.jr_model.specs.declared.events.Verdict.{Verdict as GivenVerdict}
use Rattle.jr_model.specs.declared.events.Verdict.TheVariants.{Good, Bad, Void}
use Rattle.jr_model.specs.declared.tickets.TicketKind.{TicketKind}
use Rattle.jr_model.specs.declared.tickets.TicketKind.TheVariants as ticket
use Rattle.jr_model.specs.declared.totals.Totals.{Totals}
use Rattle.jr_model.specs.History.{started, started_by, end_of, is_verdict_on, kind_for, is_of_clone, is_judged_kind, is_probe, is_write, ended_whole}
use Rattle.jr_model.specs.Legal.{is_legal, may_happen, is_io_of, is_bad, is_void}
use Rattle.jr_model.specs.Machine.{work_of}
use Rattle.jr_model.specs.Plan.{Plan, SubJob, clone_of}
use Rattle.jr_model.specs.Report.{all_totals}
use Rattle.jr_model.specs.Totals.{is_read, if_wanted, moved_by, totals_of}
use Rattle.jr_model.specs.PlanFacts.{IsPlanned}
use Rattle.jr_model.proofs.HistoryLemmas.{by_events}
use Rattle.jr_model.proofs.PlanLemmas.{numbered_of}
use Rattle.jr_model.proofs.PieceLemmas.{fitting_is_short}
use Rattle.jr_laws_steps.proofs.CountLaws.{issued_within, untaken_first}
use Rattle.jr_laws_steps.proofs.CountSteps.{all_untaken, all_untaken_most, skip_falls}
use Rattle.jr_laws_steps.proofs.DrawnLaws.{started_fit-law}
use Rattle.jr_laws_steps.proofs.StartedLemmas.{length-started-starts, length-started-other}
use Rattle.jr_desk_totals.specs.Tallies.{flying_issues, flying_checks, awaited, named_in, concerns, totals_after}
use Rattle.jr_desk_totals.specs.After.{AreFew}
use Rattle.jr_laws_steps.proofs.Grown.{end_names, verdict_names}
use Rattle.jr_desk_totals.proofs.Tallied.{counted}
use Rattle.jr_desk_totals.proofs.Counted.{flying-stays, flying-starts, flying-end, awaited-stays, awaited-starts, awaited-end, awaited-verdict}
use Rattle.jr_desk_totals.proofs.Moved.{ones, bytes, gain, end_gain, named_gain, totals_added, all_totals-more}

abbrev is_issue : Started → Bool
is_issue io = not (is_probe io.kind)

abbrev is_check : Started → Bool
is_check io = is_probe io.kind

-- what ended, and what flies
abbrev ended_all : Totals → ℕ
ended_all t = t.reads + t.writes + t.faults

abbrev EndedFew : List Event → ℕ → Type 0
EndedFew h c = ended_all (totals_of h c) + (flying_issues h c + flying_checks h c) ≤ length (started h)

-- what was judged
abbrev judged_all : Totals → ℕ
judged_all t = t.checks + t.void

abbrev JudgedFew : List Event → ℕ → Type 0
JudgedFew h c = judged_all (totals_of h c) + awaited h c + (flying_issues h c + flying_checks h c) ≤ length (started h)

-- an I/O is a check or not
one_kind : (own check : Bool) → counted (own && not check) + counted (own && check) ≤ 1
one_kind true true = omega arith
one_kind true false = omega arith
one_kind false check = omega arith

-- an End adds one at most, where the I/O was counted
end_few : (own : Bool) (kind : TicketKind) (outcome : Outcome) (io : Started) → ended_all (end_gain own kind outcome io) ≤ counted (own && not (is_probe kind)) + counted (own && is_probe kind)
end_few true ticket.Read Whole io = omega arith
end_few true ticket.Write Whole io = omega arith
end_few true ticket.Probe Whole io = omega arith
end_few true ticket.ReadCheck Whole io = omega arith
end_few true ticket.Read Failed io = omega arith
end_few true ticket.Write Failed io = omega arith
end_few true ticket.Probe Failed io = omega arith
end_few true ticket.ReadCheck Failed io = omega arith
end_few true ticket.Read (Short n) io = omega arith
end_few true ticket.Write (Short n) io = omega arith
end_few true ticket.Probe (Short n) io = omega arith
end_few true ticket.ReadCheck (Short n) io = omega arith
end_few false ticket.Read Whole io = omega arith
end_few false ticket.Write Whole io = omega arith
end_few false ticket.Probe Whole io = omega arith
end_few false ticket.ReadCheck Whole io = omega arith
end_few false kind Failed io = omega arith
end_few false kind (Short n) io = omega arith

part_of : (own check some : Bool) → counted (own && some) ≤ counted (own && not check) + counted (own && check)
part_of true true true = omega arith
part_of true true false = omega arith
part_of true false true = omega arith
part_of true false false = omega arith
part_of false check some = omega arith

-- a verdict says something of the bytes or nothing
one_said : (own void : Bool) → counted (own && not void) + counted (own && void) ≡ counted own
one_said true true = refl
one_said true false = refl
one_said false void = refl

-- what starts counts as one more that was started
module _ (plan : Plan) (h : List Event) (e : Event) (c : ℕ) (legal : is_legal plan h ≡ true) (may : may_happen plan h e ≡ true) where
  starts_few : (s : Started) → started_by e ≡ Some s → ((i : ℕ) → end_of i e ≡ None) → ((i : ℕ) → is_verdict_on i e ≡ false) → ended_all (gain (started h) c e) ≡ 0 → judged_all (gain (started h) c e) ≡ 0 → (EndedFew h c → EndedFew (h ++ e ∷ []) c) × (JudgedFew h c → JudgedFew (h ++ e ∷ []) c)
  starts_few s starts ends verdicts nothing unjudged =
      let more = h ++ e ∷ [] in
      let added = totals_added plan h e c legal may in
      let issues : flying_issues more c ≡ flying_issues h c + counted (is_of_clone c s && not (is_probe s.kind)) = flying-starts plan h e is_issue c s legal starts ends in
      let checks : flying_checks more c ≡ flying_checks h c + counted (is_of_clone c s && is_probe s.kind) = flying-starts plan h e is_check c s legal starts ends in
      let verdicts_same : awaited more c ≡ awaited h c = awaited-starts plan h e c s legal starts ends verdicts in
      let one = one_kind (is_of_clone c s) (is_probe s.kind) in
      let longer : length (started more) ≡ suc (length (started h)) = length-started-starts h e s starts in (
        λ (few : EndedFew h c). omega (arith, few, added.reads, added.writes, added.faults, nothing, issues, checks, one, longer),
        λ (few : JudgedFew h c). omega (arith, few, added.checks, added.void, unjudged, issues, checks, verdicts_same, one, longer),
      )

  stays_few : started_by e ≡ None → ((i : ℕ) → end_of i e ≡ None) → ended_all (gain (started h) c e) ≡ 0 → EndedFew h c → EndedFew (h ++ e ∷ []) c
  stays_few none ends nothing few =
      let more = h ++ e ∷ [] in
      let added = totals_added plan h e c legal may in
      let issues : flying_issues more c ≡ flying_issues h c = flying-stays h e is_issue c none ends in
      let checks : flying_checks more c ≡ flying_checks h c = flying-stays h e is_check c none ends in
      omega (arith, few, added.reads, added.writes, added.faults, nothing, issues, checks, length-started-other h e none)

both_few : (plan : Plan) (h : List Event) (e : Event) (c : ℕ) → is_legal plan h ≡ true → may_happen plan h e ≡ true → (EndedFew h c → EndedFew (h ++ e ∷ []) c) × (JudgedFew h c → JudgedFew (h ++ e ∷ []) c)
both_few plan h (Issue worker dir write piece) c legal may =
    starts_few plan h (Issue worker dir write piece) c legal may (record { worker = worker; kind = kind_for dir; write = write; piece = piece }) refl (λ i. refl) (λ i. refl) (omega arith) refl
both_few plan h (Probe worker write piece) c legal may =
    starts_few plan h (Probe worker write piece) c legal may (record { worker = worker; kind = ticket.Probe; write = write; piece = piece }) refl (λ i. refl) (λ i. refl) (omega arith) refl
both_few plan h (Skip worker write) c legal may =
    let e = Skip worker write in
    let more = h ++ e ∷ [] in
    let added = totals_added plan h e c legal may in
    let issues : flying_issues more c ≡ flying_issues h c = flying-stays h e is_issue c refl (λ i. refl) in
    let checks : flying_checks more c ≡ flying_checks h c = flying-stays h e is_check c refl (λ i. refl) in
    let verdicts : awaited more c ≡ awaited h c = awaited-stays h e c refl (λ i. refl) (λ i. refl) in
    let same : length (started more) ≡ length (started h) = length-started-other h e refl in (
      λ (few : EndedFew h c). stays_few plan h e c legal may refl (λ i. refl) (omega arith) few,
      λ (few : JudgedFew h c). omega (arith, few, added.checks, added.void, issues, checks, verdicts, same),
    )
both_few plan h (End worker io outcome) c legal may =
    let e = End worker io outcome in
    let more = h ++ e ∷ [] in
    let names = end_names plan h worker io outcome may in
    let s = names.ended in
    let added = totals_added plan h e c legal may in
    let issues : flying_issues h c ≡ flying_issues more c + counted (is_of_clone c s && not (is_probe s.kind)) = flying-end plan h worker io outcome is_issue c s may names.there in
    let checks : flying_checks h c ≡ flying_checks more c + counted (is_of_clone c s && is_probe s.kind) = flying-end plan h worker io outcome is_check c s may names.there in
    let verdicts : awaited more c ≡ awaited h c + counted (is_of_clone c s && (is_judged_kind s.kind && ended_whole (Some outcome))) = awaited-end plan h worker io outcome c s legal may names.there in
    let gained : ended_all (gain (started h) c e) ≡ ended_all (end_gain (is_of_clone c s) s.kind outcome s) = ap {B = ℕ} (λ (o : Option Started). ended_all (named_gain c outcome o)) names.there in
    let few_more = end_few (is_of_clone c s) s.kind outcome s in
    let part = part_of (is_of_clone c s) (is_probe s.kind) (is_judged_kind s.kind && ended_whole (Some outcome)) in
    let same : length (started more) ≡ length (started h) = length-started-other h e refl in (
      λ (few : EndedFew h c). omega (arith, few, added.reads, added.writes, added.faults, gained, few_more, issues, checks, same),
      λ (few : JudgedFew h c). omega (arith, few, added.checks, added.void, issues, checks, verdicts, part, same),
    )
both_few plan h (Verdict worker io verdict) c legal may =
    let e = Verdict worker io verdict in
    let more = h ++ e ∷ [] in
    let names = verdict_names plan h worker io verdict may in
    let s = names.judged in
    let added = totals_added plan h e c legal may in
    let issues : flying_issues more c ≡ flying_issues h c = flying-stays h e is_issue c refl (λ i. refl) in
    let checks : flying_checks more c ≡ flying_checks h c = flying-stays h e is_check c refl (λ i. refl) in
    let verdicts : awaited h c ≡ awaited more c + counted (is_of_clone c s) = awaited-verdict plan h worker io verdict c s may names.there in
    let gained : judged_all (gain (started h) c e) ≡ counted (is_of_clone c s) =
    ap {B = ℕ} (λ (o : Option Started). counted (is_io_of c o && not (is_void verdict)) + counted (is_io_of c o && is_void verdict)) names.there
    ∙ one_said (is_of_clone c s) (is_void verdict) in
    let same : length (started more) ≡ length (started h) = length-started-other h e refl in (
      λ (few : EndedFew h c). stays_few plan h e c legal may refl (λ i. refl) (omega arith) few,
      λ (few : JudgedFew h c). omega (arith, few, added.checks, added.void, gained, issues, checks, verdicts, same),
    )

-- verdicts that aren't void are good or bad
one_verdict : (own : Bool) (verdict : GivenVerdict) → counted (own && not (is_bad verdict || is_void verdict)) + counted (own && is_bad verdict) ≡ counted (own && not (is_void verdict))
one_verdict true Good = refl
one_verdict true (Bad what) = refl
one_verdict true Void = refl
one_verdict false verdict = refl

found_gain : (ios : List Started) (c : ℕ) (e : Event) → (gain ios c e).good + (gain ios c e).bad ≡ (gain ios c e).checks
found_gain ios c (Verdict worker io verdict) = one_verdict (is_io_of c (slice_get ios io)) verdict
found_gain ios c (Issue worker dir write piece) = refl
found_gain ios c (Probe worker write piece) = refl
found_gain ios c (Skip worker write) = refl
found_gain ios c (End worker io outcome) = refl

-- a write is skipped once
skip_few : (plan : Plan) (h : List Event) (e : Event) (c : ℕ) → IsPlanned plan → is_legal plan h ≡ true → may_happen plan h e ≡ true → (gain (started h) c e).skipped + all_untaken plan (h ++ e ∷ []) ≤ all_untaken plan h
skip_few plan h (Skip worker write) c planned legal may =
    let falls = skip_falls plan h worker write (issued_within plan h (numbered_of plan planned) legal) may in
    omega (arith, falls, at_most_one (write.clone == c))
  where
    at_most_one : (b : Bool) → counted b ≤ 1
    at_most_one true = omega arith
    at_most_one false = omega arith
skip_few plan h (Issue worker dir write piece) c planned legal may = omega (arith, all_untaken_most plan h (Issue worker dir write piece ∷ []))
skip_few plan h (Probe worker write piece) c planned legal may = omega (arith, all_untaken_most plan h (Probe worker write piece ∷ []))
skip_few plan h (End worker io outcome) c planned legal may = omega (arith, all_untaken_most plan h (End worker io outcome ∷ []))
skip_few plan h (Verdict worker io verdict) c planned legal may = omega (arith, all_untaken_most plan h (Verdict worker io verdict ∷ []))

started_small : (plan : Plan) (h : List Event) (id : ℕ) (io : Started) → IsPlanned plan → is_legal plan h ≡ true → slice_get (started h) id ≡ Some io → io.piece.len ≤ LARGEST_BLOCK
started_small plan h id io planned legal at = fitting_is_short io.piece (started_fit-law plan h id io planned legal at).1.fits

bytes_gain : (ios : List Started) (test : TicketKind → Bool) (c : ℕ) (e : Event) → ((id : ℕ) (io : Started) → slice_get ios id ≡ Some io → io.piece.len ≤ LARGEST_BLOCK) → bytes (moved_by ios test c e) ≤ ones (moved_by ios test c e) * LARGEST_BLOCK
bytes_gain ios test c (End worker id outcome) small = by_io (slice_get ios id) refl
  where
    if_moved : (b : Bool) (io : Started) → io.piece.len ≤ LARGEST_BLOCK → bytes (cond b (Some io) None) ≤ ones (cond b (Some io) None) * LARGEST_BLOCK
    if_moved true io len = omega (arith, len)
    if_moved false io len = omega arith

    by_io : (o : Option Started) → slice_get ios id ≡ o → bytes (if_wanted test c (ended_whole (Some outcome)) o) ≤ ones (if_wanted test c (ended_whole (Some outcome)) o) * LARGEST_BLOCK
    by_io None at = omega arith
    by_io (Some io) at = if_moved (ended_whole (Some outcome) && test io.kind && is_of_clone c io) io (small id io at)
bytes_gain ios test c (Issue worker dir write piece) small = omega arith
bytes_gain ios test c (Probe worker write piece) small = omega arith
bytes_gain ios test c (Skip worker write) small = omega arith
bytes_gain ios test c (Verdict worker id verdict) small = omega arith

-- all of it, and what is left to be skipped
record AreFewYet (plan : Plan) (h : List Event) (c : ℕ) (t : Totals) : Type 0 where
  ended : EndedFew h c
  judged : JudgedFew h c
  found : t.good + t.bad ≡ t.checks
  skipped : t.skipped + all_untaken plan h ≤ work_of plan
  rbytes : t.rbytes ≤ t.reads * LARGEST_BLOCK
  wbytes : t.wbytes ≤ t.writes * LARGEST_BLOCK

few_more : (plan : Plan) (c : ℕ) (h : List Event) (e : Event) → IsPlanned plan → is_legal plan h ≡ true → AreFewYet plan h c (totals_of h c) → may_happen plan h e ≡ true → AreFewYet plan (h ++ e ∷ []) c (totals_of (h ++ e ∷ []) c)
few_more plan c h e planned legal few may =
    let ios = started h in
    let added = totals_added plan h e c legal may in
    let both = both_few plan h e c legal may in
    let small = λ (id : ℕ) (io : Started) (at : slice_get ios id ≡ Some io). started_small plan h id io planned legal at in
    let read_bytes = bytes_gain ios is_read c e small in
    let write_bytes = bytes_gain ios is_write c e small in
    record {
      ended = both.0 few.ended;
      judged = both.1 few.judged;
      found = omega (arith, few.found, added.good, added.bad, added.checks, found_gain ios c e);
      skipped = omega (arith, few.skipped, added.skipped, skip_few plan h e c planned legal may);
      rbytes = omega (arith, few.rbytes, added.rbytes, added.reads, read_bytes);
      wbytes = omega (arith, few.wbytes, added.wbytes, added.writes, write_bytes);
    }

pub counts_few : (plan : Plan) (history : List Event) (c : ℕ) → IsPlanned plan → is_legal plan history ≡ true → AreFew plan history c (totals_of history c)
counts_few plan history c planned legal =
    let all = by_events plan (λ (h : List Event). AreFewYet plan h c (totals_of h c))
    (record { ended = omega arith; judged = omega arith; found = refl; skipped = omega (arith, untaken_first plan planned); rbytes = omega arith; wbytes = omega arith })
    (λ (h : List Event) (e : Event) (so_far : is_legal plan h ≡ true) (few : AreFewYet plan h c (totals_of h c)) (may : may_happen plan h e ≡ true). few_more plan c h e planned so_far few may) history legal in
    record {
      ended = all.ended;
      judged = all.judged;
      found = all.found;
      skipped = omega (arith, all.skipped);
      rbytes = all.rbytes;
      wbytes = all.wbytes;
    }

-- the totals of all clones, where the plan is planned
pub one_clone_changes : (plan : Plan) (history : List Event) (e : Event) (c : ℕ) (job : SubJob) → IsPlanned plan → is_legal plan history ≡ true → may_happen plan history e ≡ true → clone_of plan c ≡ Some job → concerns c (named_in (started history) e) e ≡ true → all_totals plan (history ++ e ∷ []) ≡ set (all_totals plan history) c (totals_after c (named_in (started history) e) e (totals_of history c))
one_clone_changes plan history e c job planned legal may at about =
    all_totals-more plan history e c job (numbered_of plan planned) legal may at about
