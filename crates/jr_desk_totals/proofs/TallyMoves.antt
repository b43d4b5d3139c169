-- What an event makes of the tallies of a legal history, and that a clone's can be counted on.
use Rattle.std.proofs.Common.{◌≡◌, ℕ, zero, suc, ◌+◌, ◌^◌, ◌<◌, ◌≤◌, List, [], ◌∷◌, ◌++◌, length, map, set, take, get_or, Bool, true, false, cond, ◌&&◌, ◌||◌, refl, sym, ◌∙◌, ap, subst, arith, append-nil}
use Rattle.std.specs.Prelude.{Option, Some, None, slice_get}
use Rattle.std.specs.List.{cons_option}
use Rattle.std.specs.Option.{option_map}
use Rattle.std.proofs.lemmas.Bool.{eq-eqb}
use Rattle.std.proofs.lemmas.List.{length-map, map-append}
use Rattle.std.proofs.lemmas.Option.{slice_get-map, slice_get_within, slice_get_read, same_Some}
use Rattle.std.proofs.Math.Bool.{or-false}
use Rattle.jr_model.specs.declared.blocks.Piece.{Piece}
use Rattle.jr_model.specs.declared.events.Event.{Event}
use Rattle.jr_model.specs.declared.events.Event.TheVariants.{Issue, Probe, Skip, End, Verdict}
use Rattle.jr_model.specs.declared.events.IssueKind.{IssueKind}
use Rattle.jr_model.specs.declared.events.Outcome.{Outcome}
use Rattle.jr_model.specs.declared.events.Started.{Started}
use Rattle.jr_model.specs.declared.events.Verdict.{Verdict as GivenVerdict}
use Rattle.jr_model.specs.declared.events.Verdict.TheVariants as said
use Rattle.jr_model.specs.declared.events.What.{What}
use Rattle.jr_model.specs.declared.events.WriteId.{WriteId}
use Rattle.jr_model.specs.declared.tickets.TicketKind.{TicketKind}
use Rattle.jr_model.specs.declared.tickets.TicketKind.TheVariants as ticket
use Rattle.jr_model.specs.declared.totals.Totals.{Totals}
use Rattle.jr_model.specs.History.{started, is_of_clone, is_probe}
use Rattle.jr_model.specs.Legal.{is_legal, may_happen, is_halted, is_fault, is_bad}
use Rattle.jr_model.specs.Plan.{Plan, SubJob, IsNumbered, clone_of}
use Rattle.jr_model.specs.Report.{Miscompare, miscompare_on, miscompares}
use Rattle.jr_model.specs.Totals.{totals_of}
use Rattle.jr_model.specs.PlanFacts.{IsPlanned}
use Rattle.jr_model.proofs.PlanLemmas.{numbered_of}
use Rattle.jr_model.proofs.PlaceLemmas.{item_at}
use Rattle.jr_desk_totals.specs.Tallies.{Tally, flying_issues, flying_checks, awaited, tally_of, named_in, concerns, tally_ended, tally_after, totals_ended, totals_judged, totals_after, halted_by, miscompare_in}
use Rattle.jr_desk_totals.proofs.Bads.{miscompares-more, ends_counted, verdicts_counted}
use Rattle.jr_desk_totals.proofs.Counted.{tally-more, tally_after-other}
use Rattle.jr_desk_totals.proofs.Few.{counts_few}
use Rattle.jr_laws_steps.proofs.Lists.{map_set}
use Rattle.jr_desk_totals.proofs.Moved.{is_halted-more, concerns_one, all_totals-more}
use Rattle.jr_laws_steps.specs.Nexts.{IsNext, grown}
use Rattle.jr_laws_steps.proofs.StartedFew.{started_small, work-same}
use Rattle.jr_desk_totals.specs.declared.tallies.Bad.{Bad}
use Rattle.jr_desk_totals.specs.declared.tallies.Counts.{Counts}
use Rattle.jr_desk_totals.specs.declared.tallies.Tallies.{Tallies}
use Rattle.jr_desk_totals.specs.Tallying.{AreLow, AreSmall, CanCount, IsTallied, counts_of, counts_with, flying_in, tally_in, tally_judged}
use Rattle.jr_desk_totals.specs.Bads.{miscompare_of}

-- lists

set_same : {X : Type 0} (xs : List X) (k : ℕ) (x : X) → slice_get xs k ≡ Some x → set xs k x ≡ xs
set_same [] k x at = refl
set_same {X = X} (y ∷ xs) zero x at = ap (λ (z : X). z ∷ xs) (sym (same_Some y x at))
set_same {X = X} (y ∷ xs) (suc k) x at = ap (λ (zs : List X). y ∷ zs) (set_same xs k x at)

mapped_next : {X Y : Type 0} (f : X → Y) (y : Y) (xs : List X) (i : ℕ) → i < length xs → ((x : X) → f x ≡ y) → map f (take i xs) ++ y ∷ [] ≡ map f (take (suc i) xs)
mapped_next f y [] i h same = absurd (omega (arith, h))
mapped_next {Y = Y} f y (x ∷ xs) zero h same = ap (λ (z : Y). z ∷ []) (sym (same x))
mapped_next {Y = Y} f y (x ∷ xs) (suc i) h same = ap (λ (zs : List Y). f x ∷ zs) (mapped_next f y xs i (omega (arith, h)) same)

-- one more item, the same for each clone
pub rows-push : {X Y : Type 0} (f : X → Y) (y : Y) (xs : List X) (i : ℕ) (before after : List Y) → before ≡ map f (take i xs) → after ≡ before ++ y ∷ [] → i < length xs → ((x : X) → f x ≡ y) → after ≡ map f (take (i + 1) xs)
rows-push {X = X} {Y = Y} f y xs i before after sofar pushed h same =
    let plus_one : suc i ≡ i + 1 = omega arith in
    pushed ∙ ap (λ (ys : List Y). ys ++ y ∷ []) sofar ∙ mapped_next f y xs i h same ∙ ap (λ (k : ℕ). map f (take k xs)) plus_one

-- what is kept of a clone

pub counts_length : (plan : Plan) (history : List Event) (tallies : Tallies) → IsTallied plan history tallies → length tallies.counts.items ≡ length plan.clones
counts_length plan history tallies is = ap length is.counts ∙ length-map plan.clones (counts_of history)

pub totals_length : (plan : Plan) (history : List Event) (tallies : Tallies) → IsTallied plan history tallies → length tallies.totals.items ≡ length plan.clones
totals_length plan history tallies is = ap length is.totals ∙ length-map plan.clones (λ (job : SubJob). totals_of history job.clone)

pub counts_at : (plan : Plan) (history : List Event) (tallies : Tallies) (c : ℕ) (job : SubJob) → IsTallied plan history tallies → clone_of plan c ≡ Some job → slice_get tallies.counts.items c ≡ Some (counts_of history job)
counts_at plan history tallies c job is at =
    ap (λ (all : List Counts). slice_get all c) is.counts ∙ slice_get-map (counts_of history) plan.clones c ∙ ap (option_map (counts_of history)) at

pub totals_at : (plan : Plan) (history : List Event) (tallies : Tallies) (c : ℕ) (job : SubJob) → IsTallied plan history tallies → clone_of plan c ≡ Some job → slice_get tallies.totals.items c ≡ Some (totals_of history job.clone)
totals_at plan history tallies c job is at =
    let f : SubJob → Totals = λ (j : SubJob). totals_of history j.clone in
    ap (λ (all : List Totals). slice_get all c) is.totals ∙ slice_get-map f plan.clones c ∙ ap (option_map f) at

-- what is found there is that of the clone
pub counts_are : (plan : Plan) (history : List Event) (tallies : Tallies) (c : ℕ) (job : SubJob) (counts : Counts) → IsTallied plan history tallies → clone_of plan c ≡ Some job → slice_get tallies.counts.items c ≡ Some counts → counts ≡ counts_of history job
counts_are plan history tallies c job counts is at got = same_Some counts (counts_of history job) (sym got ∙ counts_at plan history tallies c job is at)

pub totals_are : (plan : Plan) (history : List Event) (tallies : Tallies) (c : ℕ) (job : SubJob) (totals : Totals) → IsTallied plan history tallies → clone_of plan c ≡ Some job → slice_get tallies.totals.items c ≡ Some totals → totals ≡ totals_of history job.clone
totals_are plan history tallies c job totals is at got = same_Some totals (totals_of history job.clone) (sym got ∙ totals_at plan history tallies c job is at)

-- the same items tell of the same history
pub tallied_same : (plan : Plan) (history : List Event) (before after : Tallies) → IsTallied plan history before → after.counts ≡ before.counts → after.totals ≡ before.totals → after.bads.items ≡ before.bads.items → IsTallied plan history after
tallied_same plan history before after was counts totals bads =
    let same_counts : after.counts.items ≡ before.counts.items = rw counts refl in
    let same_totals : after.totals.items ≡ before.totals.items = rw totals refl in
    record {
      counts = same_counts ∙ was.counts;
      totals = same_totals ∙ was.totals;
      bads = ap (map miscompare_of) bads ∙ was.bads;
    }

-- what ends was counted as in flight, and what is judged as to come

its_counts : (plan : Plan) (history : List Event) (tallies : Tallies) (c d : ℕ) (counts : Counts) → IsPlanned plan → IsTallied plan history tallies → d ≡ c → slice_get tallies.counts.items c ≡ Some counts → (job : SubJob) × (job.clone ≡ d) × (counts ≡ counts_of history job)
its_counts plan history tallies c d counts planned is same got =
    let there : c < length tallies.counts.items = slice_get_within tallies.counts.items c counts got in
    let found = item_at plan.clones c (omega (arith, there, counts_length plan history tallies is)) in
    (found.0, numbered_of plan planned c found.0 found.1 ∙ sym same, counts_are plan history tallies c found.0 counts is found.1 got)

flying_some : (kind : TicketKind) (k : Counts) (n m : ℕ) → (is_probe kind ≡ false → k.issues ≡ suc n) → (is_probe kind ≡ true → k.checks ≡ suc m) → 1 ≤ flying_in kind k
flying_some ticket.Read k n m issue check = omega (arith, issue refl)
flying_some ticket.Write k n m issue check = omega (arith, issue refl)
flying_some ticket.ReadCheck k n m issue check = omega (arith, issue refl)
flying_some ticket.Probe k n m issue check = omega (arith, check refl)

pub can_end : (plan : Plan) (history : List Event) (worker id : ℕ) (outcome : Outcome) (io : Started) (tallies : Tallies) (c : ℕ) (kind : TicketKind) → slice_get (started history) id ≡ Some io → io.write.clone ≡ c → io.kind ≡ kind → IsNext plan history (End worker id outcome) → IsTallied plan history tallies → (counts : Counts) → slice_get tallies.counts.items c ≡ Some counts → 1 ≤ flying_in kind counts
can_end plan history worker id outcome io tallies c kind at same of_kind next is counts got =
    let names = ends_counted plan history worker id outcome next.legal next.may in
    let s = names.ended in
    let one : s ≡ io = same_Some s io (sym names.there ∙ at) in
    let own = its_counts plan history tallies c s.write.clone counts next.planned is (ap (λ (x : Started). x.write.clone) one ∙ same) got in
    let issues : counts.issues ≡ flying_issues history s.write.clone = ap (λ (k : Counts). k.issues) own.2 ∙ ap (flying_issues history) own.1 in
    let checks : counts.checks ≡ flying_checks history s.write.clone = ap (λ (k : Counts). k.checks) own.2 ∙ ap (flying_checks history) own.1 in
    let after = history ++ End worker id outcome ∷ [] in
    subst (λ (k : TicketKind). 1 ≤ flying_in k counts) (ap (λ (x : Started). x.kind) one ∙ of_kind)
    (flying_some s.kind counts (flying_issues after s.write.clone) (flying_checks after s.write.clone) (λ issue. issues ∙ names.issue issue) (λ check. checks ∙ names.check check))

pub can_judge : (plan : Plan) (history : List Event) (worker id : ℕ) (verdict : GivenVerdict) (io : Started) (tallies : Tallies) (c : ℕ) → slice_get (started history) id ≡ Some io → io.write.clone ≡ c → IsNext plan history (Verdict worker id verdict) → IsTallied plan history tallies → (counts : Counts) → slice_get tallies.counts.items c ≡ Some counts → 1 ≤ counts.verdicts
can_judge plan history worker id verdict io tallies c at same next is counts got =
    let names = verdicts_counted plan history worker id verdict next.legal next.may in
    let s = names.judged in
    let one : s ≡ io = same_Some s io (sym names.there ∙ at) in
    let own = its_counts plan history tallies c s.write.clone counts next.planned is (ap (λ (x : Started). x.write.clone) one ∙ same) got in
    let verdicts : counts.verdicts ≡ awaited history s.write.clone = ap (λ (k : Counts). k.verdicts) own.2 ∙ ap (awaited history) own.1 in
    omega (arith, verdicts, names.verdict)

-- so few are started that all counts and totals are small

are_low : (plan : Plan) (history : List Event) (job : SubJob) → IsPlanned plan → is_legal plan history ≡ true → AreLow (counts_of history job)
are_low plan history job planned legal =
    let few = counts_few plan history job.clone planned legal in
    let small = started_small plan history planned legal in
    record {
      issues = omega (arith, few.ended, small);
      checks = omega (arith, few.ended, small);
      verdicts = omega (arith, few.judged, small);
    }

are_small : (plan : Plan) (history : List Event) (c : ℕ) → IsPlanned plan → is_legal plan history ≡ true → AreSmall (totals_of history c)
are_small plan history c planned legal =
    let few = counts_few plan history c planned legal in
    let small = started_small plan history planned legal in
    let skips : (totals_of history c).skipped ≤ 2 ^ 30 = omega (arith, few.skipped, work-same plan.clones, planned.drafted.work) in
    record {
      reads = omega (arith, few.ended, small);
      rbytes = omega (arith, few.ended, few.rbytes, small);
      writes = omega (arith, few.ended, small);
      wbytes = omega (arith, few.ended, few.wbytes, small);
      checks = omega (arith, few.judged, small);
      good = omega (arith, few.judged, few.found, small);
      bad = omega (arith, few.judged, few.found, small);
      skipped = omega (arith, skips);
      void = omega (arith, few.judged, small);
      faults = omega (arith, few.ended, small);
    }

-- a clone of the plan can be counted on
pub can_count : (plan : Plan) (history : List Event) (tallies : Tallies) (c : ℕ) (job : SubJob) → IsPlanned plan → is_legal plan history ≡ true → IsTallied plan history tallies → clone_of plan c ≡ Some job → CanCount tallies c
can_count plan history tallies c job planned legal is at = record {
  counts = slice_get_within tallies.counts.items c (counts_of history job) (counts_at plan history tallies c job is at);
  totals = slice_get_within tallies.totals.items c (totals_of history job.clone) (totals_at plan history tallies c job is at);
  low = λ (counts : Counts) (got : slice_get tallies.counts.items c ≡ Some counts).
      subst AreLow (sym (counts_are plan history tallies c job counts is at got)) (are_low plan history job planned legal);
  small = λ (totals : Totals) (got : slice_get tallies.totals.items c ≡ Some totals).
      subst AreSmall (sym (totals_are plan history tallies c job totals is at got)) (are_small plan history job.clone planned legal);
}

-- the counts of a clone after one event more

-- the I/O that the event names
abbrev pub named : List Event → Event → Option Started
named history e = named_in (started history) e

abbrev pub counts_after : SubJob → Option Started → Event → Counts → Counts
counts_after job io e counts = counts_with (tally_after job.clone io e (tally_in counts)) (counts.is_halted || halted_by job io e)

counts-more : (plan : Plan) (history : List Event) (e : Event) (job : SubJob) → is_legal plan history ≡ true → may_happen plan history e ≡ true → counts_of (history ++ e ∷ []) job ≡ counts_after job (named history e) e (counts_of history job)
counts-more plan history e job legal may =
    ap (λ (t : Tally). counts_with t (is_halted (history ++ e ∷ []) job)) (tally-more plan history e job.clone legal may)
    ∙ ap (counts_with (tally_after job.clone (named history e) e (tally_of history job.clone))) (is_halted-more plan history e job legal may)

-- an event about another clone

halted_by-other : (job : SubJob) (io : Option Started) (e : Event) → concerns job.clone io e ≡ false → halted_by job io e ≡ false
halted_by-other job io (Issue worker dir write piece) h = refl
halted_by-other job io (Probe worker write piece) h = refl
halted_by-other job io (Skip worker write) h = refl
halted_by-other job io (End worker id outcome) h = ap {B = Bool} (λ (b : Bool). b && is_fault outcome) h
halted_by-other job io (Verdict worker id verdict) h = ap {B = Bool} (λ (b : Bool). b && job.is_fatal && is_bad verdict) h

counts-other : (plan : Plan) (history : List Event) (e : Event) (job : SubJob) → is_legal plan history ≡ true → may_happen plan history e ≡ true → concerns job.clone (named history e) e ≡ false → counts_of (history ++ e ∷ []) job ≡ counts_of history job
counts-other plan history e job legal may other =
    let t = tally_of history job.clone in
    let io = named history e in
    counts-more plan history e job legal may
    ∙ ap (λ (s : Tally). counts_with s (is_halted history job || halted_by job io e)) (tally_after-other job.clone io e t other)
    ∙ ap (λ (b : Bool). counts_with t (is_halted history job || b)) (halted_by-other job io e other)
    ∙ ap (counts_with t) (or-false (is_halted history job))

-- the counts of the clone alone that the event is about change
pub all_counts-more : (plan : Plan) (history : List Event) (e : Event) (c : ℕ) (job : SubJob) → IsNumbered plan → is_legal plan history ≡ true → may_happen plan history e ≡ true → clone_of plan c ≡ Some job → concerns c (named history e) e ≡ true → map (counts_of (history ++ e ∷ [])) plan.clones ≡ set (map (counts_of history) plan.clones) c (counts_after job (named history e) e (counts_of history job))
all_counts-more plan history e c job numbered legal may at about =
    map_set (counts_of history) (counts_of (history ++ e ∷ [])) plan.clones c job at
    (λ (k : ℕ) (other : SubJob) (there : slice_get plan.clones k ≡ Some other) (apart : k ≡ c → ⊥).
    counts-other plan history e other legal may (concerns_one c other.clone (named history e) e about (λ same. apart (sym (numbered k other there) ∙ same))))
    ∙ ap (set (map (counts_of history) plan.clones) c) (counts-more plan history e job legal may)

-- the tallies after one event more about clone c

module _ (plan : Plan) (history : List Event) (e : Event) (c : ℕ) (before : Tallies) (next : IsNext plan history e) (was : IsTallied plan history before) (there : c < length before.counts.items) where
  its_job : (job : SubJob) × (clone_of plan c ≡ Some job)
  its_job = item_at plan.clones c (omega (arith, there, counts_length plan history before was))

  its_number : (job : SubJob) → clone_of plan c ≡ Some job → job.clone ≡ c
  its_number job at = numbered_of plan next.planned c job at

  abbrev NewCounts : List Counts → Type 0
  NewCounts after = (job : SubJob) → clone_of plan c ≡ Some job → after ≡ set before.counts.items c (counts_after job (named history e) e (counts_of history job))

  abbrev NewTotals : List Totals → Type 0
  NewTotals after = after ≡ set before.totals.items c (totals_after c (named history e) e (totals_of history c))

  tallied-more : (after : Tallies) → concerns c (named history e) e ≡ true → NewCounts after.counts.items → NewTotals after.totals.items → map miscompare_of after.bads.items ≡ miscompares history ++ cons_option (miscompare_in (named history e) e) [] → IsTallied plan (grown history e) after
  tallied-more after about counts totals bads =
      let job = its_job.0 in
      let at = its_job.1 in
      let numbered = numbered_of plan next.planned in
      record {
        counts =
            counts job at
            ∙ ap (λ (all : List Counts). set all c (counts_after job (named history e) e (counts_of history job))) was.counts
            ∙ sym (all_counts-more plan history e c job numbered next.legal next.may at about);
        totals =
            totals
            ∙ ap (λ (all : List Totals). set all c (totals_after c (named history e) e (totals_of history c))) was.totals
            ∙ sym (all_totals-more plan history e c job numbered next.legal next.may at about);
        bads = bads ∙ sym (miscompares-more plan history e next.legal next.may);
      }

  -- one item of the list was written, or none
  counts-written : (after : List Counts) (old new : Counts) → old ≡ get_or before.counts.items c old → after ≡ set before.counts.items c new → ((job : SubJob) → clone_of plan c ≡ Some job → job.clone ≡ c → new ≡ counts_after job (named history e) e old) → NewCounts after
  counts-written after old new read written step job at =
      let got : slice_get before.counts.items c ≡ Some old = slice_get_read before.counts.items (length before.counts.items) c old refl there read in
      written
      ∙ ap (set before.counts.items c) (step job at (its_number job at) ∙ ap (counts_after job (named history e) e) (counts_are plan history before c job old was at got))

  counts-kept : (after : List Counts) → after ≡ before.counts.items → ((job : SubJob) (k : Counts) → k ≡ counts_after job (named history e) e k) → NewCounts after
  counts-kept after kept step job at =
      kept
      ∙ sym (set_same before.counts.items c (counts_of history job) (counts_at plan history before c job was at))
      ∙ ap (set before.counts.items c) (step job (counts_of history job))

  totals-written : (after : List Totals) (old new : Totals) → old ≡ get_or before.totals.items c old → after ≡ set before.totals.items c new → new ≡ totals_after c (named history e) e old → NewTotals after
  totals-written after old new read written step =
      let job = its_job.0 in
      let at = its_job.1 in
      let longer : c < length before.totals.items = omega (arith, there, counts_length plan history before was, totals_length plan history before was) in
      let got : slice_get before.totals.items c ≡ Some old = slice_get_read before.totals.items (length before.totals.items) c old refl longer read in
      let is : old ≡ totals_of history c = totals_are plan history before c job old was at got ∙ ap (totals_of history) (its_number job at) in
      written ∙ ap (set before.totals.items c) (step ∙ ap (totals_after c (named history e) e) is)

  totals-kept : (after : List Totals) → after ≡ before.totals.items → totals_of history c ≡ totals_after c (named history e) e (totals_of history c) → NewTotals after
  totals-kept after kept step =
      let job = its_job.0 in
      let at = its_job.1 in
      let got : slice_get before.totals.items c ≡ Some (totals_of history c) = totals_at plan history before c job was at ∙ ap (λ (n : ℕ). Some (totals_of history n)) (its_number job at) in
      kept ∙ sym (set_same before.totals.items c (totals_of history c) got) ∙ ap (set before.totals.items c) step

  bads-kept : (after : List Bad) → after ≡ before.bads.items → miscompare_in (named history e) e ≡ None → map miscompare_of after ≡ miscompares history ++ cons_option (miscompare_in (named history e) e) []
  bads-kept after kept none =
      ap (map miscompare_of) kept ∙ was.bads ∙ sym (append-nil (miscompares history))
      ∙ ap (λ (o : Option Miscompare). miscompares history ++ cons_option o []) (sym none)

-- what an event about the clone makes of its counts

issue_step : (job : SubJob) (worker : ℕ) (dir : IssueKind) (write : WriteId) (piece : Piece) (k : Counts) → write.clone ≡ job.clone → record k { issues = k.issues + 1 } ≡ counts_after job None (Issue worker dir write piece) k
issue_step job worker dir write piece k same =
    let more : Tally = record (tally_in k) { issues = k.issues + 1 } in
    sym
    (ap (λ (b : Bool). counts_with (cond b more (tally_in k)) (k.is_halted || false)) (eq-eqb write.clone job.clone same)
    ∙ ap (counts_with more) (or-false k.is_halted))

probe_step : (job : SubJob) (worker : ℕ) (write : WriteId) (piece : Piece) (k : Counts) → write.clone ≡ job.clone → record k { checks = k.checks + 1 } ≡ counts_after job None (Probe worker write piece) k
probe_step job worker write piece k same =
    let more : Tally = record (tally_in k) { checks = k.checks + 1 } in
    sym
    (ap (λ (b : Bool). counts_with (cond b more (tally_in k)) (k.is_halted || false)) (eq-eqb write.clone job.clone same)
    ∙ ap (counts_with more) (or-false k.is_halted))

skip_step : (job : SubJob) (worker : ℕ) (write : WriteId) (k : Counts) → k ≡ counts_after job None (Skip worker write) k
skip_step job worker write k = sym (ap (counts_with (tally_in k)) (or-false k.is_halted))

end_step : (job : SubJob) (worker id : ℕ) (outcome : Outcome) (named_io : Option Started) (io : Started) (k : Counts) → named_io ≡ Some io → io.write.clone ≡ job.clone → counts_with (tally_ended io.kind outcome (tally_in k)) (k.is_halted || is_fault outcome) ≡ counts_after job named_io (End worker id outcome) k
end_step job worker id outcome named_io io k at same =
    let own : is_of_clone job.clone io ≡ true = eq-eqb io.write.clone job.clone same in
    sym
    (ap (λ (o : Option Started). counts_after job o (End worker id outcome) k) at
    ∙ ap (λ (b : Bool). counts_with (cond b (tally_ended io.kind outcome (tally_in k)) (tally_in k)) (k.is_halted || (b && is_fault outcome))) own)

verdict_step : (job : SubJob) (worker id : ℕ) (verdict : GivenVerdict) (named_io : Option Started) (io : Started) (k : Counts) → named_io ≡ Some io → io.write.clone ≡ job.clone → counts_with (tally_judged (tally_in k)) (k.is_halted || job.is_fatal && is_bad verdict) ≡ counts_after job named_io (Verdict worker id verdict) k
verdict_step job worker id verdict named_io io k at same =
    let own : is_of_clone job.clone io ≡ true = eq-eqb io.write.clone job.clone same in
    sym
    (ap (λ (o : Option Started). counts_after job o (Verdict worker id verdict) k) at
    ∙ ap (λ (b : Bool). counts_with (cond b (tally_judged (tally_in k)) (tally_in k)) (k.is_halted || (b && job.is_fatal && is_bad verdict))) own)

-- the bad verdicts after one verdict more

no_miscompare : (io : Started) (verdict : GivenVerdict) → ((what : What) → verdict ≡ said.Bad what → ⊥) → miscompare_on (Some io) verdict ≡ None
no_miscompare io said.Good other = refl
no_miscompare io said.Void other = refl
no_miscompare io (said.Bad what) other = absurd (other what refl)

pub bads_same : (history : List Event) (bads : List Bad) (io : Started) (verdict : GivenVerdict) → map miscompare_of bads ≡ miscompares history → ((what : What) → verdict ≡ said.Bad what → ⊥) → map miscompare_of bads ≡ miscompares history ++ cons_option (miscompare_on (Some io) verdict) []
bads_same history bads io verdict was other =
    was ∙ sym (append-nil (miscompares history))
    ∙ ap (λ (o : Option Miscompare). miscompares history ++ cons_option o []) (sym (no_miscompare io verdict other))

pub bads_more : (history : List Event) (before after : List Bad) (io : Started) (verdict : GivenVerdict) (write : WriteId) (piece : Piece) (what : What) → map miscompare_of before ≡ miscompares history → after ≡ before ++ record { write = write; piece = piece; what = what } ∷ [] → verdict ≡ said.Bad what → io.write ≡ write → io.piece ≡ piece → map miscompare_of after ≡ miscompares history ++ cons_option (miscompare_on (Some io) verdict) []
bads_more history before after io verdict write piece what was pushed bad wrote placed =
    let it : Bad = record { write = write; piece = piece; what = what } in
    let one : miscompare_on (Some io) verdict ≡ Some (miscompare_of it) =
    ap (miscompare_on (Some io)) bad
    ∙ ap {B = Option Miscompare} (λ (w : WriteId). Some (record { write = w; piece = io.piece; what = what })) wrote
    ∙ ap {B = Option Miscompare} (λ (p : Piece). Some (record { write = write; piece = p; what = what })) placed
    in
    ap (map miscompare_of) pushed ∙ map-append miscompare_of before (it ∷ [])
    ∙ ap (λ (found : List Miscompare). found ++ miscompare_of it ∷ []) was
    ∙ ap (λ (o : Option Miscompare). miscompares history ++ cons_option o []) (sym one)

-- the steps

pub issued_tallied : (plan : Plan) (history : List Event) (worker : ℕ) (dir : IssueKind) (write : WriteId) (piece : Piece) (c : ℕ) (before after : Tallies) (old : Counts) → write.clone ≡ c → IsNext plan history (Issue worker dir write piece) → IsTallied plan history before → c < length before.counts.items → old ≡ get_or before.counts.items c old → after.counts.items ≡ set before.counts.items c (record old { issues = old.issues + 1 }) → after.totals.items ≡ before.totals.items → after.bads.items ≡ before.bads.items → IsTallied plan (grown history (Issue worker dir write piece)) after
issued_tallied plan history worker dir write piece c before after old same next was there read counts totals bads =
    let e : Event = Issue worker dir write piece in
    tallied-more plan history e c before next was there after (eq-eqb write.clone c same)
    (counts-written plan history e c before next was there after.counts.items old (record old { issues = old.issues + 1 }) read counts
    (λ (job : SubJob) (at : clone_of plan c ≡ Some job) (number : job.clone ≡ c). issue_step job worker dir write piece old (same ∙ sym number)))
    (totals-kept plan history e c before next was there after.totals.items totals refl)
    (bads-kept plan history e c before next was there after.bads.items bads refl)

pub probed_tallied : (plan : Plan) (history : List Event) (worker : ℕ) (write : WriteId) (piece : Piece) (c : ℕ) (before after : Tallies) (old : Counts) → write.clone ≡ c → IsNext plan history (Probe worker write piece) → IsTallied plan history before → c < length before.counts.items → old ≡ get_or before.counts.items c old → after.counts.items ≡ set before.counts.items c (record old { checks = old.checks + 1 }) → after.totals.items ≡ before.totals.items → after.bads.items ≡ before.bads.items → IsTallied plan (grown history (Probe worker write piece)) after
probed_tallied plan history worker write piece c before after old same next was there read counts totals bads =
    let e : Event = Probe worker write piece in
    tallied-more plan history e c before next was there after (eq-eqb write.clone c same)
    (counts-written plan history e c before next was there after.counts.items old (record old { checks = old.checks + 1 }) read counts
    (λ (job : SubJob) (at : clone_of plan c ≡ Some job) (number : job.clone ≡ c). probe_step job worker write piece old (same ∙ sym number)))
    (totals-kept plan history e c before next was there after.totals.items totals refl)
    (bads-kept plan history e c before next was there after.bads.items bads refl)

pub skipped_tallied : (plan : Plan) (history : List Event) (worker : ℕ) (write : WriteId) (c : ℕ) (before after : Tallies) (old : Totals) → write.clone ≡ c → IsNext plan history (Skip worker write) → IsTallied plan history before → c < length before.counts.items → old ≡ get_or before.totals.items c old → after.counts.items ≡ before.counts.items → after.totals.items ≡ set before.totals.items c (record old { skipped = old.skipped + 1 }) → after.bads.items ≡ before.bads.items → IsTallied plan (grown history (Skip worker write)) after
skipped_tallied plan history worker write c before after old same next was there read counts totals bads =
    let e : Event = Skip worker write in
    let own : concerns c None e ≡ true = eq-eqb write.clone c same in
    let more : Totals = record old { skipped = old.skipped + 1 } in
    tallied-more plan history e c before next was there after own
    (counts-kept plan history e c before next was there after.counts.items counts (λ (job : SubJob) (k : Counts). skip_step job worker write k))
    (totals-written plan history e c before next was there after.totals.items old more read totals (sym (ap (λ (b : Bool). cond b more old) own)))
    (bads-kept plan history e c before next was there after.bads.items bads refl)

pub ended_tallied : (plan : Plan) (history : List Event) (worker id : ℕ) (outcome : Outcome) (io : Started) (c : ℕ) (before after : Tallies) (old new : Counts) (moved summed : Totals) → slice_get (started history) id ≡ Some io → io.write.clone ≡ c → IsNext plan history (End worker id outcome) → IsTallied plan history before → c < length before.counts.items → old ≡ get_or before.counts.items c old → new ≡ counts_with (tally_ended io.kind outcome (tally_in old)) (old.is_halted || is_fault outcome) → after.counts.items ≡ set before.counts.items c new → moved ≡ get_or before.totals.items c moved → summed ≡ totals_ended io.kind io.piece.len outcome moved → after.totals.items ≡ set before.totals.items c summed → after.bads.items ≡ before.bads.items → IsTallied plan (grown history (End worker id outcome)) after
ended_tallied plan history worker id outcome io c before after old new moved summed at same next was there read counted counts read_totals ended totals bads =
    let e : Event = End worker id outcome in
    let own : is_of_clone c io ≡ true = eq-eqb io.write.clone c same in
    let about : concerns c (named history e) e ≡ true = ap {B = Bool} (λ (o : Option Started). concerns c o e) at ∙ own in
    let summed_is : summed ≡ totals_after c (named history e) e moved =
    ended
    ∙ sym
    (ap (λ (o : Option Started). totals_after c o e moved) at
    ∙ ap (λ (b : Bool). cond b (totals_ended io.kind io.piece.len outcome moved) moved) own)
    in
    tallied-more plan history e c before next was there after about
    (counts-written plan history e c before next was there after.counts.items old new read counts
    (λ (job : SubJob) (planned : clone_of plan c ≡ Some job) (number : job.clone ≡ c).
    counted ∙ end_step job worker id outcome (named history e) io old at (same ∙ sym number)))
    (totals-written plan history e c before next was there after.totals.items moved summed read_totals totals summed_is)
    (bads-kept plan history e c before next was there after.bads.items bads refl)

pub judged_tallied : (plan : Plan) (history : List Event) (worker id : ℕ) (verdict : GivenVerdict) (io : Started) (job : SubJob) (c : ℕ) (before after : Tallies) (old new : Counts) (judged summed : Totals) → slice_get (started history) id ≡ Some io → io.write.clone ≡ c → clone_of plan c ≡ Some job → IsNext plan history (Verdict worker id verdict) → IsTallied plan history before → c < length before.counts.items → old ≡ get_or before.counts.items c old → new ≡ counts_with (tally_judged (tally_in old)) (old.is_halted || job.is_fatal && is_bad verdict) → after.counts.items ≡ set before.counts.items c new → judged ≡ get_or before.totals.items c judged → summed ≡ totals_judged verdict judged → after.totals.items ≡ set before.totals.items c summed → map miscompare_of after.bads.items ≡ miscompares history ++ cons_option (miscompare_on (Some io) verdict) [] → IsTallied plan (grown history (Verdict worker id verdict)) after
judged_tallied plan history worker id verdict io job c before after old new judged summed at same planned next was there read counted counts read_totals told totals bads =
    let e : Event = Verdict worker id verdict in
    let own : is_of_clone c io ≡ true = eq-eqb io.write.clone c same in
    let about : concerns c (named history e) e ≡ true = ap {B = Bool} (λ (o : Option Started). concerns c o e) at ∙ own in
    let summed_is : summed ≡ totals_after c (named history e) e judged =
    told
    ∙ sym
    (ap (λ (o : Option Started). totals_after c o e judged) at
    ∙ ap (λ (b : Bool). cond b (totals_judged verdict judged) judged) own)
    in
    tallied-more plan history e c before next was there after about
    (counts-written plan history e c before next was there after.counts.items old new read counts
    (λ (other : SubJob) (there_too : clone_of plan c ≡ Some other) (number : other.clone ≡ c).
    let one : job ≡ other = same_Some job other (sym planned ∙ there_too) in
    counted
    ∙ ap (λ (j : SubJob). counts_with (tally_judged (tally_in old)) (old.is_halted || j.is_fatal && is_bad verdict)) one
    ∙ verdict_step other worker id verdict (named history e) io old at (same ∙ sym number)))
    (totals-written plan history e c before next was there after.totals.items judged summed read_totals totals summed_is)
    (bads ∙ ap (λ (o : Option Started). miscompares history ++ cons_option (miscompare_on o verdict) []) (sym at))
