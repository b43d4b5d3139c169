-- What one event more makes of the counts of what a clone has in flight, and of its verdicts to come.
use Rattle.std.proofs.Common.{◌≡◌, ℕ, suc, ◌+◌, ◌-◌, ◌≤◌, List, [], ◌∷◌, ◌++◌, length, Bool, true, false, cond, ◌&&◌, not, refl, sym, ◌∙◌, ap, arith, zero-add}
use Rattle.std.specs.Prelude.{Option, Some, None, slice_get, ◌==◌, is_none, count_by}
use Rattle.std.proofs.lemmas.Bool.{eq-eqb}
use Rattle.jr_model.specs.declared.blocks.Piece.{Piece}
use Rattle.jr_model.specs.declared.events.Event.{Event}
use Rattle.jr_model.specs.declared.events.Event.TheVariants.{Issue, Probe, Skip, End, Verdict}
use Rattle.jr_model.specs.declared.events.IssueKind.{IssueKind}
use Rattle.jr_model.specs.declared.events.IssueKind.TheVariants as issue
use Rattle.jr_model.specs.declared.events.Outcome.{Outcome}
use Rattle.jr_model.specs.declared.events.Outcome.TheVariants.{Whole, Failed, Short}
use Rattle.jr_model.specs.declared.events.Started.{Started}
use Rattle.jr_model.specs.declared.events.Verdict.{Verdict as GivenVerdict}
use Rattle.jr_model.specs.declared.events.WriteId.{WriteId}
use Rattle.jr_model.specs.declared.tickets.TicketKind.{TicketKind}
use Rattle.jr_model.specs.declared.tickets.TicketKind.TheVariants as ticket
use Rattle.jr_model.specs.History.{started, started_by, kind_for, end_of, outcome_of, is_verdict_on, is_judged, in_flight, in_flight_of, is_of_clone, is_judged_kind, is_probe, ended_whole}
use Rattle.jr_model.specs.Legal.{is_legal, may_happen}
use Rattle.jr_model.specs.Plan.{Plan}
use Rattle.jr_model.proofs.HistoryLemmas.{outcome_of-stays, outcome_of-end}
use Rattle.jr_laws_steps.proofs.JudgedEnded.{flying_unjudged}
use Rattle.jr_laws_steps.proofs.StartedLemmas.{started-starts, started-other}
use Rattle.jr_desk_totals.specs.Tallies.{flying_issues, flying_checks, awaited, Tally, tally_of, named_in, concerns, tally_ended, tally_after_end, tally_after}
use Rattle.jr_laws_steps.proofs.Grown.{outcome_of-other, is_judged-stays, is_judged-other, is_judged-verdict, not_ended_yet, end_names, verdict_names}
use Rattle.jr_desk_totals.proofs.Tallied.{counted, tallied, tallied_same, tallied_push, tallied_moves, count_filtered, count_kept}

-- the counts as tallies over what was started

-- it flies and passes
abbrev flying_weight : List Event → (Started → Bool) → ℕ → ℕ → Started → Bool
flying_weight history k c i io = is_none (outcome_of history i) && (is_of_clone c io && k io)

count_flying : (history : List Event) (k : Started → Bool) (c : ℕ) → count_by k (in_flight_of history c) ≡ tallied (flying_weight history k c) 0 (started history)
count_flying history k c =
    count_filtered (is_of_clone c) k (in_flight history)
    ∙ count_kept (λ (i : ℕ) (io : Started). is_none (outcome_of history i)) (λ (io : Started). is_of_clone c io && k io) 0 (started history)

-- it is a check of the clone that ended whole and has no verdict
abbrev awaits : Bool → Option Outcome → Bool → Bool → Bool
awaits check outcome judged own = (check && ended_whole outcome && not judged) && own

abbrev awaited_weight : List Event → ℕ → ℕ → Started → Bool
awaited_weight history c i io = awaits (is_judged_kind io.kind) (outcome_of history i) (is_judged history i) (is_of_clone c io)

count_awaited : (history : List Event) (c : ℕ) → awaited history c ≡ tallied (awaited_weight history c) 0 (started history)
count_awaited history c =
    count_kept (λ (i : ℕ) (io : Started). is_judged_kind io.kind && ended_whole (outcome_of history i) && not (is_judged history i)) (is_of_clone c) 0 (started history)

-- a tally over what was started, after one event more
module _ (W : List Event → ℕ → Started → Bool) (history : List Event) (e : Event) where
  tally_stays : started_by e ≡ None → ((i : ℕ) (io : Started) → W (history ++ e ∷ []) i io ≡ W history i io) → tallied (W (history ++ e ∷ [])) 0 (started (history ++ e ∷ [])) ≡ tallied (W history) 0 (started history)
  tally_stays none same =
      ap {B = ℕ} (tallied (W (history ++ e ∷ [])) 0) (started-other history e none)
      ∙ tallied_same (W (history ++ e ∷ [])) (W history) 0 (started history) (λ (i : ℕ) (io : Started) (low : 0 ≤ i). same i io)

  tally_starts : (s : Started) → started_by e ≡ Some s → ((i : ℕ) (io : Started) → W (history ++ e ∷ []) i io ≡ W history i io) → tallied (W (history ++ e ∷ [])) 0 (started (history ++ e ∷ [])) ≡ tallied (W history) 0 (started history) + counted (W history (length (started history)) s)
  tally_starts s starts same =
      ap {B = ℕ} (tallied (W (history ++ e ∷ [])) 0) (started-starts history e s starts)
      ∙ tallied_same (W (history ++ e ∷ [])) (W history) 0 (started history ++ s ∷ []) (λ (i : ℕ) (io : Started) (low : 0 ≤ i). same i io)
      ∙ tallied_push (W history) 0 (started history) s
      ∙ ap {B = ℕ} (λ (i : ℕ). tallied (W history) 0 (started history) + counted (W history i s)) (zero-add (length (started history)))

  tally_moves : (id : ℕ) (s : Started) → started_by e ≡ None → slice_get (started history) id ≡ Some s → ((i : ℕ) (io : Started) → (i ≡ id → ⊥) → W (history ++ e ∷ []) i io ≡ W history i io) → tallied (W (history ++ e ∷ [])) 0 (started (history ++ e ∷ [])) + counted (W history id s) ≡ tallied (W history) 0 (started history) + counted (W (history ++ e ∷ []) id s)
  tally_moves id s none there others =
      let more = history ++ e ∷ [] in
      let place : 0 + id ≡ id = zero-add id in
      let same : tallied (W more) 0 (started more) ≡ tallied (W more) 0 (started history) = ap {B = ℕ} (tallied (W more) 0) (started-other history e none) in
      let moves = tallied_moves (W history) (W more) 0 id (started history) s there (λ (i : ℕ) (io : Started) (apart : i ≡ 0 + id → ⊥). others i io (λ equal. apart (equal ∙ sym place))) in
      let old : counted (W history (0 + id) s) ≡ counted (W history id s) = ap {B = ℕ} (λ (i : ℕ). counted (W history i s)) place in
      let new : counted (W more (0 + id) s) ≡ counted (W more id s) = ap {B = ℕ} (λ (i : ℕ). counted (W more i s)) place in
      omega (arith, same, moves, old, new)

-- what a clone has in flight, of those that pass a test

flying_at : (h g : List Event) (k : Started → Bool) (c i j : ℕ) (io : Started) → outcome_of h i ≡ outcome_of g j → flying_weight h k c i io ≡ flying_weight g k c j io
flying_at h g k c i j io same = ap {B = Bool} (λ (o : Option Outcome). is_none o && (is_of_clone c io && k io)) same

-- the weight of an I/O that flies, and of one that ended
flying_now : (h : List Event) (k : Started → Bool) (c i : ℕ) (io : Started) → outcome_of h i ≡ None → counted (flying_weight h k c i io) ≡ counted (is_of_clone c io && k io)
flying_now h k c i io flies = ap {B = ℕ} (λ (o : Option Outcome). counted (is_none o && (is_of_clone c io && k io))) flies

flying_past : (h : List Event) (k : Started → Bool) (c i : ℕ) (io : Started) (outcome : Outcome) → outcome_of h i ≡ Some outcome → counted (flying_weight h k c i io) ≡ 0
flying_past h k c i io outcome ended = ap {B = ℕ} (λ (o : Option Outcome). counted (is_none o && (is_of_clone c io && k io))) ended

pub flying-stays : (history : List Event) (e : Event) (k : Started → Bool) (c : ℕ) → started_by e ≡ None → ((i : ℕ) → end_of i e ≡ None) → count_by k (in_flight_of (history ++ e ∷ []) c) ≡ count_by k (in_flight_of history c)
flying-stays history e k c none ends =
    let more = history ++ e ∷ [] in
    count_flying more k c
    ∙ tally_stays (λ (h : List Event). flying_weight h k c) history e none (λ (i : ℕ) (io : Started). flying_at more history k c i i io (outcome_of-stays history e i (ends i)))
    ∙ sym (count_flying history k c)

pub flying-starts : (plan : Plan) (history : List Event) (e : Event) (k : Started → Bool) (c : ℕ) (s : Started) → is_legal plan history ≡ true → started_by e ≡ Some s → ((i : ℕ) → end_of i e ≡ None) → count_by k (in_flight_of (history ++ e ∷ []) c) ≡ count_by k (in_flight_of history c) + counted (is_of_clone c s && k s)
flying-starts plan history e k c s legal starts ends =
    let more = history ++ e ∷ [] in
    let n = length (started history) in
    let grown = tally_starts (λ (h : List Event). flying_weight h k c) history e s starts (λ (i : ℕ) (io : Started). flying_at more history k c i i io (outcome_of-stays history e i (ends i))) in
    let now = flying_now history k c n s (not_ended_yet plan history n legal (omega arith)) in
    omega (arith, count_flying more k c, count_flying history k c, grown, now)

pub flying-end : (plan : Plan) (history : List Event) (worker io : ℕ) (outcome : Outcome) (k : Started → Bool) (c : ℕ) (s : Started) → may_happen plan history (End worker io outcome) ≡ true → slice_get (started history) io ≡ Some s → count_by k (in_flight_of history c) ≡ count_by k (in_flight_of (history ++ End worker io outcome ∷ []) c) + counted (is_of_clone c s && k s)
flying-end plan history worker io outcome k c s may there =
    let e = End worker io outcome in
    let more = history ++ e ∷ [] in
    let flies = (end_names plan history worker io outcome may).flies in
    let moves = tally_moves (λ (h : List Event). flying_weight h k c) history e io s refl there (λ (i : ℕ) (x : Started) (apart : i ≡ io → ⊥). flying_at more history k c i i x (outcome_of-other history worker io outcome i (λ equal. apart (sym equal)))) in
    let now = flying_now history k c io s flies in
    let past = flying_past more k c io s outcome (outcome_of-end history worker io outcome flies) in
    omega (arith, count_flying more k c, count_flying history k c, moves, now, past)

-- the verdicts to come of a clone

awaits_same : (check own judged seen : Bool) (o p : Option Outcome) → o ≡ p → judged ≡ seen → awaits check o judged own ≡ awaits check p seen own
awaits_same check own judged seen o p outcomes verdicts =
    ap {B = Bool} (λ (x : Option Outcome). awaits check x judged own) outcomes ∙ ap {B = Bool} (λ (b : Bool). awaits check p b own) verdicts

awaits_none : (check own judged : Bool) (o : Option Outcome) → o ≡ None → counted (awaits check o judged own) ≡ 0
awaits_none check own judged o none = ap {B = ℕ} (λ (x : Option Outcome). counted (awaits check x judged own)) none ∙ by_case check
  where
    by_case : (b : Bool) → counted (awaits b None judged own) ≡ 0
    by_case true = refl
    by_case false = refl

awaits_judged : (check own judged : Bool) (o : Option Outcome) → judged ≡ true → counted (awaits check o judged own) ≡ 0
awaits_judged check own judged o holds = ap {B = ℕ} (λ (b : Bool). counted (awaits check o b own)) holds ∙ by_case (check && ended_whole o)
  where
    by_case : (b : Bool) → counted ((b && false) && own) ≡ 0
    by_case true = refl
    by_case false = refl

awaits_now : (check own judged : Bool) (o : Option Outcome) (outcome : Outcome) → o ≡ Some outcome → judged ≡ false → counted (awaits check o judged own) ≡ counted (own && (check && ended_whole (Some outcome)))
awaits_now check own judged o outcome ended unjudged =
    ap {B = ℕ} (λ (b : Bool). counted b) (awaits_same check own judged false o (Some outcome) ended unjudged) ∙ by_case check (ended_whole (Some outcome)) own
  where
    by_case : (a b d : Bool) → counted ((a && b && true) && d) ≡ counted (d && (a && b))
    by_case true true true = refl
    by_case true true false = refl
    by_case true false true = refl
    by_case true false false = refl
    by_case false b true = refl
    by_case false b false = refl

pub awaited-stays : (history : List Event) (e : Event) (c : ℕ) → started_by e ≡ None → ((i : ℕ) → end_of i e ≡ None) → ((i : ℕ) → is_verdict_on i e ≡ false) → awaited (history ++ e ∷ []) c ≡ awaited history c
awaited-stays history e c none ends verdicts =
    let more = history ++ e ∷ [] in
    count_awaited more c
    ∙ tally_stays (λ (h : List Event). awaited_weight h c) history e none
    (λ (i : ℕ) (io : Started). awaits_same (is_judged_kind io.kind) (is_of_clone c io) (is_judged more i) (is_judged history i) (outcome_of more i) (outcome_of history i) (outcome_of-stays history e i (ends i)) (is_judged-stays history e i (verdicts i)))
    ∙ sym (count_awaited history c)

pub awaited-starts : (plan : Plan) (history : List Event) (e : Event) (c : ℕ) (s : Started) → is_legal plan history ≡ true → started_by e ≡ Some s → ((i : ℕ) → end_of i e ≡ None) → ((i : ℕ) → is_verdict_on i e ≡ false) → awaited (history ++ e ∷ []) c ≡ awaited history c
awaited-starts plan history e c s legal starts ends verdicts =
    let more = history ++ e ∷ [] in
    let n = length (started history) in
    let grown = tally_starts (λ (h : List Event). awaited_weight h c) history e s starts
    (λ (i : ℕ) (io : Started). awaits_same (is_judged_kind io.kind) (is_of_clone c io) (is_judged more i) (is_judged history i) (outcome_of more i) (outcome_of history i) (outcome_of-stays history e i (ends i)) (is_judged-stays history e i (verdicts i))) in
    let now = awaits_none (is_judged_kind s.kind) (is_of_clone c s) (is_judged history n) (outcome_of history n) (not_ended_yet plan history n legal (omega arith)) in
    omega (arith, count_awaited more c, count_awaited history c, grown, now)

pub awaited-end : (plan : Plan) (history : List Event) (worker io : ℕ) (outcome : Outcome) (c : ℕ) (s : Started) → is_legal plan history ≡ true → may_happen plan history (End worker io outcome) ≡ true → slice_get (started history) io ≡ Some s → awaited (history ++ End worker io outcome ∷ []) c ≡ awaited history c + counted (is_of_clone c s && (is_judged_kind s.kind && ended_whole (Some outcome)))
awaited-end plan history worker io outcome c s legal may there =
    let e = End worker io outcome in
    let more = history ++ e ∷ [] in
    let flies = (end_names plan history worker io outcome may).flies in
    let moves = tally_moves (λ (h : List Event). awaited_weight h c) history e io s refl there
    (λ (i : ℕ) (x : Started) (apart : i ≡ io → ⊥). awaits_same (is_judged_kind x.kind) (is_of_clone c x) (is_judged more i) (is_judged history i) (outcome_of more i) (outcome_of history i) (outcome_of-other history worker io outcome i (λ equal. apart (sym equal))) (is_judged-stays history e i refl)) in
    let past = awaits_none (is_judged_kind s.kind) (is_of_clone c s) (is_judged history io) (outcome_of history io) flies in
    let unjudged : is_judged more io ≡ false = is_judged-stays history e io refl ∙ flying_unjudged plan history io legal flies in
    let now = awaits_now (is_judged_kind s.kind) (is_of_clone c s) (is_judged more io) (outcome_of more io) outcome (outcome_of-end history worker io outcome flies) unjudged in
    omega (arith, count_awaited more c, count_awaited history c, moves, past, now)

pub awaited-verdict : (plan : Plan) (history : List Event) (worker io : ℕ) (verdict : GivenVerdict) (c : ℕ) (s : Started) → may_happen plan history (Verdict worker io verdict) ≡ true → slice_get (started history) io ≡ Some s → awaited history c ≡ awaited (history ++ Verdict worker io verdict ∷ []) c + counted (is_of_clone c s)
awaited-verdict plan history worker io verdict c s may there =
    let e = Verdict worker io verdict in
    let more = history ++ e ∷ [] in
    let names = verdict_names plan history worker io verdict may in
    let same : names.judged ≡ s = let both : Some names.judged ≡ Some s = sym names.there ∙ there in cc in
    let check : is_judged_kind s.kind ≡ true = ap {B = Bool} (λ (x : Started). is_judged_kind x.kind) (sym same) ∙ names.check in
    let moves = tally_moves (λ (h : List Event). awaited_weight h c) history e io s refl there
    (λ (i : ℕ) (x : Started) (apart : i ≡ io → ⊥). awaits_same (is_judged_kind x.kind) (is_of_clone c x) (is_judged more i) (is_judged history i) (outcome_of more i) (outcome_of history i) (outcome_of-stays history e i refl) (is_judged-other history worker io verdict i (λ equal. apart (sym equal)))) in
    let was = awaits_now (is_judged_kind s.kind) (is_of_clone c s) (is_judged history io) (outcome_of history io) Whole names.ended names.unjudged in
    let own : counted (is_of_clone c s && (is_judged_kind s.kind && true)) ≡ counted (is_of_clone c s) = ap {B = ℕ} (λ (b : Bool). counted (is_of_clone c s && (b && true))) check ∙ and_true (is_of_clone c s) in
    let past = awaits_judged (is_judged_kind s.kind) (is_of_clone c s) (is_judged more io) (outcome_of more io) (is_judged-verdict history worker io verdict) in
    omega (arith, count_awaited more c, count_awaited history c, moves, was, own, past)
  where
    and_true : (b : Bool) → counted (b && (true && true)) ≡ counted b
    and_true true = refl
    and_true false = refl

-- all three of a clone

same_tally : (a b : Tally) → a.issues ≡ b.issues → a.checks ≡ b.checks → a.verdicts ≡ b.verdicts → a ≡ b
same_tally a b issues checks verdicts =
    let make : ℕ → ℕ → ℕ → Tally = λ (i c v : ℕ). record { issues = i; checks = c; verdicts = v } in
    ap (λ (i : ℕ). make i a.checks a.verdicts) issues ∙ ap (λ (c : ℕ). make b.issues c a.verdicts) checks ∙ ap (λ (v : ℕ). make b.issues b.checks v) verdicts

issue_tally : (b : Bool) (t u : Tally) → u.issues ≡ t.issues + counted b → u.checks ≡ t.checks → u.verdicts ≡ t.verdicts → u ≡ cond b (record t { issues = t.issues + 1 }) t
issue_tally true t u i k v = same_tally u (record t { issues = t.issues + 1 }) i k v
issue_tally false t u i k v = same_tally u t (omega (arith, i)) k v

probe_tally : (b : Bool) (t u : Tally) → u.issues ≡ t.issues → u.checks ≡ t.checks + counted b → u.verdicts ≡ t.verdicts → u ≡ cond b (record t { checks = t.checks + 1 }) t
probe_tally true t u i k v = same_tally u (record t { checks = t.checks + 1 }) i k v
probe_tally false t u i k v = same_tally u t i (omega (arith, k)) v

verdict_tally : (b : Bool) (t u : Tally) → u.issues ≡ t.issues → u.checks ≡ t.checks → t.verdicts ≡ u.verdicts + counted b → u ≡ cond b (record t { verdicts = t.verdicts - 1 }) t
verdict_tally true t u i k v = same_tally u (record t { verdicts = t.verdicts - 1 }) i k (omega (arith, v))
verdict_tally false t u i k v = same_tally u t i k (omega (arith, v))

end_tally : (b : Bool) (kind : TicketKind) (outcome : Outcome) (t u : Tally) → t.issues ≡ u.issues + counted (b && not (is_probe kind)) → t.checks ≡ u.checks + counted (b && is_probe kind) → u.verdicts ≡ t.verdicts + counted (b && (is_judged_kind kind && ended_whole (Some outcome))) → u ≡ cond b (tally_ended kind outcome t) t
end_tally false kind outcome t u i k v = same_tally u t (omega (arith, i)) (omega (arith, k)) (omega (arith, v))
end_tally true ticket.Read outcome t u i k v = same_tally u (record t { issues = t.issues - 1 }) (omega (arith, i)) (omega (arith, k)) (omega (arith, v))
end_tally true ticket.Write outcome t u i k v = same_tally u (record t { issues = t.issues - 1 }) (omega (arith, i)) (omega (arith, k)) (omega (arith, v))
end_tally true ticket.ReadCheck Whole t u i k v = same_tally u (record t { issues = t.issues - 1; verdicts = t.verdicts + 1 }) (omega (arith, i)) (omega (arith, k)) (omega (arith, v))
end_tally true ticket.ReadCheck Failed t u i k v = same_tally u (record t { issues = t.issues - 1 }) (omega (arith, i)) (omega (arith, k)) (omega (arith, v))
end_tally true ticket.ReadCheck (Short n) t u i k v = same_tally u (record t { issues = t.issues - 1 }) (omega (arith, i)) (omega (arith, k)) (omega (arith, v))
end_tally true ticket.Probe Whole t u i k v = same_tally u (record t { checks = t.checks - 1; verdicts = t.verdicts + 1 }) (omega (arith, i)) (omega (arith, k)) (omega (arith, v))
end_tally true ticket.Probe Failed t u i k v = same_tally u (record t { checks = t.checks - 1 }) (omega (arith, i)) (omega (arith, k)) (omega (arith, v))
end_tally true ticket.Probe (Short n) t u i k v = same_tally u (record t { checks = t.checks - 1 }) (omega (arith, i)) (omega (arith, k)) (omega (arith, v))

-- of the tests
abbrev is_issue : Started → Bool
is_issue io = not (is_probe io.kind)

abbrev is_check : Started → Bool
is_check io = is_probe io.kind

-- a draw's I/O is no check
issued_kind : (dir : IssueKind) (b : Bool) → (counted (b && not (is_probe (kind_for dir))) ≡ counted b) × (counted (b && is_probe (kind_for dir)) ≡ 0)
issued_kind issue.Read true = (refl, refl)
issued_kind issue.Read false = (refl, refl)
issued_kind issue.Write true = (refl, refl)
issued_kind issue.Write false = (refl, refl)
issued_kind issue.ReadCheck true = (refl, refl)
issued_kind issue.ReadCheck false = (refl, refl)

probed_kind : (b : Bool) → (counted (b && not true) ≡ 0) × (counted (b && true) ≡ counted b)
probed_kind true = (refl, refl)
probed_kind false = (refl, refl)

-- what an event makes of the three
module _ (plan : Plan) (history : List Event) (c : ℕ) (legal : is_legal plan history ≡ true) where
  pub tally-issue : (worker : ℕ) (dir : IssueKind) (write : WriteId) (piece : Piece) → tally_of (history ++ Issue worker dir write piece ∷ []) c ≡ tally_after c None (Issue worker dir write piece) (tally_of history c)
  tally-issue worker dir write piece =
      let e = Issue worker dir write piece in
      let s : Started = record { worker = worker; kind = kind_for dir; write = write; piece = piece } in
      let kind = issued_kind dir (write.clone == c) in
      let issues : flying_issues (history ++ e ∷ []) c ≡ flying_issues history c + counted (write.clone == c) = omega (arith, flying-starts plan history e is_issue c s legal refl (λ i. refl), kind.0) in
      let checks : flying_checks (history ++ e ∷ []) c ≡ flying_checks history c = omega (arith, flying-starts plan history e is_check c s legal refl (λ i. refl), kind.1) in
      issue_tally (write.clone == c) (tally_of history c) (tally_of (history ++ e ∷ []) c) issues checks (awaited-starts plan history e c s legal refl (λ i. refl) (λ i. refl))

  pub tally-probe : (worker : ℕ) (write : WriteId) (piece : Piece) → tally_of (history ++ Probe worker write piece ∷ []) c ≡ tally_after c None (Probe worker write piece) (tally_of history c)
  tally-probe worker write piece =
      let e = Probe worker write piece in
      let s : Started = record { worker = worker; kind = ticket.Probe; write = write; piece = piece } in
      let kind = probed_kind (write.clone == c) in
      let issues : flying_issues (history ++ e ∷ []) c ≡ flying_issues history c = omega (arith, flying-starts plan history e is_issue c s legal refl (λ i. refl), kind.0) in
      let checks : flying_checks (history ++ e ∷ []) c ≡ flying_checks history c + counted (write.clone == c) = omega (arith, flying-starts plan history e is_check c s legal refl (λ i. refl), kind.1) in
      probe_tally (write.clone == c) (tally_of history c) (tally_of (history ++ e ∷ []) c) issues checks (awaited-starts plan history e c s legal refl (λ i. refl) (λ i. refl))

  pub tally-skip : (worker : ℕ) (write : WriteId) → tally_of (history ++ Skip worker write ∷ []) c ≡ tally_of history c
  tally-skip worker write =
      let e = Skip worker write in
      same_tally (tally_of (history ++ e ∷ []) c) (tally_of history c)
      (flying-stays history e is_issue c refl (λ i. refl)) (flying-stays history e is_check c refl (λ i. refl))
      (awaited-stays history e c refl (λ i. refl) (λ i. refl))

  pub tally-end : (worker io : ℕ) (outcome : Outcome) → may_happen plan history (End worker io outcome) ≡ true → tally_of (history ++ End worker io outcome ∷ []) c ≡ tally_after c (slice_get (started history) io) (End worker io outcome) (tally_of history c)
  tally-end worker io outcome may =
      let e = End worker io outcome in
      let names = end_names plan history worker io outcome may in
      let s = names.ended in
      end_tally (is_of_clone c s) s.kind outcome (tally_of history c) (tally_of (history ++ e ∷ []) c)
      (flying-end plan history worker io outcome is_issue c s may names.there)
      (flying-end plan history worker io outcome is_check c s may names.there)
      (awaited-end plan history worker io outcome c s legal may names.there)
      ∙ ap (λ (o : Option Started). tally_after_end c o outcome (tally_of history c)) (sym names.there)

  pub tally-verdict : (worker io : ℕ) (verdict : GivenVerdict) → may_happen plan history (Verdict worker io verdict) ≡ true → tally_of (history ++ Verdict worker io verdict ∷ []) c ≡ tally_after c (slice_get (started history) io) (Verdict worker io verdict) (tally_of history c)
  tally-verdict worker io verdict may =
      let e = Verdict worker io verdict in
      let names = verdict_names plan history worker io verdict may in
      verdict_tally (is_of_clone c names.judged) (tally_of history c) (tally_of (history ++ e ∷ []) c)
      (flying-stays history e is_issue c refl (λ i. refl)) (flying-stays history e is_check c refl (λ i. refl))
      (awaited-verdict plan history worker io verdict c names.judged may names.there)
      ∙ ap (λ (o : Option Started). tally_after c o e (tally_of history c)) (sym names.there)

-- any event that may happen
pub tally-more : (plan : Plan) (history : List Event) (e : Event) (c : ℕ) → is_legal plan history ≡ true → may_happen plan history e ≡ true → tally_of (history ++ e ∷ []) c ≡ tally_after c (named_in (started history) e) e (tally_of history c)
tally-more plan history (Issue worker dir write piece) c legal may = tally-issue plan history c legal worker dir write piece
tally-more plan history (Probe worker write piece) c legal may = tally-probe plan history c legal worker write piece
tally-more plan history (Skip worker write) c legal may = tally-skip plan history c legal worker write
tally-more plan history (End worker io outcome) c legal may = tally-end plan history c legal worker io outcome may
tally-more plan history (Verdict worker io verdict) c legal may = tally-verdict plan history c legal worker io verdict may

-- an event about another clone leaves them
pub tally_after-other : (c : ℕ) (io : Option Started) (e : Event) (t : Tally) → concerns c io e ≡ false → tally_after c io e t ≡ t
tally_after-other c io (Issue worker dir write piece) t h = ap (λ (b : Bool). cond b (record t { issues = t.issues + 1 }) t) h
tally_after-other c io (Probe worker write piece) t h = ap (λ (b : Bool). cond b (record t { checks = t.checks + 1 }) t) h
tally_after-other c io (Skip worker write) t h = refl
tally_after-other c None (End worker id outcome) t h = refl
tally_after-other c (Some s) (End worker id outcome) t h = ap (λ (b : Bool). cond b (tally_ended s.kind outcome t) t) h
tally_after-other c None (Verdict worker id verdict) t h = refl
tally_after-other c (Some s) (Verdict worker id verdict) t h = ap (λ (b : Bool). cond b (record t { verdicts = t.verdicts - 1 }) t) h

-- what ends was counted, without subtraction

own_one : (s : Started) (b : Bool) → b ≡ true → counted (is_of_clone s.write.clone s && b) ≡ 1
own_one s b holds = ap {B = ℕ} (λ (x : Bool). counted (x && b)) (eq-eqb s.write.clone s.write.clone refl) ∙ ap {B = ℕ} (λ (x : Bool). counted x) holds

pub end_falls-issue : (plan : Plan) (history : List Event) (worker io : ℕ) (outcome : Outcome) (s : Started) → may_happen plan history (End worker io outcome) ≡ true → slice_get (started history) io ≡ Some s → is_probe s.kind ≡ false → flying_issues history s.write.clone ≡ suc (flying_issues (history ++ End worker io outcome ∷ []) s.write.clone)
end_falls-issue plan history worker io outcome s may there issue =
    omega (arith, flying-end plan history worker io outcome is_issue s.write.clone s may there, own_one s (is_issue s) (ap {B = Bool} not issue))

pub end_falls-check : (plan : Plan) (history : List Event) (worker io : ℕ) (outcome : Outcome) (s : Started) → may_happen plan history (End worker io outcome) ≡ true → slice_get (started history) io ≡ Some s → is_probe s.kind ≡ true → flying_checks history s.write.clone ≡ suc (flying_checks (history ++ End worker io outcome ∷ []) s.write.clone)
end_falls-check plan history worker io outcome s may there check =
    omega (arith, flying-end plan history worker io outcome is_check s.write.clone s may there, own_one s (is_check s) check)

pub verdict_falls : (plan : Plan) (history : List Event) (worker io : ℕ) (verdict : GivenVerdict) (s : Started) → may_happen plan history (Verdict worker io verdict) ≡ true → slice_get (started history) io ≡ Some s → awaited history s.write.clone ≡ suc (awaited (history ++ Verdict worker io verdict ∷ []) s.write.clone)
verdict_falls plan history worker io verdict s may there =
    let own : counted (is_of_clone s.write.clone s) ≡ 1 = ap {B = ℕ} (λ (x : Bool). counted x) (eq-eqb s.write.clone s.write.clone refl) in
    omega (arith, awaited-verdict plan history worker io verdict s.write.clone s may there, own)
