-- Where nothing raced, a write started after each earlier one that it overlaps had ended, so where no write of a block is in
-- flight, its last write is the one that was issued last.
use Rattle.std.proofs.Common.{◌≡◌, ℕ, List, [], ◌∷◌, ◌++◌, length, Bool, true, false, cond, ◌&&◌, ◌||◌, refl, sym, ◌∙◌, ap, subst, arith, inl, inr, append-nil}
use Rattle.std.specs.Prelude.{Option, Some, None, slice_get, nat_lt, ◌==◌, is_none, is_some}
use Rattle.std.specs.List.{list_any, cons_option}
use Rattle.std.proofs.lemmas.Bool.{and_parts, and_from, ne_eqb, ltb-true, cases_Bool, cases_eq, not-true, or_parts, or_left, or_right, both_ways, true_from_ne_false}
use Rattle.std.proofs.lemmas.List.Sums.{fold_push}
use Rattle.std.proofs.lemmas.Option.{slice_get_within}
use Rattle.std.proofs.Math.Bool.{or-false}
use Rattle.jr_model.specs.declared.blocks.Piece.{Piece}
use Rattle.jr_model.specs.declared.events.Event.{Event}
use Rattle.jr_model.specs.declared.events.Event.TheVariants.{Issue, Probe, Skip, End, Verdict}
use Rattle.jr_model.specs.declared.events.IssueKind.{IssueKind}
use Rattle.jr_model.specs.declared.events.IssueKind.TheVariants as issue
use Rattle.jr_model.specs.declared.events.Outcome.{Outcome}
use Rattle.jr_model.specs.declared.events.Outcome.TheVariants.{Whole, Failed, Short}
use Rattle.jr_model.specs.declared.events.Started.{Started}
use Rattle.jr_model.specs.declared.events.WriteId.{WriteId}
use Rattle.jr_model.specs.declared.tickets.TicketKind.TheVariants as ticket
use Rattle.jr_model.specs.History.{started, started_by, kind_for, end_of, outcome_of, flies, is_write, in_flight}
use Rattle.jr_model.specs.LastWrite.{covers_block, last_after, last_after_end, last_write}
use Rattle.jr_model.specs.Races.{has_raced}
use Rattle.jr_model.specs.Legal.{is_legal, end_fits, conflicts, may_happen}
use Rattle.jr_model.specs.Pieces.{pieces_overlap}
use Rattle.jr_model.specs.Plan.{Plan}
use Rattle.jr_model.specs.Rounds.{is_write_draw, pass_of}
use Rattle.jr_model.specs.PlanFacts.{IsPlanned}
use Rattle.jr_model.proofs.PlaceLemmas.{item_at, got_longer, got_last}
use Rattle.jr_model.proofs.HistoryLemmas.{started-more}
use Rattle.jr_model.proofs.PieceLemmas.{shared_block}
use Rattle.jr_laws_quiet.specs.Quiet.{is_quiet, NothingRaced, issued_over, last_issued, writes_block}
use Rattle.jr_laws_quiet.specs.Declining.{none_declines}
use Rattle.jr_laws_quiet.proofs.Steps.{are_fine}
use Rattle.jr_laws_quiet.proofs.Steps.{IsStep, along, got_push, issue_of, write_kind}
use Rattle.jr_laws_quiet.proofs.Ends.{has_ended, has_ended_push, not_ended_yet, none_is_none, some_if}
use Rattle.jr_laws_quiet.proofs.Issues.{may_issue_parts}
pub use Rattle.jr_laws_quiet.proofs.Flights.{found_flying}
use Rattle.jr_laws_quiet.proofs.Flights.{is_free, clear_is_free}
use Rattle.jr_laws_quiet.proofs.Races.{unraced, raced_before, overlaps_none, quiet_is_fine, last_write_push}

pub last_issued_push : (h : List Event) (e : Event) (f b : ℕ) → last_issued (h ++ e ∷ []) f b ≡ issued_over f b (last_issued h f b) e
last_issued_push h e f b = fold_push (issued_over f b) None h e

-- a write in flight that covers a block bars every piece that covers it
pub barred : (h : List Event) (writes : Bool) (piece : Piece) (id : ℕ) (s : Started) (f b : ℕ) → is_free h writes piece ≡ true → slice_get (started h) id ≡ Some s → has_ended h id ≡ false → is_write s.kind ≡ true → covers_block s.piece f b ≡ true → covers_block piece f b ≡ true → ⊥
barred h writes piece id s f b clear at flying kind covered covers =
    let hit : conflicts writes piece s ≡ true =
    and_from (writes || is_write s.kind) (pieces_overlap s.piece piece) (or_right writes (is_write s.kind) kind) (shared_block s.piece piece f b covered covers) in
    both_ways (list_any (conflicts writes piece) (in_flight h)) (not-true (list_any (conflicts writes piece) (in_flight h)) clear)
    (found_flying h (conflicts writes piece) id s at flying hit)

-- a write is issued once all that it overlaps has ended
pub waits_for_overlapped : (plan : Plan) (history : List Event) (worker : ℕ) (write : WriteId) (piece : Piece) (id : ℕ) (io : Started) → IsPlanned plan → none_declines plan ≡ true → may_happen plan history (Issue worker issue.Write write piece) ≡ true → slice_get (started history) id ≡ Some io → pieces_overlap io.piece piece ≡ true → has_ended history id ≡ true
waits_for_overlapped plan history worker write piece id io planned_all none may at overlap =
    let issued = issue_of plan history worker issue.Write write piece (λ i job there. (planned_all.drafted.placed i job there).number) may in
    let draw = issued.draw in
    let clear = clear_is_free plan history write.clone issued.job (is_write_draw draw) draw.piece none issued.names.planned
    (may_issue_parts plan history (pass_of issued.job write.pass) draw issued.may).clear in
    let writes : is_write_draw draw ≡ true = sym (write_kind issued.job draw) ∙ ap (λ (kind : IssueKind). is_write (kind_for kind)) issued.kind_is in
    let hit : conflicts (is_write_draw draw) draw.piece io ≡ true =
    and_from (is_write_draw draw || is_write io.kind) (pieces_overlap io.piece draw.piece)
    (or_left (is_write_draw draw) (is_write io.kind) writes)
    (ap (pieces_overlap io.piece) issued.piece_is ∙ overlap) in
    true_from_ne_false (has_ended history id)
    (λ (flying : has_ended history id ≡ false).
    both_ways (list_any (conflicts (is_write_draw draw) draw.piece) (in_flight history))
    (not-true (list_any (conflicts (is_write_draw draw) draw.piece) (in_flight history)) clear)
    (found_flying history (conflicts (is_write_draw draw) draw.piece) id io at flying hit))

-- a write in flight covers the block
pub record FliesOver (h : List Event) (f b id : ℕ) (s : Started) : Type 0 where
  pub at : slice_get (started h) id ≡ Some s
  pub flying : has_ended h id ≡ false
  pub writes : is_write s.kind ≡ true
  pub covers : covers_block s.piece f b ≡ true

-- of a block whose write is in flight that one was issued last; else its last write is the one issued last
pub record LastLaw (h : List Event) (f b : ℕ) : Type 0 where
  pub flying : (id : ℕ) (s : Started) → FliesOver h f b id s → last_issued h f b ≡ Some s.write
  pub landed : ((id : ℕ) (s : Started) → FliesOver h f b id s → ⊥) → last_write h f b ≡ last_issued h f b

module _ (plan : Plan) (f b : ℕ) (h : List Event) (e : Event) (step : IsStep plan h e) where
  -- an event that ends nothing and issues no write of the block
  law_keeps : ((io : ℕ) → is_some (end_of io e) ≡ false) → ((o : Option WriteId) → last_after (has_raced h) (started h) f b o e ≡ o) → ((o : Option WriteId) → issued_over f b o e ≡ o) → ((s : Started) → started_by e ≡ Some s → is_write s.kind ≡ true → covers_block s.piece f b ≡ true → ⊥) → LastLaw h f b → LastLaw (h ++ e ∷ []) f b
  law_keeps no_end keeps_last keeps_issued starts law =
      let ended : (id : ℕ) → has_ended (h ++ e ∷ []) id ≡ has_ended h id = λ (id : ℕ). has_ended_push h e id ∙ ap (λ (x : Bool). has_ended h id || x) (no_end id) ∙ or-false (has_ended h id) in
      let issued : last_issued (h ++ e ∷ []) f b ≡ last_issued h f b = last_issued_push h e f b ∙ keeps_issued (last_issued h f b) in
      record {
        flying = λ (id : ℕ) (s : Started) (over : FliesOver (h ++ e ∷ []) f b id s). issued ∙ law.flying id s (before id s over (ended id) (started_by e) refl (subst (λ (ios : List Started). slice_get ios id ≡ Some s) (started-more h e) over.at));
        landed = λ (none : (id : ℕ) (s : Started) → FliesOver (h ++ e ∷ []) f b id s → ⊥). last_write_push plan h step.legal e f b ∙ keeps_last (last_write h f b)
            ∙ law.landed (λ (id : ℕ) (s : Started) (over : FliesOver h f b id s). none id s (after id s over (ended id))) ∙ sym issued;
      }
    where
      before : (id : ℕ) (s : Started) → FliesOver (h ++ e ∷ []) f b id s → has_ended (h ++ e ∷ []) id ≡ has_ended h id → (o : Option Started) → started_by e ≡ o → slice_get (started h ++ cons_option o []) id ≡ Some s → FliesOver h f b id s
      before id s over same None now at = record {
        at = subst (λ (ios : List Started). slice_get ios id ≡ Some s) (append-nil (started h)) at;
        flying = sym same ∙ over.flying;
        writes = over.writes;
        covers = over.covers;
      }
      before id s over same (Some new) now at =
          elim (got_push (started h) new s id at) [
            | inl old ↦ record { at = old; flying = sym same ∙ over.flying; writes = over.writes; covers = over.covers }
            | inr last ↦ absurd (starts s (now ∙ ap Some last.1) over.writes over.covers)
          ]

      after : (id : ℕ) (s : Started) → FliesOver h f b id s → has_ended (h ++ e ∷ []) id ≡ has_ended h id → FliesOver (h ++ e ∷ []) f b id s
      after id s over same = record {
        at = subst (λ (ios : List Started). slice_get ios id ≡ Some s) (sym (started-more h e)) (got_longer (started h) (cons_option (started_by e) []) id (slice_get_within (started h) id s over.at) ∙ over.at);
        flying = same ∙ over.flying;
        writes = over.writes;
        covers = over.covers;
      }

module _ (plan : Plan) (f b : ℕ) where
  -- a write of the block
  law_issued : (h : List Event) (worker : ℕ) (kind : IssueKind) (write : WriteId) (piece : Piece) → IsStep plan h (Issue worker kind write piece) → NothingRaced (h ++ Issue worker kind write piece ∷ []) → is_write (kind_for kind) ≡ true → covers_block piece f b ≡ true → LastLaw h f b → LastLaw (h ++ Issue worker kind write piece ∷ []) f b
  law_issued h worker kind write piece step raceless writes covers law =
      let e = Issue worker kind write piece in
      let s0 : Started = record { worker = worker; kind = kind_for kind; write = write; piece = piece } in
      let now : last_issued (h ++ e ∷ []) f b ≡ Some write =
      last_issued_push h e f b ∙ ap (λ (x : Bool). cond x (Some write) (last_issued h f b)) (and_from (is_write (kind_for kind)) (covers_block piece f b) writes covers) in
      let not_yet : has_ended (h ++ e ∷ []) (length (started h)) ≡ false =
      has_ended_push h e (length (started h)) ∙ or-false (has_ended h (length (started h))) ∙ not_ended_yet plan h step.legal step.quiet (length (started h)) (omega arith) in
      let flies_now : FliesOver (h ++ e ∷ []) f b (length (started h)) s0 = record {
        at = subst (λ (ios : List Started). slice_get ios (length (started h)) ≡ Some s0) (sym (started-more h e)) (got_last (started h) s0);
        flying = not_yet;
        writes = writes;
        covers = covers;
      } in
      record {
        flying = λ (id : ℕ) (s : Started) (over : FliesOver (h ++ e ∷ []) f b id s).
            elim (got_push (started h) s0 s id (subst (λ (ios : List Started). slice_get ios id ≡ Some s) (started-more h e) over.at)) [
              | inl old ↦ absurd (overlaps_none h e s0 id s refl raceless old (sym (has_ended_push h e id ∙ or-false (has_ended h id)) ∙ over.flying) over.writes (shared_block s.piece piece f b over.covers covers))
              | inr last ↦ now ∙ ap (λ (x : Started). Some x.write) last.1
            ];
        landed = λ (none : (id : ℕ) (s : Started) → FliesOver (h ++ e ∷ []) f b id s → ⊥). absurd (none (length (started h)) s0 flies_now);
      }

  law_ended : (h : List Event) (worker io : ℕ) (s0 : Started) → IsStep plan h (End worker io Whole) → has_raced h io ≡ false → slice_get (started h) io ≡ Some s0 → has_ended h io ≡ false → (covering : Bool) → (is_write s0.kind && covers_block s0.piece f b) ≡ covering → LastLaw h f b → LastLaw (h ++ End worker io Whole ∷ []) f b
  law_ended h worker io s0 step raceless at flying covering covers law =
      let e = End worker io Whole in
      let same : started (h ++ e ∷ []) ≡ started h = started-more h e ∙ append-nil (started h) in
      let issued : last_issued (h ++ e ∷ []) f b ≡ last_issued h f b = last_issued_push h e f b in
      let written : last_write (h ++ e ∷ []) f b ≡ cond covering (Some s0.write) (last_write h f b) =
      last_write_push plan h step.legal e f b
      ∙ ap (λ (r : Bool). last_after_end r (slice_get (started h) io) Whole f b (last_write h f b)) raceless
      ∙ ap (λ (o : Option Started). last_after_end false o Whole f b (last_write h f b)) at
      ∙ ap (λ (x : Bool). cond x (Some s0.write) (last_write h f b)) covers in
      record {
        flying = λ (id : ℕ) (s : Started) (over : FliesOver (h ++ e ∷ []) f b id s). issued ∙ law.flying id s (record {
          at = subst (λ (ios : List Started). slice_get ios id ≡ Some s) same over.at;
          flying = (or_parts (has_ended h id) (is_some (end_of id e)) (sym (has_ended_push h e id) ∙ over.flying)).0;
          writes = over.writes;
          covers = over.covers;
        });
        landed = λ (none : (id : ℕ) (s : Started) → FliesOver (h ++ e ∷ []) f b id s → ⊥). by_case covering covers written same none ∙ sym issued;
      }
    where
      by_case : (c : Bool) → (is_write s0.kind && covers_block s0.piece f b) ≡ c → last_write (h ++ End worker io Whole ∷ []) f b ≡ cond c (Some s0.write) (last_write h f b) → started (h ++ End worker io Whole ∷ []) ≡ started h → ((id : ℕ) (s : Started) → FliesOver (h ++ End worker io Whole ∷ []) f b id s → ⊥) → last_write (h ++ End worker io Whole ∷ []) f b ≡ last_issued h f b
      by_case true hit written same none =
          let parts = and_parts (is_write s0.kind) (covers_block s0.piece f b) hit in
          written ∙ sym (law.flying io s0 (record { at = at; flying = flying; writes = parts.0; covers = parts.1 }))
      by_case false miss written same none =
          written ∙ law.landed (λ (id : ℕ) (s : Started) (over : FliesOver h f b id s). elim (cases_eq io id) [
            | inl equal ↦
                let one : s0 ≡ s = some_same s0 s (sym at ∙ ap (slice_get (started h)) equal ∙ over.at) in
                both_ways (is_write s0.kind && covers_block s0.piece f b) miss
                (subst (λ (x : Started). (is_write x.kind && covers_block x.piece f b) ≡ true) (sym one) (and_from (is_write s.kind) (covers_block s.piece f b) over.writes over.covers))
            | inr apart ↦
                none id s (record {
                  at = subst (λ (ios : List Started). slice_get ios id ≡ Some s) (sym same) over.at;
                  flying = has_ended_push h (End worker io Whole) id ∙ ap (λ (x : Bool). has_ended h id || x) (some_if (io == id) Whole ∙ ne_eqb io id apart) ∙ or-false (has_ended h id) ∙ over.flying;
                  writes = over.writes;
                  covers = over.covers;
                })
          ])
        where
          some_same : (u v : Started) → Some u ≡ Some v → u ≡ v
          some_same u v g = cc

  law_step : (h : List Event) (e : Event) → IsStep plan h e → NothingRaced (h ++ e ∷ []) → LastLaw h f b → LastLaw (h ++ e ∷ []) f b
  law_step h (Issue worker kind write piece) step raceless law =
      elim (cases_Bool (is_write (kind_for kind) && covers_block piece f b)) [
        | inl hit ↦
            let parts = and_parts (is_write (kind_for kind)) (covers_block piece f b) hit in
            law_issued h worker kind write piece step raceless parts.0 parts.1 law
        | inr miss ↦
            law_keeps plan f b h (Issue worker kind write piece) step (λ io. refl) (λ o. refl)
            (λ (o : Option WriteId). ap (λ (x : Bool). cond x (Some write) o) miss)
            (λ (s : Started) (starts : started_by (Issue worker kind write piece) ≡ Some s) (writes : is_write s.kind ≡ true) (covers : covers_block s.piece f b ≡ true).
            let one : record { worker = worker; kind = kind_for kind; write = write; piece = piece } ≡ s = some_same _ s starts in
            both_ways (is_write (kind_for kind) && covers_block piece f b) miss
            (subst (λ (x : Started). (is_write x.kind && covers_block x.piece f b) ≡ true) (sym one) (and_from (is_write s.kind) (covers_block s.piece f b) writes covers)))
            law
      ]
    where
      some_same : (u v : Started) → Some u ≡ Some v → u ≡ v
      some_same u v g = cc
  law_step h (Probe worker write piece) step raceless law =
      law_keeps plan f b h (Probe worker write piece) step (λ io. refl) (λ o. refl) (λ o. refl)
      (λ (s : Started) (starts : started_by (Probe worker write piece) ≡ Some s) (writes : is_write s.kind ≡ true) (covers : covers_block s.piece f b ≡ true).
      let one : ticket.Probe ≡ s.kind = some_kind _ s starts in
      both_ways (is_write ticket.Probe) refl (ap is_write one ∙ writes))
      law
    where
      some_kind : (u v : Started) → Some u ≡ Some v → u.kind ≡ v.kind
      some_kind u v g = let one : u ≡ v = cc in ap (λ (x : Started). x.kind) one
  law_step h (Skip worker write) step raceless law =
      law_keeps plan f b h (Skip worker write) step (λ io. refl) (λ o. refl) (λ o. refl) (λ s starts writes covers. nothing s starts) law
    where
      nothing : (s : Started) → None ≡ Some s → ⊥
      nothing s g = cc
  law_step h (Verdict worker io verdict) step raceless law =
      law_keeps plan f b h (Verdict worker io verdict) step (λ i. refl) (λ o. refl) (λ o. refl) (λ s starts writes covers. nothing s starts) law
    where
      nothing : (s : Started) → None ≡ Some s → ⊥
      nothing s g = cc
  law_step h (End worker io outcome) step raceless law = whole_end outcome step
    where
      whole_end : (o : Outcome) → IsStep plan h (End worker io o) → LastLaw (h ++ End worker io o ∷ []) f b
      whole_end Failed bad = absurd (cc (bad.calm))
      whole_end (Short n) bad = absurd (cc (bad.calm))
      whole_end Whole good =
          let flying = and_parts (nat_lt io (length (started h))) (is_none (outcome_of h io)) (and_parts (flies h io) (end_fits worker Whole (slice_get (started h) io)) good.may).0 in
          let found = item_at (started h) io (ltb-true io (length (started h)) flying.0) in
          law_ended h worker io found.0 good (raced_before h (End worker io outcome) raceless io) found.1 (none_is_none (outcome_of h io) flying.1) (is_write found.0.kind && covers_block found.0.piece f b) refl law

  pub last_law : (history : List Event) → NothingRaced history → is_legal plan history ≡ true → are_fine history ≡ true → LastLaw history f b
  last_law history raceless legal quiet =
      along plan (λ (h : List Event). NothingRaced h → LastLaw h f b) (λ none. record { flying = λ id s over. absurd (none_got id s over.at); landed = λ none. refl })
      (λ h e step so_far raceless_then. law_step h e step raceless_then (so_far (raced_before h e raceless_then))) history legal quiet raceless
    where
      none_got : (id : ℕ) (s : Started) → None ≡ Some s → ⊥
      none_got id s g = cc

-- where no write of a block is in flight, its last write is the one that was issued last
pub last_is_issued : (plan : Plan) (history : List Event) (file block : ℕ) → IsPlanned plan → none_declines plan ≡ true → is_legal plan history ≡ true → is_quiet history ≡ true → list_any (writes_block file block) (in_flight history) ≡ false → last_write history file block ≡ last_issued history file block
last_is_issued plan history file block planned_all declined legal quiet none =
    let raceless = unraced plan (λ i job at. (planned_all.drafted.placed i job at).number) declined history legal in
    (last_law plan file block history raceless legal (quiet_is_fine plan history raceless legal quiet)).landed
    (λ (id : ℕ) (s : Started) (over : FliesOver history file block id s).
    both_ways (list_any (writes_block file block) (in_flight history)) none
    (found_flying history (writes_block file block) id s over.at over.flying (and_from (is_write s.kind) (covers_block s.piece file block) over.writes over.covers)))
