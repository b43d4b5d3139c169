-- An I/O has raced where a write over its bytes was in flight beside it, and only there.
use Rattle.std.proofs.Common.{◌≡◌, ℕ, ◌+◌, ◌<◌, List, [], ◌∷◌, ◌++◌, length, Bool, true, cond, ◌&&◌, ◌||◌, refl, sym, ◌∙◌, ap, subst, arith, inl, inr, append_assoc, append-nil}
use Rattle.std.specs.Prelude.{Option, Some, None, slice_get, is_none, nat_lt}
use Rattle.std.specs.List.{list_any}
use Rattle.std.proofs.lemmas.Bool.{and_parts, and_from, cases_Bool, cases_eq, eq-eqb, false≢true, lt-ltb, ltb-true, ne_eqb, or_cases}
use Rattle.std.proofs.lemmas.Option.{slice_get_within}
use Rattle.std.proofs.Math.Bool.{or-true}
use Rattle.jr_model.specs.declared.events.Event.{Event}
use Rattle.jr_model.specs.declared.events.Started.{Started}
use Rattle.jr_model.specs.History.{started, started_by, outcome_of, flies, in_flight}
use Rattle.jr_model.specs.Legal.{is_legal, may_happen}
use Rattle.jr_model.specs.Plan.{Plan}
use Rattle.jr_model.specs.Races.{has_raced, races_by, writes_over, writes_over_io}
use Rattle.jr_model.proofs.RaceLaws.{raced_push}
use Rattle.jr_model.proofs.HistoryLemmas.{by_events}
use Rattle.jr_laws_steps.proofs.StartedLemmas.{got_within, started-append, started_next, started_stays}
use Rattle.jr_laws_bytes.proofs.LastWrites.{started_cases, unended_before}
use Rattle.jr_laws_bytes.proofs.Starts.{none_of_flying}
use Rattle.jr_laws_races.specs.Beside.{RacedIsWrittenOver, WasWrittenOver, WereBeside, WrittenOverHasRaced}
use Rattle.jr_laws_races.proofs.Flown.{flies_now, flies_on, open_of, passes}

-- ---- what has raced was written over

-- it stays so
later : (history : List Event) (e : Event) (io : ℕ) → WasWrittenOver history io → WasWrittenOver (history ++ e ∷ []) io
later history e io was = record {
  other = was.other;
  apart = was.apart;
  own = was.own;
  write = was.write;
  at = started_stays history (e ∷ []) io was.own was.at;
  there = started_stays history (e ∷ []) was.other was.write was.there;
  over = was.over;
  beside = record {
    front = was.beside.front;
    rest = was.beside.rest ++ e ∷ [];
    parts = ap (λ (h : List Event). h ++ e ∷ []) was.beside.parts ∙ append_assoc was.beside.front was.beside.rest (e ∷ []);
    one = was.beside.one;
    both = was.beside.both;
  };
}

now_beside : (history : List Event) (io other : ℕ) → flies history io ≡ true → flies history other ≡ true → WereBeside history io other
now_beside history io other one both =
    record { front = history; rest = []; parts = sym (append-nil history); one = one; both = both }

over_parts : (o : Option Started) (new : Started) → writes_over_io o new ≡ true → (own : Started) × (o ≡ Some own) × (writes_over own.piece new ≡ true)
over_parts None new h = absurd (false≢true h)
over_parts (Some own) new h = (own, refl, h)

module _ (plan : Plan) (history : List Event) (e : Event) (io : ℕ) (legal : is_legal plan history ≡ true) where
  abbrev after : List Event
  after = history ++ e ∷ []

  -- by what starts
  made : (o : Option Started) → started_by e ≡ o → races_by history io o ≡ true → WasWrittenOver after io
  made None none h = absurd (false≢true h)
  made (Some new) starts h =
      let n = length (started history) in
      let any = list_any (writes_over new.piece) (in_flight history) in
      let over = writes_over_io (slice_get (started history) io) new && flies history io in
      elim (cases_eq n io) [
        | inl same ↦
            let found = passes history (writes_over new.piece) (sym (ap (λ (c : Bool). cond c any over) (eq-eqb n io same)) ∙ h) in
            let below : found.place < n = slice_get_within (started history) found.place found.io found.at in
            let zero_more : 0 + found.place ≡ found.place = omega arith in
            record {
              other = found.place;
              apart = λ (one : found.place ≡ io). omega (arith, one, same, below);
              own = new;
              write = found.io;
              at = subst (λ (i : ℕ). slice_get (started after) i ≡ Some new) same (started_next history e new starts);
              there = started_stays history (e ∷ []) found.place found.io found.at;
              over = found.is;
              beside =
                  now_beside after io found.place
                  (subst (λ (i : ℕ). flies after i ≡ true) same (flies_now plan history e new legal starts))
                  (flies_on history e new found.io found.place starts found.at
                  (subst (λ (k : ℕ). outcome_of history k ≡ None) zero_more found.unended));
            }
        | inr apart ↦
            let parts = and_parts (writes_over_io (slice_get (started history) io) new) (flies history io)
            (sym (ap (λ (c : Bool). cond c any over) (ne_eqb n io apart)) ∙ h) in
            let own = over_parts (slice_get (started history) io) new parts.0 in
            record {
              other = n;
              apart = apart;
              own = own.0;
              write = new;
              at = started_stays history (e ∷ []) io own.0 own.1;
              there = started_next history e new starts;
              over = own.2;
              beside =
                  now_beside after io n (flies_on history e new own.0 io starts own.1 (open_of history io parts.1))
                  (flies_now plan history e new legal starts);
            }
      ]

pub raced_is_written_over : RacedIsWrittenOver
raced_is_written_over plan history io legal raced =
    by_events plan (λ (h : List Event). (k : ℕ) → has_raced h k ≡ true → WasWrittenOver h k) (λ k none. absurd (false≢true none)) more history legal
    io raced
  where
    more : (h : List Event) (e : Event) → is_legal plan h ≡ true → ((k : ℕ) → has_raced h k ≡ true → WasWrittenOver h k)
        → may_happen plan h e ≡ true → (k : ℕ) → has_raced (h ++ e ∷ []) k ≡ true → WasWrittenOver (h ++ e ∷ []) k
    more h e legal_before before may k now =
        elim (or_cases (has_raced h k) (races_by h k (started_by e)) (sym (raced_push h e k) ∙ now)) [
          | inl earlier ↦ later h e k (before k earlier)
          | inr made_now ↦ made plan h e k legal_before (started_by e) refl made_now
        ]

-- ---- what was written over has raced

along : (P : List Event → Type 0) → ((h : List Event) (e : Event) → P h → P (h ++ e ∷ [])) → (before events : List Event) → P before
    → P (before ++ events)
along P step before [] held = subst P (sym (append-nil before)) held
along P step before (e ∷ events) held =
    subst P (append_assoc before (e ∷ []) events) (along P step (before ++ e ∷ []) events (step before e held))

raced_stays : (rest front : List Event) (io : ℕ) → has_raced front io ≡ true → has_raced (front ++ rest) io ≡ true
raced_stays rest front io raced =
    along (λ (h : List Event). has_raced h io ≡ true)
    (λ (h : List Event) (e : Event) (held : has_raced h io ≡ true).
    raced_push h e io ∙ ap (λ (b : Bool). b || races_by h io (started_by e)) held)
    front rest raced

-- two I/Os that fly, of which one writes where the other lies, have raced
AreRacing : List Event → Type 0
AreRacing h =
    (io other : ℕ) (own write : Started) → (other ≡ io → ⊥)
    → slice_get (started h) io ≡ Some own → slice_get (started h) other ≡ Some write
    → outcome_of h io ≡ None → outcome_of h other ≡ None
    → writes_over own.piece write ≡ true
    → has_raced h io ≡ true

some_flying : (h : List Event) (test : Started → Bool) (other : ℕ) (write : Started) → slice_get (started h) other ≡ Some write
    → outcome_of h other ≡ None → test write ≡ true → list_any test (in_flight h) ≡ true
some_flying h test other write there unended is =
    elim (cases_Bool (list_any test (in_flight h))) [
      | inl some ↦ some
      | inr none ↦ absurd (false≢true (sym (none_of_flying h test other write none there unended) ∙ is))
    ]

racing_more : (h : List Event) (e : Event) → AreRacing h → AreRacing (h ++ e ∷ [])
unfolding AreRacing
racing_more h e racing io other own write apart at there open_io open_other over =
    let n = length (started h) in
    let free_io = unended_before h e io open_io in
    let free_other = unended_before h e other open_other in
    elim (started_cases h e io own at) [
      | inl old_io ↦
          elim (started_cases h e other write there) [
            | inl old_other ↦
                raced_push h e io
                ∙ ap (λ (b : Bool). b || races_by h io (started_by e))
                (racing io other own write apart old_io old_other free_io.0 free_other.0 over)
            | inr new_other ↦
                let below : io < n = slice_get_within (started h) io own old_io in
                let any = list_any (writes_over write.piece) (in_flight h) in
                let both = writes_over_io (slice_get (started h) io) write && flies h io in
                let flies_io : flies h io ≡ true =
                and_from (nat_lt io n) (is_none (outcome_of h io)) (lt-ltb io n below) (ap is_none free_io.0) in
                let races : races_by h io (started_by e) ≡ true =
                ap (races_by h io) new_other.1
                ∙ ap (λ (c : Bool). cond c any both) (ne_eqb n io (λ same. omega (arith, same, below)))
                ∙ and_from (writes_over_io (slice_get (started h) io) write) (flies h io)
                (ap (λ (o : Option Started). writes_over_io o write) old_io ∙ over) flies_io in
                raced_push h e io ∙ ap (λ (b : Bool). has_raced h io || b) races ∙ or-true (has_raced h io)
          ]
      | inr new_io ↦
          elim (started_cases h e other write there) [
            | inl old_other ↦
                let any = list_any (writes_over own.piece) (in_flight h) in
                let both = writes_over_io (slice_get (started h) io) own && flies h io in
                let races : races_by h io (started_by e) ≡ true =
                ap (races_by h io) new_io.1
                ∙ ap (λ (c : Bool). cond c any both) (eq-eqb n io (sym new_io.0))
                ∙ some_flying h (writes_over own.piece) other write old_other free_other.0 over in
                raced_push h e io ∙ ap (λ (b : Bool). has_raced h io || b) races ∙ or-true (has_raced h io)
            | inr new_other ↦ absurd (apart (new_other.0 ∙ sym new_io.0))
          ]
    ]

none_racing : AreRacing []
unfolding AreRacing
none_racing io other own write apart at there open_io open_other over = absurd (none_got io own at)
  where
    none_got : (k : ℕ) (s : Started) → slice_get [] k ≡ Some s → ⊥
    none_got k s h = cc

pub written_over_has_raced : WrittenOverHasRaced
unfolding AreRacing
written_over_has_raced history io was =
    let front = was.beside.front in
    let rest = was.beside.rest in
    let io_below = below front io was.beside.one in
    let other_below = below front was.other was.beside.both in
    let in_front : (k : ℕ) (s : Started) → k < length (started front) → slice_get (started history) k ≡ Some s → slice_get (started front) k ≡ Some s =
    λ (k : ℕ) (s : Started) (less : k < length (started front)) (at : slice_get (started history) k ≡ Some s).
    got_within (started front) (started rest) k s less
    (ap (λ (ios : List Started). slice_get ios k) (sym (started-append front rest) ∙ ap started (sym was.beside.parts)) ∙ at) in
    ap (λ (h : List Event). has_raced h io) was.beside.parts
    ∙ raced_stays rest front io
    (along AreRacing racing_more [] front none_racing io was.other was.own was.write was.apart (in_front io was.own io_below was.at)
    (in_front was.other was.write other_below was.there) (open_of front io was.beside.one) (open_of front was.other was.beside.both) was.over)
  where
    below : (h : List Event) (k : ℕ) → flies h k ≡ true → k < length (started h)
    below h k flying =
        ltb-true k (length (started h)) (and_parts (nat_lt k (length (started h))) (is_none (outcome_of h k)) flying).0
