-- What each event makes of what is in flight.
use Rattle.std.proofs.Common.{◌≡◌, ℕ, List, [], ◌∷◌, length, Bool, true, false, cond, arith, refl, sym, ◌∙◌, ap, subst}
use Rattle.std.specs.Prelude.{Option, Some, None, IfSome, nat_lt, ◌==◌}
use Rattle.std.specs.BTreeMap.{insert_entry, is_at}
use Rattle.std.specs.Map.{keys_of, remove_entry}
use Rattle.std.specs.List.Sorted.{IsStrictlySortedBy}
use Rattle.std.specs.declared.cmp.Ordering.TheVariants.{Less, Equal, Greater}
use Rattle.std.specs.Ordering.{nat_cmp, is_eq}
use Rattle.std.proofs.lemmas.Bool.{eq-eqb, ne_eqb, le-ltb}
use Rattle.std.proofs.lemmas.Cmp.{nat_cmp_total}
use Rattle.jr_model.specs.declared.blocks.Dir.{Dir}
use Rattle.jr_model.specs.declared.blocks.Piece.{Piece}
use Rattle.jr_model.specs.declared.events.Event.{Event}
use Rattle.jr_model.specs.declared.events.Event.TheVariants.{Skip, End, Verdict as Judged}
use Rattle.jr_model.specs.declared.events.Outcome.{Outcome}
use Rattle.jr_model.specs.declared.events.Started.{Started}
use Rattle.jr_model.specs.declared.events.Verdict.{Verdict}
use Rattle.jr_model.specs.declared.events.WriteId.{WriteId}
use Rattle.jr_model.specs.History.{started, started_by, flies}
use Rattle.jr_model.specs.Legal.{is_clear as is_clear_after}
use Rattle.jr_model.specs.Plan.{Plan, SubJob}
use Rattle.jr_model.specs.Races.{has_raced}
use Rattle.jr_flight.specs.declared.ios.Ended.{Ended}
use Rattle.jr_flight.specs.declared.ios.Io.{Io}
use Rattle.jr_flight.specs.Flights.{flying_io, is_clear, is_raced, marked, raced_so_far, writes}
use Rattle.jr_writes.proofs.EntryLemmas.{remove-insert_entry}
use Rattle.jr_laws_steps.proofs.DrawnLaws.{start_fits}
use Rattle.jr_laws_log.specs.Flying.{io_of, flight_of}
use Rattle.jr_laws_log.proofs.FlyingLaws.{next_is_free, clear_is_clear, next_flies, others_fly_on, ended_flies_no_more, flight-skips}
use Rattle.jr_laws_log.proofs.FlyingLaws.{raced_in_flight}
use Rattle.jr_laws_steps.specs.Nexts.{IsNext, grown}
use Rattle.jr_desk_state.specs.declared.flying.Flying.{Flying}
use Rattle.jr_desk_state.specs.Flyings.{with_begun, CanBegin, IsFlying}
use Rattle.jr_desk_state.proofs.FlyingEntries.{absent_still, absent_marked, put_at, put_elsewhere, remove_beside, flight_in_order}

-- a skip changes nothing of what flies
pub flying_skip : (plan : Plan) (history : List Event) (worker : ℕ) (write : WriteId) (flying : Flying)
    → IsNext plan history (Skip worker write)
    → IsFlying plan history flying
    → IsFlying plan (grown history (Skip worker write)) flying
flying_skip plan history worker write flying next was =
    record { all = flight-skips plan history (Skip worker write ∷ []) refl ∙ was.all; begins = was.begins }

-- nor does a verdict
pub flying_verdict : (plan : Plan) (history : List Event) (worker id : ℕ) (verdict : Verdict) (flying : Flying)
    → IsNext plan history (Judged worker id verdict)
    → IsFlying plan history flying
    → IsFlying plan (grown history (Judged worker id verdict)) flying
flying_verdict plan history worker id verdict flying next was =
    let any : WriteId = record { clone = 0; pass = 0; number = 0 } in
    record { all = (others_fly_on plan history worker id any verdict).1 ∙ was.all; begins = was.begins }

-- what is started stands beside what flies, which is marked where it races
pub flying_start : (plan : Plan) (history : List Event) (event : Event) (begun : Started) (io : Io) (flying : Flying)
    → IsNext plan history event
    → started_by event ≡ Some begun
    → io ≡ io_of plan (length (started history)) begun
    → flying.begun ≡ None
    → IsFlying plan history flying
    → IsFlying plan (grown history event)
    (record { flight = marked io flying.flight; begun = Some (record { io = io; raced = is_raced io flying.flight }) })
flying_start plan h event begun io flying next starts is none was =
    subst (λ (x : Io). IsFlying plan (grown h event) (with_io x flying.flight)) (sym is)
    (subst (λ (es : List (ℕ × Ended)). IsFlying plan (grown h event) (with_io own es)) same now)
  where
    with_io : Io → List (ℕ × Ended) → Flying
    with_io x es = record { flight = marked x es; begun = Some (record { io = x; raced = is_raced x es }) }

    own : Io
    own = io_of plan (length (started h)) begun

    same : flight_of plan h ≡ flying.flight
    same = was.all ∙ ap (λ (o : Option Ended). with_begun o flying.flight) none

    now : IsFlying plan (grown h event) (with_io own (flight_of plan h))
    now =
        let n = length (started h) in record {
          all = next_flies plan h event begun next.legal starts;
          begins = record {
            new = absent_marked own (is_at (nat_cmp n)) (flight_of plan h) (next_is_free plan h);
            fits = start_fits plan h event begun next starts;
          };
        }

-- a clone's piece is clear of what flies just where it is after the history
pub flying_clear : (plan : Plan) (history : List Event) (job : SubJob) (dir : Dir) (piece : Piece) (flying : Flying)
    → flying.begun ≡ None
    → IsFlying plan history flying
    → is_clear job.declines dir piece flying.flight ≡ is_clear_after plan history job (writes dir) piece
flying_clear plan h job dir piece flying none was =
    sym (ap (is_clear job.declines dir piece) (was.all ∙ ap (λ (o : Option Ended). with_begun o flying.flight) none))
    ∙ clear_is_clear plan h job dir piece

-- the end of what began last
pub flying_end_begun : (plan : Plan) (history : List Event) (worker id : ℕ) (outcome : Outcome) (ended : Ended) (flying : Flying)
    → flying.begun ≡ Some ended
    → ended.io.id ≡ id
    → IsFlying plan history flying
    → IsFlying plan (grown history (End worker id outcome)) (record { flight = flying.flight; begun = None })
flying_end_begun plan h worker id outcome ended flying is same was =
    record { all = ended_flies_no_more plan h worker id outcome ∙ taken; begins = tt }
  where
    begins : CanBegin flying.flight ended
    begins = subst (λ (o : Option Ended). IfSome o (CanBegin flying.flight)) is was.begins

    taken : remove_entry (is_at (nat_cmp id)) (flight_of plan h) ≡ flying.flight
    taken =
        ap (remove_entry (is_at (nat_cmp id))) (was.all ∙ ap (λ (o : Option Ended). with_begun o flying.flight) is)
        ∙ ap (λ (n : ℕ). remove_entry (is_at (nat_cmp n)) (insert_entry nat_cmp flying.flight ended.io.id ended)) (sym same)
        ∙ remove-insert_entry nat_cmp_total ended.io.id ended flying.flight begins.new

-- an I/O that can begin can begin when another ended
still_begins : (id : ℕ) (es : List (ℕ × Ended)) (ended : Ended) → CanBegin es ended → CanBegin (remove_entry (is_at (nat_cmp id)) es) ended
still_begins id es ended can =
    record { new = absent_still (is_at (nat_cmp ended.io.id)) (is_at (nat_cmp id)) es can.new; fits = can.fits }

-- entries of other numbers are passed over
other_number : (id n : ℕ) → (n ≡ id → ⊥) → is_at (nat_cmp id) n ≡ false
other_number id n apart = by (nat_lt id n)
  where
    by : (b : Bool) → is_eq (cond b Less (cond (id == n) Equal Greater)) ≡ false
    by true = refl
    by false = ap (λ (b : Bool). is_eq (cond b Equal Greater)) (ne_eqb id n (λ same. apart (sym same)))

own_number : (n : ℕ) → is_at (nat_cmp n) n ≡ true
own_number n =
    ap (λ (b : Bool). is_eq (cond b Less (cond (n == n) Equal Greater))) (le-ltb n n (omega arith))
    ∙ ap (λ (b : Bool). is_eq (cond b Equal Greater)) (eq-eqb n n refl)

-- the end of another
pub flying_end_other : (plan : Plan) (history : List Event) (worker id : ℕ) (outcome : Outcome) (flying : Flying)
    → ((ended : Ended) → flying.begun ≡ Some ended → ended.io.id ≡ id → ⊥)
    → IsFlying plan history flying
    → IsFlying plan (grown history (End worker id outcome))
    (record { flight = remove_entry (is_at (nat_cmp id)) flying.flight; begun = flying.begun })
flying_end_other plan h worker id outcome flying apart was = by flying.begun apart was.all was.begins
  where
    by : (o : Option Ended)
        → ((ended : Ended) → o ≡ Some ended → ended.io.id ≡ id → ⊥)
        → flight_of plan h ≡ with_begun o flying.flight
        → IfSome o (CanBegin flying.flight)
        → IsFlying plan (grown h (End worker id outcome)) (record { flight = remove_entry (is_at (nat_cmp id)) flying.flight; begun = o })
    by None other all begins =
        record { all = ended_flies_no_more plan h worker id outcome ∙ ap (remove_entry (is_at (nat_cmp id))) all; begins = tt }
    by (Some ended) other all begins =
        record {
          all = ended_flies_no_more plan h worker id outcome
              ∙ ap (remove_entry (is_at (nat_cmp id))) all
              ∙ remove_beside nat_cmp ended.io.id ended id (other_number id ended.io.id (other ended refl)) flying.flight
              (subst (λ (es : List (ℕ × Ended)). IsStrictlySortedBy nat_cmp (keys_of es)) all (flight_in_order plan h)) begins.new;
          begins = still_begins id flying.flight ended begins;
        }

-- of what began last
pub raced_begun : (plan : Plan) (history : List Event) (id : ℕ) (ended : Ended) (flying : Flying)
    → flying.begun ≡ Some ended
    → ended.io.id ≡ id
    → IsFlying plan history flying
    → flies history id ≡ true
    → ended.raced ≡ has_raced history id
raced_begun plan h id ended flying is same was flying_now =
    sym (ap raced_so_far (ap (flying_io id) (was.all ∙ ap (λ (o : Option Ended). with_begun o flying.flight) is) ∙ found))
    ∙ raced_in_flight plan h id flying_now
  where
    begins : CanBegin flying.flight ended
    begins = subst (λ (o : Option Ended). IfSome o (CanBegin flying.flight)) is was.begins

    found : flying_io id (insert_entry nat_cmp flying.flight ended.io.id ended) ≡ Some ended
    found =
        subst (λ (n : ℕ). flying_io n (insert_entry nat_cmp flying.flight ended.io.id ended) ≡ Some ended) same
        (put_at nat_cmp ended.io.id ended (own_number ended.io.id) flying.flight begins.new)

-- and of the others
pub raced_other_flying : (plan : Plan) (history : List Event) (id : ℕ) (flying : Flying)
    → ((ended : Ended) → flying.begun ≡ Some ended → ended.io.id ≡ id → ⊥)
    → IsFlying plan history flying
    → flies history id ≡ true
    → raced_so_far (flying_io id flying.flight) ≡ has_raced history id
raced_other_flying plan h id flying apart was flying_now = by flying.begun apart was.all was.begins
  where
    by : (o : Option Ended)
        → ((ended : Ended) → o ≡ Some ended → ended.io.id ≡ id → ⊥)
        → flight_of plan h ≡ with_begun o flying.flight
        → IfSome o (CanBegin flying.flight)
        → raced_so_far (flying_io id flying.flight) ≡ has_raced h id
    by None other all begins = sym (ap (λ (es : List (ℕ × Ended)). raced_so_far (flying_io id es)) all) ∙ raced_in_flight plan h id flying_now
    by (Some ended) other all begins =
        ap raced_so_far (sym (put_elsewhere nat_cmp ended.io.id ended id (other_number id ended.io.id (other ended refl)) flying.flight begins.new))
        ∙ sym (ap (λ (es : List (ℕ × Ended)). raced_so_far (flying_io id es)) all)
        ∙ raced_in_flight plan h id flying_now
