-- What follows from the definitions of a round, and how they agree with what a search of its writes answers.
use Rattle.std.proofs.Common.{◌≡◌, ℕ, ◌+◌, ◌<◌, ◌≤◌, ◌==◌, Bool, true, false, not, ◌&&◌, List, [], ◌∷◌, ◌++◌, length, refl, ap, sym, ◌∙◌, arith}
use Rattle.std.specs.Prelude.{min, filter, find, remove, HoldsAt, if◌then◌else◌}
use Rattle.std.specs.List.Sorted.{IsPartitionPoint}
use Rattle.std.specs.declared.cmp.Ordering.TheVariants.{Less, Equal, Greater}
use Rattle.std.specs.Ordering.{is_eq, nat_cmp, ordering_then}
use Rattle.std.specs.declared.cmp.Ordering.{Ordering}
use Rattle.std.proofs.lemmas.Bool.{and_parts}
use Rattle.std.proofs.lemmas.Bool.Decides.{nat_tests}
use Rattle.jr_model.specs.declared.events.WriteId.{WriteId}
use Rattle.jr_model.specs.History.{same_write, write_order}
use Rattle.jr_model.proofs.Equality.{write_order_total}
use Rattle.jr_model.proofs.ListLemmas.{none_by_length}
use Rattle.jr_backlog.specs.Rounds.{Round, is_before, is_due, IsInOrder, new_round, is_closed, filling, comes_last, next_to_check_after, with_written}
use Rattle.jr_backlog.proofs.OrderedKeys as keys

-- two parts of a name tie where both do
is_eq-then : (o p : Ordering) → is_eq (ordering_then o p) ≡ (is_eq o && is_eq p)
is_eq-then Less p = refl
is_eq-then Equal p = refl
is_eq-then Greater p = refl

is_eq-nat_cmp : (x y : ℕ) → is_eq (nat_cmp x y) ≡ (x == y)
is_eq-nat_cmp x y = grind (arith, nat_tests)

and_assoc : (a b c : Bool) → (a && (b && c)) ≡ (a && b && c)
and_assoc true b c = refl
and_assoc false b c = refl

-- two writes tie in the order exactly where they are one
pub is_eq-write_order : (a b : WriteId) → is_eq (write_order a b) ≡ same_write a b
is_eq-write_order a b =
    is_eq-then (nat_cmp a.clone b.clone) (ordering_then (nat_cmp a.pass b.pass) (nat_cmp a.number b.number))
    ∙ ap (λ c. is_eq (nat_cmp a.clone b.clone) && c) (is_eq-then (nat_cmp a.pass b.pass) (nat_cmp a.number b.number))
    ∙ and_assoc (is_eq (nat_cmp a.clone b.clone)) (is_eq (nat_cmp a.pass b.pass)) (is_eq (nat_cmp a.number b.number))
    ∙ ap (λ c. c && is_eq (nat_cmp a.pass b.pass) && is_eq (nat_cmp a.number b.number)) (is_eq-nat_cmp a.clone b.clone)
    ∙ ap (λ c. (a.clone == b.clone) && c && is_eq (nat_cmp a.number b.number)) (is_eq-nat_cmp a.pass b.pass)
    ∙ ap (λ c. (a.clone == b.clone) && (a.pass == b.pass) && c) (is_eq-nat_cmp a.number b.number)

-- a write that was passed is taken out wherever it stands
pub removed_write : (write : WriteId) (writes : List WriteId) (place : ℕ) → IsInOrder writes → place < length writes → HoldsAt (λ other. write_order other write ≡ Equal) writes place → remove writes place ≡ filter (λ (other : WriteId). not (same_write write other)) writes
removed_write write writes place = keys.found_removed write_order_total write (same_write write) (is_eq-write_order write) writes place

-- a write that a search does not find is not there to take out
pub absent_write : (write : WriteId) (writes : List WriteId) (place : ℕ) → IsPartitionPoint (λ other. write_order other write ≡ Less) (λ other. write_order other write ≡ Greater) writes place → filter (λ (other : WriteId). not (same_write write other)) writes ≡ writes
absent_write write writes place = keys.missed_kept write_order_total write (same_write write) (is_eq-write_order write) writes place

-- the round that a write goes to
filling-closed : (round : Round) → is_closed round ≡ true → filling round ≡ new_round round.limit
filling-closed round e = rw e

filling-open : (round : Round) → is_closed round ≡ false → filling round ≡ round
filling-open round e = rw e

with_one_more : WriteId → Round → Round
with_one_more write now = record now { count = min now.limit (now.count + 1); to_check = now.to_check ++ write ∷ [] }

-- what the call `written` leaves
added-to : (round : Round) (write : WriteId) (begins : Bool) (count : ℕ) (writes : List WriteId) → begins ≡ is_closed round → writes ≡ round.to_check ++ write ∷ [] → count ≡ min round.limit ((if begins then 0 else round.count) + 1) → record { limit = round.limit; count = count; exhausted = if begins then false else round.exhausted; to_check = writes } ≡ with_written round write
unfolding with_one_more
added-to round write true count writes b k n =
    let empty : round.to_check ≡ [] = none_by_length round.to_check (and_parts (is_due round) (length round.to_check == 0) (sym b)).1 in
    let one : writes ≡ write ∷ [] = k ∙ ap (λ (ws : List WriteId). ws ++ write ∷ []) empty in
    rw (n, one) (ap (with_one_more write) (sym (filling-closed round (sym b))))
added-to round write false count writes b k n =
    rw (n, k) (ap (with_one_more write) (sym (filling-open round (sym b))))

-- the same, where the round is another's view
pub added : (old round : Round) (write : WriteId) (begins : Bool) (count : ℕ) (writes : List WriteId) → old ≡ round → begins ≡ is_closed round → writes ≡ old.to_check ++ write ∷ [] → count ≡ min old.limit ((if begins then 0 else old.count) + 1) → record { limit = old.limit; count = count; exhausted = if begins then false else old.exhausted; to_check = writes } ≡ with_written round write
added old round write begins count writes same b k n =
    added-to old write begins count writes (b ∙ ap is_closed (sym same)) k n
    ∙ ap (λ r. with_written r write) same

-- the writes stay in order where one that comes after them all is added
pub added_in_order : (old round : Round) (write : WriteId) (writes : List WriteId) → old ≡ round → IsInOrder old.to_check → comes_last round write ≡ true → writes ≡ old.to_check ++ write ∷ [] → IsInOrder writes
added_in_order old round write writes same in_order last k = rw k (keys.sorted_push write_order write old.to_check in_order (ap (λ r. comes_last r write) same ∙ last))

-- in a round that is due, the next write to check is the first after it in order
pub due-later : (round : Round) (write : WriteId) → is_due round ≡ true → next_to_check_after round write ≡ find (is_before write) round.to_check
due-later round write e = rw e

-- one write more is counted, as far as the limit
pub counted : (limit n : ℕ) → n < limit → n + 1 ≡ min limit (n + 1)
counted limit n h = omega arith

pub counted_out : (limit n : ℕ) → n ≤ limit → limit ≤ n → n ≡ min limit (n + 1)
counted_out limit n h g = omega arith
