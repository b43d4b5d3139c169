-- Believed: the round of a clone's writes that is filled or checked at a time (fio's manual, "verify_backlog"; when a round
-- is due and when it is closed is of this project).
use Rattle.std.specs.Prelude.{ℕ, ◌+◌, ◌==◌, nat_lt, min, Bool, false, true, not, ◌&&◌, ◌||◌, List, [], ◌∷◌, ◌++◌, length, filter, find, slice_get, Option, None, if◌then◌else◌}
use Rattle.std.specs.List.{list_all, list_any}
use Rattle.std.specs.List.Sorted.{IsStrictlySortedBy}
use Rattle.std.specs.Ordering.{is_lt}
use Rattle.jr_model.specs.declared.events.WriteId.{WriteId}
use Rattle.jr_model.specs.History.{same_write, write_order}

-- a round as it stands
pub record Round : Type 0 where
  -- so many writes make a round due; where this is 0, no number of writes does
  pub limit : ℕ
  -- how many writes the round has, counted no further than the limit
  pub count : ℕ
  -- all draws were issued, so the round gets no more writes
  pub exhausted : Bool
  -- the writes of the round that weren't passed yet, in order
  pub to_check : List WriteId

abbrev pub is_before : WriteId → WriteId → Bool
is_before a b = is_lt (write_order a b)

-- each write is before those that follow it in the list
abbrev pub IsInOrder : List WriteId → Type 0
IsInOrder writes = IsStrictlySortedBy write_order writes

-- a round that has no write yet
abbrev pub new_round : ℕ → Round
new_round limit = record { limit = limit; count = 0; exhausted = false; to_check = [] }

-- the round has as many writes as the limit, or gets no more
abbrev pub is_due : Round → Bool
is_due round = (nat_lt 0 round.limit && (round.count == round.limit)) || round.exhausted

-- due, and each of its writes was passed
abbrev pub is_closed : Round → Bool
is_closed round = is_due round && (length round.to_check == 0)

-- a write may be added: to this round, or to the next where this one is closed
abbrev pub takes_writes : Round → Bool
takes_writes round = not (is_due round) || is_closed round

-- the write comes after all that are still to check
abbrev pub comes_last : Round → WriteId → Bool
comes_last round write = list_all (λ other. is_before other write) round.to_check

-- the write is still to check
abbrev pub is_to_check : Round → WriteId → Bool
is_to_check round write = list_any (same_write write) round.to_check

-- the round that the next write goes to: the next one where this one is closed
abbrev pub filling : Round → Round
filling round = if is_closed round then new_round round.limit else round

-- with one write more
abbrev pub with_written : Round → WriteId → Round
with_written round write =
    let now = filling round in
    record now { count = min now.limit (now.count + 1); to_check = now.to_check ++ write ∷ [] }

-- with all draws issued
abbrev pub with_exhausted : Round → Round
with_exhausted round = record round { exhausted = true }

-- without a write that was passed
abbrev pub with_passed : Round → WriteId → Round
with_passed round write = record round { to_check = filter (λ other. not (same_write write other)) round.to_check }

-- the first write to check, once the round is due
abbrev pub next_to_check : Round → Option WriteId
next_to_check round = if is_due round then slice_get round.to_check 0 else None

-- the first of them after this write, once the round is due
abbrev pub next_to_check_after : Round → WriteId → Option WriteId
next_to_check_after round write = if is_due round then find (is_before write) round.to_check else None
