use Rattle.std.proofs.Common.{◌≡◌, ◌*◌, ◌<◌, ◌≤◌, max, ℕ, true}
use Rattle.jr_desk_state.specs.Waitings.{is_marked}
use Rattle.jr_desk_state.proofs.waiting.Waiting.next_unmarked.Given as goal

abbrev pub invariant-loop-place : goal.invariant-loop-place
invariant-loop-place l =
    (c : ℕ) → l.from ≤ c → c < max l.from (64 * l.place) → is_marked l.self.words.items c ≡ true
