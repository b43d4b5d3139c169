-- Internal: what is kept of a run beside its history, and when the next step can want no more memory.
use Rattle.std.specs.Prelude.{◌≡◌, ◌+◌, ◌<◌, ◌≤◌, ℕ, true, List, length, sum_by, None, vec_len, vec_capacity}
use Rattle.jr_model.specs.Legal.{is_legal}
use Rattle.jr_model.specs.Plan.{Plan}
use Rattle.jr_model.specs.PlanFacts.{IsPlanned}
use Rattle.jr_desk_totals.specs.Tallying.{IsTallied}
use Rattle.jr_desk_tickets.specs.Handing.{IsHanded}
use Rattle.jr_desk_state.specs.declared.board.Board.{Board}
use Rattle.jr_desk_state.specs.declared.standings.Standing.{Standing}
use Rattle.jr_desk_state.specs.Flyings.{IsFlying}
use Rattle.jr_desk_state.specs.Rests.{AreRested}
use Rattle.jr_desk_state.specs.Standings.{AreOthersPrepared, ArePrepared, AreStanding, left_in}
use Rattle.jr_desk_state.specs.Waitings.{AreWaiting}
use Rattle.jr_desk_state.specs.WriteLogs.{IsLog}

-- the writes that are still to check, of all clones: no more of them can be skipped
abbrev pub left_of : List Standing → ℕ
left_of standings = sum_by left_in standings

-- the history is legal, and each index is that of the history
pub record IsBoard (plan : Plan) (board : Board) : Type 0 where
  pub planned : IsPlanned plan
  pub legal : is_legal plan board.history.items ≡ true
  pub tickets : IsHanded plan board.history.items board.tickets
  pub flying : IsFlying plan board.history.items board.flying
  pub log : IsLog plan board.history.items board.log
  pub tallies : IsTallied plan board.history.items board.tallies
  pub standings : AreStanding plan board.history.items board.standings.items
  pub rested : AreRested plan board.history.items board.rested
  pub waiting : AreWaiting plan board.history.items board.waiting
  pub others : AreOthersPrepared plan board.last_issued board.standings.items
  pub left : left_of board.standings.items ≤ board.left
  pub few : board.left ≤ length board.history.items

-- a skip of each write that is still to check, and one more step, take no memory
pub record IsReady (plan : Plan) (board : Board) : Type 0 where
  pub history : vec_len board.history + left_of board.standings.items < vec_capacity board.history
  pub launches : vec_len board.tickets.launches < vec_capacity board.tickets.launches
  pub headers : vec_len board.tickets.headers < vec_capacity board.tickets.headers
  pub states : vec_len board.tickets.states < vec_capacity board.tickets.states
  pub flying : board.flying.begun ≡ None
  pub standings : ArePrepared plan board.standings.items
