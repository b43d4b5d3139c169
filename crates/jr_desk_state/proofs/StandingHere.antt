-- A clone of the plan, and where a board says that it stands.
use Rattle.std.proofs.Common.{◌≡◌, ◌<◌, ℕ, length, get_or, refl, sym, ◌∙◌, subst, arith}
use Rattle.std.specs.Prelude.{Some, slice_get}
use Rattle.std.proofs.lemmas.Option.{slice_get_read, slice_get_within, same_Some}
use Rattle.jr_model.specs.Plan.{Plan, SubJob, clone_of}
use Rattle.jr_model.proofs.PlanLemmas.{own_place}
use Rattle.jr_desk_state.specs.declared.board.Board.{Board}
use Rattle.jr_desk_state.specs.declared.standings.Standing.{Standing}
use Rattle.jr_desk_state.specs.Boards.{IsBoard, IsReady}
use Rattle.jr_desk_state.specs.Standings.{IsPrepared, IsStanding}

-- each clone of the plan has its standing
pub clone_stands : (plan : Plan) (board : Board) (c : ℕ) (job : SubJob) → IsBoard plan board → clone_of plan c ≡ Some job
    → c < length board.standings.items
clone_stands plan board c job is planned =
    omega (arith, slice_get_within plan.clones c job planned, is.standings.count)

-- what is read at a clone's place is its standing
pub stands_at : (plan : Plan) (board : Board) (c : ℕ) (job : SubJob) (standing : Standing) → IsBoard plan board
    → clone_of plan c ≡ Some job → standing ≡ get_or board.standings.items c standing → slice_get board.standings.items c ≡ Some standing
stands_at plan board c job standing is planned read =
    let same : length board.standings.items ≡ length board.standings.items = refl in
    slice_get_read board.standings.items (length board.standings.items) c standing same (clone_stands plan board c job is planned) read

-- and it stands after the history
pub stands_now : (plan : Plan) (board : Board) (c : ℕ) (job : SubJob) (standing : Standing) → IsBoard plan board
    → clone_of plan c ≡ Some job → standing ≡ get_or board.standings.items c standing → IsStanding board.history.items job standing
stands_now plan board c job standing is planned read =
    is.standings.each c job standing planned (stands_at plan board c job standing is planned read)

-- the job of clone c, and its standing on the board
pub record StandsHere (plan : Plan) (board : Board) (c : ℕ) (job : SubJob) (standing : Standing) : Type 0 where
  pub is : IsBoard plan board
  pub planned : clone_of plan c ≡ Some job
  pub at : slice_get board.standings.items c ≡ Some standing

pub standing_here : {plan : Plan} {board : Board} {job : SubJob} {standing : Standing} (c : ℕ) → IsBoard plan board
    → clone_of plan c ≡ Some job → slice_get board.standings.items c ≡ Some standing → StandsHere plan board c job standing
standing_here c is planned at = record { is = is; planned = planned; at = at }

-- as it was read
pub stands_here : {plan : Plan} {board : Board} {job : SubJob} {standing : Standing} (c : ℕ) → IsBoard plan board
    → clone_of plan c ≡ Some job → standing ≡ get_or board.standings.items c standing → StandsHere plan board c job standing
stands_here {plan = plan} {board = board} {job = job} {standing = standing} c is planned read =
    standing_here c is planned (stands_at plan board c job standing is planned read)

module _ {plan : Plan} {board : Board} {c : ℕ} {job : SubJob} {standing : Standing} (here : StandsHere plan board c job standing) where
  -- it stands there after the history
  pub stands : IsStanding board.history.items job standing
  stands = here.is.standings.each c job standing here.planned here.at

  -- it is prepared, where all are
  pub prepared : IsReady plan board → IsPrepared job standing
  prepared ready = ready.standings c job standing here.planned here.at

  -- its number leads to it
  pub own : clone_of plan job.clone ≡ Some job
  own = own_place plan c job here.is.planned here.planned

  -- what holds of this job holds of any that is the clone's: there is but one
  pub of_job : (P : SubJob → Type 0) → P job → (other : SubJob) → clone_of plan c ≡ Some other → P other
  of_job P holds other planned = subst P (same_Some job other (sym here.planned ∙ planned)) holds
