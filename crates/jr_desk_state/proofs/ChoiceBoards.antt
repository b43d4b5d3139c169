-- What a board says of a clone's next step.
use Rattle.std.proofs.Common.{◌≡◌, ℕ, suc, ◌+◌, ◌<◌, List, length, drop, get_or, Bool, true, false, cond, ◌&&◌}
use Rattle.std.proofs.Common.{refl, sym, ◌∙◌, ap, subst, arith}
use Rattle.std.specs.Prelude.{Option, Some, None, slice_get, ◌==◌, is_some}
use Rattle.std.specs.List.{list_any, enumerate_from}
use Rattle.std.specs.Option.{option_map}
use Rattle.std.proofs.lemmas.Bool.{and_from, eq-eqb}
use Rattle.std.proofs.lemmas.Option.{same_Some}
use Rattle.jr_model.specs.declared.blocks.Piece.{Piece}
use Rattle.jr_model.specs.declared.events.Event.{Event}
use Rattle.jr_model.specs.declared.events.Event.TheVariants.{Probe, Skip}
use Rattle.jr_model.specs.declared.events.Started.{Started}
use Rattle.jr_model.specs.declared.events.WriteId.{WriteId}
use Rattle.jr_model.specs.declared.tickets.Ticket.{Ticket}
use Rattle.jr_model.specs.declared.workloads.Draw.{Draw}
use Rattle.jr_model.specs.Draws.{draws_of_job}
use Rattle.jr_model.specs.History.{started, first_given, same_write}
use Rattle.jr_model.specs.LastWrite.{is_intact}
use Rattle.jr_model.specs.Legal.{is_clear, is_halted, takes_up}
use Rattle.jr_model.specs.Plan.{Plan, SubJob, clone_of}
use Rattle.jr_model.specs.Rounds.{has_rounds}
use Rattle.jr_model.specs.Tickets.{piece_fits}
use Rattle.jr_backlog.specs.Rounds.{Round}
use Rattle.jr_backlog.specs.CurrentRound.{current_round}
use Rattle.jr_backlog.specs.Deferred.{is_committed}
use Rattle.jr_backlog.proofs.WalkedFacts.{settled_now}
use Rattle.jr_writes.specs.declared.logs.Logged.{Logged}
use Rattle.jr_writes.specs.LoggedWrites.{logged}
use Rattle.jr_laws_steps.proofs.DrawnLaws.{started_are_drawn-law, started_fit-law}
use Rattle.jr_model.proofs.PlaceLemmas.{made_at, any_at}
use Rattle.jr_model.proofs.OptionLemmas.{made_of}
use Rattle.jr_laws_rounds.specs.Rounds.{HasRound}
use Rattle.jr_laws_rounds.specs.Standing.{take_up_write}
use Rattle.jr_laws_rounds.proofs.StandingLists.{numbered_at}
use Rattle.jr_desk_tickets.specs.Kept.{tickets_of}
use Rattle.jr_desk_tickets.specs.Tickets.{ticket_of}
use Rattle.jr_desk_tickets.proofs.OwnTickets.{got_ticket}
use Rattle.jr_desk_state.specs.declared.board.Board.{Board}
use Rattle.jr_desk_state.specs.declared.standings.Issued.{Issued}
use Rattle.jr_desk_state.specs.declared.standings.Standing.{Standing}
use Rattle.jr_desk_state.specs.Boards.{IsBoard}
use Rattle.jr_desk_state.specs.Standings.{name_of}
use Rattle.jr_desk_state.specs.WriteLogs.{checked_by}
use Rattle.jr_desk_state.proofs.ChoiceLists.{given_here, given_behind, given_nowhere, read_at}
use Rattle.jr_desk_state.proofs.ChoiceMoves.{IsLeft, barred, left_write, taken_already, taken_now}
use Rattle.jr_desk_state.proofs.LogMoves.{log_intact}
use Rattle.jr_desk_state.proofs.StandingHere.{StandsHere, own, standing_here, stands}

-- what is made of something is something
pub some_mapped : {X Y : Type 0} (f : X → Y) (o : Option X) → is_some (option_map f o) ≡ is_some o
some_mapped f None = refl
some_mapped f (Some x) = refl

-- the piece of a ticket that was handed out can be looked for in flight
pub handed_fits : (plan : Plan) (board : Board) (id : ℕ) (piece : Piece) → IsBoard plan board
    → option_map (λ (ticket : Ticket). ticket.piece) (slice_get (tickets_of plan board.history.items) id) ≡ Some piece
    → piece_fits piece ≡ true
handed_fits plan board id piece is at =
    let history = board.history.items in
    let found = made_of (λ (ticket : Ticket). ticket.piece) (slice_get (tickets_of plan history) id) piece at in
    let made = got_ticket plan 0 (started history) id found.0 found.1 in
    let fits = started_fit-law plan history id made.0 is.planned is.legal made.1 in
    subst (λ (p : Piece). piece_fits p ≡ true) (ap (λ (ticket : Ticket). ticket.piece) made.2 ∙ found.2) fits.1.fits

-- a draw of a clone's round was issued under this number
pub record IsEntry (history : List Event) (job : SubJob) (write : WriteId) (issued : Issued) : Type 0 where
  pub clone : write.clone ≡ job.clone
  pub draw : Draw
  pub drawn : slice_get (draws_of_job job write.pass) write.number ≡ Some draw
  pub io : Started
  pub at : slice_get (started history) issued.id ≡ Some io
  pub piece : io.piece ≡ draw.piece
  pub taken : issued.is_taken_up ≡ list_any (takes_up write) history

-- a clone that checks its writes in rounds, and isn't halted
pub record RoundHere (plan : Plan) (board : Board) (c : ℕ) (job : SubJob) (standing : Standing) : Type 0 where
  pub here : StandsHere plan board c job standing
  pub rounds : has_rounds job ≡ true
  pub runs : is_halted board.history.items job ≡ false

pub round_here : {plan : Plan} {board : Board} {job : SubJob} {standing : Standing} (c : ℕ) → IsBoard plan board
    → clone_of plan c ≡ Some job → slice_get board.standings.items c ≡ Some standing → has_rounds job ≡ true
    → is_halted board.history.items job ≡ false → RoundHere plan board c job standing
round_here c is planned at rounds runs = record { here = standing_here c is planned at; rounds = rounds; runs = runs }

module _ {plan : Plan} {board : Board} {c : ℕ} {job : SubJob} {standing : Standing} (it : RoundHere plan board c job standing) where
  own_round : HasRound plan board.history.items job standing.pass
  own_round = record {
    planned = it.here.is.planned;
    legal = it.here.is.legal;
    there = own it.here;
    in_pass = (stands it.here).in_pass;
    rounds = it.rounds;
    runs = it.runs;
  }

  pub round_is : is_committed standing.rounds ≡ true → standing.rounds.round ≡ current_round job board.history.items
  round_is settled = sym (settled_now standing.rounds settled) ∙ (stands it.here).round it.rounds it.runs

-- a write that the clone's round has still to check
pub record LeftHere (plan : Plan) (board : Board) (c : ℕ) (job : SubJob) (standing : Standing) (write : WriteId) : Type 0 where
  pub of : RoundHere plan board c job standing
  pub left : list_any (same_write write) (current_round job board.history.items).to_check ≡ true

pub left_here : {plan : Plan} {board : Board} {job : SubJob} {standing : Standing} (c : ℕ) (write : WriteId) → IsBoard plan board
    → clone_of plan c ≡ Some job → slice_get board.standings.items c ≡ Some standing → has_rounds job ≡ true
    → is_halted board.history.items job ≡ false → list_any (same_write write) (current_round job board.history.items).to_check ≡ true
    → LeftHere plan board c job standing write
left_here c write is planned at rounds runs left = record { of = round_here c is planned at rounds runs; left = left }

module _ {plan : Plan} {board : Board} {c : ℕ} {job : SubJob} {standing : Standing} {write : WriteId}
    (it : LeftHere plan board c job standing write) where
  its : IsLeft board.history.items job standing.pass write
  its = left_write plan board.history.items job standing.pass write (own_round it.of) it.left

  name_is : name_of job standing.pass write.number ≡ write
  name_is =
      let made : ℕ → ℕ → WriteId = λ a p. record { clone = a; pass = p; number = write.number } in
      ap (λ a. made a standing.pass) (sym its.clone) ∙ ap (made write.clone) (sym its.pass)

  pub entry_there : write.number < length standing.issued.items
  entry_there = let below = its.issued in let count = (stands it.of.here).count in omega (arith, below, count)

  -- its entry, as it was read
  pub entry : {read : List Issued} {issued : Issued} → read ≡ standing.issued.items → write.number < length read
      → issued ≡ get_or read write.number issued → IsEntry board.history.items job write issued
  entry {read = read} {issued = issued} same below is =
      let history = board.history.items in
      let got = read_at read standing.issued.items write.number issued same below is in
      let here = it.of.here in
      let was = (stands here).issued write.number issued got in
      let name : was.io.write ≡ write = was.named ∙ name_is in
      let begun = started_are_drawn-law plan history issued.id was.io here.is.planned here.is.legal was.at in
      let clone : was.io.write.clone ≡ job.clone = ap (λ (w : WriteId). w.clone) name ∙ its.clone in
      let own_job : begun.0 ≡ job = same_Some begun.0 job (sym begun.2.planned ∙ ap (clone_of plan) clone ∙ own here) in
      let drawn : slice_get (draws_of_job job write.pass) write.number ≡ Some begun.1 =
      subst (λ (w : WriteId). slice_get (draws_of_job job w.pass) w.number ≡ Some begun.1) name
      (subst (λ (j : SubJob). slice_get (draws_of_job j was.io.write.pass) was.io.write.number ≡ Some begun.1) own_job begun.2.drawn)
      in
      record {
        clone = its.clone;
        draw = begun.1;
        drawn = drawn;
        io = was.io;
        at = was.at;
        piece = begun.2.piece;
        taken = was.taken_up ∙ ap (λ (w : WriteId). list_any (takes_up w) history) name_is;
      }

  -- the log has something of it just where it is intact
  pub found_is : (draw : Draw) → slice_get (draws_of_job job write.pass) write.number ≡ Some draw
      → is_some (option_map (λ (entry : Logged). entry.expected) (logged board.log.writes write))
      ≡ is_intact board.history.items write draw.piece
  found_is draw drawn =
      let history = board.history.items in
      let here = it.of.here in
      let clone : clone_of plan write.clone ≡ Some job = ap (clone_of plan) its.clone ∙ own here in
      let below : write.pass < job.passes = subst (λ (p : ℕ). p < job.passes) (sym its.pass) (stands here).in_pass.within in
      some_mapped (λ (entry : Logged). entry.expected) (logged board.log.writes write)
      ∙ ap (λ (log : List (WriteId × Logged)). is_some (logged log write)) here.is.log.entries
      ∙ ap is_some
      (log_intact plan history write.clone write.pass write.number job draw here.is.planned here.is.legal clone it.of.rounds below drawn)
      ∙ by (record { piece = draw.piece; expected = checked_by plan write draw.piece }) (is_intact history write draw.piece)
    where
      by : (entry : Logged) (b : Bool) → is_some (cond b (Some entry) None) ≡ b
      by entry true = refl
      by entry false = refl

-- what is given for the write of such an entry
module _ {history : List Event} {job : SubJob} {write : WriteId} {issued : Issued} (it : IsEntry history job write issued) (plan : Plan) (worker : ℕ) where
  pub taken_gives : issued.is_taken_up ≡ true → None ≡ take_up_write plan history worker job write
  taken_gives taken = sym (taken_already plan history worker job write it.draw it.clone it.drawn (sym it.taken ∙ taken))

  pub piece_there : option_map (λ (ticket : Ticket). ticket.piece) (slice_get (tickets_of plan history) issued.id) ≡ Some it.draw.piece
  piece_there =
      let ticket_at = made_at (ticket_of plan) (enumerate_from 0 (started history)) issued.id (0 + issued.id, it.io)
      (numbered_at 0 (started history) issued.id it.io it.at) in
      ap (option_map (λ (ticket : Ticket). ticket.piece)) ticket_at
      ∙ ap Some it.piece

  -- where this is the piece of its ticket
  module _ (piece : Piece)
      (handed : Some piece ≡ option_map (λ (ticket : Ticket). ticket.piece) (slice_get (tickets_of plan history) issued.id)) where
    same_piece : piece ≡ it.draw.piece
    same_piece = same_Some piece it.draw.piece (handed ∙ piece_there)

    clear_too : (clear : Bool) → clear ≡ is_clear plan history job false piece → is_clear plan history job false it.draw.piece ≡ clear
    clear_too clear is = ap (is_clear plan history job false) (sym same_piece) ∙ sym is

    pub barred_gives : false ≡ is_clear plan history job false piece → None ≡ take_up_write plan history worker job write
    barred_gives bars = sym (barred plan history worker job write it.draw it.clone it.drawn (clear_too false bars))

    pub clear_gives : issued.is_taken_up ≡ false → true ≡ is_clear plan history job false piece
        → (intact : Bool) → intact ≡ is_intact history write it.draw.piece
        → Some (cond intact (Probe worker write piece) (Skip worker write)) ≡ take_up_write plan history worker job write
    clear_gives untaken clear intact is =
        ap {B = Option Event} (λ (p : Piece). Some (cond intact (Probe worker write p) (Skip worker write))) same_piece
        ∙ ap {B = Option Event} (λ (b : Bool). Some (cond b (Probe worker write it.draw.piece) (Skip worker write))) is
        ∙ sym (taken_now plan history worker job write it.draw it.clone it.drawn (sym it.taken ∙ untaken) (clear_too true clear))

-- nothing is given of the writes to check that stand before this place
pub record IsSearched (plan : Plan) (board : Board) (standing : Standing) (worker : ℕ) (declines : Bool) (place : ℕ) : Type 0 where
  pub none : (c : ℕ) (job : SubJob) → clone_of plan c ≡ Some job → slice_get board.standings.items c ≡ Some standing
      → has_rounds job ≡ true → declines ≡ job.declines → is_halted board.history.items job ≡ false
      → first_given (take_up_write plan board.history.items worker job) standing.rounds.round.to_check
      ≡ first_given (take_up_write plan board.history.items worker job) (drop place standing.rounds.round.to_check)

pub search_starts : (plan : Plan) (board : Board) (standing : Standing) (worker : ℕ) (declines : Bool) → IsSearched plan board standing worker declines 0
search_starts plan board standing worker declines = record { none = λ c job there at rounds waits runs. refl }

-- what the call gives for a write of a clone's round
abbrev pub Gives : Plan → Board → Standing → ℕ → Bool → WriteId → Option Event → Type 0
Gives plan board standing worker declines write step =
    (c : ℕ) (job : SubJob) → clone_of plan c ≡ Some job → slice_get board.standings.items c ≡ Some standing
    → has_rounds job ≡ true → declines ≡ job.declines → is_halted board.history.items job ≡ false
    → list_any (same_write write) (current_round job board.history.items).to_check ≡ true
    → step ≡ take_up_write plan board.history.items worker job write

module _ (plan : Plan) (board : Board) (is : IsBoard plan board) (standing : Standing) (settled : is_committed standing.rounds ≡ true)
    (worker : ℕ) (declines : Bool) (place : ℕ) (write : WriteId) (here : slice_get standing.rounds.round.to_check place ≡ Some write)
    (sofar : IsSearched plan board standing worker declines place) where
  abbrev pub round : Round
  round = standing.rounds.round

  same_self : same_write write write ≡ true
  same_self =
      and_from ((write.clone == write.clone) && (write.pass == write.pass)) (write.number == write.number)
      (and_from (write.clone == write.clone) (write.pass == write.pass) (eq-eqb write.clone write.clone refl)
      (eq-eqb write.pass write.pass refl))
      (eq-eqb write.number write.number refl)

  gives : (step : Option Event) → Gives plan board standing worker declines write step → (c : ℕ) (job : SubJob) → clone_of plan c ≡ Some job
      → slice_get board.standings.items c ≡ Some standing → has_rounds job ≡ true → declines ≡ job.declines → is_halted board.history.items job ≡ false
      → step ≡ take_up_write plan board.history.items worker job write
  gives step given c job there at rounds waits runs =
      given c job there at rounds waits runs
      (subst (λ (r : Round). list_any (same_write write) r.to_check ≡ true)
      (round_is (round_here c is there at rounds runs) settled)
      (any_at (same_write write) round.to_check place write here same_self))

  pub search_on : (step : Option Event) → Gives plan board standing worker declines write step → is_some step ≡ false
      → IsSearched plan board standing worker declines (suc place)
  search_on step given nothing = record {
    none = λ c job there at rounds waits runs.
        given_behind (take_up_write plan board.history.items worker job) round.to_check place write here
        (sofar.none c job there at rounds waits runs)
        (ap is_some (sym (gives step given c job there at rounds waits runs)) ∙ nothing);
  }

  pub search_found : (step : Option Event) → Gives plan board standing worker declines write step → is_some step ≡ true → (c : ℕ) (job : SubJob)
      → clone_of plan c ≡ Some job → slice_get board.standings.items c ≡ Some standing → has_rounds job ≡ true → declines ≡ job.declines
      → is_halted board.history.items job ≡ false
      → step ≡ first_given (take_up_write plan board.history.items worker job) (current_round job board.history.items).to_check
  search_found step given some c job there at rounds waits runs =
      let its = gives step given c job there at rounds waits runs in
      its ∙ sym (given_here (take_up_write plan board.history.items worker job) round.to_check place write here
      (sofar.none c job there at rounds waits runs) (ap is_some (sym its) ∙ some))
      ∙ ap (λ (r : Round). first_given (take_up_write plan board.history.items worker job) r.to_check)
      (round_is (round_here c is there at rounds runs) settled)

-- nothing is given of the whole round where the search is over
pub search_over : (plan : Plan) (board : Board) (is : IsBoard plan board) (standing : Standing)
    (settled : is_committed standing.rounds ≡ true) (worker : ℕ) (declines : Bool) (place : ℕ) → slice_get standing.rounds.round.to_check place ≡ None
    → IsSearched plan board standing worker declines place → (c : ℕ) (job : SubJob)
    → clone_of plan c ≡ Some job → slice_get board.standings.items c ≡ Some standing → has_rounds job ≡ true → declines ≡ job.declines
    → is_halted board.history.items job ≡ false
    → None ≡ first_given (take_up_write plan board.history.items worker job) (current_round job board.history.items).to_check
search_over plan board is standing settled worker declines place past sofar c job there at rounds same_wait runs =
    let round = standing.rounds.round in
    let same = round_is (round_here c is there at rounds runs) settled in
    sym (given_nowhere (take_up_write plan board.history.items worker job) round.to_check place past
    (sofar.none c job there at rounds same_wait runs))
    ∙ ap (λ (r : Round). first_given (take_up_write plan board.history.items worker job) r.to_check) same
