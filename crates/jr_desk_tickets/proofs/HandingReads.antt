-- What the index holds of a number that was started, and which numbers were.
use Rattle.std.proofs.Common.{◌≡◌, ℕ, ◌≤◌, ◌<◌, List, length, get_or, true, false, ltb, sym, ◌∙◌, ap, arith}
use Rattle.std.proofs.lemmas.Bool.{ltb-false, ltb-true}
use Rattle.std.proofs.lemmas.List.FromFn.{get_or-map-range_with_len}
use Rattle.jr_model.specs.declared.events.Event.{Event}
use Rattle.jr_model.specs.History.{started}
use Rattle.jr_model.specs.Plan.{Plan}
use Rattle.jr_desk_tickets.specs.declared.table.TicketTable.{TicketTable}
use Rattle.jr_desk_tickets.specs.declared.table.IoState.{IoState}
use Rattle.jr_desk_tickets.specs.Handing.{IsHanded, state_of}
use Rattle.jr_desk_tickets.proofs.HandingMoves.{handed_length}

-- it is how far the I/O of this number has come
pub found_there : (plan : Plan) (history : List Event) (handed : TicketTable) (id : ℕ) (items : List IoState) (found : IoState)
    → IsHanded plan history handed → id < length (started history) → items ≡ handed.states.items → found ≡ get_or items id found
    → found ≡ state_of history id
found_there plan history handed id items found is below same at =
    at
    ∙ ap (λ (ps : List IoState). get_or ps id found) (same ∙ is.states)
    ∙ get_or-map-range_with_len (state_of history) 0 (length (started history)) id id found below (omega arith)

-- what lies past the states that is kept was not started
pub past_started : (plan : Plan) (history : List Event) (handed : TicketTable) (id : ℕ) (items : List IoState) → IsHanded plan history handed
    → items ≡ handed.states.items → false ≡ ltb id (length items) → length (started history) ≤ id
past_started plan history handed id items is same past =
    let count : length items ≡ length (started history) = ap length same ∙ handed_length plan history handed is in
    omega (arith, ltb-false id (length items) (sym past), count)

-- and what lies within was
pub within_started : (plan : Plan) (history : List Event) (handed : TicketTable) (id : ℕ) (items : List IoState) → IsHanded plan history handed
    → items ≡ handed.states.items → true ≡ ltb id (length items) → id < length (started history)
within_started plan history handed id items is same within =
    let count : length items ≡ length (started history) = ap length same ∙ handed_length plan history handed is in
    omega (arith, ltb-true id (length items) (sym within), count)
