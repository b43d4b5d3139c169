use Rattle.std.proofs.Common.{rules, ℕ, ◌≡◌, ◌∙◌, ap, refl, tests}
use Rattle.std.specs.Prelude.{not, Bool, ◌||◌}
use Rattle.std.specs.Map.Iter.{deref_pair}
use Rattle.std.proofs.lemmas.Bool.{and_parts}
use Rattle.std.proofs.lemmas.Iterator.Search.{any_from_yields_List}
use Rattle.std.proofs.lemmas.Iterator.Consumers.{YieldsList-from_rest}
use Rattle.std.specs.List.{list_any}
use Rattle.jr_model.specs.Pieces.{pieces_overlap}
use Rattle.jr_flight.specs.declared.ios.Ended.{Ended}
use Rattle.jr_flight.specs.declared.ios.Io.{Io}
use Rattle.jr_flight.specs.Flights.{writes, conflicts, waits_for}
use Rattle.jr_flight.specs.Places.{Place, near_piece}
use Rattle.jr_flight.proofs.PlaceLemmas.{any_near, none_passes}
use Rattle.jr_flight.proofs.flights.Flight.is_clear_near.Goals as goal

-- what stands near the piece has it wait exactly if something in flight does
found_near : (c : goal.After-any)
    → c.any.result ≡ list_any (λ (e : ℕ × Ended). waits_for c.args.declines c.args.dir c.args.piece.now e.1.io) c.self.inside.ids.entries
found_near c =
    let piece = c.args.piece.now in
    let waits : ℕ → Io → Bool = λ (id : ℕ) (io : Io). waits_for c.args.declines c.args.dir piece io in
    let there : Place × Io → Bool = λ (e : Place × Io). waits e.0.2 e.1 in
    let longest = c.self.inside.longest in
    let ids = c.self.inside.ids in
    let places = c.self.inside.places in
    let between : c.range.result ≡ near_piece piece longest places.entries = rw c.near.ensures at (c.range.ensures.between tt) in
    let yields = YieldsList-from_rest {shows = deref_pair} c.range.result refl in
    any_from_yields_List there _ _ c.any.result c.any.ensures.ran yields (λ x b q k. search (rules, tests))
    ∙ ap (list_any there) between
    ∙ any_near waits piece
    (λ id io pass.
    let both = (and_parts (not (c.args.declines || io.declines)) (conflicts c.args.dir piece io) pass).1 in
    (and_parts (writes c.args.dir || writes io.dir) (pieces_overlap io.piece piece) both).1)
    longest ids places c.self.invariant.0

pub returns-clause-value : goal.returns-clause-value
returns-clause-value c =
    let test : ℕ × Ended → Bool = λ (e : ℕ × Ended). waits_for c.args.declines c.args.dir c.args.piece.now e.1.io in
    ap not (found_near c ∙ ap (list_any test) c.self.view_is)

pub returns-clause-at_each : goal.returns-clause-at_each
returns-clause-at_each c =
    let waits : Ended → Bool = λ (ended : Ended). waits_for c.args.declines c.args.dir c.args.piece.now ended.io in
    let none = none_passes waits c.self.inside.ids c.self.invariant.0.ordered in
    rw (found_near c, ← c.self.view_is) none
