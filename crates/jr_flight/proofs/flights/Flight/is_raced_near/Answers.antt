use Rattle.std.proofs.Common.{rules, ℕ, ◌≡◌, ◌∙◌, ap, refl, tests}
use Rattle.std.specs.Prelude.{not, Bool, ◌==◌, ◌&&◌}
use Rattle.std.specs.List.{list_any}
use Rattle.std.specs.Map.Iter.{deref_pair}
use Rattle.std.proofs.lemmas.Bool.{and_parts}
use Rattle.std.proofs.lemmas.Iterator.Consumers.{YieldsList-from_rest}
use Rattle.std.proofs.lemmas.Iterator.Search.{any_from_yields_List}
use Rattle.jr_model.specs.Pieces.{pieces_overlap}
use Rattle.jr_flight.specs.declared.ios.Ended.{Ended}
use Rattle.jr_flight.specs.declared.ios.Io.{Io}
use Rattle.jr_flight.specs.Flights.{writes, writes_over}
use Rattle.jr_flight.specs.Places.{Place, near_piece}
use Rattle.jr_flight.proofs.PlaceLemmas.{any_near}
use Rattle.jr_flight.proofs.flights.Flight.is_raced_near.Goals as goal

pub returns : goal.returns
returns c =
    let io = c.args.io.now in
    let races : ℕ → Io → Bool = λ (id : ℕ) (other : Io). not (id == io.id) && writes_over io.piece other in
    let there : Place × Io → Bool = λ (e : Place × Io). races e.0.2 e.1 in
    let longest = c.self.inside.longest in
    let ids = c.self.inside.ids in
    let places = c.self.inside.places in
    let between : c.range.result ≡ near_piece io.piece longest places.entries = rw c.near.ensures at (c.range.ensures.between tt) in
    let yields = YieldsList-from_rest {shows = deref_pair} c.range.result refl in
    any_from_yields_List there _ _ c.any.result c.any.ensures.ran yields (λ x b q k. search (rules, tests))
    ∙ ap (list_any there) between
    ∙ any_near races io.piece
    (λ id other pass.
    let over = (and_parts (not (id == io.id)) (writes_over io.piece other) pass).1 in
    (and_parts (writes other.dir) (pieces_overlap other.piece io.piece) over).1)
    longest ids places c.self.invariant.0
    ∙ ap (list_any (λ (e : ℕ × Ended). races e.0 e.1.io)) c.self.view_is
