use Rattle.std.proofs.Common.{ℕ, ◌≡◌, Bool, List, ◌∙◌, ap}
use Rattle.std.specs.BTreeMap.{insert_entry}
use Rattle.std.specs.Ordering.{nat_cmp}
use Rattle.jr_flight.specs.declared.ios.Ended.{Ended}
use Rattle.jr_flight.specs.declared.ios.Io.{Io}
use Rattle.jr_flight.specs.Flights.{flying_io, is_raced, marked}
use Rattle.jr_flight.proofs.MarkLemmas.{flying-put, marked-insert}
use Rattle.jr_flight.proofs.flights.Flight.begin.Goals as goal

-- what is put in
abbrev begun : Io → List (ℕ × Ended) → Ended
begun io entries = record { io = io; raced = is_raced io entries }

put_in : (c : goal.After-mark_others)
    → c.put.new.self ≡ insert_entry nat_cmp c.args.self.now c.args.io.id (begun c.args.io c.args.self.now)
put_in c =
    let io = c.args.io in
    c.in_ok-put.ensures.entries
    ∙ ap (λ (b : Bool). insert_entry {X = Ended} nat_cmp c.args.self.now io.id (record { io = io; raced = b })) c.is_raced-raced.ensures

pub returns-clause-entries : goal.returns-clause-entries
returns-clause-entries c =
    let io = c.args.io in
    let entries = c.args.self.now in
    c.mark_others.ensures ∙ ap (marked io) (put_in c) ∙ marked-insert io (begun io entries) entries

pub returns-clause-at_each : goal.returns-clause-at_each
returns-clause-at_each c = λ id.
    let io = c.args.io in
    let entries = c.args.self.now in
    let at = rw c.is_raced-raced.ensures at (c.in_ok-put.ensures.at_each id) in
    ap (flying_io id) c.mark_others.ensures ∙ flying-put io (begun io entries) id entries c.put.new.self at
