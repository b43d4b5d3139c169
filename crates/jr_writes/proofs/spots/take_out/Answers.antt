use Rattle.std.proofs.Common.{ℕ, arith, ◌∙◌}
use Rattle.jr_writes.specs.Index.{piece_at}
use Rattle.jr_writes.specs.Names.{name_at}
use Rattle.jr_writes.specs.Places.{spot_at}
use Rattle.jr_writes.proofs.IndexLemmas.{IsIndexed-removed, IsIndexed-whole, StandsHere-removed, was_in}
use Rattle.jr_writes.proofs.Overlaps.{none_from_gone, none_overlaps_at_all}
use Rattle.jr_writes.proofs.PlaceFacts.{aligned}
use Rattle.jr_writes.proofs.StayFacts.{left_removed, left_whole}
use Rattle.jr_writes.proofs.spots.take_out.Goals as goal

pub remove-requires : goal.remove-requires
remove-requires c =
    let place : ℕ × ℕ = (c.args.piece.now.file, c.in-Some.offset) in
    aligned c.loop-offset.places.sheets.entries place c.in-Some.spot c.in-Some.ensures.found.0

pub loop-offset-preserved : goal.loop-offset-preserved
loop-offset-preserved c =
    let found = c.in-Some.ensures.found in
    let kept = c.args.kept in
    let piece = c.args.piece.now in
    let place : ℕ × ℕ = (piece.file, c.in-Some.offset) in
    let spot = c.in-Some.spot in
    let was = c.loop-offset.invariant in
    let entry_of = name_at c.loop-offset.names.sheets.entries in
    let left_of = name_at c.remove-in-Some.new.self.sheets.entries in
    let spot_in = spot_at c.loop-offset.places.sheets.entries in
    let left_in = spot_at c.remove.new.self.sheets.entries in
    let without = c.remove-in-Some.ensures in
    let gone = c.remove.ensures in
    let lower = found.1 in
    let most = was.within in
    record {
      begins = aligned c.loop-offset.places.sheets.entries place spot found.0;
      within = omega arith;
      past = none_from_gone kept piece spot_in left_in c.loop-offset.end c.in-Some.offset spot found was.past (was_in kept entry_of left_of spot_in left_in place spot was.indexed found.0 without gone);
      indexed = IsIndexed-removed kept entry_of left_of spot_in left_in place spot was.indexed found.0 without gone;
      stands = StandsHere-removed kept entry_of left_of spot_in left_in place spot was.indexed found.0 without gone piece was.stands;
      entries = λ q.
          left_removed kept piece (piece_at place spot) spot.write entry_of left_of without (was.indexed.leads_back place spot found.0) found.2 found.3 q
          ∙ was.entries q;
    }

pub returns-clause-entries : goal.returns-clause-entries
returns-clause-entries c = λ q.
    let was = c.loop-offset.invariant in
    let spot_in = spot_at c.loop-offset.places.sheets.entries in
    left_whole c.args.kept c.args.piece.now (name_at c.loop-offset.names.sheets.entries) spot_in was.indexed was.stands
    (none_overlaps_at_all c.args.kept c.args.piece.now spot_in c.loop-offset.end c.in_default.ensures.found was.past) q
    ∙ was.entries q

pub returns-clause-indexed : goal.returns-clause-indexed
returns-clause-indexed c =
    let was = c.loop-offset.invariant in
    let spot_in = spot_at c.loop-offset.places.sheets.entries in
    IsIndexed-whole c.args.kept c.args.piece.now (name_at c.loop-offset.names.sheets.entries) spot_in was.indexed was.stands
    (none_overlaps_at_all c.args.kept c.args.piece.now spot_in c.loop-offset.end c.in_default.ensures.found was.past)
