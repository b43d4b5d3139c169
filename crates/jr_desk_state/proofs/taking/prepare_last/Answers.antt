-- The clone that issued a draw last is prepared, and all stand where they stood.
use Rattle.std.proofs.Common.{◌≡◌, length, refl, arith}
use Rattle.std.specs.Prelude.{Some, slice_get}
use Rattle.std.proofs.lemmas.Option.{slice_get_read, slice_get_within}
use Rattle.jr_desk_state.proofs.StandingSets.{standings_set}
use Rattle.jr_desk_state.proofs.StartingStandings.{left_same, others_all, others_kept}
use Rattle.jr_desk_state.proofs.taking.prepare_last.Goals as goal

pub returns-then-last-clones-clause-prepared : goal.returns-then-last-clones-clause-prepared
returns-then-last-clones-clause-prepared c clone job standing there at =
    let below = slice_get_within c.args.plan.now.clones clone job there in
    c.requires.others clone job standing
    (λ (is : clone ≡ c.args.last). omega (arith, below, is, c.if-last-clones.true, c.clones.ensures.value)) there at

-- the clone's standing as it was
found : (c : goal.After-clone_at) → slice_get c.args.standings.now.items c.args.last ≡ Some c.index_mut.result.now
found c =
    let items = c.args.standings.now.items in
    slice_get_read items (length items) c.args.last c.index_mut.result.now refl
    (omega (arith, c.requires.count, c.if-last-clones.false, c.clones.ensures.value)) c.index_mut.ensures.value

pub prepare-requires : goal.prepare-requires
prepare-requires c =
    c.requires.within c.args.last c.clone_at.result.now c.index_mut.result.now c.clone_at.ensures.value (found c)

pub returns-in_err-prepare-clause-kept : goal.returns-in_err-prepare-clause-kept
returns-in_err-prepare-clause-kept c history are =
    let job = c.clone_at.result.now in
    let there = c.clone_at.ensures.value in
    let items = c.args.standings.now.items in
    standings_set c.args.plan.now history c.args.last job items c.prepare.new.self there are
    (c.in_err-prepare.ensures.kept history (are.each c.args.last job c.index_mut.result.now there
    (slice_get_read items (length items) c.args.last c.index_mut.result.now refl
    (omega (arith, c.requires.count, c.if-last-clones.false, c.clones.ensures.value)) c.index_mut.ensures.value)))

pub returns-in_err-prepare-clause-others : goal.returns-in_err-prepare-clause-others
returns-in_err-prepare-clause-others c =
    others_kept c.args.plan.now c.args.last c.args.standings.now.items c.prepare.new.self c.requires.others

pub returns-clause-kept : goal.returns-clause-kept
returns-clause-kept c history are =
    let job = c.clone_at.result.now in
    let there = c.clone_at.ensures.value in
    let items = c.args.standings.now.items in
    standings_set c.args.plan.now history c.args.last job items c.prepare.new.self there are
    (c.in_ok-prepare.ensures.kept history (are.each c.args.last job c.index_mut.result.now there
    (slice_get_read items (length items) c.args.last c.index_mut.result.now refl
    (omega (arith, c.requires.count, c.if-last-clones.false, c.clones.ensures.value)) c.index_mut.ensures.value)))

pub returns-clause-others : goal.returns-clause-others
returns-clause-others c =
    others_kept c.args.plan.now c.args.last c.args.standings.now.items c.prepare.new.self c.requires.others

pub returns-clause-prepared : goal.returns-clause-prepared
returns-clause-prepared c =
    others_all c.args.plan.now c.args.last c.args.standings.now.items c.prepare.new.self c.clone_at.result.now c.requires.others
    c.clone_at.ensures.value c.in_ok-prepare.ensures.prepared

pub returns-in_err-prepare-clause-left : goal.returns-in_err-prepare-clause-left
returns-in_err-prepare-clause-left c =
    let items = c.args.standings.now.items in
    left_same items c.args.last c.index_mut.result.now c.prepare.new.self
    (slice_get_read items (length items) c.args.last c.index_mut.result.now refl
    (omega (arith, c.requires.count, c.if-last-clones.false, c.clones.ensures.value)) c.index_mut.ensures.value)
    c.in_err-prepare.ensures.left

pub returns-clause-left : goal.returns-clause-left
returns-clause-left c =
    let items = c.args.standings.now.items in
    left_same items c.args.last c.index_mut.result.now c.prepare.new.self
    (slice_get_read items (length items) c.args.last c.index_mut.result.now refl
    (omega (arith, c.requires.count, c.if-last-clones.false, c.clones.ensures.value)) c.index_mut.ensures.value)
    c.in_ok-prepare.ensures.left
