use Rattle.std.proofs.lemmas.List.{take_more}
use Rattle.std.proofs.lemmas.Option.{slice_get_within, get_or_from_slice_get}
use Rattle.jr_replay_passes.proofs.agendas.clones_of.Goals as goal

pub loop-i-preserved : goal.loop-i-preserved
loop-i-preserved c =
    let clones = c.args.plan.now.clones in
    let i = c.loop-i.i in
    let job = c.clone_at.result.now in
    let at = c.clone_at.ensures.value in
    let more = take_more clones i job (slice_get_within clones i job at) in
    let same = get_or_from_slice_get clones i job job at in
    cc (c.in_ok-push.ensures.items, c.in_ok-new.ensures)
