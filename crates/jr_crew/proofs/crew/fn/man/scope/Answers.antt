use Rattle.std.proofs.Common.{◌≡◌, true, arith, eqb-true}
use Rattle.std.specs.Prelude.{◌==◌}
use Rattle.jr_crew_threads.proofs.PartLemmas.{all_there, rest_of}
use Rattle.jr_crew.proofs.crew.fn.man.scope.Goals as goal

pub invariant_of-result : goal.invariant_of-result
invariant_of-result g c =
    let there : (c.len.result == c.len-wanted.result) ≡ true = all_there _ c.work_all-ended.result c.in_ok-ended.field-0 _ c.work_all-ended.ensures.thread c.in_ok-ended.was in
    let all = eqb-true c.len.result c.len-wanted.result there in
    let rest = rest_of _ _ c.len-2.result _ _ _ c.requires.whole c.stop_all.ensures
    (omega (arith, c.in_ok-judged.ensures.len, c.len-2.ensures, c.loop-verifier.started.ok.0))
    (omega (arith, all, c.len.ensures, c.len-2.ensures, c.len-wanted.ensures, c.captures.verifiers-all.ok.0)) in
    record { parts = rest.parts; of = rest.of; put = rest.put; taken = rest.taken }
