use Rattle.std.proofs.Common.{sym, ap, ◌∙◌}
use Rattle.std.specs.Prelude.{◌||◌, Bool}
use Rattle.std.specs.HashSet.{contains}
use Rattle.jr_replay_history.specs.Marks.{same_name}
use Rattle.jr_replay_history.proofs.KeyLemmas.{found_more}
use Rattle.jr_replay_history.proofs.marking.mark_settled.Goals as goal

pub returns-in_ok-insert : goal.returns-in_ok-insert
returns-in_ok-insert c = λ write.
    let old = contains same_name c.args.settled.now write in
    found_more (contains same_name c.insert.new.self write) old c.in-Some.write write (c.in_ok-insert.ensures.updates.0 write)
    ∙ ap (λ (b : Bool). old || b) (sym (c.in-Some.ensures write))
