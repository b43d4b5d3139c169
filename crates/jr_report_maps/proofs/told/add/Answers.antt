use Rattle.std.proofs.Common.{◌∙◌, Option, ap, sym}
use Rattle.std.specs.Prelude.{◌||◌}
use Rattle.std.specs.HashSet.{contains}
use Rattle.jr_replay_history.specs.Marks.{is_given, same_name}
use Rattle.jr_replay_history.proofs.KeyLemmas.{found_more}
use Rattle.jr_model.specs.declared.events.WriteId.{WriteId}
use Rattle.jr_model.specs.History.{same_write}
use Rattle.jr_report_maps.proofs.told.add.Goals as goal

pub returns-in_ok-insert : goal.returns-in_ok-insert
returns-in_ok-insert c = λ other.
    let old = contains same_name c.args.writes.now other in
    found_more (contains same_name c.insert.new.self other) old c.in-Some.write other (c.in_ok-insert.ensures.updates.0 other)
    ∙ ap (λ (o : Option WriteId). old || is_given same_write o other) (sym c.in-Some.is)
