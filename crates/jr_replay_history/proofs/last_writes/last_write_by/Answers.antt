use Rattle.std.proofs.Common.{ℕ, Bool, List, ap, ◌∙◌}
use Rattle.std.specs.Prelude.{None, filter, filter_map, fold, nat_eq}
use Rattle.std.specs.HashSet.{contains}
use Rattle.jr_model.specs.History.{started}
use Rattle.jr_replay_history.specs.Parts.{is_over_part}
use Rattle.jr_replay_history.specs.declared.marks.WriteEnd.{WriteEnd}
use Rattle.jr_replay_history.specs.WriteEnds.{last_by, write_end}
use Rattle.jr_replay_history.proofs.PartLemmas.{last_over_part}
use Rattle.jr_replay_history.proofs.WriteEndLemmas.{last_write_is}
use Rattle.jr_replay_history.proofs.last_writes.last_write_by.Goals as goal

pub returns : goal.returns
returns c =
    let file = c.args.file in
    let block = c.args.block in
    let history = c.args.ledger.now in
    let raced : ℕ → Bool = λ io. contains nat_eq c.args.raced.now io in
    let ends : List WriteEnd = filter_map (write_end (started history)) history in
    c.last_by.ensures
    ∙ ap (λ (xs : List WriteEnd). fold (last_by raced file block) None xs)
    (c.ends_over-ends.ensures ∙ ap (λ (part : ℕ). filter (is_over_part file part) ends) c.part_of.ensures)
    ∙ last_over_part raced file block None ends
    ∙ last_write_is history raced file block c.requires
