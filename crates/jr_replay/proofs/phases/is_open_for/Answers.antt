use Rattle.std.proofs.Common.{Bool, ◌&&◌, ap, ◌∙◌}
use Rattle.jr_model.specs.Plan.{SubJob}
use Rattle.jr_model.specs.Rounds.{group_index, is_full, no_issue_flies}
use Rattle.jr_replay.proofs.PhaseLaws.{open_is}
use Rattle.jr_replay.proofs.phases.is_open_for.Goals as goal

pub returns : goal.returns
returns c =
    let h = c.args.course.now.history in
    let pass = c.args.pass.now in
    let draw = c.args.draw.now in
    c.both.ensures
    ∙ ap (λ (full : Bool). full && c.no_issue_flies-quiet.result) (c.is_full-full.ensures ∙ ap (is_full h pass) c.group_index.ensures)
    ∙ ap (λ (quiet : Bool). is_full h pass (group_index pass draw.number) && quiet)
    (c.no_issue_flies-quiet.ensures ∙ ap (λ (job : SubJob). no_issue_flies h job.clone) c.job.ensures)
    ∙ open_is h pass draw c.facts.ensures c.requires.drawn c.requires.writes c.requires.fresh
