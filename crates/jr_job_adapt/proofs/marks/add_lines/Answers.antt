use Rattle.std.proofs.Common.{◌≤◌, ◌<◌, ◌++◌, length, arith, ◌∙◌}
use Rattle.jr_job_adapt.specs.Keeping.{lines_marks}
use Rattle.jr_job_adapt.proofs.StepLemmas.{lines_done, lines_more}
use Rattle.jr_job_adapt.proofs.marks.add_lines.Goals as goal

pub loop-line-preserved : goal.loop-line-preserved
loop-line-preserved c =
    let lines = c.args.lines.now in
    let within : c.loop-line.line-index < length lines = omega arith in
    lines_more c.args.out c.loop-line.marks.items c.add_line.new.marks.items lines c.loop-line.line-index c.line-item.result within c.line-item.is c.in_ok-add_line.ensures
    ∙ c.loop-line.invariant

pub returns : goal.returns
returns c =
    let lines = c.args.lines.now in
    let past : length lines ≤ c.loop-line.line-index = omega arith in
    lines_done c.args.out c.loop-line.marks.items (c.args.marks.now.items ++ lines_marks c.args.out lines) lines c.loop-line.line-index past c.loop-line.invariant
