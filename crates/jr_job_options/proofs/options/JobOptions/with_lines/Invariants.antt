use Rattle.std.proofs.Common.{◌≡◌, drop, Ok}
use Rattle.jr_job_options.specs.Options.{AreInRange, options_from}
use Rattle.jr_job_options.proofs.options.JobOptions.with_lines.Given as goal

-- the options so far, with the other lines
abbrev pub invariant-loop-line : goal.invariant-loop-line
invariant-loop-line l =
    (options_from (Ok l.options) (drop l.line-index l.lines) ≡ options_from (Ok l.fn.self) l.lines)
    × AreInRange l.options
