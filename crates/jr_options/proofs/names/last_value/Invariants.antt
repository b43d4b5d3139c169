use Rattle.std.proofs.Common.{◌≡◌, drop}
use Rattle.std.specs.Option.{option_copied}
use Rattle.jr_job_options.specs.Lookups.{value_from}
use Rattle.jr_options.proofs.names.last_value.Given as goal

-- the value so far, with the other lines
abbrev pub invariant-loop-line : goal.invariant-loop-line
invariant-loop-line l = value_from (option_copied l.found) l.key (drop l.line-index l.lines) ≡ value_from (option_copied l.fn.found) l.key l.lines
