use Rattle.std.proofs.Common.{◌≡◌, ◌++◌, string_bytes}
use Rattle.std.specs.Prelude.{flat_map}
use Rattle.jr_report_page.specs.Settings.{job_char}
use Rattle.jr_report_page.proofs.settings.push_job_lines.Given as goal

abbrev pub invariant-loop-c : goal.invariant-loop-c
invariant-loop-c l = string_bytes l.page ≡ string_bytes l.fn.page ++ flat_map job_char l.yielded
