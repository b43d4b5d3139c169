use Rattle.std.proofs.Common.{◌≡◌, ◌++◌, string_bytes}
use Rattle.std.specs.Prelude.{flat_map}
use Rattle.jr_report_page.specs.Escapes.{escaped_char}
use Rattle.jr_report_page.proofs.escapes.push_escaped.Given as goal

abbrev pub invariant-loop-c : goal.invariant-loop-c
invariant-loop-c l = string_bytes l.page ≡ string_bytes l.fn.page ++ flat_map escaped_char l.yielded
