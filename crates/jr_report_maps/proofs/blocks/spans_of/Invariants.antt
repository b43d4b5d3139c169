use Rattle.std.proofs.Common.{◌≡◌, map, take}
use Rattle.jr_report_maps.specs.Spans.{span_bytes}
use Rattle.jr_report_maps.specs.Sweeps.{bytes_of}
use Rattle.jr_report_maps.proofs.blocks.spans_of.Given as goal

abbrev pub invariant-loop-bad : goal.invariant-loop-bad
invariant-loop-bad l = map span_bytes l.spans.items ≡ map (bytes_of l.plan) (take l.bad-index l.bads)
