-- Internal: bytes of a file in numbers that never wrap, wherever a history may say that they are.
use Rattle.std.specs.Prelude.{◌+◌}
use Rattle.jr_model.specs.declared.blocks.Piece.{Piece}
use Rattle.jr_report_maps.specs.declared.marks.Mark.{Mark}
use Rattle.jr_report_maps.specs.declared.spans.Span.{Span}
use Rattle.jr_report_maps.specs.Maps.{Said}

abbrev pub span_bytes : Span → Piece
span_bytes span = record { file = span.file; offset = span.offset + span.skip; len = span.len }

abbrev pub said_by : Mark → Said
said_by mark = record { piece = span_bytes mark.span; fate = mark.fate }
