-- Believed: how an output is written, by what stands at its path and where that is (of this project).
use Rattle.std.specs.Prelude.{Option, Some, None}
use Rattle.jr_report_outputs.specs.declared.ways.Kind.{Kind}
use Rattle.jr_report_outputs.specs.declared.ways.Kind.TheVariants as kind
use Rattle.jr_report_outputs.specs.declared.ways.Where.{Where}
use Rattle.jr_report_outputs.specs.declared.ways.Where.TheVariants as where_
use Rattle.jr_report_outputs.specs.declared.ways.Way.{Way}
use Rattle.jr_report_outputs.specs.declared.ways.Way.TheVariants as way

-- a plain file is replaced, but for what a descriptor names, and never among the system's own files; a pipe or a device of characters
-- gets the bytes; all else is refused
abbrev pub way_of : Kind → Where → Option Way
way_of kind.Missing where_.Folder = Some way.Replace
way_of kind.Missing where_.System = None
way_of kind.Missing where_.Descriptor = None
way_of kind.Plain where_.Folder = Some way.Replace
way_of kind.Plain where_.System = None
way_of kind.Plain where_.Descriptor = Some way.Through
way_of kind.Stream place = Some way.Through
way_of kind.Other place = None
