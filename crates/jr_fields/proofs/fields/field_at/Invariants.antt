use Rattle.std.proofs.Common.{◌≡◌, ◌-◌}
use Rattle.jr_fields.specs.Fields.{fields_of, field_at}
use Rattle.jr_fields.proofs.fields.field_at.Given as goal

-- the field is one of what is left
abbrev pub invariant-loop : goal.invariant-loop
invariant-loop l = field_at (fields_of l.rest) (l.place - l.counter) ≡ field_at (fields_of l.line) l.place
