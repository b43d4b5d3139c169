-- A write's name, as a map's keys are compared.
use Rattle.std.proofs.Common.{◌≡◌, ◌∙◌}
use Rattle.std.specs.Prelude.{nat_eq}
use Rattle.jr_model.specs.declared.events.WriteId.{WriteId}
use Rattle.jr_model.specs.History.{same_write}
use Rattle.jr_model.proofs.BoolLemmas.{and_group}
use Rattle.jr_model.proofs.Equality.{same_write_back}
use Rattle.jr_after_chunks.specs.LinesFound.{same_name}

same_name_of : (a b : WriteId) → same_name a b ≡ same_write a b
same_name_of a b = and_group (nat_eq a.clone b.clone) (nat_eq a.pass b.pass) (nat_eq a.number b.number)

pub same_name_is : (a b : WriteId) → same_name b a ≡ same_write a b
same_name_is a b = same_name_of b a ∙ same_write_back b a
