use Rattle.std.proofs.Common.{Bool, cond, ap, ◌∙◌}
use Rattle.std.specs.Prelude.{Some}
use Rattle.jr_after_chunks.specs.LinesFound.{place_of}
use Rattle.jr_after_chunks.proofs.NameLemmas.{same_name_is}
use Rattle.jr_after_chunks.proofs.places.put.Goals as goal

pub returns : goal.returns
returns c = λ other.
    c.in_ok-insert.ensures.updates.0 other
    ∙ ap (λ (b : Bool). cond b (Some c.args.place) (place_of c.args.places.now other)) (same_name_is other c.args.write)
