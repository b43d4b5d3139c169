use Rattle.jr_laws_rest.proofs.RowLaws.{each_byte-law}
use Rattle.jr_laws_rest.proofs.tried.each_byte_tried_once.Goals as goal

pub returns : goal.returns
returns c = each_byte-law
