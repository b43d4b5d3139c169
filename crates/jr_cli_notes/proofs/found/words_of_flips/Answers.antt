use Rattle.std.proofs.Common.{string_bytes, append_assoc}
use Rattle.jr_cli_notes.specs.Words.{flips_words}
use Rattle.jr_cli_notes.proofs.WordLemmas.{ok_same}
use Rattle.jr_cli_notes.proofs.found.words_of_flips.Goals as goal

pub returns : goal.returns
returns c = ok_same string_bytes c.format.result _ (flips_words c.args.flips) (simp append_assoc) c.format.ensures.ok
